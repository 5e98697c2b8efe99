-- A column while it is built: the values that it has, and those that are still to be added.
use Rattle.std.proofs.Common.{◌≡◌, ◌≢◌, ℕ, ◌+◌, ◌<◌, true, false, cond, List, [], ◌∷◌, ◌++◌, sym, refl, ap, ◌∙◌, ⊎_elim, arith}
use Rattle.std.specs.Prelude.{All, ◌==◌}
use Rattle.std.proofs.lemmas.Bool.{cases_eq, eq-eqb, ne_eqb}
use Rattle.std.proofs.lemmas.List.{length_push}
use Rattle.std.proofs.lemmas.List.Elements.{All-nil, All-push, All-weaker}
use Rattle.std.proofs.lemmas.List.Quantifiers.{all_pairs_push}
use Rattle.cb_semirings.specs.Arithmetic.{Arithmetic, IsValue, IsSemiring}
use Rattle.cb_matrix.proofs.Pairs.{AllPairs-nil}
use Rattle.cb_matrix.proofs.Totals.{add_zero}
use Rattle.cb_dcsc.specs.Columns.{row_value}
use Rattle.cb_product.specs.SparseColumn.{SparseColumn, IsSparseColumn, value_in, one_value}
use Rattle.cb_product.proofs.RowValues.{absent_above, row_value-push, row_value-none, row_value-value}

-- the column's values plus `rest` are f
pub record IsColumnSoFar (s : Arithmetic) (f : ℕ → ℕ) (c : SparseColumn) (rest : ℕ → ℕ) : Type 0 where
  pub values : (i : ℕ) → IsValue s (value_in s.zero c i)
  pub sums : (i : ℕ) → s.add (value_in s.zero c i) (rest i) ≡ f i

-- the column without entries
pub empty_column : (s : Arithmetic) → IsSparseColumn s [] []
empty_column s = record { same_length = refl; ascending = AllPairs-nil (λ i j. i < j); are_values = All-nil (IsValue s); not_zero = All-nil (λ v. v ≢ s.zero) }

module _ (s : Arithmetic) (laws : IsSemiring s) where
  -- a sparse column has a value of the semiring at each row
  pub column_value : (c : SparseColumn) → IsSparseColumn s c.rows c.values → (i : ℕ) → IsValue s (value_in s.zero c i)
  column_value c is i = row_value-value s laws c.rows c.values i is.are_values

  -- to the column without entries, all of f is still to be added
  pub so_far_start : (f : ℕ → ℕ) (c : SparseColumn) → c.rows ≡ [] → ((i : ℕ) → IsValue s (f i)) → IsColumnSoFar s f c f
  so_far_start f c none value =
      let nothing = λ (i : ℕ). row_value-none s.zero c.rows c.values i none in
      record { values = λ i. rw (nothing i) laws.zero_value; sums = λ i. ap (λ x. s.add x (f i)) (nothing i) ∙ laws.zero_add (f i) (value i) }

  -- the same, with an equal rest
  pub so_far_as : (f : ℕ → ℕ) (c : SparseColumn) (rest rest' : ℕ → ℕ) → IsColumnSoFar s f c rest → ((i : ℕ) → rest i ≡ rest' i) → IsColumnSoFar s f c rest'
  so_far_as f c rest rest' h e = record { values = h.values; sums = λ i. ap (s.add (value_in s.zero c i)) (sym (e i)) ∙ h.sums i }

  -- a part of the rest is added
  pub so_far_more : (f : ℕ → ℕ) (old new : SparseColumn) (rest x rest' : ℕ → ℕ) → IsColumnSoFar s f old rest → ((i : ℕ) → rest i ≡ s.add (x i) (rest' i)) → ((i : ℕ) → IsValue s (x i)) → ((i : ℕ) → IsValue s (rest' i))
      → ((i : ℕ) → value_in s.zero new i ≡ s.add (value_in s.zero old i) (x i)) → IsColumnSoFar s f new rest'
  so_far_more f old new rest x rest' h split is_x is_rest step = record {
    values = λ i. rw (step i) (laws.add_value _ _ (h.values i) (is_x i));
    sums = λ i. ap (λ y. s.add y (rest' i)) (step i) ∙ laws.add_assoc _ _ _ (h.values i) (is_x i) (is_rest i) ∙ ap (s.add (value_in s.zero old i)) (sym (split i)) ∙ h.sums i;
  }

  -- if the rest is zero, the column is f
  pub so_far_all : (f : ℕ → ℕ) (c : SparseColumn) (rest : ℕ → ℕ) → IsColumnSoFar s f c rest → ((i : ℕ) → rest i ≡ s.zero) → (i : ℕ) → value_in s.zero c i ≡ f i
  so_far_all f c rest h nothing i = sym (add_zero s laws _ (h.values i)) ∙ ap (s.add (value_in s.zero c i)) (sym (nothing i)) ∙ h.sums i

  -- ---- one more entry
  module _ (rows values : List ℕ) (is : IsSparseColumn s rows values) (row v : ℕ) (value : IsValue s v) where
    old_value : (i : ℕ) → IsValue s (row_value s.zero rows values i)
    old_value i = row_value-value s laws rows values i is.are_values

    -- adding zero changes no value
    pub kept_none : v ≡ s.zero → (i : ℕ) → row_value s.zero rows values i ≡ s.add (row_value s.zero rows values i) (one_value s.zero (row, v) i)
    kept_none e i =
        let none : one_value s.zero (row, v) i ≡ s.zero = rw e (elim (row == i) as (λ b. cond b s.zero s.zero ≡ s.zero) [ true ↦ refl | false ↦ refl ]) in
        sym (ap (s.add (row_value s.zero rows values i)) none ∙ add_zero s laws _ (old_value i))

    module _ (before : All (λ i. i < row) rows) where
      -- a sparse column with one more entry, not zero and after all others, is a sparse column
      pub kept_column : v ≢ s.zero → IsSparseColumn s (rows ++ row ∷ []) (values ++ v ∷ [])
      kept_column some = record {
        same_length = length_push values v ∙ ap (λ n. n + 1) is.same_length ∙ sym (length_push rows row);
        ascending = all_pairs_push (λ i j. i < j) rows row is.ascending before;
        are_values = All-push (IsValue s) values v is.are_values value;
        not_zero = All-push (λ x. x ≢ s.zero) values v is.not_zero some;
      }

      -- its value at each row is the old value plus that of the new entry
      pub kept_sum : (i : ℕ) → row_value s.zero (rows ++ row ∷ []) (values ++ v ∷ []) i ≡ s.add (row_value s.zero rows values i) (one_value s.zero (row, v) i)
      kept_sum i = row_value-push s.zero rows values row v i is.same_length before ∙ ⊎_elim
          (λ (e : row ≡ i).
          let here = eq-eqb row i e in
          let none : row_value s.zero rows values i ≡ s.zero = absent_above s.zero row rows values i before (omega arith) in
          rw (here, none) (sym (laws.zero_add v value)))
          (λ (n : row ≡ i → ⊥).
          let away = ne_eqb row i n in
          rw away (sym (add_zero s laws _ (old_value i))))
          (cases_eq row i)

      pub kept_rows : (bound : ℕ) → row < bound → All (λ i. i < bound) (rows ++ row ∷ [])
      kept_rows bound l = All-push (λ i. i < bound) rows row (All-weaker (λ i. i < row) (λ i. i < bound) (λ i m. omega arith) rows before) l
