-- A column whose values are replaced, one by one.
use Rattle.std.proofs.Common.{◌≡◌, ◌≢◌, ℕ, ◌+◌, ◌<◌, ◌≤◌, cond, List, [], ◌∷◌, ◌++◌, length, take, get_or, sym, refl, ap, ◌∙◌, ⊎_elim, arith, subst, length-take}
use Rattle.std.specs.Prelude.{All, not, ◌==◌}
use Rattle.std.proofs.lemmas.Bool.{cases_eq, cond-true, cond-false, eq-eqb, ne_eqb}
use Rattle.std.proofs.lemmas.List.{take_more, take_all, get_or-take, length-take-le}
use Rattle.std.proofs.lemmas.List.Elements.{All-nil, All-push, All-weaker, All-get_or, All-from_get_or}
use Rattle.cb_semirings.specs.Arithmetic.{Arithmetic, IsValue, IsSemiring}
use Rattle.cb_matrix.proofs.Pairs.{AllPairs-nil}
use Rattle.cb_dcsc.specs.Columns.{row_value}
use Rattle.cb_product.specs.SparseColumn.{IsSparseColumn}
use Rattle.cb_product.proofs.ColumnSoFar.{kept_column}
use Rattle.cb_product.proofs.RowValues.{absent_above, row_value-push, row_value-none}
use Rattle.cb_operations.specs.SelectionAnswers.{of_stored}

-- of a value that is stored
pub of_stored-some : (z : ℕ) (f : ℕ → ℕ) (x : ℕ) → x ≢ z → of_stored z f x ≡ f x
of_stored-some z f x n = cond-true _ _ _ (ap not (ne_eqb x z n))

-- of none
pub of_stored-none : (z : ℕ) (f : ℕ → ℕ) (x : ℕ) → x ≡ z → of_stored z f x ≡ z
of_stored-none z f x e = cond-false _ _ _ (ap not (eq-eqb x z e))

-- rs and vs have what g makes of the first k entries of a column, by row and value
pub record IsReplacedTo (s : Arithmetic) (g : ℕ → ℕ → ℕ) (rows values : List ℕ) (k : ℕ) (rs vs : List ℕ) : Type 0 where
  pub column : IsSparseColumn s rs vs
  pub next : k < length rows → All (λ i. i < get_or rows k 0) rs
  pub value : (i : ℕ) → row_value s.zero rs vs i ≡ of_stored s.zero (g i) (row_value s.zero (take k rows) (take k values) i)

module _ (s : Arithmetic) (laws : IsSemiring s) (g : ℕ → ℕ → ℕ) (rows values : List ℕ) (is : IsSparseColumn s rows values) where
  -- none yet
  pub replaced_none : (rs vs : List ℕ) → rs ≡ [] → vs ≡ [] → IsReplacedTo s g rows values 0 rs vs
  replaced_none rs vs p q = rw (p, q) (record {
    column = record { same_length = refl; ascending = AllPairs-nil (λ i j. i < j); are_values = All-nil (IsValue s); not_zero = All-nil (λ v. v ≢ s.zero) };
    next = λ l. All-nil (λ i. i < get_or rows 0 0);
    value = λ i. row_value-none s.zero [] [] i refl ∙ sym (of_stored-none s.zero (g i) (row_value s.zero [] [] i) (row_value-none s.zero [] [] i refl));
  })

  -- the same, of equal lists
  pub replaced_same : (k : ℕ) (rs vs ks ws : List ℕ) → ks ≡ rs → ws ≡ vs → IsReplacedTo s g rows values k rs vs → IsReplacedTo s g rows values k ks ws
  replaced_same k rs vs ks ws p q h = subst (λ xs. IsReplacedTo s g rows values k xs ws) (sym p) (subst (λ xs. IsReplacedTo s g rows values k rs xs) (sym q) h)

  module _ (k : ℕ) (l : k < length rows) where
    abbrev row : ℕ
    row = get_or rows k 0

    abbrev old : ℕ
    old = get_or values k 0

    front_below : All (λ x. x < row) (take k rows)
    front_below = All-from_get_or (λ x. x < row) (take k rows) 0 (λ j m.
        let count = length-take-le k rows (omega arith) in
        let b : j < k = omega arith in
        subst (λ x. x < row) (sym (get_or-take k rows j 0 b)) (is.ascending j k 0 b l))

    -- one more entry of the column
    front : (i : ℕ) → row_value s.zero (take (k + 1) rows) (take (k + 1) values) i ≡ cond (row == i) old (row_value s.zero (take k rows) (take k values) i)
    front i =
        let e = is.same_length in
        let l' : k < length values = omega arith in
        let same : length (take k values) ≡ length (take k rows) = simp length-take (omega arith) in
        (λ t. row_value s.zero (take_more rows k 0 l t) (take_more values k 0 l' t) i) ∙ row_value-push s.zero (take k rows) (take k values) row old i same front_below

    here : (i : ℕ) → row ≡ i → of_stored s.zero (g i) (row_value s.zero (take (k + 1) rows) (take (k + 1) values) i) ≡ g i old
    here i e =
        let z = is.same_length in
        let some : old ≢ s.zero = All-get_or (λ v. v ≢ s.zero) values k 0 (omega arith) is.not_zero in
        ap (of_stored s.zero (g i)) (front i ∙ cond-true _ _ _ (eq-eqb row i e)) ∙ of_stored-some s.zero (g i) old some

    elsewhere : (i : ℕ) → (row ≡ i → ⊥) → of_stored s.zero (g i) (row_value s.zero (take (k + 1) rows) (take (k + 1) values) i) ≡ of_stored s.zero (g i) (row_value s.zero (take k rows) (take k values) i)
    elsewhere i n = ap (of_stored s.zero (g i)) (front i ∙ cond-false _ _ _ (ne_eqb row i n))

    -- what g makes of the next one is kept
    pub replaced_kept : (rs vs : List ℕ) (v : ℕ) → IsValue s v → v ≡ g row old → v ≢ s.zero → IsReplacedTo s g rows values k rs vs → IsReplacedTo s g rows values (k + 1) (rs ++ row ∷ []) (vs ++ v ∷ [])
    replaced_kept rs vs v value v_is some h = record {
      column = kept_column s laws rs vs h.column row v value (h.next l) some;
      next = λ m. let up : row < get_or rows (k + 1) 0 = is.ascending k (k + 1) 0 (omega arith) m in All-push (λ i. i < get_or rows (k + 1) 0) rs row (All-weaker (λ i. i < row) (λ i. i < get_or rows (k + 1) 0) (λ i b. omega arith) rs (h.next l)) up;
      value = λ i. row_value-push s.zero rs vs row v i h.column.same_length (h.next l) ∙ ⊎_elim
          (λ (e : row ≡ i). cond-true _ _ _ (eq-eqb row i e) ∙ v_is ∙ ap (λ r. g r old) e ∙ sym (here i e))
          (λ (n : row ≡ i → ⊥). cond-false _ _ _ (ne_eqb row i n) ∙ h.value i ∙ sym (elsewhere i n))
          (cases_eq row i);
    }

    -- or is zero
    pub replaced_dropped : (rs vs : List ℕ) → g row old ≡ s.zero → IsReplacedTo s g rows values k rs vs → IsReplacedTo s g rows values (k + 1) rs vs
    replaced_dropped rs vs none h = record {
      column = h.column;
      next = λ m. let up : row < get_or rows (k + 1) 0 = is.ascending k (k + 1) 0 (omega arith) m in All-weaker (λ i. i < row) (λ i. i < get_or rows (k + 1) 0) (λ i b. omega arith) rs (h.next l);
      value = λ i. ⊎_elim
          (λ (e : row ≡ i). absent_above s.zero row rs vs i (h.next l) (omega arith) ∙ sym (here i e ∙ ap (λ r. g r old) (sym e) ∙ none))
          (λ (n : row ≡ i → ⊥). h.value i ∙ sym (elsewhere i n))
          (cases_eq row i);
    }

  -- all
  pub replaced_all : (k : ℕ) (rs vs : List ℕ) → length rows ≤ k → IsReplacedTo s g rows values k rs vs → (i : ℕ) → row_value s.zero rs vs i ≡ of_stored s.zero (g i) (row_value s.zero rows values i)
  replaced_all k rs vs l h i =
      let e = is.same_length in
      let l' : length values ≤ k = omega arith in
      h.value i ∙ (λ t. of_stored s.zero (g i) (row_value s.zero (take_all k rows l t) (take_all k values l' t) i))
