-- A column that is stored after all others.
use Rattle.std.proofs.Common.{◌≡◌, ◌≢◌, ℕ, ◌<◌, ◌≤◌, true, false, cond, List, [], ◌∷◌, ◌++◌, get_or, sym, refl, ap, ◌∙◌, ⊎_elim, arith}
use Rattle.std.specs.Prelude.{All, ◌==◌, ◌&&◌}
use Rattle.std.proofs.lemmas.Bool.{cases_Bool, cases_lt, eq-eqb}
use Rattle.std.proofs.lemmas.List.{get_or_default}
use Rattle.std.proofs.lemmas.List.Elements.{All-weaker, All-append}
use Rattle.cb_semirings.specs.Arithmetic.{Arithmetic}
use Rattle.cb_matrix.specs.declared.Entry.{Entry}
use Rattle.cb_matrix.specs.Sparse.{Sparse, IsMatrix, is_at, at, value_at}
use Rattle.cb_matrix.proofs.Places.{is_at-parts, value_at-append_left, value_at-append_right}
use Rattle.cb_dcsc.specs.Columns.{row_value}
use Rattle.cb_dcsc.specs.Compressed.{entries_in, with_column}
use Rattle.cb_dcsc.proofs.Lookup.{row_value-found}
use Rattle.cb_dcsc.proofs.ColumnEntries.{entries_in-columns}
use Rattle.cb_product.specs.SparseColumn.{IsSparseColumn}

-- `new` has the values of f in column j, and those of `old` elsewhere
pub record AddsColumn (s : Arithmetic) (j : ℕ) (f : ℕ → ℕ) (old new : Sparse) : Type 0 where
  pub shape : new.shape ≡ old.shape
  pub matrix : IsMatrix s new
  pub here : (i : ℕ) → at s new i j ≡ f i
  pub elsewhere : (i k : ℕ) → k ≢ j → at s new i k ≡ at s old i k
  pub up_to : All (λ e. e.column ≤ j) new.entries

-- entries before column j have no value in it
pub none_of_column : (j i : ℕ) (es : List Entry) → All (λ e. e.column < j) es → All (λ e. is_at i j e ≡ false) es
none_of_column j i es h = All-weaker (λ e. e.column < j) (λ e. is_at i j e ≡ false) (λ e l. ⊎_elim (λ (t : is_at i j e ≡ true). let q = is_at-parts e i j t in absurd (omega arith)) (λ (f : is_at i j e ≡ false). f) (cases_Bool (is_at i j e))) es h

none_elsewhere : (j i k : ℕ) (es : List Entry) → All (λ e. e.column ≡ j) es → k ≢ j → All (λ e. is_at i k e ≡ false) es
none_elsewhere j i k es h n = All-weaker (λ e. e.column ≡ j) (λ e. is_at i k e ≡ false) (λ e l. ⊎_elim (λ (t : is_at i k e ≡ true). let q = is_at-parts e i k t in absurd (n (q.1 ∙ l))) (λ (f : is_at i k e ≡ false). f) (cases_Bool (is_at i k e))) es h

-- the value of a column's entries is that of its rows and values
entries_value : (z j : ℕ) (rs vs : List ℕ) (i : ℕ) → value_at z (entries_in j rs vs) i j ≡ row_value z rs vs i
unfolding value_at row_value entries_in
entries_value z j [] vs i = refl
entries_value z j (r ∷ rs) [] i = refl
entries_value z j (r ∷ rs) (v ∷ vs) i =
    let same = eq-eqb j j refl in
    rw same (elim (r == i) as (λ b. cond (b && true) v (value_at z (entries_in j rs vs) i j) ≡ cond b v (row_value z rs vs i)) [ true ↦ refl | false ↦ entries_value z j rs vs i ])

module _ (s : Arithmetic) (j : ℕ) (f : ℕ → ℕ) (rows values : List ℕ) (c : IsSparseColumn s rows values) (has : (i : ℕ) → row_value s.zero rows values i ≡ f i) where
  -- the matrix with the column stored after all others has it
  pub column_adds : (old new : Sparse) → All (λ e. e.column < j) old.entries → new ≡ with_column old j rows values → IsMatrix s new → AddsColumn s j f old new
  column_adds old new before new_is new_matrix =
      let es = entries_in j rows values in
      let same_entries : new.entries ≡ old.entries ++ es = ap (λ (m : Sparse). m.entries) new_is in
      let mine : All (λ e. e.column ≡ j) es = entries_in-columns j rows values in
      record {
        shape = ap (λ (m : Sparse). m.shape) new_is;
        matrix = new_matrix;
        here = λ i. ap (λ xs. value_at s.zero xs i j) same_entries ∙ value_at-append_right s.zero old.entries es i j (none_of_column j i old.entries before) ∙ entries_value s.zero j rows values i ∙ has i;
        elsewhere = λ i k n. ap (λ xs. value_at s.zero xs i k) same_entries ∙ value_at-append_left s.zero old.entries es i k (none_elsewhere j i k es mine n);
        up_to = rw same_entries (All-append (λ e. e.column ≤ j) old.entries es (All-weaker (λ e. e.column < j) (λ e. e.column ≤ j) (λ e l. omega arith) old.entries before) (All-weaker (λ e. e.column ≡ j) (λ e. e.column ≤ j) (λ e l. omega arith) es mine));
      }

  -- the column has no row at which f is zero
  pub column_inside : (bound : ℕ) → ((i : ℕ) → bound ≤ i → f i ≡ s.zero) → All (λ i. i < bound) rows
  column_inside bound nothing k d l =
      let long = c.same_length in
      let r : get_or rows k d ≡ get_or rows k 0 = get_or_default rows k d 0 l in
      ⊎_elim
      (λ (m : get_or rows k d < bound). m)
      (λ (m : bound ≤ get_or rows k d).
      let found = row_value-found s.zero rows values k (get_or rows k d) long c.ascending l (sym r) in
      absurd (c.not_zero k 0 (omega arith) (sym found ∙ has (get_or rows k d) ∙ nothing (get_or rows k d) m)))
      (cases_lt (get_or rows k d) bound)
