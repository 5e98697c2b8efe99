-- What the complement of a mask leaves of a product, column by column.
use Rattle.std.proofs.Common.{◌≡◌, ◌≢◌, ℕ, ◌≤◌, true, false, cond, List, [], ◌∷◌, length, sym, refl, ap, ◌∙◌, ⊎_elim, arith}
use Rattle.std.specs.Prelude.{All, ◌==◌, not}
use Rattle.std.proofs.lemmas.Bool.{cases_eq, eq-eqb, ne_eqb}
use Rattle.std.proofs.lemmas.List.Elements.{All-head, All-tail}
use Rattle.cb_semirings.specs.Arithmetic.{Arithmetic, IsValue, IsSemiring}
use Rattle.cb_matrix.specs.Sparse.{Sparse, IsMatrix, at}
use Rattle.cb_matrix.specs.Values.{product, product_shape, matrix_of}
use Rattle.cb_matrix.specs.Operations.{has_entry}
use Rattle.cb_matrix.proofs.Made.{at-matrix_of, at-outside, same_matrix_of}
use Rattle.cb_operations.specs.SelectionAnswers.{excluded}
use Rattle.cb_dcsc.specs.Columns.{in_column, rows_of, values_of, row_value}
use Rattle.cb_product.specs.InColumns.{AreInColumns, is_among}
use Rattle.cb_product.specs.Outside.{outside}
use Rattle.cb_product.specs.Terms.{column_sum}
use Rattle.cb_product.proofs.AbsentColumns.{nothing_there}
use Rattle.cb_product.proofs.OwnColumn.{own_sparse}
use Rattle.cb_product.proofs.ProductColumns.{inner, stored_sum, own_column}

-- a column without zeros has a row where its value isn't zero
among_stored : (z : ℕ) (rs vs : List ℕ) (i : ℕ) → length vs ≡ length rs → All (λ v. v ≢ z) vs → is_among rs i ≡ not (row_value z rs vs i == z)
unfolding is_among row_value
among_stored z [] vs i e some = let same = eq-eqb z z refl in rw same refl
among_stored z (r ∷ rs) [] i e some = absurd (omega arith)
among_stored z (r ∷ rs) (v ∷ vs) i e some = ⊎_elim
    (λ (p : r ≡ i).
    let here = eq-eqb r i p in
    let stored = ne_eqb v z (All-head (λ v. v ≢ z) v vs some) in
    rw (here, stored) refl)
    (λ (p : r ≡ i → ⊥). let away = ne_eqb r i p in rw away (among_stored z rs vs i (omega arith) (All-tail (λ v. v ≢ z) v vs some)))
    (cases_eq r i)

-- what the complement of m leaves of the product of a and b, place by place
abbrev pub left_outside_of : Arithmetic → Sparse → Sparse → Sparse → ℕ → ℕ → ℕ
left_outside_of s a b m i j = cond (has_entry s m i j) s.zero (inner s a b i j)

nothing_left : (s : Arithmetic) (m : Sparse) (i j x : ℕ) → x ≡ s.zero → cond (has_entry s m i j) s.zero x ≡ s.zero
nothing_left s m i j x e = rw e (elim (has_entry s m i j) as (λ b. cond b s.zero s.zero ≡ s.zero) [ true ↦ refl | false ↦ refl ])

module _ (s : Arithmetic) (laws : IsSemiring s) (a : Sparse) (is : IsMatrix s a) where
  -- past all rows of a, a sum of its columns is zero
  column_sum-past : (i : ℕ) (ks vs : List ℕ) → a.shape.rows ≤ i → All (IsValue s) vs → column_sum s a i ks vs ≡ s.zero
  unfolding column_sum
  column_sum-past i [] vs l h = refl
  column_sum-past i (k ∷ ks) [] l h = refl
  column_sum-past i (k ∷ ks) (v ∷ vs) l h =
      let none : at s a i k ≡ s.zero = at-outside s.zero a.shape a.entries i k is.inside (λ less _. absurd (omega arith)) in
      let one : s.mul (at s a i k) v ≡ s.zero = ap (λ x. s.mul x v) none ∙ laws.zero_mul v (All-head (IsValue s) v vs h) in
      (λ t. s.add (one t) (column_sum-past i ks vs l (All-tail (IsValue s) v vs h) t)) ∙ laws.zero_add s.zero laws.zero_value

  -- also without excluded rows
  pub outside_past : (excluded ks vs : List ℕ) (i : ℕ) → a.shape.rows ≤ i → All (IsValue s) vs → outside s.zero excluded (λ k. column_sum s a k ks vs) i ≡ s.zero
  outside_past excluded ks vs i l h =
      rw (column_sum-past i ks vs l h) (elim (is_among excluded i) as (λ b. cond b s.zero s.zero ≡ s.zero) [ true ↦ refl | false ↦ refl ])

module _ (s : Arithmetic) (laws : IsSemiring s) (a b m : Sparse) (is_a : IsMatrix s a) (is_b : IsMatrix s b) (is_m : IsMatrix s m) (agree : a.shape.cols ≡ b.shape.rows) where
  -- in a column without entries of b, zero is left
  pub outside_absent : (columns : List ℕ) → AreInColumns columns b.entries → (i j : ℕ) → All (λ c. c ≢ j) columns → left_outside_of s a b m i j ≡ s.zero
  unfolding column_sum
  outside_absent columns stand i j others =
      let none : in_column j b.entries ≡ [] = sym (nothing_there j b.entries columns stand others) in
      nothing_left s m i j (inner s a b i j) (sym (stored_sum s laws a a b is_a is_a is_b agree i j) ∙ ap (λ es. column_sum s a i (rows_of es) (values_of es)) none)

  -- the sum of a column's terms, without the rows of the mask's column, is what is left of the column
  pub outside_column : (j : ℕ) (rows values ks vs : List ℕ) → rows ≡ rows_of (in_column j m.entries) → values ≡ values_of (in_column j m.entries) → ks ≡ rows_of (in_column j b.entries) → vs ≡ values_of (in_column j b.entries)
      → (i : ℕ) → outside s.zero rows (λ k. column_sum s a k ks vs) i ≡ left_outside_of s a b m i j
  outside_column j rows values ks vs rows_are values_are ks_are vs_are i =
      let own = own_sparse s m is_m j rows values rows_are values_are in
      let taken : is_among rows i ≡ has_entry s m i j = among_stored s.zero rows values i own.same_length own.not_zero ∙ ap (λ x. not (x == s.zero)) (own_column s m j rows values rows_are values_are i) in
      let sum : column_sum s a i ks vs ≡ inner s a b i j = (λ t. column_sum s a i (ks_are t) (vs_are t)) ∙ stored_sum s laws a a b is_a is_a is_b agree i j in
      λ t. cond (taken t) s.zero (sum t)

  -- what is left is the product without the places of the mask
  pub outside_all : (out : Sparse) → out ≡ matrix_of s (product_shape a b) (left_outside_of s a b m) → out ≡ excluded s (product s a b) m
  outside_all out e =
      e ∙ same_matrix_of s (product_shape a b) (left_outside_of s a b m) (λ i j. cond (has_entry s m i j) s.zero (at s (product s a b) i j))
      (λ i j li lj. ap (cond (has_entry s m i j) s.zero) (sym (at-matrix_of s (product_shape a b) (inner s a b) i j li lj)))
