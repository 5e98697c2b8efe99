-- What a mask leaves of a product, column by column.
use Rattle.std.proofs.Common.{◌≡◌, ◌≢◌, ℕ, suc, ◌<◌, cond, List, [], ◌∷◌, length, map, get_or, sym, refl, ap, ◌∙◌, ⊎_elim, arith, subst}
use Rattle.std.specs.Prelude.{All, ◌==◌, not}
use Rattle.std.specs.List.{range_with_len}
use Rattle.std.proofs.lemmas.Bool.{cases_eq, eq-eqb, ne_eqb}
use Rattle.std.proofs.lemmas.List.Elements.{All-head, All-tail, All-weaker, All-get_or}
use Rattle.cb_semirings.specs.Arithmetic.{Arithmetic, IsSemiring}
use Rattle.cb_matrix.specs.Sparse.{Sparse, Extent, IsMatrix, IsInside, at}
use Rattle.cb_matrix.specs.Values.{total, product, product_shape}
use Rattle.cb_matrix.specs.Operations.{has_entry}
use Rattle.cb_matrix.proofs.Made.{at-matrix_of}
use Rattle.cb_dcsc.specs.Columns.{in_column, rows_of, values_of, row_value}
use Rattle.cb_dcsc.proofs.Lookup.{column_value, rows_inside}
use Rattle.cb_product.specs.InColumns.{AreInColumns}
use Rattle.cb_product.specs.Terms.{column_sum}
use Rattle.cb_product.proofs.AbsentColumns.{nothing_there}
use Rattle.cb_product.proofs.OwnColumn.{own_sparse}
use Rattle.cb_product.proofs.ProductColumns.{column_total, own_column}
use Rattle.cb_masked.specs.RowSums.{HaveEach}

-- a column with f at the rows of another column, whose values aren't z: its value is f where the other has an entry, and z elsewhere
pub masked_value : (z : ℕ) (f : ℕ → ℕ) (rs vs xs : List ℕ) (i : ℕ) → length vs ≡ length rs → length xs ≡ length rs → All (λ v. v ≢ z) vs → ((k : ℕ) → k < length rs → get_or xs k z ≡ f (get_or rs k 0))
    → row_value z rs xs i ≡ cond (not (row_value z rs vs i == z)) (f i) z
unfolding row_value
masked_value z f [] vs xs i p q some is = let same = eq-eqb z z refl in rw same refl
masked_value z f (r ∷ rs) [] xs i p q some is = absurd (omega arith)
masked_value z f (r ∷ rs) (v ∷ vs) [] i p q some is = absurd (omega arith)
masked_value z f (r ∷ rs) (v ∷ vs) (x ∷ xs) i p q some is =
    let rest = masked_value z f rs vs xs i (omega arith) (omega arith) (All-tail (λ v. v ≢ z) v vs some) (λ k l. is (suc k) (omega arith)) in
    ⊎_elim
    (λ (e : r ≡ i).
    let here = eq-eqb r i e in
    let stored = ne_eqb v z (All-head (λ v. v ≢ z) v vs some) in
    let value : x ≡ f i = is 0 (omega arith) ∙ ap f e in
    rw (here, stored) value)
    (λ (e : r ≡ i → ⊥). let away = ne_eqb r i e in rw away rest)
    (cases_eq r i)

-- where the mask has no entry, zero is left
no_entry : (s : Arithmetic) (m : Sparse) (i j x : ℕ) → at s m i j ≡ s.zero → cond (has_entry s m i j) x s.zero ≡ s.zero
no_entry s m i j x none = let same = eq-eqb (at s m i j) s.zero none in rw same refl

-- what a mask leaves of the product of a and b, place by place
abbrev pub left_of : Arithmetic → Sparse → Sparse → Sparse → ℕ → ℕ → ℕ
left_of s a b m i j = cond (has_entry s m i j) (at s (product s a b) i j) s.zero

module _ (s : Arithmetic) (laws : IsSemiring s) (a b m : Sparse) (is_a : IsMatrix s a) (is_b : IsMatrix s b) (is_m : IsMatrix s m) (agree : a.shape.cols ≡ b.shape.rows) (shape : m.shape ≡ product_shape a b) where
  -- in a column without entries of the mask, zero is left
  pub left_absent : (columns : List ℕ) → AreInColumns columns m.entries → (i j : ℕ) → All (λ c. c ≢ j) columns → left_of s a b m i j ≡ s.zero
  unfolding row_value
  left_absent columns stand i j others =
      let none : [] ≡ in_column j m.entries = nothing_there j m.entries columns stand others in
      no_entry s m i j (at s (product s a b) i j) (sym (column_value s.zero m.entries i j) ∙ ap (λ es. row_value s.zero (rows_of es) (values_of es) i) (sym none))

  -- the sum of the terms of a column is the product's value
  column_product : (i j : ℕ) (ks vs : List ℕ) → i < a.shape.rows → j < b.shape.cols → ks ≡ rows_of (in_column j b.entries) → vs ≡ values_of (in_column j b.entries) → column_sum s a i ks vs ≡ at s (product s a b) i j
  column_product i j ks vs li lj p q =
      (λ t. column_sum s a i (p t) (q t))
      ∙ column_total s laws a is_a i j a.shape.cols b.entries is_b.values is_b.ascending (All-weaker (IsInside b.shape) (λ e. e.row < a.shape.cols) (λ e k. let l = k.0 in rw agree l) b.entries is_b.inside)
      ∙ sym (at-matrix_of s (product_shape a b) (λ i j. total s (map (λ k. s.mul (at s a i k) (at s b k j)) (range_with_len 0 a.shape.cols))) i j li lj)

  module _ (j : ℕ) (lj : j < m.shape.cols) (rows values ks vs sums : List ℕ) (rows_are : rows ≡ rows_of (in_column j m.entries)) (values_are : values ≡ values_of (in_column j m.entries)) (ks_are : ks ≡ rows_of (in_column j b.entries)) (vs_are : vs ≡ values_of (in_column j b.entries)) (same : length sums ≡ length rows) (have : HaveEach s rows (λ i. column_sum s a i ks vs) sums) where
    -- the sums of the terms, one for each of the mask's rows, are what the mask leaves of the column
    pub left_column : (i : ℕ) → row_value s.zero rows sums i ≡ left_of s a b m i j
    left_column i =
        let own = own_sparse s m is_m j rows values rows_are values_are in
        let inside : All (λ i. i < m.shape.rows) rows = rows_inside s m j rows is_m rows_are in
        masked_value s.zero (λ i. at s (product s a b) i j) rows values sums i own.same_length same own.not_zero
        (λ k l. have k l ∙ column_product (get_or rows k 0) j ks vs (subst (λ (e : Extent). get_or rows k 0 < e.rows) shape (All-get_or (λ i. i < m.shape.rows) rows k 0 l inside)) (subst (λ (e : Extent). j < e.cols) shape lj) ks_are vs_are)
        ∙ ap (λ x. cond (not (x == s.zero)) (at s (product s a b) i j) s.zero) (own_column s m j rows values rows_are values_are i)
