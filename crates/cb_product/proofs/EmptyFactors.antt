-- The product of two matrices, one of which has no entries.
use Rattle.std.proofs.Common.{◌≡◌, ◌⊎◌, ⊎_elim, ℕ, ◌<◌, List, [], sym, refl, ap, subst, ◌∙◌}
use Rattle.std.specs.Prelude.{map}
use Rattle.std.specs.List.{range_with_len}
use Rattle.cb_semirings.specs.Arithmetic.{Arithmetic, IsSemiring}
use Rattle.cb_matrix.specs.declared.Entry.{Entry}
use Rattle.cb_matrix.specs.Sparse.{Sparse, Extent, IsMatrix, at, value_at}
use Rattle.cb_matrix.specs.Values.{product, product_shape, empty_matrix, total}
use Rattle.cb_matrix.specs.Operations.{sum_of}
use Rattle.cb_matrix.proofs.Equal.{matrix_is}
use Rattle.cb_matrix.proofs.Made.{at-matrix_of}
use Rattle.cb_matrix.proofs.Totals.{total-zero, value_at-value}

value_at-nil : (z : ℕ) (es : List Entry) (i j : ℕ) → es ≡ [] → value_at z es i j ≡ z
unfolding value_at
value_at-nil z es i j e = ap (λ x. value_at z x i j) e

module _ (s : Arithmetic) (laws : IsSemiring s) (a b : Sparse) (is_a : IsMatrix s a) (is_b : IsMatrix s b) (none : (a.entries ≡ []) ⊎ (b.entries ≡ [])) where
  -- each term of a sum is zero
  vanishes : (i j k : ℕ) → s.mul (at s a i k) (at s b k j) ≡ s.zero
  vanishes i j k =
      ⊎_elim
      (λ e. ap (λ x. s.mul x (at s b k j)) (value_at-nil s.zero a.entries i k e) ∙ laws.zero_mul (at s b k j) (value_at-value s laws b.entries k j is_b.values))
      (λ e. ap (s.mul (at s a i k)) (value_at-nil s.zero b.entries k j e) ∙ laws.mul_zero (at s a i k) (value_at-value s laws a.entries i k is_a.values))
      none

  inner_zero : (i j : ℕ) → total s (map (λ k. s.mul (at s a i k) (at s b k j)) (range_with_len 0 a.shape.cols)) ≡ s.zero
  inner_zero i j = total-zero s laws (λ k. s.mul (at s a i k) (at s b k j)) 0 a.shape.cols (λ k _. vanishes i j k)

  -- a matrix without entries that has the product's shape is the product
  pub product_vanishes : (m : Sparse) → IsMatrix s m → m ≡ empty_matrix (product_shape a b) → m ≡ product s a b
  product_vanishes m is e =
      matrix_is s laws m (product_shape a b) (λ i j. total s (map (λ k. s.mul (at s a i k) (at s b k j)) (range_with_len 0 a.shape.cols))) is (ap (λ x. x.shape) e)
      (λ i j _ _. value_at-nil s.zero m.entries i j (ap (λ x. x.entries) e) ∙ sym (inner_zero i j))

  -- adding the product changes no matrix
  pub nothing_added : (m : Sparse) → IsMatrix s m → m.shape ≡ product_shape a b → m ≡ sum_of s m (product s a b)
  nothing_added m is e =
      matrix_is s laws m m.shape (λ i j. s.add (at s m i j) (at s (product s a b) i j)) is refl
      (λ i j li lj.
      let zero = at-matrix_of s (product_shape a b) (λ i j. total s (map (λ k. s.mul (at s a i k) (at s b k j)) (range_with_len 0 a.shape.cols))) i j (subst (λ (x : Extent). i < x.rows) e li) (subst (λ (x : Extent). j < x.cols) e lj) ∙ inner_zero i j in
      let value = value_at-value s laws m.entries i j is.values in
      sym (ap (s.add (at s m i j)) zero ∙ laws.add_comm (at s m i j) s.zero value laws.zero_value ∙ laws.zero_add (at s m i j) value))
