-- The sums of a product with a vector, in a list of one number for each row.
use Rattle.std.proofs.Common.{◌≡◌, ℕ, List, length, get_or, ap, sym, ◌∙◌, arith}
use Rattle.std.specs.Prelude.{All}
use Rattle.std.proofs.lemmas.List.Elements.{All-get_or}
use Rattle.cb_semirings.specs.Arithmetic.{Arithmetic, IsSemiring}
use Rattle.cb_matrix.specs.Sparse.{Sparse, Extent, IsMatrix, at}
use Rattle.cb_matrix.specs.Values.{matrix_of, product, product_shape}
use Rattle.cb_matrix.proofs.Made.{at-matrix_of, same_matrix_of}
use Rattle.cb_product.specs.DenseSums.{AddsToSums}
use Rattle.cb_product.proofs.ProductColumns.{inner, inner_value}

-- the sums, added to zeros, are the product
pub sums_are : (s : Arithmetic) → IsSemiring s → (a x m : Sparse) (shape : Extent) (zeros sums : List ℕ) → IsMatrix s a → IsMatrix s x → shape ≡ product_shape a x → x.shape.cols ≡ 1 → All (λ v. v ≡ s.zero) zeros → length zeros ≡ a.shape.rows
    → AddsToSums s a.shape.rows (λ i. at s (product s a x) i 0) zeros sums → m ≡ matrix_of s shape (λ i _. get_or sums i s.zero) → m ≡ product s a x
sums_are s laws a x m shape zeros sums is is_x is_shape one none long added stored =
    stored ∙ ap (λ (d : Extent). matrix_of s d (λ i _. get_or sums i s.zero)) is_shape
    ∙ same_matrix_of s (product_shape a x) (λ i _. get_or sums i s.zero) (inner s a x) (λ i j l k.
    let first : j ≡ 0 = omega arith in
    let value : at s (product s a x) i 0 ≡ inner s a x i 0 = at-matrix_of s (product_shape a x) (inner s a x) i 0 l (omega arith) in
    added i l
    ∙ ap (λ v. s.add v (at s (product s a x) i 0)) (All-get_or (λ v. v ≡ s.zero) zeros i s.zero (omega (arith, long, l)) none)
    ∙ ap (s.add s.zero) value ∙ laws.zero_add (inner s a x i 0) (inner_value s laws a x is is_x i 0) ∙ ap (inner s a x i) (sym first))
