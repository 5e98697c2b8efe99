-- The product of two matrices, one of which has no entries, has none.
use Rattle.std.proofs.Common.{◌≡◌, ◌⊎◌, [], ap}
use Rattle.cb_semirings.specs.Arithmetic.{Arithmetic, IsSemiring}
use Rattle.cb_matrix.specs.Sparse.{Sparse, Extent, IsMatrix}
use Rattle.cb_matrix.specs.Values.{empty_matrix, product, product_shape}
use Rattle.cb_product.proofs.EmptyFactors.{product_vanishes}
use Rattle.cb_layout.proofs.GrownBlocks.{empty_is_matrix}

pub empty_product_is : (s : Arithmetic) → IsSemiring s → (a b : Sparse) → IsMatrix s a → IsMatrix s b → (a.entries ≡ []) ⊎ (b.entries ≡ []) → (shape : Extent) → shape ≡ product_shape a b → empty_matrix shape ≡ product s a b
empty_product_is s laws a b is_a is_b none shape shaped =
    product_vanishes s laws a b is_a is_b none
    (empty_matrix shape) (empty_is_matrix s shape) (ap empty_matrix shaped)
