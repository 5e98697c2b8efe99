-- A matrix plus several products.
use Rattle.std.specs.Prelude.{◌≡◌, ℕ, ◌<◌, List, [], ◌∷◌, map, All, AllPairs}
use Rattle.cb_semirings.specs.Arithmetic.{Arithmetic}
use Rattle.cb_matrix.specs.Sparse.{Sparse, Extent, IsMatrix}
use Rattle.cb_matrix.specs.Values.{product, product_shape}
use Rattle.cb_matrix.specs.Operations.{sum_of}
use Rattle.cb_product.specs.declared.several.Factors.{Factors}
use Rattle.cb_product.specs.InColumns.{AreInColumns}

-- the two matrices of a product
abbrev pub pair_of : {T : Type 0} → Factors T → Sparse × Sparse
pair_of f = (f.left.now, f.right.now)

abbrev pub pairs_in : {T : Type 0} → List (Factors T) → List (Sparse × Sparse)
pairs_in fs = map pair_of fs

-- a matrix plus the products of pairs of matrices, one after another
abbrev pub plus_products : Arithmetic → Sparse → List (Sparse × Sparse) → Sparse
plus_products s acc [] = acc
plus_products s acc (p ∷ ps) = plus_products s (sum_of s acc (product s p.0 p.1)) ps

-- both of a pair are matrices
abbrev pub AreMatrices : Arithmetic → Sparse × Sparse → Type 0
AreMatrices s p = IsMatrix s p.0 × IsMatrix s p.1

-- two matrices have a product, of this shape
pub record MakeShape (extent : Extent) (p : Sparse × Sparse) : Type 0 where
  pub agree : p.0.shape.cols ≡ p.1.shape.rows
  pub shape : extent ≡ product_shape p.0 p.1

-- ascending columns in which a matrix and the second matrix of each pair have all their entries
pub record AreColumnsOf (columns : List ℕ) (acc : Sparse) (ps : List (Sparse × Sparse)) : Type 0 where
  pub ascending : AllPairs (λ c d. c < d) columns
  pub within : All (λ c. c < acc.shape.cols) columns
  pub own : AreInColumns columns acc.entries
  pub rights : All (λ (p : Sparse × Sparse). AreInColumns columns p.1.entries) ps
