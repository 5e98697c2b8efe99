-- A matrix is the one that has its values.
use Rattle.std.proofs.Common.{◌≡◌, ℕ, ◌<◌, subst}
use Rattle.cb_semirings.specs.Arithmetic.{Arithmetic, IsValue, IsSemiring}
use Rattle.cb_matrix.specs.Sparse.{Sparse, Extent, IsMatrix, at}
use Rattle.cb_matrix.specs.Values.{matrix_of}
use Rattle.cb_matrix.proofs.Made.{is_matrix_of}
use Rattle.cb_matrix.proofs.Totals.{value_at-value}

-- a matrix is the one that has its values: the shape, and the value at each place inside, say which
pub matrix_is : (s : Arithmetic) → IsSemiring s → (m : Sparse) (shape : Extent) (f : ℕ → ℕ → ℕ) → IsMatrix s m → m.shape ≡ shape → ((i j : ℕ) → i < shape.rows → j < shape.cols → at s m i j ≡ f i j) → m ≡ matrix_of s shape f
matrix_is s laws m shape f is e h = is_matrix_of s m shape f is e (λ i j l k. subst (IsValue s) (h i j l k) (value_at-value s laws m.entries i j is.values)) h
