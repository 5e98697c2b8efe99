-- Products of matrices that may be transposed first.
use Rattle.std.specs.Prelude.{Bool, cond}
use Rattle.cb_semirings.specs.Arithmetic.{Arithmetic}
use Rattle.cb_matrix.specs.Sparse.{Sparse, Extent}
use Rattle.cb_matrix.specs.Values.{product}
use Rattle.cb_matrix.specs.Operations.{transposed}

-- a matrix, transposed if it is to be turned, and its shape
abbrev pub turned_if : Arithmetic → Bool → Sparse → Sparse
turned_if s turn a = cond turn (transposed s a) a

abbrev pub turned_shape : Bool → Extent → Extent
turned_shape turn d = cond turn (record { rows = d.cols; cols = d.rows }) d

-- the product of two matrices, of which each may be transposed first
abbrev pub turned_product : Arithmetic → Bool → Bool → Sparse → Sparse → Sparse
turned_product s left right a b = product s (turned_if s left a) (turned_if s right b)
