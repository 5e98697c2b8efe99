-- A vector, which is a matrix of one column, spread over all ranks: each part is cut again into q pieces.
use Rattle.std.specs.Prelude.{ℕ, ◌+◌}
use Rattle.cb_semirings.specs.Arithmetic.{Arithmetic}
use Rattle.cb_matrix.specs.Sparse.{Extent, Sparse}
use Rattle.cb_matrix.specs.Operations.{cut}
use Rattle.cb_grid.specs.Parts.{part_start, part_length}

-- where piece t of part i begins, and where the one before it ends
abbrev pub piece_start : ℕ → ℕ → ℕ → ℕ → ℕ
piece_start q d i t = part_start q d i + part_start q (part_length q d i) t

-- piece t of part i: where it begins and where it ends, the end excluded
abbrev pub piece : ℕ → ℕ → ℕ → ℕ → ℕ × ℕ
piece q d i t = (piece_start q d i t, piece_start q d i (t + 1))

-- the shape of piece t of part i of a vector
abbrev pub piece_shape : ℕ → Extent → ℕ → ℕ → Extent
piece_shape q shape i t = record { rows = part_length q (part_length q shape.rows i) t; cols = shape.cols }

-- piece t of part i of a vector
abbrev pub piece_of : Arithmetic → ℕ → Sparse → ℕ → ℕ → Sparse
piece_of s q m i t = cut s (piece q m.shape.rows i t) (0, m.shape.cols) m
