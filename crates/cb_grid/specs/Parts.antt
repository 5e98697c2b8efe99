-- A square grid of side q: the rank in row i and column j has the number i*q + j.
-- A dimension d is cut into q parts of div_ceil d q places; the last parts may have fewer, or none.
use Rattle.std.specs.Prelude.{ℕ, ◌+◌, ◌-◌, ◌*◌, List, map, min}
use Rattle.std.specs.List.{range_with_len}
use Rattle.std.specs.Int.{div_ceil}
use Rattle.cb_matrix.specs.Sparse.{Extent}

-- a grid, given by its side
pub record Square : Type 0 where
  pub side : ℕ

-- the ranks of row i, ascending
abbrev pub row_group : ℕ → ℕ → List ℕ
row_group q i = map (λ j. i * q + j) (range_with_len 0 q)

-- the ranks of column j, ascending
abbrev pub column_group : ℕ → ℕ → List ℕ
column_group q j = map (λ i. i * q + j) (range_with_len 0 q)

-- where part i of a dimension d begins, and part i - 1 ends
abbrev pub part_start : ℕ → ℕ → ℕ → ℕ
part_start q d i = min (i * div_ceil d q) d

-- part i: where it begins and where it ends, the end excluded
abbrev pub part : ℕ → ℕ → ℕ → ℕ × ℕ
part q d i = (part_start q d i, part_start q d (i + 1))

-- the number of places of part i
abbrev pub part_length : ℕ → ℕ → ℕ → ℕ
part_length q d i = part_start q d (i + 1) - part_start q d i

-- the shape of the block in row part i and column part j
abbrev pub part_shape : ℕ → Extent → ℕ → ℕ → Extent
part_shape q shape i j = record { rows = part_length q shape.rows i; cols = part_length q shape.cols j }
