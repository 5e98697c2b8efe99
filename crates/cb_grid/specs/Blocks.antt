-- A matrix cut into blocks over a grid, and glued together again.
use Rattle.std.specs.Prelude.{◌≡◌, ℕ, ◌+◌, ◌*◌, ◌<◌, ◌/◌, ◌%◌, List, map, slice_index_or}
use Rattle.std.specs.List.{range_with_len}
use Rattle.std.specs.Int.{div_ceil}
use Rattle.cb_semirings.specs.Arithmetic.{Arithmetic}
use Rattle.cb_matrix.specs.Sparse.{Extent, Sparse, IsMatrix, at}
use Rattle.cb_matrix.specs.declared.Entry.{Entry}
use Rattle.cb_matrix.specs.Values.{matrix_of, empty_matrix}
use Rattle.cb_matrix.specs.Operations.{cut}
use Rattle.cb_grid.specs.Parts.{part, part_shape}

-- the block of rank (i, j): row part i and column part j of a matrix
abbrev pub block_of : Arithmetic → ℕ → Sparse → ℕ → ℕ → Sparse
block_of s q m i j = cut s (part q m.shape.rows i) (part q m.shape.cols j) m

-- the block with number n in a list
abbrev pub block_at : List Sparse → ℕ → Sparse
block_at blocks n = slice_index_or blocks n (empty_matrix (record { rows = 0; cols = 0 }))

-- the block of each rank (i, j) of a grid of side q is this matrix's block (i, j)
abbrev pub AreBlocksOf : Arithmetic → ℕ → Sparse → List Sparse → Type 0
AreBlocksOf s q m blocks = (i j : ℕ) → i < q → j < q → block_at blocks (i * q + j) ≡ block_of s q m i j

-- the block of each rank is a matrix
abbrev pub AreRankMatrices : Arithmetic → ℕ → List Sparse → Type 0
AreRankMatrices s q blocks = (i j : ℕ) → i < q → j < q → IsMatrix s (block_at blocks (i * q + j))

-- a block without entries for each rank, of the shape of its part
abbrev pub blank_blocks : ℕ → Extent → List Sparse
blank_blocks q shape = map (λ r. empty_matrix (part_shape q shape (r / q) (r % q))) (range_with_len 0 (q * q))

-- the part of a dimension d that place i is in
abbrev pub part_with : ℕ → ℕ → ℕ → ℕ
part_with q d i = i / div_ceil d q

-- the place of i in that part
abbrev pub place_in_part : ℕ → ℕ → ℕ → ℕ
place_in_part q d i = i % div_ceil d q

-- an entry of a matrix, with its place in its block
abbrev pub placed_in_block : ℕ → Extent → Entry → Entry
placed_in_block q shape e = record { row = place_in_part q shape.rows e.row; column = place_in_part q shape.cols e.column; value = e.value }

-- the matrix of a shape that has at each place the value of the block that the place is in
abbrev pub glued : Arithmetic → ℕ → Extent → (ℕ → ℕ → Sparse) → Sparse
glued s q shape block =
    matrix_of s shape (λ i j. at s (block (part_with q shape.rows i) (part_with q shape.cols j)) (place_in_part q shape.rows i) (place_in_part q shape.cols j))

-- the matrix that these blocks, in the order of the ranks' numbers, are glued to
abbrev pub glued_blocks : Arithmetic → ℕ → Extent → List Sparse → Sparse
glued_blocks s q shape blocks = glued s q shape (λ i j. block_at blocks (i * q + j))
