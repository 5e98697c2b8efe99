-- Vectors spread over all ranks: the piece that a row is in, and pieces glued together again.
use Rattle.std.specs.Prelude.{◌≡◌, ℕ, ◌+◌, ◌*◌, ◌<◌, ◌/◌, ◌%◌, List, map}
use Rattle.std.specs.List.{range_with_len}
use Rattle.cb_semirings.specs.Arithmetic.{Arithmetic}
use Rattle.cb_matrix.specs.Sparse.{Extent, Sparse, at}
use Rattle.cb_matrix.specs.Values.{matrix_of, empty_matrix}
use Rattle.cb_grid.specs.Parts.{part_length}
use Rattle.cb_grid.specs.Blocks.{block_at, part_with, place_in_part}
use Rattle.cb_grid.specs.Pieces.{piece_shape, piece_of}

-- which piece of its part row r of a dimension d is in
abbrev pub piece_with : ℕ → ℕ → ℕ → ℕ
piece_with q d r = part_with q (part_length q d (part_with q d r)) (place_in_part q d r)

-- the place of row r in that piece
abbrev pub place_in_piece : ℕ → ℕ → ℕ → ℕ
place_in_piece q d r = place_in_part q (part_length q d (part_with q d r)) (place_in_part q d r)

-- the vector of a shape that has in each row the value of the piece that the row is in
abbrev pub glued_pieces : Arithmetic → ℕ → Extent → (ℕ → ℕ → Sparse) → Sparse
glued_pieces s q shape block =
    matrix_of s shape (λ r k. at s (block (part_with q shape.rows r) (piece_with q shape.rows r)) (place_in_piece q shape.rows r) k)

-- the vector of a shape from the pieces of an input: rank (t, j) has piece t of part j
abbrev pub glued_input : Arithmetic → ℕ → Extent → List Sparse → Sparse
glued_input s q shape blocks = glued_pieces s q shape (λ j t. block_at blocks (t * q + j))

-- the vector of a shape from the pieces of a result: rank (i, t) has piece t of part i
abbrev pub glued_result : Arithmetic → ℕ → Extent → List Sparse → Sparse
glued_result s q shape blocks = glued_pieces s q shape (λ i t. block_at blocks (i * q + t))

-- rank (t, j) has piece t of part j of a vector
abbrev pub AreInputPieces : Arithmetic → ℕ → Sparse → List Sparse → Type 0
AreInputPieces s q m blocks = (t j : ℕ) → t < q → j < q → block_at blocks (t * q + j) ≡ piece_of s q m j t

-- rank (i, t) has piece t of part i of a vector
abbrev pub AreResultPieces : Arithmetic → ℕ → Sparse → List Sparse → Type 0
AreResultPieces s q m blocks = (i t : ℕ) → i < q → t < q → block_at blocks (i * q + t) ≡ piece_of s q m i t

-- the block of each rank (i, t) has the shape of piece t of part i
abbrev pub HavePieceShapes : ℕ → Extent → List Sparse → Type 0
HavePieceShapes q shape blocks = (i t : ℕ) → i < q → t < q → (block_at blocks (i * q + t)).shape ≡ piece_shape q shape i t

-- a block without entries for each rank, of the shape of its piece of an input
abbrev pub blank_pieces : ℕ → Extent → List Sparse
blank_pieces q shape = map (λ r. empty_matrix (piece_shape q shape (r % q) (r / q))) (range_with_len 0 (q * q))
