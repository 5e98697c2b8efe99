-- The pieces of a vector as tiles; and the entries gathered from tiles so far.
use Rattle.std.specs.Prelude.{◌≡◌, ℕ, ◌+◌, ◌*◌, ◌/◌, ◌%◌, ◌<◌, nat_lt, cond, List, [], All}
use Rattle.cb_semirings.specs.Arithmetic.{Arithmetic, IsValue}
use Rattle.cb_matrix.specs.declared.Entry.{Entry}
use Rattle.cb_matrix.specs.Sparse.{Extent, Sparse, IsInside}
use Rattle.cb_matrix.specs.Values.{values_at}
use Rattle.cb_grid.specs.Blocks.{block_at, part_with}
use Rattle.cb_grid.specs.Pieces.{piece_start, piece_shape}
use Rattle.cb_grid.specs.Tiles.{Tiles}
use Rattle.cb_plan_vectors.specs.Vectors.{piece_with, place_in_piece}

-- the pieces of an input vector, by the numbers of their ranks: rank (t, j) has piece t of part j
abbrev pub input_tiles : ℕ → Extent → Tiles
input_tiles q shape = record {
  count = q * q;
  top = λ r. piece_start q shape.rows (r % q) (r / q);
  left = λ _. 0;
  size = λ r. piece_shape q shape (r % q) (r / q);
  owner = λ i _. piece_with q shape.rows i * q + part_with q shape.rows i;
  row = λ i _. place_in_piece q shape.rows i;
  column = λ _ k. k;
}

-- the pieces of a result: rank (i, t) has piece t of part i
abbrev pub result_tiles : ℕ → Extent → Tiles
result_tiles q shape = record {
  count = q * q;
  top = λ r. piece_start q shape.rows (r / q) (r % q);
  left = λ _. 0;
  size = λ r. piece_shape q shape (r / q) (r % q);
  owner = λ i _. part_with q shape.rows i * q + piece_with q shape.rows i;
  row = λ i _. place_in_piece q shape.rows i;
  column = λ _ k. k;
}

-- `out` has exactly the entries of `some r` of each tile r, with their places in the whole shape
pub record IsGathered (s : Arithmetic) (shape : Extent) (t : Tiles) (some : ℕ → List Entry) (out : List Entry) : Type 0 where
  pub values : (r x y : ℕ) → r < t.count → x < (t.size r).rows → y < (t.size r).cols → values_at out (t.top r + x) (t.left r + y) ≡ values_at (some r) x y
  pub inside : All (IsInside shape) out
  pub are_values : All (λ e. IsValue s e.value) out

-- all entries of each block whose number is below n, and none of the others
abbrev pub before_rank : List Sparse → ℕ → ℕ → List Entry
before_rank blocks n r = cond (nat_lt r n) (block_at blocks r).entries []
