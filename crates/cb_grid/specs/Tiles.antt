-- A shape cut into tiles, such as blocks or pieces of a vector.
use Rattle.std.specs.Prelude.{ℕ, ◌+◌, ◌*◌, ◌/◌, ◌%◌}
use Rattle.cb_matrix.specs.Sparse.{Extent}
use Rattle.cb_grid.specs.Parts.{part_start, part_shape}
use Rattle.cb_grid.specs.Blocks.{part_with, place_in_part}

-- the corner and the shape of each tile; and for each place of the shape, its tile and its place in that tile
pub record Tiles : Type 0 where
  pub count : ℕ
  pub top : ℕ → ℕ
  pub left : ℕ → ℕ
  pub size : ℕ → Extent
  pub owner : ℕ → ℕ → ℕ
  pub row : ℕ → ℕ → ℕ
  pub column : ℕ → ℕ → ℕ

-- the blocks of a grid, by the numbers of their ranks
abbrev pub block_tiles : ℕ → Extent → Tiles
block_tiles q shape = record {
  count = q * q;
  top = λ r. part_start q shape.rows (r / q);
  left = λ r. part_start q shape.cols (r % q);
  size = λ r. part_shape q shape (r / q) (r % q);
  owner = λ i j. part_with q shape.rows i * q + part_with q shape.cols j;
  row = λ i j. place_in_part q shape.rows i;
  column = λ i j. place_in_part q shape.cols j;
}
