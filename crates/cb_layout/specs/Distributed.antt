-- A matrix over a grid: a block for each rank.
use Rattle.std.specs.Prelude.{◌≡◌, ℕ, ◌+◌, ◌*◌, ◌<◌, ◌≤◌, List, length}
use Rattle.cb_semirings.specs.Arithmetic.{Arithmetic}
use Rattle.cb_matrix.specs.Sparse.{Extent, Sparse, IsMatrix}
use Rattle.cb_dcsc.specs.Columns.{with_entries}
use Rattle.cb_grid.specs.declared.TheConstants.{LARGEST_SIDE}
use Rattle.cb_grid.specs.Parts.{part_shape}
use Rattle.cb_grid.specs.Blocks.{block_at, glued_blocks}

-- the side of the grid, and the matrix whose blocks its ranks keep
pub record Distributed : Type 0 where
  pub side : ℕ
  pub matrix : Sparse

-- the block of each rank (i, j) has the shape of part (i, j)
abbrev pub HavePartShapes : ℕ → Extent → List Sparse → Type 0
HavePartShapes q shape blocks = (i j : ℕ) → i < q → j < q → (block_at blocks (i * q + j)).shape ≡ part_shape q shape i j

-- the blocks of a matrix of a shape over a grid of side q: one for each rank, of the shape of its part
pub record AreBlocks (s : Arithmetic) (q : ℕ) (shape : Extent) (blocks : List Sparse) : Type 0 where
  pub some : 0 < q
  pub few : q ≤ LARGEST_SIDE
  pub count : length blocks ≡ q * q
  pub shapes : HavePartShapes q shape blocks
  pub matrices : (r : ℕ) → r < length blocks → IsMatrix s (block_at blocks r)

-- these blocks over a grid of side q have this many entries in all
abbrev pub HaveEntries : Arithmetic → ℕ → Extent → List Sparse → ℕ → Type 0
HaveEntries s q shape blocks n = AreBlocks s q shape blocks × (n ≡ length (glued_blocks s q shape blocks).entries)

-- the block with number n in a list, followed by the entries of the one with this number in another list
abbrev pub joined_block : List Sparse → List Sparse → ℕ → Sparse
joined_block blocks others n = with_entries (block_at blocks n) (block_at others n).entries

-- each block of a list may be followed by the entries of the one with its number in another list
pub record MayBeAppended (s : Arithmetic) (blocks others : List Sparse) : Type 0 where
  pub count : length others ≡ length blocks
  pub shapes : (r : ℕ) → r < length others → (block_at others r).shape ≡ (block_at blocks r).shape
  pub matrices : (r : ℕ) → r < length others → IsMatrix s (joined_block blocks others r)

-- the blocks of a list, each followed by the entries of the one with its number in another list
pub record AreAppended (blocks others new : List Sparse) : Type 0 where
  pub count : length new ≡ length blocks
  pub each : (r : ℕ) → r < length others → block_at new r ≡ joined_block blocks others r
