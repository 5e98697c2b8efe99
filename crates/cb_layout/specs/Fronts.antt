-- Fronts: how far the walk over the blocks in one column of the grid has come.
use Rattle.std.specs.Prelude.{◌≡◌, ℕ, ◌+◌, ◌*◌, ◌<◌, ◌≤◌, List, length, slice_index, slice_index_or, IfSome, IfNone}
use Rattle.cb_matrix.specs.declared.TheConstants.{LIMIT}
use Rattle.cb_matrix.specs.Sparse.{Extent, Sparse}
use Rattle.cb_dcsc.specs.Columns.{columns_with_entries}
use Rattle.cb_grid.specs.declared.TheConstants.{LARGEST_SIDE}
use Rattle.cb_grid.specs.Parts.{part_start}
use Rattle.cb_grid.specs.Blocks.{block_at}
use Rattle.cb_layout.specs.declared.front.Front.{Front}
use Rattle.cb_layout.specs.declared.front.TheConstants.{NO_COLUMN}

-- the columns that have entries in the block in row i and column j of the grid
abbrev pub columns_in : ℕ → List Sparse → ℕ → ℕ → List ℕ
columns_in q blocks j i = columns_with_entries (block_at blocks (i * q + j)).entries

-- of the first q rows, row i is the first that has the least column
pub record IsLeast (q : ℕ) (columns : List ℕ) (i column : ℕ) : Type 0 where
  pub row : i < q
  pub there : column ≡ slice_index columns i
  pub some : column < NO_COLUMN
  pub least : (k : ℕ) → k < q → column ≤ slice_index columns k
  pub first : (k : ℕ) → k < i → column < slice_index columns k

-- for each row of the grid the next column of its block, or a number past all columns if there is none
abbrev pub AreNext : ℕ → List Sparse → ℕ → List ℕ → List ℕ → Type 0
AreNext q blocks j done columns =
    (k : ℕ) → k < q → slice_index columns k ≡ slice_index_or (columns_in q blocks j k) (slice_index done k) NO_COLUMN

-- a front agrees with the blocks over a grid of side q
pub record IsFront (q : ℕ) (shape : Extent) (blocks : List Sparse) (f : Front) : Type 0 where
  pub column : f.column < q
  pub few : q ≤ LARGEST_SIDE
  pub limit : shape.cols ≤ LIMIT
  pub left : f.left ≡ part_start q shape.cols f.column
  pub all_done : length f.done ≡ LARGEST_SIDE
  pub all_columns : length f.columns ≡ LARGEST_SIDE
  pub next : AreNext q blocks f.column f.done f.columns
  pub some : IfSome f.first (λ t. IsLeast q f.columns t.0 t.1)
  pub none : IfNone f.first ((k : ℕ) → k < q → NO_COLUMN ≤ slice_index f.columns k)
