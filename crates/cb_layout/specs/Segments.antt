-- A matrix over a grid, column by column: each column has one segment for each block with entries in it.
use Rattle.std.specs.Prelude.{◌≡◌, ℕ, ◌+◌, ◌<◌, ◌≤◌, ◌==◌, ◌&&◌, ◌||◌, nat_lt, nat_le, Bool, List, map, filter, length, slice_index}
use Rattle.cb_semirings.specs.Arithmetic.{Arithmetic}
use Rattle.cb_matrix.specs.declared.Entry.{Entry}
use Rattle.cb_matrix.specs.declared.TheConstants.{LIMIT}
use Rattle.cb_matrix.specs.Sparse.{Extent, Sparse}
use Rattle.cb_dcsc.specs.Compressed.{entries_in}
use Rattle.cb_grid.specs.declared.TheConstants.{LARGEST_SIDE}
use Rattle.cb_grid.specs.Parts.{part_start}
use Rattle.cb_grid.specs.Blocks.{part_with, place_in_part, glued_blocks}
use Rattle.cb_layout.specs.Distributed.{AreBlocks}
use Rattle.cb_layout.specs.Fronts.{IsFront}
use Rattle.cb_layout.specs.declared.front.Front.{Front}
use Rattle.cb_layout.specs.declared.traversal.Segment.{Segment}

-- the entries of one column, with rows counted from `top`
abbrev pub shifted : ℕ → ℕ → List ℕ → List ℕ → List Entry
shifted top column rows values = entries_in column (map (λ i. top + i) rows) values

-- the entries of a segment
abbrev pub entries_of : Segment → List Entry
entries_of g = shifted g.top g.column g.rows.now g.values.now

-- whether an entry stands in its block's next column or after it
abbrev pub is_left : ℕ → Extent → Front → Entry → Bool
is_left q shape f e =
    nat_lt f.column (part_with q shape.cols e.column)
    || ((part_with q shape.cols e.column == f.column)
    && nat_le (slice_index f.columns (part_with q shape.rows e.row)) (place_in_part q shape.cols e.column))

-- the entries of the whole matrix that are left
abbrev pub entries_left : Arithmetic → ℕ → Extent → List Sparse → Front → List Entry
entries_left s q shape blocks f = filter (is_left q shape f) (glued_blocks s q shape blocks).entries

-- a walk over a matrix on a grid: its blocks, how far it has come, and where each row part begins
pub record AreSegments (s : Arithmetic) (q : ℕ) (shape : Extent) (blocks : List Sparse) (f : Front) (tops : List ℕ) : Type 0 where
  pub are_blocks : AreBlocks s q shape blocks
  pub front : IsFront q shape blocks f
  pub limit : shape.rows ≤ LIMIT
  pub all : length tops ≡ LARGEST_SIDE
  pub begin : (i : ℕ) → i < q → slice_index tops i ≡ part_start q shape.rows i
