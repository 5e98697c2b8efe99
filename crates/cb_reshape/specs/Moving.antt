-- A part of some entries, moved to another place.
use Rattle.std.specs.Prelude.{ℕ, ◌+◌, ◌-◌, ◌≤◌, Bool, ◌&&◌, nat_le, nat_lt, List, map, filter}
use Rattle.cb_matrix.specs.declared.Entry.{Entry}
use Rattle.cb_matrix.specs.declared.TheConstants.{LIMIT}
use Rattle.cb_matrix.specs.Sparse.{Extent}
use Rattle.cb_reshape.specs.declared.parts.Part.{Part}

-- whether a number is in a range, the end excluded
abbrev pub is_within : ℕ × ℕ → ℕ → Bool
is_within range n = nat_le range.0 n && nat_lt n range.1

-- whether an entry is in the rows and columns of the part
abbrev pub is_in : Part → Entry → Bool
is_in part e = is_within part.rows e.row && is_within part.cols e.column

-- an entry of the part, moved so that the part's first row and column are at its corner
abbrev pub moved_entry : Part → Entry → Entry
moved_entry part e = record {
  row = e.row - part.rows.0 + part.corner.0;
  column = e.column - part.cols.0 + part.corner.1;
  value = e.value;
}

-- the entries of the part, moved
abbrev pub moved_entries : Part → List Entry → List Entry
moved_entries part es = map (moved_entry part) (filter (is_in part) es)

-- The part's ranges don't end before they begin, and the moved part is inside the shape, which is within the limit.
pub record Fits (shape : Extent) (part : Part) : Type 0 where
  pub rows : part.rows.0 ≤ part.rows.1
  pub cols : part.cols.0 ≤ part.cols.1
  pub last_row : part.corner.0 + (part.rows.1 - part.rows.0) ≤ shape.rows
  pub last_column : part.corner.1 + (part.cols.1 - part.cols.0) ≤ shape.cols
  pub limits : (shape.rows ≤ LIMIT) × (shape.cols ≤ LIMIT)
