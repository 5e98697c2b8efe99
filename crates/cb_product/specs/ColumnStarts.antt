-- The index of a block's columns: where the entries of each column are among all entries.
use Rattle.std.specs.Prelude.{◌≡◌, ◌≢◌, ℕ, ◌+◌, ◌*◌, ◌/◌, ◌%◌, ◌^◌, ◌<◌, ◌≤◌, List, length, slice_index, slice_range, All}
use Rattle.cb_matrix.specs.Sparse.{Sparse}
use Rattle.cb_dcsc.specs.Columns.{in_column}
use Rattle.cb_product.specs.declared.column_index.TheConstants.{NONE}
use Rattle.cb_product.specs.declared.column_index.ColumnIndex.{ColumnIndex}
use Rattle.cb_product.specs.declared.column_index.ColumnIndex.TheVariants.{Starts, Hashed, Searched}

-- Where each column of the shape starts and the last one ends. Column j has the entries from its start up to the next start.
pub record AreColumnStarts (m : Sparse) (starts : List ℕ) : Type 0 where
  pub count : length starts ≡ m.shape.cols + 1
  pub rising : (j : ℕ) → j < m.shape.cols → slice_index starts j ≤ slice_index starts (j + 1)
  pub within : (j : ℕ) → j < m.shape.cols → slice_index starts (j + 1) ≤ length m.entries
  pub entries : (j : ℕ) → j < m.shape.cols → slice_range m.entries (slice_index starts j) (slice_index starts (j + 1)) ≡ in_column j m.entries

-- the slot of a column, by its hash: the column times 2654435769 in 32 bits, without its `shift` lowest bits
abbrev pub slot_of : ℕ → ℕ → ℕ
slot_of column shift = column * 2654435769 % 2 ^ 32 / 2 ^ (shift % 32)

-- a column's slot holds a place: it doesn't hold NONE
abbrev pub IsNoted : List ℕ → ℕ → ℕ → Type 0
IsNoted places shift column = slice_index places (slot_of column shift) ≢ NONE

-- What an index tells of a matrix: where each column starts; or, if columns are hashed, that the slot of each column with
-- entries holds a place. Which column is at that place is checked at run time, so no more is needed.
abbrev pub Tells : ColumnIndex → Sparse → Type 0
Tells (Starts starts) m = AreColumnStarts m starts.items
Tells (Hashed places shift) m = All (λ e. IsNoted places.items shift e.column) m.entries
Tells Searched m = Unit
