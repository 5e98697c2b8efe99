-- Panels of a matrix, each with a range of its columns, and where such ranges end.
use Rattle.std.specs.Prelude.{◌≡◌, ℕ, ◌<◌, ◌≤◌, ◌-◌, List, length, filter, slice_index, All, AllPairs}
use Rattle.std.specs.List.{range_with_len}
use Rattle.cb_semirings.specs.Arithmetic.{Arithmetic}
use Rattle.cb_matrix.specs.declared.Entry.{Entry}
use Rattle.cb_matrix.specs.Sparse.{Sparse, IsMatrix}
use Rattle.cb_dcsc.specs.Columns.{columns_with_entries}
use Rattle.cb_product.specs.InColumns.{is_among, only_columns}

-- the columns from one up to, but not including, another
abbrev pub columns_from : ℕ → ℕ → List ℕ
columns_from first end = range_with_len first (end - first)

-- the entries that are in listed columns
abbrev pub among_entries : List ℕ → List Entry → List Entry
among_entries columns es = filter (λ e. is_among columns e.column) es

-- these columns of a matrix, in the shape of the whole
abbrev pub panel : Sparse → ℕ → ℕ → Sparse
panel m first end = only_columns (columns_from first end) m

-- Where each of so many ranges of columns ends, one after another, and the next begins: none ends before the one in front of
-- it, and the last one ends with the last column.
pub record AreEnds (count cols : ℕ) (ends : List ℕ) : Type 0 where
  pub as_many : length ends ≡ count
  pub ascending : AllPairs (λ c d. c ≤ d) ends
  pub last : 0 < count → slice_index ends (count - 1) ≡ cols

-- each column that has some of the first entries is before each that has some of the others
abbrev pub AreBefore : List Entry → List Entry → Type 0
AreBefore front back = All (λ c. All (λ d. c < d) (columns_with_entries back)) (columns_with_entries front)

-- If two matrices are neighbouring panels of another one, a third is the panel of both ranges. If these are all columns, it is
-- the whole matrix.
abbrev pub JoinsPanels : Arithmetic → Sparse → Sparse → Sparse → Type 0
JoinsPanels s front back made =
    (whole : Sparse) → IsMatrix s whole → (p q r : ℕ) → p ≤ q → q ≤ r → front ≡ panel whole p q → back ≡ panel whole q r
    → (made ≡ panel whole p r) × (p ≡ 0 → whole.shape.cols ≤ r → made ≡ whole)
