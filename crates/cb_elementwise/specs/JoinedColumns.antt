-- Two columns joined, row by row.
use Rattle.std.specs.Prelude.{◌≡◌, ℕ, ◌<◌, ◌≤◌, Bool, true, false, List, [], length, take, slice_index, All}
use Rattle.cb_semirings.specs.Arithmetic.{Arithmetic}
use Rattle.cb_dcsc.specs.Columns.{row_value}
use Rattle.cb_product.specs.SparseColumn.{IsSparseColumn}

-- these rows and values are a column that has at each row what f makes of the values of two columns there
abbrev pub IsJoined : ℕ → (ℕ → ℕ → ℕ) → List ℕ → List ℕ → List ℕ → List ℕ → List ℕ → List ℕ → Type 0
IsJoined z f left_rows left_values right_rows right_values rows values =
    (i : ℕ) → row_value z rows values i ≡ f (row_value z left_rows left_values i) (row_value z right_rows right_values i)

-- items that are kept, or none
abbrev pub where_kept : {T : Type 0} → Bool → List T → List T
where_kept true xs = xs
where_kept false xs = []

-- these rows are before the n-th of others, if there is one
abbrev pub AreBefore : List ℕ → List ℕ → ℕ → Type 0
AreBefore rows others n = n < length others → All (λ i. i < slice_index others n) rows

-- These rows and values are a column of the first x entries of one column and the first y of another, joined. What is joined
-- is before the other entries.
pub record IsJoinedTo (s : Arithmetic) (f : ℕ → ℕ → ℕ) (left_rows left_values right_rows right_values : List ℕ) (x y : ℕ) (rows values : List ℕ) : Type 0 where
  pub left_within : x ≤ length left_rows
  pub right_within : y ≤ length right_rows
  pub column : IsSparseColumn s rows values
  pub before_left : AreBefore rows left_rows x
  pub before_right : AreBefore rows right_rows y
  pub left_passed : AreBefore (take x left_rows) right_rows y
  pub right_passed : AreBefore (take y right_rows) left_rows x
  pub joined : IsJoined s.zero f (take x left_rows) (take x left_values) (take y right_rows) (take y right_values) rows values
