-- What kernels make on their way to a selection, and what lets them copy whole lists.
use Rattle.std.specs.Prelude.{◌≡◌, ℕ, ◌<◌, ◌≤◌, ◌-◌, Bool, true, false, cond, length, get_or, map, List}
use Rattle.cb_semirings.specs.Arithmetic.{Arithmetic}
use Rattle.cb_matrix.specs.declared.Entry.{Entry}
use Rattle.cb_dcsc.specs.Columns.{row_value}
use Rattle.cb_operations.specs.declared.regions.Region.{Region}
use Rattle.cb_operations.specs.declared.regions.Region.TheVariants.{Lower, Upper, On, Off}
use Rattle.cb_operations.specs.declared.functions.Function.{Function}
use Rattle.cb_operations.specs.declared.functions.Function.TheVariants.{Constant, Sum, LeftProduct, RightProduct, Row, Column}
use Rattle.cb_operations.specs.Functions.{function_value}
use Rattle.cb_operations.specs.SelectionAnswers.{pair_value}
use Rattle.cb_selections.specs.Extracted.{is_between}

-- whether the rows of a region follow one another in each column
abbrev pub is_one_range : Region → Bool
is_one_range (Lower d) = true
is_one_range (Upper d) = true
is_one_range (On d) = true
is_one_range (Off d) = false

-- whether the result of a function depends on the column
abbrev pub depends_on_column : Function → Bool
depends_on_column (Constant n) = false
depends_on_column (Sum n) = false
depends_on_column (LeftProduct n) = false
depends_on_column (RightProduct n) = false
depends_on_column Row = false
depends_on_column Column = true

-- a number is the result of a function for a value, in its row and in column 0
abbrev pub IsResult : Arithmetic → Function → ℕ → ℕ → ℕ → Type 0
IsResult s function row value made = made ≡ function_value s function row 0 value

-- These are what a rule makes of rows and values, one by one.
pub record AreMade (IsMade : ℕ → ℕ → ℕ → Type 0) (rows values made : List ℕ) : Type 0 where
  pub as_long : length made ≡ length values
  pub each : (k : ℕ) → k < length rows → IsMade (get_or rows k 0) (get_or values k 0) (get_or made k 0)

-- the result of a function for each entry
abbrev pub results_of : Arithmetic → Function → List Entry → List ℕ
results_of s function es = map (λ e. function_value s function e.row e.column e.value) es

-- The first n of these numbers are those below c.
pub record IsFirstFrom (numbers : List ℕ) (c n : ℕ) : Type 0 where
  pub within : n ≤ length numbers
  pub below : (k : ℕ) → k < n → get_or numbers k 0 < c
  pub from : (k : ℕ) → n ≤ k → k < length numbers → c ≤ get_or numbers k 0

-- the kept rows and values are a column whose rows in a range are replaced by those of another one, moved to the range
abbrev pub HasRowsReplaced : ℕ → ℕ × ℕ → List ℕ → List ℕ → List ℕ → List ℕ → List ℕ → List ℕ → Type 0
HasRowsReplaced z range rows values part_rows part_values kept_rows kept_values =
    (i : ℕ) → row_value z kept_rows kept_values i
    ≡ cond (is_between range.0 range.1 i) (row_value z part_rows part_values (i - range.0)) (row_value z rows values i)

-- the kept rows and values are the Kronecker product of two columns, of which the second has h rows
abbrev pub IsPaired : Arithmetic → ℕ → List ℕ → List ℕ → List ℕ → List ℕ → List ℕ → List ℕ → Type 0
IsPaired s h left_rows left_values rows values kept_rows kept_values =
    (i : ℕ) → row_value s.zero kept_rows kept_values i
    ≡ pair_value s h (row_value s.zero left_rows left_values) (row_value s.zero rows values) i
