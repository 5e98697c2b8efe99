-- A sparse column: the rows and the values of its entries.
use Rattle.std.specs.Prelude.{◌≡◌, ◌≢◌, ℕ, ◌<◌, ◌==◌, cond, Option, Some, None, List, length, take, drop, All, AllPairs}
use Rattle.cb_semirings.specs.Arithmetic.{Arithmetic, IsValue}
use Rattle.cb_dcsc.specs.Columns.{row_value}

pub record SparseColumn : Type 0 where
  pub rows : List ℕ
  pub values : List ℕ

-- the rows ascend, and each has a value other than zero
pub record IsSparseColumn (s : Arithmetic) (rows values : List ℕ) : Type 0 where
  pub same_length : length values ≡ length rows
  pub ascending : AllPairs (λ i j. i < j) rows
  pub are_values : All (IsValue s) values
  pub not_zero : All (λ v. v ≢ s.zero) values

-- the value of a column at row i
abbrev pub value_in : ℕ → SparseColumn → ℕ → ℕ
value_in z c i = row_value z c.rows c.values i

-- at each row i the column has f i
abbrev pub IsColumnOf : Arithmetic → (ℕ → ℕ) → SparseColumn → Type 0
IsColumnOf s f c = (i : ℕ) → value_in s.zero c i ≡ f i

-- at each row i the new column has f i more than the old one
abbrev pub AddsToColumn : Arithmetic → (ℕ → ℕ) → SparseColumn → SparseColumn → Type 0
AddsToColumn s f old new = (i : ℕ) → value_in s.zero new i ≡ s.add (value_in s.zero old i) (f i)

-- the value at row i of a column's entries from the n-th on
abbrev pub rest_value : ℕ → List ℕ → List ℕ → ℕ → ℕ → ℕ
rest_value z rows values n i = row_value z (drop n rows) (drop n values) i

-- the value at row i of a column with one entry, a row and its value
abbrev pub one_value : ℕ → ℕ × ℕ → ℕ → ℕ
one_value z t i = cond (t.0 == i) t.1 z

-- a value times a factor, if there is one
abbrev pub scaled : Arithmetic → ℕ → Option ℕ → ℕ
scaled s v None = v
scaled s v (Some k) = s.mul v k

-- the value at row i of a column, times a factor if there is one
abbrev pub scaled_at : Arithmetic → List ℕ → List ℕ → Option ℕ → ℕ → ℕ
scaled_at s rows values scale i = scaled s (row_value s.zero rows values i) scale

-- the value at row i of a column's entries from the n-th on, times a factor if there is one
abbrev pub scaled_rest : Arithmetic → List ℕ → List ℕ → Option ℕ → ℕ → ℕ → ℕ
scaled_rest s rows values scale n i = scaled s (rest_value s.zero rows values n i) scale

-- the value at row i of the sum of two columns, the second times a factor if there is one
abbrev pub joined_value : Arithmetic → List ℕ → List ℕ → List ℕ → List ℕ → Option ℕ → ℕ → ℕ
joined_value s own_rows own_values rows values scale i = s.add (row_value s.zero own_rows own_values i) (scaled_at s rows values scale i)

-- the value at row i of the sum of two columns, each times a factor if there is one
abbrev pub both_value : Arithmetic → List ℕ → List ℕ → Option ℕ → List ℕ → List ℕ → Option ℕ → ℕ → ℕ
both_value s own_rows own_values own_scale rows values scale i = s.add (scaled_at s own_rows own_values own_scale i) (scaled_at s rows values scale i)

-- the rows and values of a column whose rows are below a bound; a value may be zero
pub record AreEntries (s : Arithmetic) (bound : ℕ) (rows values : List ℕ) : Type 0 where
  pub same_length : length values ≡ length rows
  pub ascending : AllPairs (λ i j. i < j) rows
  pub inside : All (λ i. i < bound) rows
  pub are_values : All (IsValue s) values

-- the column of the first n of these entries
abbrev pub first_entries : ℕ → List ℕ → List ℕ → SparseColumn
first_entries n rows values = record { rows = take n rows; values = take n values }
