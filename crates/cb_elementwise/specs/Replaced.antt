-- Stored values replaced, row by row.
use Rattle.std.specs.Prelude.{◌≡◌, ℕ, List}
use Rattle.cb_dcsc.specs.Columns.{row_value}
use Rattle.cb_operations.specs.SelectionAnswers.{of_stored}

-- the kept rows and values are a column with f i applied to the value stored at each row i
abbrev pub IsReplaced : ℕ → (ℕ → ℕ → ℕ) → List ℕ → List ℕ → List ℕ → List ℕ → Type 0
IsReplaced z f rows values kept_rows kept_values =
    (i : ℕ) → row_value z kept_rows kept_values i ≡ of_stored z (f i) (row_value z rows values i)
