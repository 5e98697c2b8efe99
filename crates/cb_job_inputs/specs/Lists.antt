-- Lists of numbers of rows, of columns or of vertices, each in a text of its own.
use Rattle.std.specs.Prelude.{ℕ, ◌≡◌, ◌≢◌, ◌⊎◌, List, length, ◌-◌, ◌≤◌, map, All}
use Rattle.cb_matrix.specs.Sparse.{Sparse}
use Rattle.cb_dcsc.specs.Columns.{values_of}
use Rattle.cb_operations.specs.declared.refusals.Refusal.{Refusal}
use Rattle.cb_operations.specs.declared.refusals.Refusal.TheVariants.{NotColumn}

-- the numbers that a column lists, counted from 0; in the column they count from 1
abbrev pub numbers_in : Sparse → List ℕ
numbers_in m = map (λ x. x - 1) (values_of m.entries)

-- a number from 1 to n
abbrev pub IsNumberTo : ℕ → ℕ → Type 0
IsNumberTo n x = (1 ≤ x) × (x ≤ n)

-- each place of a column has a number from 1 to n
abbrev pub AreNumbersTo : ℕ → Sparse → Type 0
AreNumbersTo n m = (length m.entries ≡ m.shape.rows) × All (IsNumberTo n) (values_of m.entries)

-- a matrix lists numbers from 1 to n: it is a column that has one in each place
abbrev pub IsList : ℕ → Sparse → Type 0
IsList n m = (m.shape.cols ≡ 1) × AreNumbersTo n m

-- why a matrix lists no numbers from 1 to n: it isn't a column; else a place has no such number, for which there is a refusal
abbrev pub IsListRefusal : Refusal → ℕ → Sparse → Refusal → Type 0
IsListRefusal missing n m refusal =
    ((refusal ≡ NotColumn) × (m.shape.cols ≢ 1)) ⊎ ((refusal ≡ missing) × (m.shape.cols ≡ 1) × ¬ AreNumbersTo n m)
