-- Sums over the columns of a matrix that are made in shares: each share adds up a range of columns, and then the shares are
-- added up, as lists of one number for each row.
use Rattle.std.specs.Prelude.{◌≡◌, ℕ, ◌<◌, ◌≤◌, List, [], ◌∷◌, length, slice_index_or, slice_range, All}
use Rattle.cb_semirings.specs.Arithmetic.{Arithmetic, IsValue}
use Rattle.cb_matrix.specs.Sparse.{Sparse, IsMatrix, at}
use Rattle.cb_operations.specs.declared.operations.Operation.{Operation}
use Rattle.cb_operations.specs.declared.operations.Operation.TheVariants.{MultiplyVector}
use Rattle.cb_operations.specs.declared.operations.Operation.TheVariants.{RowSums}
use Rattle.cb_operations.specs.OperationAnswers.{operand_count_of, Agree, answer_of, matrix_at, shapes_in}
use Rattle.cb_reshape.specs.Sums.{matrix_total}
use Rattle.cb_shares.specs.Shares.{panel}

-- a matrix with only its entries from one index up to, but not including, another
abbrev pub some_entries : ℕ → ℕ → Sparse → Sparse
some_entries from to m = record { shape = m.shape; entries = slice_range m.entries from to }

-- operations whose answer is a sum over the columns of their first operand, and has one column
abbrev pub IsSumOfColumns : Operation → Type 0
IsSumOfColumns MultiplyVector = Unit {0}
IsSumOfColumns RowSums = Unit {0}
IsSumOfColumns _ = ⊥

-- the first matrix with only the columns from one up to, but not including, another, and the other matrices
abbrev pub with_columns : ℕ → ℕ → List Sparse → List Sparse
with_columns first end [] = []
with_columns first end (m ∷ ms) = panel m first end ∷ ms

-- what these columns add to the answer
abbrev pub share_of : Operation → Arithmetic → List Sparse → ℕ → ℕ → Sparse
share_of operation s ms first end = answer_of operation s (with_columns first end ms)

-- A list has the value in each row of a matrix of one column.
pub record IsListOf (s : Arithmetic) (m : Sparse) (list : List ℕ) : Type 0 where
  pub as_long : length list ≡ m.shape.rows
  pub are_values : All (IsValue s) list
  pub value : (i : ℕ) → i < m.shape.rows → slice_index_or list i s.zero ≡ at s m i 0

-- a matrix of one column is the one that a list has the values of
abbrev pub IsColumnOf : Arithmetic → List ℕ → Sparse → Type 0
IsColumnOf s list m = (a : Sparse) → IsMatrix s a → a.shape.cols ≡ 1 → IsListOf s a list → m ≡ a

-- If two lists are the shares of neighbouring ranges of columns, a third is the share of both. If these are all columns, it is the
-- answer.
abbrev pub AddsShares : Arithmetic → List ℕ → List ℕ → List ℕ → Type 0
AddsShares s front back sum =
    (operation : Operation) (ms : List Sparse) → IsSumOfColumns operation → length ms ≡ operand_count_of operation → Agree operation (shapes_in ms) → All (IsMatrix s) ms
    → (p q r : ℕ) → p ≤ q → q ≤ r → IsListOf s (share_of operation s ms p q) front → IsListOf s (share_of operation s ms q r) back
    → IsListOf s (share_of operation s ms p r) sum × (p ≡ 0 → (matrix_at ms 0).shape.cols ≤ r → IsListOf s (answer_of operation s ms) sum)

-- the same of lists that have one number, the sum of all values in a range of columns
abbrev pub AddsTotals : Arithmetic → List ℕ → List ℕ → List ℕ → Type 0
AddsTotals s front back sum =
    (m : Sparse) → IsMatrix s m → (p q r : ℕ) → p ≤ q → q ≤ r → front ≡ matrix_total s (panel m p q) ∷ [] → back ≡ matrix_total s (panel m q r) ∷ []
    → (sum ≡ matrix_total s (panel m p r) ∷ []) × (p ≡ 0 → m.shape.cols ≤ r → sum ≡ matrix_total s m ∷ [])
