-- Sums, one for each row of a list, and one more for all other rows.
use Rattle.std.specs.Prelude.{◌≡◌, ℕ, ◌+◌, ◌<◌, List, length, slice_index, slice_index_or, All}
use Rattle.cb_semirings.specs.Arithmetic.{Arithmetic, IsValue}
use Rattle.cb_dcsc.specs.Columns.{row_value}

-- there is one sum more than rows, and all sums are values
pub record AreSums (s : Arithmetic) (rows sums : List ℕ) : Type 0 where
  pub one_more : length sums ≡ length rows + 1
  pub are_values : All (IsValue s) sums

-- the sum of each row i in the list is f i
abbrev pub HaveEach : Arithmetic → List ℕ → (ℕ → ℕ) → List ℕ → Type 0
HaveEach s rows f sums = (n : ℕ) → n < length rows → slice_index_or sums n s.zero ≡ f (slice_index rows n)

-- f i is added to the sum of each row i in the list
abbrev pub AddsEach : Arithmetic → List ℕ → (ℕ → ℕ) → List ℕ → List ℕ → Type 0
AddsEach s rows f old new = (n : ℕ) → n < length rows → slice_index_or new n s.zero ≡ s.add (slice_index_or old n s.zero) (f (slice_index rows n))

-- two columns, given by their rows and values, have the same value at each row
abbrev pub HaveSameValues : ℕ → List ℕ → List ℕ → List ℕ → List ℕ → Type 0
HaveSameValues z rs vs rows values = (i : ℕ) → row_value z rs vs i ≡ row_value z rows values i
