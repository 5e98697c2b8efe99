-- Dense sums: a list with the sum of each row at the row's place.
use Rattle.std.specs.Prelude.{◌≡◌, ℕ, ◌<◌, List, slice_index_or}
use Rattle.cb_semirings.specs.Arithmetic.{Arithmetic}
use Rattle.cb_product.specs.SparseColumn.{SparseColumn, value_in}

-- f i is added to the sum of each row i below a number
abbrev pub AddsToSums : Arithmetic → ℕ → (ℕ → ℕ) → List ℕ → List ℕ → Type 0
AddsToSums s rows f old new = (i : ℕ) → i < rows → slice_index_or new i s.zero ≡ s.add (slice_index_or old i s.zero) (f i)

-- a sum of zero stays zero
abbrev pub ZerosStay : ℕ → List ℕ → List ℕ → Type 0
ZerosStay z old new = (i : ℕ) → slice_index_or old i z ≡ z → slice_index_or new i z ≡ z

-- a column's value at row i, plus the sum of row i
abbrev pub column_and_sum : Arithmetic → SparseColumn → List ℕ → ℕ → ℕ
column_and_sum s c sums i = s.add (value_in s.zero c i) (slice_index_or sums i s.zero)
