-- Rows that are listed.
use Rattle.std.specs.Prelude.{◌≡◌, ℕ, ◌<◌, List, length, slice_index, All, AllPairs, Contains}
use Rattle.cb_dcsc.specs.Columns.{row_value}

-- A table with a number for each row below a bound: a place of it in the list, or a number past the end of the list.
pub record HoldPlaces (bound : ℕ) (listed places : List ℕ) : Type 0 where
  pub count : length places ≡ bound
  pub held : (r : ℕ) → r < bound → slice_index places r < length listed → slice_index listed (slice_index places r) ≡ r

-- A table with a number for each row below a bound: where each listed row is in the list, and past its end for all others.
pub record ArePlaces (bound : ℕ) (listed places : List ℕ) : Type 0 where
  pub count : length places ≡ bound
  pub own : (i : ℕ) → i < length listed → slice_index places (slice_index listed i) ≡ i
  pub held : (r : ℕ) → r < bound → slice_index places r < length listed → slice_index listed (slice_index places r) ≡ r

-- The kept rows and values are a column's entries in listed rows, each at its row's place in the list.
pub record IsListed (listed rows values kept_rows kept_values : List ℕ) : Type 0 where
  pub same_length : length kept_values ≡ length kept_rows
  pub ascending : AllPairs (λ i j. i < j) kept_rows
  pub inside : All (λ i. i < length listed) kept_rows
  pub held : All (Contains values) kept_values
  pub value : (z i : ℕ) → i < length listed → row_value z kept_rows kept_values i ≡ row_value z rows values (slice_index listed i)
