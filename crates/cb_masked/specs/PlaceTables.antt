-- A table of the places of numbers in a list.
use Rattle.std.specs.Prelude.{◌≡◌, ◌≢◌, ℕ, ◌<◌, ◌^◌, List, length, slice_index}
use Rattle.cb_masked.specs.declared.places.TheConstants.{NONE}

-- The slot of each number in the list, if it has one, holds the number's place, and all other slots hold NONE.
pub record AreNoted (slots numbers : List ℕ) : Type 0 where
  pub few : length numbers < 2 ^ 32
  pub listed : (n : ℕ) → n < length numbers → slice_index numbers n < length slots → slice_index slots (slice_index numbers n) ≡ n
  pub others : (k : ℕ) → k < length slots → ((n : ℕ) → n < length numbers → slice_index numbers n ≢ k) → slice_index slots k ≡ NONE
