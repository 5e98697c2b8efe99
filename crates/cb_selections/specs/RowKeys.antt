-- Keys of a column's entries in listed rows.
use Rattle.std.specs.Prelude.{◌≡◌, ◌≢◌, ℕ, ◌+◌, ◌*◌, ◌/◌, ◌%◌, ◌<◌, ◌≤◌, List, length, slice_index, All, AllPairs, Contains}
use Rattle.cb_selections.specs.declared.sorted_rows.TheConstants.{ENTRIES}

-- A key is that of an entry in a listed row: the row's place in the list, and then the entry's in its column.
pub record IsKey (listed rows : List ℕ) (key : ℕ) : Type 0 where
  pub place : key / ENTRIES < length listed
  pub entry : key % ENTRIES < length rows
  pub row : slice_index listed (key / ENTRIES) ≡ slice_index rows (key % ENTRIES)

-- These are the keys of all of them, each once.
pub record AreKeys (listed rows keys : List ℕ) : Type 0 where
  pub few : length rows ≤ ENTRIES
  pub each : All (IsKey listed rows) keys
  pub all : (i n : ℕ) → i < length listed → n < length rows → slice_index listed i ≡ slice_index rows n → Contains keys (i * ENTRIES + n)
  pub distinct : AllPairs (λ x y. x ≢ y) keys
