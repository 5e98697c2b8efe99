-- Marks of rows, a bit for each row in words of 64, and a second level: marks of the words that aren't zero.
use Rattle.std.specs.Prelude.{◌≡◌, ℕ, ◌*◌, ◌/◌, ◌%◌, ◌≤◌, ◌<◌, ◌^◌, List, length, slice_index, slice_index_or, All}
use Rattle.std.specs.Int.{bit_at}
use Rattle.cb_semirings.specs.Arithmetic.{Arithmetic, IsValue}

-- the mark of row i, 1 or 0
abbrev pub mark_of : List ℕ → ℕ → ℕ
mark_of words i = bit_at (slice_index words (i / 64)) (i % 64)

-- no row is marked
abbrev pub MarksNone : List ℕ → Type 0
MarksNone words = (i : ℕ) → mark_of words i ≡ 0

-- Each sum other than zero is marked, and so is each word of marks other than zero.
pub record AreMarked (zero : ℕ) (sums marks groups : List ℕ) : Type 0 where
  pub room : length sums ≤ 64 * length marks
  pub groups_room : length marks ≤ 64 * length groups
  pub limit : length sums < 2 ^ 32
  pub groups_limit : length groups < 2 ^ 32
  pub inside : (i : ℕ) → length sums ≤ i → mark_of marks i ≡ 0
  pub groups_inside : (n : ℕ) → length marks ≤ n → mark_of groups n ≡ 0
  pub unmarked : (i : ℕ) → mark_of marks i ≡ 0 → slice_index_or sums i zero ≡ zero
  pub no_group : (n : ℕ) → mark_of groups n ≡ 0 → slice_index marks n ≡ 0

-- dense sums of a semiring, with their marks
pub record IsAccumulator (s : Arithmetic) (sums marks groups : List ℕ) : Type 0 where
  pub values : All (IsValue s) sums
  pub marked : AreMarked s.zero sums marks groups

-- words are zero before a first one, and from another one on
pub record IsZeroOutside (first end : ℕ) (words : List ℕ) : Type 0 where
  pub before : (k : ℕ) → k < first → slice_index words k ≡ 0
  pub after : (k : ℕ) → end ≤ k → slice_index words k ≡ 0
