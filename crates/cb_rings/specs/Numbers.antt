-- The numbers of the letters of a lane, on which both ends rely.
use Rattle.std.specs.Prelude.{ℕ, ◌≡◌, ◌<◌, true, List, length, slice_index_or}
use Rattle.cb_letters.specs.declared.Letter.{Letter}
use Rattle.cb_letters.specs.Letters.{is_close}
use Rattle.cb_letters.specs.Standing.{last_number}

module _ {P : Type 0} where
  -- a letter may follow these: it has the next number, which isn't the last of its type, and a close mark has tag 0
  abbrev pub IsNext : List (Letter P) → Letter P → Type 0
  IsNext before x = (x.number ≡ length before) × (x.number < last_number) × (is_close x.body ≡ true → x.tag.0 ≡ 0)

  -- a letter has this number, and tag 0 if it is a close mark
  abbrev pub IsNumbered : ℕ → Letter P → Type 0
  IsNumbered n x = (x.number ≡ n) × (is_close x.body ≡ true → x.tag.0 ≡ 0)

  -- each letter is numbered by its place
  abbrev pub AreNumbered : List (Letter P) → Type 0
  AreNumbered xs = (k : ℕ) (d : Letter P) → k < length xs → IsNumbered k (slice_index_or xs k d)
