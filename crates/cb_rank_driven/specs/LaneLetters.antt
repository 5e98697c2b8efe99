-- The letters of a rank's lanes, by the rank at the other end, oldest first, and for how many there is room.
use Rattle.std.specs.Prelude.{ℕ, ◌<◌, List, [], length, get_or}
use Rattle.cb_letters.specs.declared.Letter.{Letter}

pub record LettersView (P : Type 0) : Type 0 where
  pub letters : List (List (Letter P))
  pub room : List ℕ

-- there is room for one more letter of this rank
abbrev pub HasRoom : {P : Type 0} → LettersView P → ℕ → Type 0
HasRoom n k = length (get_or n.letters k []) < get_or n.room k 0
