-- What was posted on a lane, and what was taken from it, as lists of letters.
use Rattle.std.specs.Prelude.{ℕ, ◌≡◌, ◌<◌, Bool, true, false, List, [], ◌∷◌, ◌++◌, length, take, ◌⊎◌}
use Rattle.cb_letters.specs.declared.Letter.{Letter}
use Rattle.cb_letters.specs.declared.Taken.{Taken}
use Rattle.cb_letters.specs.declared.Taken.TheVariants as Answers
use Rattle.cb_letters.specs.Letters.{is_close}
use Rattle.cb_letters.specs.Standing.{Standing}

module _ {P : Type 0} where
  -- the last of the letters is a close mark
  abbrev pub ends_closed : List (Letter P) → Bool
  ends_closed [] = false
  ends_closed (x ∷ []) = is_close x.body
  ends_closed (x ∷ (y ∷ ys)) = ends_closed (y ∷ ys)

  -- only the last of the letters may be a close mark: no proper prefix of them ends with one
  abbrev pub NothingAfterClose : List (Letter P) → Type 0
  NothingAfterClose xs = (k : ℕ) → k < length xs → ends_closed (take k xs) ≡ false

  -- how a lane stands once this sender has posted these letters on it, if there is such a lane
  abbrev pub standing_by : ℕ → Bool → List (Letter P) → Standing
  standing_by sender is_stranger xs = record { sender = sender; is_stranger = is_stranger; is_closed = ends_closed xs; posted = length xs }

  -- the answer is that the lane has ended
  abbrev pub is_end : Taken P → Bool
  is_end (Answers.Letter x) = false
  is_end Answers.End = true
  is_end Answers.Empty = false
  is_end Answers.Stranger = false

  -- what was taken grows from old to new by a take with this answer
  abbrev pub GrowsBy : List (Letter P) → List (Letter P) → Taken P → Type 0
  GrowsBy old new (Answers.Letter x) = (new ≡ old ++ x ∷ []) × (x.number ≡ length old)
  GrowsBy old new Answers.End = (new ≡ old) ⊎ ((x : Letter P) × (new ≡ old ++ x ∷ []))
  GrowsBy old new Answers.Empty = new ≡ old
  GrowsBy old new Answers.Stranger = new ≡ old
