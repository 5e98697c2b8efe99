-- Lists of posts and takes, and which of them are legal. What letters carry plays no part. So the same definitions
-- apply to a list that keeps no loads: its letters carry the unit type.
use Rattle.std.specs.Prelude.{ℕ, ◌≡◌, true, false, ◌&&◌, ◌==◌, if◌then◌else◌, List, [], ◌∷◌, ◌++◌, length, Some, slice_get}
use Rattle.cb_letters.specs.declared.Letter.{Letter}
use Rattle.cb_letters.specs.Letters.{is_close}
use Rattle.cb_letters.specs.Posted.{ends_closed}

-- on the lane from one rank to another a letter was posted, or taken; for a close mark this is the closing of the lane,
-- or its end
pub data Event (P : Type 0) : Type 0 where
  Sent : ℕ → ℕ → Letter P → Event P
  Got : ℕ → ℕ → Letter P → Event P

module _ {P : Type 0} where
  -- the letters posted on this lane
  abbrev pub posts_on : ℕ → ℕ → List (Event P) → List (Letter P)
  posts_on from to [] = []
  posts_on from to (Sent f t x ∷ es) = if (f == from) && (t == to) then x ∷ posts_on from to es else posts_on from to es
  posts_on from to (Got f t x ∷ es) = posts_on from to es

  -- the letters taken from it
  abbrev pub takes_on : ℕ → ℕ → List (Event P) → List (Letter P)
  takes_on from to [] = []
  takes_on from to (Sent f t x ∷ es) = takes_on from to es
  takes_on from to (Got f t x ∷ es) = if (f == from) && (t == to) then x ∷ takes_on from to es else takes_on from to es

  -- an event may follow these. A letter is posted on its own lane, which isn't closed, with the lane's next number, and a
  -- close mark has tag 0; the n-th letter taken is the n-th posted
  abbrev pub MayFollow : List (Event P) → Event P → Type 0
  MayFollow past (Sent from to x) =
      (x.from ≡ from) × (x.to ≡ to)
      × (x.number ≡ length (posts_on from to past))
      × (ends_closed (posts_on from to past) ≡ false)
      × (is_close x.body ≡ true → x.tag.0 ≡ 0)
  MayFollow past (Got from to x) = slice_get (posts_on from to past) (length (takes_on from to past)) ≡ Some x

  -- each event may follow those before it; the first list has the oldest
  abbrev pub AreLegalAfter : List (Event P) → List (Event P) → Type 0
  AreLegalAfter past [] = Unit {0}
  AreLegalAfter past (e ∷ es) = MayFollow past e × AreLegalAfter (past ++ e ∷ []) es

  -- a list of events that starts on new lanes is legal
  abbrev pub AreLegal : List (Event P) → Type 0
  AreLegal es = AreLegalAfter [] es
