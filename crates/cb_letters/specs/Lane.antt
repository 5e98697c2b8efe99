-- The lane from one rank to another: a bounded queue that can be closed.
use Rattle.std.specs.Prelude.{ℕ, ◌≡◌, ◌<◌, ◌+◌, ◌==◌, Bool, true, false, ◌||◌, if◌then◌else◌, List, [], ◌∷◌, ◌++◌, length}
use Rattle.std.specs.Prelude.{Option, Some, None, nat_lt, drop, min, slice_index_or}
use Rattle.cb_letters.specs.declared.Body.{Body}
use Rattle.cb_letters.specs.declared.Letter.{Letter}
use Rattle.cb_letters.specs.declared.Tag.{Tag}
use Rattle.cb_letters.specs.declared.Taken.{Taken}
use Rattle.cb_letters.specs.declared.Taken.TheVariants as Answers
use Rattle.cb_letters.specs.declared.PostRefusal.{PostRefusal}
use Rattle.cb_letters.specs.declared.PostRefusal.TheVariants.{Closed, Spent, Full}
use Rattle.cb_letters.specs.Letters.{is_close}
use Rattle.cb_letters.specs.Standing.{last_number}
use Rattle.cb_letters.specs.Posted.{ends_closed, NothingAfterClose}

-- the letters that wait, oldest first; how many may wait; how many were taken; whether a close mark was posted
pub record Lane (P : Type 0) : Type 0 where
  pub queue : List (Letter P)
  pub capacity : ℕ
  pub taken : ℕ
  pub closed : Bool

module _ {P : Type 0} where
  -- nothing was posted
  abbrev pub new_lane : ℕ → Lane P
  new_lane capacity = record { queue = []; capacity = capacity; taken = 0; closed = false }

  -- how many letters were posted
  abbrev pub posted : Lane P → ℕ
  posted l = l.taken + length l.queue

  -- closed, with every letter taken
  abbrev pub IsDrained : Lane P → Type 0
  IsDrained l = (l.closed ≡ true) × (l.queue ≡ [])

  -- there is a free place
  abbrev pub HasRoom : Lane P → Type 0
  HasRoom l = length l.queue < l.capacity

  -- why a post or a close is refused
  abbrev pub refusal : Lane P → Option PostRefusal
  refusal l =
      if l.closed then Some Closed
      else (if posted l == last_number then Some Spent
      else (if nat_lt (length l.queue) l.capacity then None else Some Full))

  -- the lane with one more letter
  abbrev pub append : Lane P → Letter P → Lane P
  append l x = record l { queue = l.queue ++ x ∷ []; closed = l.closed || is_close x.body }

  -- a letter was accepted on the lane from one rank to another: nothing refused it, it got the next number, and it is
  -- queued last
  abbrev pub Accepts : Lane P → ℕ → ℕ → Tag → Body P → ℕ → Lane P → Type 0
  Accepts old from to tag body number new =
      (refusal old ≡ None)
      × (number ≡ posted old)
      × (new ≡ append old (record { from = from; to = to; number = number; tag = tag; body = body }))

  -- a letter from one rank to another with this number
  pub record IsAddressed (from to number : ℕ) (x : Letter P) : Type 0 where
    pub sender : x.from ≡ from
    pub addressee : x.to ≡ to
    pub numbered : x.number ≡ number

  -- a lane from one rank to another: its queued letters have these two ends, and numbers that continue those taken; only
  -- the last may be a close mark; and while letters are queued, the lane is closed exactly if the last is one
  pub record IsLane (from to : ℕ) (l : Lane P) : Type 0 where
    pub letters : (k : ℕ) (d : Letter P) → k < length l.queue → IsAddressed from to (l.taken + k) (slice_index_or l.queue k d)
    pub mark : NothingAfterClose l.queue
    pub closed : 0 < length l.queue → l.closed ≡ ends_closed l.queue

  -- what a take answers
  abbrev pub answer_at : Bool → List (Letter P) → Taken P
  answer_at true [] = Answers.End
  answer_at false [] = Answers.Empty
  answer_at closed (x ∷ xs) = if is_close x.body then Answers.End else Answers.Letter x

  abbrev pub take_answer : Lane P → Taken P
  take_answer l = answer_at l.closed l.queue

  -- the lane after a take: the oldest letter is gone, if there is one
  abbrev pub after_take : Lane P → Lane P
  after_take l = record l { queue = drop 1 l.queue; taken = l.taken + min 1 (length l.queue) }
