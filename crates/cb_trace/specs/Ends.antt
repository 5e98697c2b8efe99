-- What a trace keeps of each lane, so that the next event is judged without looking at the earlier ones.
use Rattle.std.specs.Prelude.{ℕ, ◌≡◌, ◌+◌, ◌-◌, ◌*◌, ◌<◌, ◌==◌, Bool, true, false, if◌then◌else◌, List, length, Some, slice_get, slice_index, slice_set}
use Rattle.cb_letters.specs.declared.Letter.{Letter}
use Rattle.cb_letters.specs.Events.{Event, Sent, posts_on, takes_on}
use Rattle.cb_letters.specs.Posted.{ends_closed}
use Rattle.cb_trace.specs.declared.events.TraceEvent.{TraceEvent}
use Rattle.cb_trace.specs.declared.events.TraceEvent.TheVariants.{Posted, Took, Closed, Ended}
use Rattle.cb_trace.specs.declared.ends.LaneEnds.{LaneEnds}

-- the lane after a post, which is the event at this place
abbrev pub after_post : LaneEnds → ℕ → Bool → LaneEnds
after_post l place is_close =
    record { posted = l.posted + 1; taken = l.taken; is_closed = is_close; oldest = if l.taken == l.posted then place else l.oldest; newest = place }

-- the places that follow others, once the newest letter of this lane is followed by the event at this place
abbrev pub next_after_post : LaneEnds → ℕ → List ℕ → List ℕ
next_after_post l place next = if l.posted == 0 then next else slice_set next l.newest place

-- the lane after a take
abbrev pub after_take : LaneEnds → List ℕ → LaneEnds
after_take l next = record l { taken = l.taken + 1; oldest = slice_index next l.oldest }

-- the lane of this event after it, the event at this place
abbrev pub lane_after : TraceEvent → ℕ → List ℕ → LaneEnds → LaneEnds
lane_after (Posted e) place next l = after_post l place false
lane_after (Closed e) place next l = after_post l place true
lane_after (Took e) place next l = after_take l next
lane_after (Ended e) place next l = after_take l next

-- and the places that follow others
abbrev pub next_after : TraceEvent → ℕ → LaneEnds → List ℕ → List ℕ
next_after (Posted e) place l next = next_after_post l place next
next_after (Closed e) place l next = next_after_post l place next
next_after (Took e) place l next = next
next_after (Ended e) place l next = next

-- the places in which a lane's event is looked up or noted are below this number
abbrev pub IsWithin : TraceEvent → LaneEnds → ℕ → Type 0
IsWithin (Posted e) l room = 0 < l.posted → l.newest < room
IsWithin (Closed e) l room = 0 < l.posted → l.newest < room
IsWithin (Took e) l room = l.oldest < room
IsWithin (Ended e) l room = l.oldest < room

module _ {P : Type 0} where
  -- the event at this place is the post of the letter with this number on the lane from one rank to another
  pub record IsPost (past : List (Event P)) (from to place number : ℕ) : Type 0 where
    pub letter : Letter P
    pub found : slice_get past place ≡ Some (Sent from to letter)
    pub numbered : letter.number ≡ number

  -- what is kept of the lane from one rank to another after these events. `next` has, at the place of a letter's post,
  -- the place at which the lane's next letter was posted
  pub record AreEnds (past : List (Event P)) (next : List ℕ) (from to : ℕ) (l : LaneEnds) : Type 0 where
    pub posted : l.posted ≡ length (posts_on from to past)
    pub taken : l.taken ≡ length (takes_on from to past)
    pub closed : l.is_closed ≡ ends_closed (posts_on from to past)
    pub letters : (p : ℕ) (x : Letter P) → slice_get past p ≡ Some (Sent from to x) → slice_get (posts_on from to past) x.number ≡ Some x
    pub oldest : l.taken < l.posted → IsPost past from to l.oldest l.taken
    pub newest : 0 < l.posted → IsPost past from to l.newest (l.posted - 1)
    pub last : (p n : ℕ) → IsPost past from to p n → n + 1 ≡ l.posted → p ≡ l.newest
    pub links : (p n : ℕ) → IsPost past from to p n → n + 1 < l.posted → IsPost past from to (slice_index next p) (n + 1)

  -- the lanes between this many ranks are kept so, the one from f to t as number f * ranks + t
  pub record AreLanes (ranks : ℕ) (past : List (Event P)) (next : List ℕ) (lanes : List LaneEnds) : Type 0 where
    pub count : length lanes ≡ ranks * ranks
    pub each : (f t : ℕ) (l : LaneEnds) → f < ranks → t < ranks → slice_get lanes (f * ranks + t) ≡ Some l → AreEnds past next f t l
