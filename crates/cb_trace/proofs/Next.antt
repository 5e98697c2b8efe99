-- Which event may come next, by the ends of its lane.
use Rattle.std.proofs.Common.{◌≡◌, ◌↔◌, ℕ, ◌+◌, ◌*◌, ◌<◌, ◌≤◌, ◌==◌, Bool, true, false, nat_lt, List, [], ◌∷◌, ◌++◌, length, map, get_or, slice_get, slice_set, Some, refl, sym, ◌∙◌, ap, subst, arith}
use Rattle.std.specs.Option.{option_map}
use Rattle.std.proofs.lemmas.Bool.{eq-eqb, eqb-true, ltb-true, lt-ltb}
use Rattle.std.proofs.lemmas.List.{length-map, map-append}
use Rattle.std.proofs.lemmas.Nat.{mul-add-lt}
use Rattle.std.proofs.lemmas.Option.{slice_get_within, slice_get-map, slice_get_read, same_Some}
use Rattle.cb_letters.specs.declared.Letter.{Letter}
use Rattle.cb_letters.specs.declared.Body.TheVariants.{Sheet, Close}
use Rattle.cb_letters.specs.Events.{Event, Sent, Got, posts_on, takes_on, MayFollow}
use Rattle.cb_trace.specs.declared.ends.LaneEnds.{LaneEnds}
use Rattle.cb_trace.specs.declared.events.Envelope.{Envelope}
use Rattle.cb_trace.specs.declared.events.TraceEvent.{TraceEvent}
use Rattle.cb_trace.specs.declared.events.TraceEvent.TheVariants.{Posted, Took, Closed, Ended}
use Rattle.cb_trace.specs.Traces.{letter_in, event_of, envelope_of, IsOnLane, TraceView, MayRecord}
use Rattle.cb_trace.specs.Ends.{AreEnds, AreLanes, lane_after, next_after, IsWithin}
use Rattle.cb_trace.proofs.Appended.{length-posts_on, length-takes_on}
use Rattle.cb_trace.proofs.Posts.{IsPost-within}
use Rattle.cb_trace.proofs.Chains.{AreLanes-post, AreLanes-take}

module _ {P : Type 0} where
  -- the letter that may be taken is at the place of the oldest
  got : (past : List (Event P)) (next : List ℕ) (f t : ℕ) (l : LaneEnds) (x : Letter P) → AreEnds past next f t l → MayFollow past (Got f t x)
      → (l.taken < l.posted) × (slice_get past l.oldest ≡ Some (Sent f t x))
  got past next f t l x a m =
      let within = slice_get_within (posts_on f t past) (length (takes_on f t past)) x m in
      let posted = a.posted in
      let taken = a.taken in
      let some : l.taken < l.posted = omega arith in
      let oldest = a.oldest some in
      let there = subst (λ (n : ℕ). slice_get (posts_on f t past) n ≡ Some oldest.letter) (oldest.numbered ∙ a.taken) (a.letters l.oldest oldest.letter oldest.found) in
      let one : oldest.letter ≡ x = same_Some oldest.letter x (sym there ∙ m) in
      (some, oldest.found ∙ ap (λ (y : Letter P). Some (Sent f t y)) one)

  -- the letter at the place of the oldest may be taken
  get : (past : List (Event P)) (next : List ℕ) (f t : ℕ) (l : LaneEnds) (x : Letter P) → AreEnds past next f t l → l.taken < l.posted → slice_get past l.oldest ≡ Some (Sent f t x) → MayFollow past (Got f t x)
  get past next f t l x a some found =
      let oldest = a.oldest some in
      let same : Some (Sent f t oldest.letter) ≡ Some (Sent f t x) = sym oldest.found ∙ found in
      let one : oldest.letter ≡ x = cc in
      let there = subst (λ (n : ℕ). slice_get (posts_on f t past) n ≡ Some oldest.letter) (oldest.numbered ∙ a.taken) (a.letters l.oldest oldest.letter oldest.found) in
      there ∙ ap Some one

  -- there are at least as many events as letters of a lane
  pub few_posted : (past : List (Event P)) (next : List ℕ) (f t : ℕ) (l : LaneEnds) → AreEnds past next f t l → l.posted ≤ length past
  few_posted past next f t l a = let posted = a.posted in let few = length-posts_on f t past in omega arith

  -- there are at least as many events as letters taken from a lane
  pub few_taken : (past : List (Event P)) (next : List ℕ) (f t : ℕ) (l : LaneEnds) → AreEnds past next f t l → l.taken ≤ length past
  few_taken past next f t l a = let taken = a.taken in let few = length-takes_on f t past in omega arith

-- the envelope of an event that is checked is on a lane between two ranks, which has these ends
pub record IsJudged (t : TraceView) (e : TraceEvent) (v : Envelope) (next : List ℕ) (l : LaneEnds) : Type 0 where
  pub envelope : v ≡ envelope_of e
  pub lane : IsOnLane t.ranks v
  pub ends : AreEnds (map event_of t.events) next v.from v.to l

-- the ends of the lane of an envelope
pub ends_of : (ranks : ℕ) (es : List TraceEvent) (next : List ℕ) (lanes : List LaneEnds) (v : Envelope) (i : ℕ) (l : LaneEnds) → AreLanes ranks (map event_of es) next lanes → v.from < ranks → v.to < ranks
    → i ≡ v.from * ranks + v.to → l ≡ get_or lanes i l → AreEnds (map event_of es) next v.from v.to l
ends_of ranks es next lanes v i l a from_in to_in at read =
    let here = subst (λ (k : ℕ). l ≡ get_or lanes k l) at read in
    a.each v.from v.to l from_in to_in (slice_get_read lanes (ranks * ranks) (v.from * ranks + v.to) l (sym a.count) (mul-add-lt v.from ranks v.to ranks from_in to_in) here)

-- an event between two ranks is checked by the ends of its lane
pub IsJudged-at : (t : TraceView) (ranks room : ℕ) (es : List TraceEvent) (next : List ℕ) (lanes : List LaneEnds) (e : TraceEvent) (v : Envelope) (i : ℕ) (l : LaneEnds)
    → record { ranks = ranks; room = room; events = es } ≡ t → AreLanes ranks (map event_of es) next lanes → v ≡ envelope_of e → v.from < ranks → v.to < ranks → (v.from ≡ v.to → ⊥)
    → i ≡ v.from * t.ranks + v.to → l ≡ get_or lanes i l → IsJudged t e v next l
IsJudged-at t ranks room es next lanes e v i l view a envelope from_in to_in apart at read =
    let same : ranks ≡ t.ranks = ap (λ (w : TraceView). w.ranks) view in
    let place : i ≡ v.from * ranks + v.to = at ∙ ap (λ (n : ℕ). v.from * n + v.to) (sym same) in
    record {
      envelope = envelope;
      lane = (omega arith, omega arith, apart);
      ends = subst (λ (w : TraceView). AreEnds (map event_of w.events) next v.from v.to l) view (ends_of ranks es next lanes v i l a from_in to_in place read);
    }

-- a test tells whether this event may be recorded
abbrev Tells : Bool → TraceView → TraceEvent → Type 0
Tells b t e = (b ≡ true → MayRecord t e) × (MayRecord t e → b ≡ true)

-- a post, by the test of its number
pub post_judged : (t : TraceView) (e : TraceEvent) (v w : Envelope) (next : List ℕ) (l : LaneEnds) (b : Bool) → IsJudged t e v next l → e ≡ Posted w → (b ≡ true) ↔ ((l.is_closed ≡ false) × (v.number ≡ l.posted)) → Tells b t e
post_judged t e v w next l b j is test =
    subst (λ (d : TraceEvent). Tells b t d) (ap Posted (j.envelope ∙ ap envelope_of is) ∙ sym is) (
      (λ yes. (j.lane, (refl, refl, (test.0 yes).1 ∙ j.ends.posted, sym j.ends.closed ∙ (test.0 yes).0, λ close. let wrong : false ≡ true = close in cc))),
      (λ may. test.1 (j.ends.closed ∙ may.1.3, may.1.2 ∙ sym j.ends.posted)),
    )

-- a close, by the test of its tag, if its number is the next
pub close_judged : (t : TraceView) (e : TraceEvent) (v w : Envelope) (next : List ℕ) (l : LaneEnds) → IsJudged t e v next l → e ≡ Closed w → (l.is_closed ≡ false) × (v.number ≡ l.posted) → Tells (v.tag.0 == 0) t e
close_judged t e v w next l j is next_one =
    subst (λ (d : TraceEvent). Tells (v.tag.0 == 0) t d) (ap Closed (j.envelope ∙ ap envelope_of is) ∙ sym is) (
      (λ yes. (j.lane, (refl, refl, next_one.1 ∙ j.ends.posted, sym j.ends.closed ∙ next_one.0, λ close. eqb-true v.tag.0 0 yes))),
      (λ may. eq-eqb v.tag.0 0 (may.1.4 refl)),
    )

-- a close, by the test of its number, if that fails
pub close_refused : (t : TraceView) (e : TraceEvent) (v w : Envelope) (next : List ℕ) (l : LaneEnds) (b : Bool) → IsJudged t e v next l → e ≡ Closed w → (b ≡ true) ↔ ((l.is_closed ≡ false) × (v.number ≡ l.posted)) → b ≡ false → Tells b t e
close_refused t e v w next l b j is test failed =
    subst (λ (d : TraceEvent). Tells b t d) (ap Closed (j.envelope ∙ ap envelope_of is) ∙ sym is) (
      (λ yes. let wrong : true ≡ false = sym yes ∙ failed in cc),
      (λ may. test.1 (j.ends.closed ∙ may.1.3, may.1.2 ∙ sym j.ends.posted)),
    )

-- an event that stands for the post of a letter is its post
same_posted : (o : TraceEvent) (v : Envelope) → event_of o ≡ event_of (Posted v) → o ≡ Posted v
same_posted (Posted w) v h =
    let one : letter_in w (Sheet tt) ≡ letter_in v (Sheet tt) = cc in
    ap (λ (x : Letter (Unit {0})). Posted (record { from = x.from; to = x.to; number = x.number; tag = x.tag })) one
same_posted (Took w) v h = cc
same_posted (Closed w) v h =
    let one : letter_in w Close ≡ letter_in v (Sheet tt) = cc in
    let two = ap (λ (x : Letter (Unit {0})). x.body) one in
    cc
same_posted (Ended w) v h = cc

-- an event that stands for the post of a close mark is the closing
same_closed : (o : TraceEvent) (v : Envelope) → event_of o ≡ event_of (Closed v) → o ≡ Closed v
same_closed (Posted w) v h =
    let one : letter_in w (Sheet tt) ≡ letter_in v Close = cc in
    let two = ap (λ (x : Letter (Unit {0})). x.body) one in
    cc
same_closed (Took w) v h = cc
same_closed (Closed w) v h =
    let one : letter_in w Close ≡ letter_in v Close = cc in
    ap (λ (x : Letter (Unit {0})). Closed (record { from = x.from; to = x.to; number = x.number; tag = x.tag })) one
same_closed (Ended w) v h = cc

-- the place of the oldest letter that wasn't taken is the place of an event
pub oldest_within : (t : TraceView) (e : TraceEvent) (v : Envelope) (next : List ℕ) (l : LaneEnds) → IsJudged t e v next l → l.taken < l.posted → l.oldest < length t.events
oldest_within t e v next l j some =
    let within = IsPost-within (map event_of t.events) v.from v.to l.oldest l.taken (j.ends.oldest some) in
    let size = length-map t.events event_of in
    omega arith

-- the event at that place, as an event of a lane
read_there : (es : List TraceEvent) (k : ℕ) (o : TraceEvent) → k < length es → o ≡ get_or es k o → slice_get (map event_of es) k ≡ Some (event_of o)
read_there es k o within read = slice_get-map event_of es k ∙ ap (option_map event_of) (slice_get_read es (length es) k o refl within read)

-- a take, by the oldest letter
pub take_judged : (t : TraceView) (e : TraceEvent) (v w : Envelope) (next : List ℕ) (l : LaneEnds) (o : TraceEvent) (b : Bool) → IsJudged t e v next l → e ≡ Took w → l.taken < l.posted → o ≡ get_or t.events l.oldest o
    → (b ≡ true) ↔ (o ≡ Posted v) → Tells b t e
take_judged t e v w next l o b j is some read test =
    let past = map event_of t.events in
    let x = letter_in v (Sheet tt) in
    let found = read_there t.events l.oldest o (oldest_within t e v next l j some) read in
    subst (λ (d : TraceEvent). Tells b t d) (ap Took (j.envelope ∙ ap envelope_of is) ∙ sym is) (
      (λ yes. (j.lane, get past next v.from v.to l x j.ends some (found ∙ ap (λ (d : TraceEvent). Some (event_of d)) (test.0 yes)))),
      (λ may. test.1 (same_posted o v (same_Some (event_of o) (event_of (Posted v)) (sym found ∙ (got past next v.from v.to l x j.ends may.1).1)))),
    )

-- an end, by the oldest letter
pub end_judged : (t : TraceView) (e : TraceEvent) (v w : Envelope) (next : List ℕ) (l : LaneEnds) (o : TraceEvent) (b : Bool) → IsJudged t e v next l → e ≡ Ended w → l.taken < l.posted → o ≡ get_or t.events l.oldest o
    → (b ≡ true) ↔ (o ≡ Closed v) → Tells b t e
end_judged t e v w next l o b j is some read test =
    let past = map event_of t.events in
    let x = letter_in v Close in
    let found = read_there t.events l.oldest o (oldest_within t e v next l j some) read in
    subst (λ (d : TraceEvent). Tells b t d) (ap Ended (j.envelope ∙ ap envelope_of is) ∙ sym is) (
      (λ yes. (j.lane, get past next v.from v.to l x j.ends some (found ∙ ap (λ (d : TraceEvent). Some (event_of d)) (test.0 yes)))),
      (λ may. test.1 (same_closed o v (same_Some (event_of o) (event_of (Closed v)) (sym found ∙ (got past next v.from v.to l x j.ends may.1).1)))),
    )

-- no letter may be taken if all were
pub take_refused : (t : TraceView) (e : TraceEvent) (v w : Envelope) (next : List ℕ) (l : LaneEnds) → IsJudged t e v next l → e ≡ Took w → l.posted ≤ l.taken → Tells (nat_lt l.taken l.posted) t e
take_refused t e v w next l j is none =
    subst (λ (d : TraceEvent). Tells (nat_lt l.taken l.posted) t d) (ap Took (j.envelope ∙ ap envelope_of is) ∙ sym is) (
      (λ yes. let below = ltb-true l.taken l.posted yes in absurd (omega arith)),
      (λ may. lt-ltb l.taken l.posted (got (map event_of t.events) next v.from v.to l (letter_in v (Sheet tt)) j.ends may.1).0),
    )

-- no close mark may be taken if all letters were
pub end_refused : (t : TraceView) (e : TraceEvent) (v w : Envelope) (next : List ℕ) (l : LaneEnds) → IsJudged t e v next l → e ≡ Ended w → l.posted ≤ l.taken → Tells (nat_lt l.taken l.posted) t e
end_refused t e v w next l j is none =
    subst (λ (d : TraceEvent). Tells (nat_lt l.taken l.posted) t d) (ap Ended (j.envelope ∙ ap envelope_of is) ∙ sym is) (
      (λ yes. let below = ltb-true l.taken l.posted yes in absurd (omega arith)),
      (λ may. lt-ltb l.taken l.posted (got (map event_of t.events) next v.from v.to l (letter_in v Close) j.ends may.1).0),
    )

-- the places that a legal event reads or writes are those of events
pub IsWithin-legal : (past : List (Event (Unit {0}))) (next : List ℕ) (e : TraceEvent) (l : LaneEnds) (room : ℕ) → AreEnds past next (envelope_of e).from (envelope_of e).to l → MayFollow past (event_of e) → length past ≤ room → IsWithin e l room
IsWithin-legal past next (Posted v) l room a m fits = λ some. let within = IsPost-within past v.from v.to l.newest _ (a.newest some) in omega arith
IsWithin-legal past next (Closed v) l room a m fits = λ some. let within = IsPost-within past v.from v.to l.newest _ (a.newest some) in omega arith
IsWithin-legal past next (Took v) l room a m fits =
    let some = (got past next v.from v.to l (letter_in v (Sheet tt)) a m).0 in
    let within = IsPost-within past v.from v.to l.oldest _ (a.oldest some) in
    omega arith
IsWithin-legal past next (Ended v) l room a m fits =
    let some = (got past next v.from v.to l (letter_in v Close) a m).0 in
    let within = IsPost-within past v.from v.to l.oldest _ (a.oldest some) in
    omega arith

-- the ends of all lanes stay right as a legal event is recorded
AreLanes-event : (ranks : ℕ) (past : List (Event (Unit {0}))) (e : TraceEvent) (next : List ℕ) (lanes : List LaneEnds) (l : LaneEnds) → AreLanes ranks past next lanes → (envelope_of e).to < ranks
    → AreEnds past next (envelope_of e).from (envelope_of e).to l → MayFollow past (event_of e) → length past ≤ length next
    → AreLanes ranks (past ++ event_of e ∷ []) (next_after e (length past) l next) (slice_set lanes ((envelope_of e).from * ranks + (envelope_of e).to) (lane_after e (length past) next l))
AreLanes-event ranks past (Posted v) next lanes l a to_in ends m fits = AreLanes-post ranks past next lanes v.from v.to l (letter_in v (Sheet tt)) false a to_in ends fits (m.2 ∙ sym ends.posted) refl
AreLanes-event ranks past (Closed v) next lanes l a to_in ends m fits = AreLanes-post ranks past next lanes v.from v.to l (letter_in v Close) true a to_in ends fits (m.2 ∙ sym ends.posted) refl
AreLanes-event ranks past (Took v) next lanes l a to_in ends m fits = AreLanes-take ranks past next lanes v.from v.to l (letter_in v (Sheet tt)) a to_in ends (got past next v.from v.to l (letter_in v (Sheet tt)) ends m).0
AreLanes-event ranks past (Ended v) next lanes l a to_in ends m fits = AreLanes-take ranks past next lanes v.from v.to l (letter_in v Close) a to_in ends (got past next v.from v.to l (letter_in v Close) ends m).0

-- the ends of all lanes are right once a legal event is recorded and its lane is updated
pub AreLanes-record : (ranks : ℕ) (es : List TraceEvent) (e : TraceEvent) (next : List ℕ) (lanes : List LaneEnds) (l : LaneEnds) → AreLanes ranks (map event_of es) next lanes → (envelope_of e).to < ranks
    → AreEnds (map event_of es) next (envelope_of e).from (envelope_of e).to l → MayFollow (map event_of es) (event_of e) → length es ≤ length next
    → AreLanes ranks (map event_of (es ++ e ∷ [])) (next_after e (length es) l next) (slice_set lanes ((envelope_of e).from * ranks + (envelope_of e).to) (lane_after e (length es) next l))
AreLanes-record ranks es e next lanes l a to_in ends m fits =
    let size = length-map es event_of in
    subst (λ (past : List (Event (Unit {0}))). AreLanes ranks past (next_after e (length es) l next) (slice_set lanes ((envelope_of e).from * ranks + (envelope_of e).to) (lane_after e (length es) next l))) (sym (map-append event_of es (e ∷ [])))
    (subst (λ (n : ℕ). AreLanes ranks (map event_of es ++ event_of e ∷ []) (next_after e n l next) (slice_set lanes ((envelope_of e).from * ranks + (envelope_of e).to) (lane_after e n next l))) size
    (AreLanes-event ranks (map event_of es) e next lanes l a to_in ends m (omega arith)))
