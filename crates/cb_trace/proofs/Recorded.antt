-- A trace with one more event.
use Rattle.std.proofs.Common.{◌≡◌, ℕ, ◌+◌, ◌*◌, ◌<◌, List, [], ◌∷◌, ◌++◌, length, map, take, drop, set, get_or, inl, inr, refl, sym, ◌∙◌, ap, subst, arith}
use Rattle.std.proofs.lemmas.List.{length-set, length_push, map-append, take_at}
use Rattle.std.proofs.lemmas.Bool.{cases_eq, eq-eqb, ne_eqb}
use Rattle.std.proofs.lemmas.List.Elements.{All-push}
use Rattle.std.specs.Prelude.{if◌then◌else◌, slice_set, Bool}
use Rattle.cb_letters.specs.Events.{Event, MayFollow, AreLegal}
use Rattle.cb_trace.specs.declared.ends.LaneEnds.{LaneEnds}
use Rattle.cb_trace.specs.declared.events.Envelope.{Envelope}
use Rattle.cb_trace.specs.declared.events.TraceEvent.{TraceEvent}
use Rattle.cb_trace.specs.declared.events.TraceEvent.TheVariants.{Posted, Took, Closed, Ended}
use Rattle.cb_trace.specs.Traces.{event_of, envelope_of, IsOnLane, TraceView, IsTrace, MayRecord}
use Rattle.cb_trace.specs.Ends.{AreEnds, AreLanes, lane_after, next_after, next_after_post}
use Rattle.cb_trace.proofs.Appended.{AreLegalAfter-push}
use Rattle.cb_trace.proofs.Next.{ends_of, AreLanes-record}

-- this event may be recorded next; its lane has this number and these ends
pub record IsNext (ranks : ℕ) (es : List TraceEvent) (e : TraceEvent) (next : List ℕ) (i : ℕ) (l : LaneEnds) : Type 0 where
  pub lane : IsOnLane ranks (envelope_of e)
  pub follows : MayFollow (map event_of es) (event_of e)
  pub place : i ≡ (envelope_of e).from * ranks + (envelope_of e).to
  pub ends : AreEnds (map event_of es) next (envelope_of e).from (envelope_of e).to l

-- an event that may be recorded follows the events so far, with the ends of its lane
pub IsNext-at : (t : TraceView) (ranks room : ℕ) (es : List TraceEvent) (next : List ℕ) (lanes : List LaneEnds) (e : TraceEvent) (v : Envelope) (i : ℕ) (l : LaneEnds)
    → record { ranks = ranks; room = room; events = es } ≡ t → AreLanes ranks (map event_of es) next lanes → v ≡ envelope_of e → MayRecord t e → i ≡ v.from * t.ranks + v.to → l ≡ get_or lanes i l → IsNext ranks es e next i l
IsNext-at t ranks room es next lanes e v i l view a envelope may at read =
    let m = subst (λ (w : TraceView). MayRecord w e) (sym view) may in
    let place : i ≡ (envelope_of e).from * ranks + (envelope_of e).to =
    at ∙ ap (λ (w : TraceView). v.from * w.ranks + v.to) (sym view) ∙ ap (λ (w : Envelope). w.from * ranks + w.to) envelope in
    record { lane = m.0; follows = m.1; place = place; ends = ends_of ranks es next lanes (envelope_of e) i l a m.0.0 m.0.1 place read }

-- the lists keep their lengths
length-next_after_post : (l : LaneEnds) (place : ℕ) (next : List ℕ) → length (next_after_post l place next) ≡ length next
length-next_after_post l place next =
    elim (cases_eq l.posted 0) [
      | inl none ↦ ap (λ (b : Bool). length (if b then next else slice_set next l.newest place)) (eq-eqb l.posted 0 none)
      | inr some ↦ ap (λ (b : Bool). length (if b then next else slice_set next l.newest place)) (ne_eqb l.posted 0 some) ∙ length-set next l.newest place
    ]

length-next_after : (e : TraceEvent) (place : ℕ) (l : LaneEnds) (next : List ℕ) → length (next_after e place l next) ≡ length next
length-next_after (Posted v) place l next = length-next_after_post l place next
length-next_after (Closed v) place l next = length-next_after_post l place next
length-next_after (Took v) place l next = refl
length-next_after (Ended v) place l next = refl

-- the events are still a trace
IsTrace-push : (ranks room : ℕ) (es : List TraceEvent) (e : TraceEvent) → IsTrace (record { ranks = ranks; room = room; events = es }) → IsOnLane ranks (envelope_of e) → MayFollow (map event_of es) (event_of e)
    → length es < room → IsTrace (record { ranks = ranks; room = room; events = es ++ e ∷ [] })
IsTrace-push ranks room es e h lane follows fits =
    let size = length_push es e in
    record {
      legal = subst (λ (past : List (Event (Unit {0}))). AreLegal past) (sym (map-append event_of es (e ∷ []))) (AreLegalAfter-push [] (map event_of es) (event_of e) h.legal follows);
      lanes = All-push (λ d. IsOnLane ranks (envelope_of d)) es e h.lanes lane;
      room = omega arith;
    }

-- a trace and the ends of its lanes, once an event is recorded that may be
pub recorded : (ranks room : ℕ) (es es' : List TraceEvent) (e : TraceEvent) (next written : List ℕ) (lanes : List LaneEnds) (i : ℕ) (l l' : LaneEnds) (place n : ℕ)
    → IsTrace (record { ranks = ranks; room = room; events = es }) → length next ≡ room → AreLanes ranks (map event_of es) next lanes → IsNext ranks es e next i l → place ≡ length es → length es < room
    → es' ≡ es ++ e ∷ [] → written ≡ next_after e place l next → l' ≡ lane_after e place next l → n ≡ length next
    → IsTrace (record { ranks = ranks; room = room; events = es' }) × (length (take n (written ++ drop (length written) next)) ≡ room)
    × AreLanes ranks (map event_of es') (take n (written ++ drop (length written) next)) (set lanes i l')
recorded ranks room es es' e next written lanes i l l' place n h size a m here fits more wrote kept all =
    let long : length written ≡ length next = ap length wrote ∙ length-next_after e place l next in
    let whole : take n (written ++ drop (length written) next) ≡ written = take_at written (drop (length written) next) n (long ∙ sym all) in
    rw (whole, more, wrote, kept, here, m.place) (
      IsTrace-push ranks room es e h m.lane m.follows fits,
      length-next_after e (length es) l next ∙ size,
      AreLanes-record ranks es e next lanes l a m.lane.1 m.ends m.follows (omega arith),
    )
