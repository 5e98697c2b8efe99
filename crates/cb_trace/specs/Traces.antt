-- Which lists of events a trace may hold. They must be legal by the rules of lanes, whatever the letters carry.
use Rattle.std.specs.Prelude.{◌≡◌, ◌≢◌, ℕ, ◌<◌, ◌≤◌, ◌==◌, List, [], ◌∷◌, ◌++◌, map, filter, length, get_or, All, Result, Ok, Err}
use Rattle.cb_letters.specs.declared.Letter.{Letter}
use Rattle.cb_letters.specs.declared.Body.{Body}
use Rattle.cb_letters.specs.declared.Body.TheVariants.{Sheet, Close}
use Rattle.cb_letters.specs.Events.{Event, Sent, Got, AreLegal, MayFollow}
use Rattle.cb_trace.specs.declared.events.Envelope.{Envelope}
use Rattle.cb_trace.specs.declared.events.TraceEvent.{TraceEvent}
use Rattle.cb_trace.specs.declared.events.TraceEvent.TheVariants.{Posted, Took, Closed, Ended}
use Rattle.cb_trace.specs.declared.traces.TraceRefusal.{TraceRefusal}
use Rattle.cb_trace.specs.declared.traces.TraceRefusal.TheVariants.{Illegal, Room}

-- the letter in this envelope, with this body
abbrev pub letter_in : Envelope → Body Unit → Letter Unit
letter_in e body = record { from = e.from; to = e.to; number = e.number; tag = e.tag; body = body }

-- what happened, as an event of a lane
abbrev pub event_of : TraceEvent → Event Unit
event_of (Posted e) = Sent e.from e.to (letter_in e (Sheet tt))
event_of (Took e) = Got e.from e.to (letter_in e (Sheet tt))
event_of (Closed e) = Sent e.from e.to (letter_in e Close)
event_of (Ended e) = Got e.from e.to (letter_in e Close)

abbrev pub envelope_of : TraceEvent → Envelope
envelope_of (Posted e) = e
envelope_of (Took e) = e
envelope_of (Closed e) = e
envelope_of (Ended e) = e

-- the rank that did it: the sender posts and closes, the addressee takes and sees the end
abbrev pub owner : TraceEvent → ℕ
owner (Posted e) = e.from
owner (Took e) = e.to
owner (Closed e) = e.from
owner (Ended e) = e.to

-- the lane from this rank to that one is between two different ranks of this many
abbrev pub IsOnLane : ℕ → Envelope → Type 0
IsOnLane ranks e = (e.from < ranks) × (e.to < ranks) × (e.from ≢ e.to)

abbrev pub AreOnLanes : ℕ → List TraceEvent → Type 0
AreOnLanes ranks es = All (λ e. IsOnLane ranks (envelope_of e)) es

-- each event may follow those before it, by the rules of lanes
abbrev pub AreLegalEvents : List TraceEvent → Type 0
AreLegalEvents es = AreLegal (map event_of es)

-- of how many ranks it is, how many events it has room for, and the events, oldest first
pub record TraceView : Type 0 where
  pub ranks : ℕ
  pub room : ℕ
  pub events : List TraceEvent

-- what every trace keeps
pub record IsTrace (t : TraceView) : Type 0 where
  pub legal : AreLegalEvents t.events
  pub lanes : AreOnLanes t.ranks t.events
  pub room : length t.events ≤ t.room

-- an event may be recorded next, room aside: it is on a lane of the trace, and may follow what is there
abbrev pub MayRecord : TraceView → TraceEvent → Type 0
MayRecord t e = IsOnLane t.ranks (envelope_of e) × MayFollow (map event_of t.events) (event_of e)

-- why an event isn't recorded in a trace: it may not follow what is there, or it may and the trace is full
abbrev pub IsRefusal : TraceView → TraceEvent → TraceRefusal → Type 0
IsRefusal t e Illegal = MayRecord t e → ⊥
IsRefusal t e Room = MayRecord t e × (length t.events ≡ t.room)

-- an event that is recorded is the last of the trace that is left, at the place that is returned, and what was found
-- stands before it; if it is refused, the trace is left as it was found
abbrev pub Records : TraceEvent → Result ℕ TraceRefusal → TraceView → TraceView → Type 0
Records e (Ok place) found left = (place ≡ length found.events) × (left ≡ record found { events = found.events ++ e ∷ [] })
Records e (Err refusal) found left = IsRefusal found e refusal × (left ≡ found)

-- what one rank did, in order
abbrev pub events_by : ℕ → List TraceEvent → List TraceEvent
events_by rank es = filter (λ e. owner e == rank) es

-- there is a log for each rank, and it has just what the trace has of that rank, in order
pub record AreLogsOf (t : TraceView) (logs : List (List TraceEvent)) : Type 0 where
  pub count : length logs ≡ t.ranks
  pub each : (r : ℕ) → r < t.ranks → get_or logs r [] ≡ events_by r t.events
