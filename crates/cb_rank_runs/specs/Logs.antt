-- The lists of events that the ranks of a traced run keep.
use Rattle.std.specs.Prelude.{◌≡◌, false, List, [], ◌∷◌, ◌++◌, map}
use Rattle.cb_trace.specs.declared.events.TraceEvent.{TraceEvent}
use Rattle.cb_rank_runs.specs.declared.logs.Log.{Log}

module _ {S O : Type 0} where
  -- a log was told of an event: if it isn't torn now, it wasn't torn before, and the event was appended to its list
  abbrev pub Keeps : Log S O → TraceEvent → Log S O → Type 0
  Keeps old event new = new.is_torn ≡ false → (old.is_torn ≡ false) × (new.events.items ≡ old.events.items ++ event ∷ [])

  -- none of them was told of an event
  abbrev pub AreNewLogs : List (Log S O) → Type 0
  AreNewLogs [] = Unit {0}
  AreNewLogs (log ∷ logs) = ((log.is_torn ≡ false) × (log.events.items ≡ [])) × AreNewLogs logs

  -- none of them is torn
  abbrev pub AreWhole : List (Log S O) → Type 0
  AreWhole [] = Unit {0}
  AreWhole (log ∷ logs) = (log.is_torn ≡ false) × AreWhole logs

  -- their lists of events
  abbrev pub lists_in : List (Log S O) → List (List TraceEvent)
  lists_in logs = map (λ log. log.events.items) logs
