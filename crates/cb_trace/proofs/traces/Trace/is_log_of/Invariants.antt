use Rattle.std.proofs.Common.{◌≡◌, ◌↔◌, drop}
use Rattle.cb_trace.specs.Traces.{events_by}
use Rattle.cb_trace.proofs.traces.Trace.is_log_of.Given as goal

-- the log is right exactly if the rest of it is what the rank does from here on
abbrev pub invariant-loop-event : goal.invariant-loop-event
invariant-loop-event l =
    (l.log ≡ events_by l.rank l.event-items) ↔ (l.rest ≡ events_by l.rank (drop l.event-index l.event-items))
