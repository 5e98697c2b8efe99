use Rattle.std.proofs.Common.{◌≡◌, ℕ, ◌<◌, [], map, get_or}
use Rattle.cb_trace.specs.Traces.{events_by}
use Rattle.cb_trace.proofs.traces.Trace.matches.Given as goal

-- the logs of the ranks so far are right
abbrev pub invariant-loop-rank : goal.invariant-loop-rank
invariant-loop-rank l = (r : ℕ) → r < l.rank → get_or (map (λ log. log.items) l.logs) r [] ≡ events_by r l.self.events
