use Rattle.std.proofs.Common.{length, take, ◌-◌, ◌≡◌, ◌≤◌, false}
use Rattle.std.specs.Io.KnownBytes.{Appends}
use Rattle.cb_job_ends.proofs.sinks.put_all.Given as goal

-- the text before `at` was written, and nothing failed
abbrev pub invariant-loop-at : goal.invariant-loop-at
invariant-loop-at g l = (l.at ≤ length l.text)
    × Appends (g.K.Sink.written l.initial.out) (g.K.Sink.written l.out) (take l.at l.text)
    × (g.K.Sink.has_failed l.out ≡ false)

abbrev pub decreases-loop-at : goal.decreases-loop-at
decreases-loop-at g l = length l.text - l.at
