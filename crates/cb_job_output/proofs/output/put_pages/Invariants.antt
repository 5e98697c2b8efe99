use Rattle.std.proofs.Common.{◌≡◌, ℕ, List, ◌++◌, length, false}
use Rattle.std.specs.Io.KnownBytes.{Appends}
use Rattle.cb_job_output.proofs.output.put_pages.Given as goal

-- what was written and what is left are the text, and nothing failed
abbrev pub invariant-loop-out : goal.invariant-loop-out
invariant-loop-out g l =
    ((done : List ℕ) × Appends (g.K.Sink.written l.initial.out) (g.K.Sink.written l.out) done × (done ++ l.text ≡ l.initial.text))
    × (g.K.Sink.has_failed l.out ≡ false)

abbrev pub decreases-loop-out : goal.decreases-loop-out
decreases-loop-out g l = length l.text
