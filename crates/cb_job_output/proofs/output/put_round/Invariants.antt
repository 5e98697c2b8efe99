use Rattle.std.proofs.Common.{◌≡◌, take, false}
use Rattle.std.specs.Io.KnownBytes.{Appends}
use Rattle.cb_job_output.specs.Rounds.{joined}
use Rattle.cb_job_output.proofs.output.put_round.Given as goal

-- the shares so far are written, and nothing failed
abbrev pub invariant-loop-n : goal.invariant-loop-n
invariant-loop-n g l =
    Appends (g.K.Sink.written l.initial.out) (g.K.Sink.written l.out) (joined (take l.n l.round.dealt))
    × (g.K.Sink.has_failed l.out ≡ false)
