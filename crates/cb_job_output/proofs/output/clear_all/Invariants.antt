use Rattle.std.proofs.Common.{ℕ, ◌≡◌, List, take, length}
use Rattle.std.specs.Prelude.{All}
use Rattle.cb_job_output.specs.Rounds.{AreOf}
use Rattle.cb_job_output.proofs.output.clear_all.Given as goal

-- those so far have nothing on them
abbrev pub invariant-loop-n : goal.invariant-loop-n
invariant-loop-n l =
    ((shares : List (List ℕ)) → All (AreOf shares) (take l.n l.stacks))
    × (length l.stacks ≡ length l.initial.stacks)
