use Rattle.std.proofs.Common.{[], ◌≡◌, ◌≤◌}
use Rattle.std.specs.Prelude.{All, vec_len, vec_capacity}
use Rattle.cb_job_output.specs.Rounds.{AreOf}
use Rattle.cb_job_output.proofs.rounds.blank.Given as goal

-- nothing is written on those so far, and there is room for all
abbrev pub invariant-loop : goal.invariant-loop
invariant-loop l =
    (vec_len l.stacks ≡ l.counter)
    × (l.count ≤ vec_capacity l.stacks)
    × All (AreOf []) l.stacks.items
