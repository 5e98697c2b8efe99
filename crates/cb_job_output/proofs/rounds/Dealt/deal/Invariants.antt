use Rattle.std.proofs.Common.{ℕ, ◌≡◌, ◌<◌, ◌-◌, List, ◌++◌, length}
use Rattle.std.specs.Prelude.{All, vec_len, vec_capacity}
use Rattle.cb_job_output.specs.Rounds.{joined}
use Rattle.cb_job_output.proofs.rounds.Dealt.deal.Given as goal

-- the shares so far and what is left are the text, and each has some of it
abbrev pub invariant-loop-self : goal.invariant-loop-self
invariant-loop-self g l = record {
  text : joined l.self-inside.shares.items ++ l.text ≡ l.fn.text;
  some : All (λ (share : List ℕ). 0 < length share) l.self-inside.shares.items;
  lines : 0 < l.self-inside.lines;
  room : 0 < vec_capacity l.self-inside.shares;
}

abbrev pub decreases-loop-self : goal.decreases-loop-self
decreases-loop-self g l = vec_capacity l.self-inside.shares - vec_len l.self-inside.shares
