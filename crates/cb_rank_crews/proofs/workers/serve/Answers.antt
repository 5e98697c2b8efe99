use Rattle.std.proofs.Common.{◌≡◌, ◌∙◌, subst}
use Rattle.std.specs.Prelude.{IfOk}
use Rattle.cb_rank_runs.specs.Crews.{Member, Ran}
use Rattle.cb_rank_crews.proofs.LastItems.{last_is}
use Rattle.cb_rank_crews.proofs.workers.serve.Goals as goal

pub invariant_of-send : goal.invariant_of-send
invariant_of-send g c given last =
    let same : (c.rank.inside.rank, c.rank.inside.desk) ≡ given = c.rank.view_is ∙ last_is _ _ _ given c.pop_known.ensures.received.0 last in
    subst (λ (m : Member). IfOk c.run_rank-left.result (Ran g.S.Semiring.arithmetic m)) same c.run_rank-left.ensures.runs
