use Rattle.std.proofs.Common.{rules, ◌≡◌, Some}
use Rattle.std.specs.Prelude.{IfOk}
use Rattle.rtrb.specs.Ring.{received}
use Rattle.cb_rank_runs.specs.Crews.{Ran}
use Rattle.cb_rank_crews.specs.Rings.{last_item}
use Rattle.cb_rank_crews.proofs.workers.Worker.wait.Goals as goal

pub returns : goal.returns
returns g c given last =
    let back : last_item (received c.answer.inside.slip.ring) ≡ Some given = search rules in
    let ran : IfOk c.answer.inside.left (Ran g.S.Semiring.arithmetic given) = c.answer.invariant given back in
    rw c.in-Ok.is at ran
