use Rattle.std.proofs.Common.{ap}
use Rattle.cb_rank_process.specs.Processes.{KeptView}
use Rattle.cb_rank_process.proofs.TextParts.{has_head}
use Rattle.cb_rank_process.proofs.processes.Process.head.Goals as goal

pub returns-clause-head : goal.returns-clause-head
returns-clause-head g c =
    has_head g.S.Semiring.arithmetic g.met.S.Semiring.is_semiring c.args.self.now c.args.register c.args.entries _ c.in-Some.kept.now _ _ c.in-Some.ensures.some (ap (λ (k : KeptView). k.shape) c.kept-2.view_is) c.writes_pattern.ensures c.in_ok-head.ensures
