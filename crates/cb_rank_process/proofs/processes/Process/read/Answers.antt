use Rattle.std.proofs.Common.{rules, ap}
use Rattle.cb_rank_process.specs.Processes.{IsFree, ProcessView}
use Rattle.cb_rank_process.proofs.TextParts.{begins_reading}
use Rattle.cb_rank_process.proofs.processes.Process.read.Goals as goal

pub returns-clause-begins : goal.returns-clause-begins
returns-clause-begins g c =
    let free : IsFree c.args.self.now = search rules in
    let s = g.S.Semiring.arithmetic in
    let base = g.met.S.Base.Semiring g.world.𝓛 g.world.𝓜 g.world.𝓡 ((λ s x. x), (λ x. x), (λ x. x), λ x. x) in
    begins_reading s g.S.Base.Semiring.arithmetic g.met.S.Semiring.is_semiring base.is_semiring base.reads_numbers base.has_negatives g.met.S.Based.has_base c.args.opening.now c.args.piece.now c.in_ok-block.counts c.args.self.now c.begin.new.self _ _ _ _ _ _ _ _ free c.in_ok-block.ensures.piece c.shape-shape.ensures.matrix
    (ap (λ (v : ProcessView). v.side) c.self.view_is) c.in_ok-plan.ensures.ranks c.in_ok-plan.ensures.starts c.in_ok-plan.ensures.acts c.in_ok-plan.ensures.slot.0 c.in_ok-plan.ensures.parts c.shape-shape.ensures.shape c.in_ok-store.ensures c.over.ensures c.put.ensures.value c.in_ok-begin.ensures.started
