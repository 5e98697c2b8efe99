use Rattle.std.proofs.Common.{sym, subst}
use Rattle.cb_plan.specs.Plans.{CheckedView}
use Rattle.cb_plan_vectors.specs.SpreadVectors.{MultipliesVectors}
use Rattle.cb_plan_vectors.proofs.vector_plan.Goals as goal

pub returns : goal.returns
returns c =
    subst (λ (p : CheckedView). MultipliesVectors c.args.grid.now.side c.args.shape p) (sym c.into_checked-plan.ensures.plan)
    (record { ranks = c.in-Ok.ensures.ranks; starts = c.in-Ok.ensures.starts; means = c.in-Ok.ensures.product })
