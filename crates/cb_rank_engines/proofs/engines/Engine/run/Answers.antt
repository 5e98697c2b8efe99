use Rattle.std.proofs.Common.{sym, subst}
use Rattle.cb_rank_engines.specs.declared.engines.Engine.{Engine}
use Rattle.cb_rank_engines.specs.Orders.{IsOrdered}
use Rattle.cb_rank_engines.proofs.SomeOrder.{left_in_some_order}
use Rattle.cb_rank_engines.proofs.engines.Engine.run.Goals as goal

pub returns-in_ok-finished-in-Threads-clause-order : goal.returns-in_ok-finished-in-Threads-clause-order
returns-in_ok-finished-in-Threads-clause-order g c =
    let near = c.nearest-capacity.ensures in
    let parts = c.into_parts-stores in
    subst (λ (e : Engine). IsOrdered g.S.Semiring.arithmetic e c.args.plan.now c.args.stores.items parts.result.0.items parts.result.1.items) (sym c.in-Threads.is)
    (left_in_some_order g.S.Semiring.arithmetic c.args.plan.now c.args.stores.items _ c.in-Threads.letters c.nearest-capacity.result (record { none = near.none; within = near.within; many = near.many }) c.requires.fits
    c.in_ok-finished-in-Threads.ensures.meaning parts.result.0.items parts.result.1.items parts.ensures.stores parts.ensures.refusals)

pub returns-in_ok-finished-in-Traced-clause-order : goal.returns-in_ok-finished-in-Traced-clause-order
returns-in_ok-finished-in-Traced-clause-order g c =
    let near = c.nearest-capacity-in-Traced.ensures in
    let parts = c.into_parts-stores-in-Traced in
    subst (λ (e : Engine). IsOrdered g.S.Semiring.arithmetic e c.args.plan.now c.args.stores.items parts.result.0.items parts.result.1.items) (sym c.in-Traced.is)
    (left_in_some_order g.S.Semiring.arithmetic c.args.plan.now c.args.stores.items _ c.in-Traced.letters c.nearest-capacity-in-Traced.result (record { none = near.none; within = near.within; many = near.many }) c.requires.fits
    c.in_ok-finished-in-Traced.ensures.meaning parts.result.0.items parts.result.1.items parts.ensures.stores parts.ensures.refusals)
