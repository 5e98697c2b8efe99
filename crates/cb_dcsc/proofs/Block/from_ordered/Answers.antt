use Rattle.std.proofs.Common.{ap, ◌∙◌}
use Rattle.std.proofs.lemmas.List.{take_all}
use Rattle.cb_dcsc.proofs.Faultless.{next_inside, next_after, next_block}
use Rattle.cb_dcsc.proofs.Block.from_ordered.Goals as goal

pub loop-entry-init : goal.loop-entry-init
loop-entry-init g c = c.in_ok-reserve.ensures.same ∙ c.empty-block.ensures.value

pub push-requires-clause-inside : goal.push-requires-clause-inside
push-requires-clause-inside g c =
    next_inside c.args.shape c.args.entries.now c.loop-entry.entry-index c.loop-entry-test.true _ _ c.loop-entry.invariant c.requires.inside

pub push-requires-clause-order : goal.push-requires-clause-order
push-requires-clause-order g c =
    next_after c.args.shape c.args.entries.now c.loop-entry.entry-index c.loop-entry-test.true _ _ c.loop-entry.invariant c.requires.order

pub loop-entry-preserved : goal.loop-entry-preserved
loop-entry-preserved g c =
    next_block c.args.shape c.args.entries.now c.loop-entry.entry-index c.loop-entry-test.true _ _ c.loop-entry.invariant _ c.in_ok-push.ensures.ok

pub returns : goal.returns
returns g c = c.loop-entry.invariant ∙ ap (λ es. record { shape = c.args.shape; entries = es }) (take_all c.loop-entry.entry-index c.args.entries.now c.loop-entry-test.false)
