use Rattle.std.proofs.Common.{ap, sym, subst, ◌∙◌}
use Rattle.std.specs.Prelude.{All, slice_set}
use Rattle.std.proofs.lemmas.List.Elements.{All-weaker}
use Rattle.cb_plan.specs.declared.stores.Slot.TheVariants.{Empty, Sheet}
use Rattle.cb_rank_work.specs.Slots.{MayBeAdded}
use Rattle.cb_rank_work.specs.FactorSlots.{HoldProduct}
use Rattle.cb_rank_work.proofs.AddedProducts.{sum_inside}
use Rattle.cb_rank_work.proofs.ProductsAtOnce.{added_at_once, may_make}
use Rattle.cb_rank_work.proofs.SumInPlace.{put_back}
use Rattle.cb_rank_work.proofs.kernels.accumulate_all.Goals as goal

pub all_added_to-requires-clause-hold : goal.all_added_to-requires-clause-hold
all_added_to-requires-clause-hold g c κs lives =
    let slots = c.args.store.now in
    let acc = c.args.acc in
    let sum = c.in-Sheet.sum in
    subst (λ l. All (HoldProduct l sum.shape) c.args.products.now) (sym c.take.ensures.left)
    (All-weaker (MayBeAdded slots acc) (HoldProduct (slice_set slots acc Empty) sum.shape) (λ p may. may_make slots acc sum p (sym c.in-Sheet.is ∙ c.take.ensures.value) may) c.args.products.now c.requires.each)

pub returns-in-Ok-clause-ok : goal.returns-in-Ok-clause-ok
returns-in-Ok-clause-ok g c =
    let inside = sum_inside c.args.store.now c.args.acc c.args.products.now c.take.ensures.size c.requires.some c.requires.each in
    added_at_once g.S.Semiring.arithmetic c.args.acc c.args.products.now c.args.store.now c.take.new.self c.put.new.self c.in-Sheet.sum c.in-Ok.sum inside (sym c.in-Sheet.is ∙ c.take.ensures.value) c.requires.each c.take.ensures.left c.in-Ok.ensures.ok c.put.ensures.value

pub returns-in-Err-clause-err : goal.returns-in-Err-clause-err
returns-in-Err-clause-err g c =
    put_back c.args.store.now c.take.new.self c.put_shared.new.self c.args.acc _ _ (sym c.in-Sheet.is ∙ c.take.ensures.value) c.take.ensures.left c.put_shared.ensures.value (ap Sheet c.in-Err.ensures.err)
