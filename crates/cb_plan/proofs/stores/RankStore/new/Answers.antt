use Rattle.std.proofs.Common.{[], ◌∷◌, ◌++◌, ap, ◌∙◌}
use Rattle.std.proofs.lemmas.List.{replicate_more}
use Rattle.cb_plan.specs.declared.stores.Slot.TheVariants.{Empty}
use Rattle.cb_plan.proofs.stores.RankStore.new.Goals as goal

pub loop-preserved : goal.loop-preserved
loop-preserved g c = c.in_ok-push.ensures.items ∙ ap (λ xs. xs ++ Empty ∷ []) c.loop.invariant ∙ replicate_more c.loop.counter Empty
