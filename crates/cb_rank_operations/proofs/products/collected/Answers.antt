use Rattle.std.proofs.Common.{◌<◌, length, sym, subst, ⊎_elim}
use Rattle.cb_plan_slots.specs.Losses.{IsFirstLoss}
use Rattle.cb_plan_vectors.specs.SpreadVectors.{IsSpreadLoss}
use Rattle.cb_rank_operations.proofs.products.collected.Goals as goal

pub lost-requires : goal.lost-requires
lost-requires g c =
    let loss = subst (IsSpreadLoss c.args.stores.items) c.in-Err-Lost.field-0-is c.in-Err-Lost.ensures.fault in
    subst (λ k. k < length c.args.refusals.now) (sym c.in-Err-Lost.rank-is) (⊎_elim
    (λ (first : IsFirstLoss 0 c.args.stores.items c.in-Err-Lost.rank). (c.requires.lost first.rank 0 c.in-Err-Lost.rank first.lost).0)
    (λ (first : IsFirstLoss 2 c.args.stores.items c.in-Err-Lost.rank). (c.requires.lost first.rank 2 c.in-Err-Lost.rank first.lost).0)
    loss)
