use Rattle.std.proofs.Common.{ℕ, ◌<◌, List, length, sym, subst}
use Rattle.cb_plan_slots.specs.Losses.{IsDrainRefusal}
use Rattle.cb_rank_engines.proofs.engines.outcome_of.Goals as goal

pub lost-requires : goal.lost-requires
lost-requires g c =
    let first = subst (IsDrainRefusal c.args.slot c.args.left.stores.items) c.in-Err-Lost.field-0-is c.in-Err-Lost.ensures.fault in
    let within = (c.requires.lost first.rank c.args.slot c.in-Err-Lost.rank first.lost).0 in
    subst (λ k. k < length c.deref.result.now) (sym c.in-Err-Lost.rank-is) (subst (λ (counts : List ℕ). c.in-Err-Lost.rank < length counts) (sym c.deref.ensures.value) within)
