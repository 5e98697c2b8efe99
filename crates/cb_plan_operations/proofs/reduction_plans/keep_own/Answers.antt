use Rattle.std.proofs.Common.{◌≡◌, ℕ, ◌++◌, List, refl, sym, subst}
use Rattle.std.specs.Prelude.{OnOk}
use Rattle.std.proofs.lemmas.List.{map-append}
use Rattle.cb_plan.specs.declared.acts.Act.{Act}
use Rattle.cb_plan.specs.declared.acts.Act.TheVariants as act_is
use Rattle.cb_plan_parts.specs.Growth.{IsWithinLimit, Grew}
use Rattle.cb_plan_parts.proofs.LoopGrowth.{within_first, within_rest, grew_last}
use Rattle.cb_plan_operations.specs.VectorPlans.{works, sum_ops}
use Rattle.cb_plan_operations.specs.ReductionPlans.{own_cuts, own_ops}
use Rattle.cb_plan_operations.proofs.reduction_plans.keep_own.Goals as goal

-- the acts of a rank, in two parts
parts : (q r width : ℕ) (rows : ℕ × ℕ) → works r (own_ops q rows width) ≡ works r (own_cuts q rows width) ++ works r (sum_ops q)
parts q r width rows = map-append (λ op. act_is.Work r op) (own_cuts q rows width) (sum_ops q)

pub cut_own-requires : goal.cut_own-requires
cut_own-requires c =
    let q = c.args.grid.now.side in
    within_first (works c.args.rank (own_cuts q c.args.rows c.args.width)) (works c.args.rank (sum_ops q)) c.args.plan.now
    (subst (λ (xs : List Act). IsWithinLimit c.args.plan.now xs) (parts q c.args.rank c.args.width c.args.rows) c.requires)

pub add_up-requires : goal.add_up-requires
add_up-requires c =
    let q = c.args.grid.now.side in
    within_rest (works c.args.rank (own_cuts q c.args.rows c.args.width)) (works c.args.rank (sum_ops q)) c.args.plan.now c.cut_own.new.plan
    (subst (λ (xs : List Act). IsWithinLimit c.args.plan.now xs) (parts q c.args.rank c.args.width c.args.rows) c.requires) c.in_ok-cut_own.ensures.acts

pub returns-clause-acts : goal.returns-clause-acts
returns-clause-acts c =
    let q = c.args.grid.now.side in
    subst (λ (xs : List Act). OnOk c.add_up.result (Grew xs c.args.plan.now c.add_up.new.plan)) (sym (parts q c.args.rank c.args.width c.args.rows))
    (grew_last (works c.args.rank (own_cuts q c.args.rows c.args.width)) (works c.args.rank (sum_ops q)) (works c.args.rank (sum_ops q)) c.args.plan.now c.cut_own.new.plan c.add_up.new.plan c.add_up.result
    c.in_ok-cut_own.ensures.acts refl c.add_up.ensures.acts)
