use Rattle.std.proofs.Common.{◌≡◌, ℕ, ◌*◌, ◌<◌, ◌≤◌, ◌++◌, List, refl, ◌∙◌, arith}
use Rattle.cb_matrix.specs.Sparse.{Extent}
use Rattle.cb_plan.specs.declared.acts.Act.{Act}
use Rattle.cb_grid.specs.declared.TheConstants.{LARGEST_SIDE}
use Rattle.cb_plan_parts.specs.Collectives.{shut_acts}
use Rattle.cb_plan_parts.specs.PlanParts.{each_rank, operand_starts}
use Rattle.cb_plan_parts.specs.Growth.{IsWithinLimit, Grew}
use Rattle.cb_plan_parts.proofs.LoopGrowth.{ended, grew_both, grown_flows, within_new, within_first, within_rest}
use Rattle.cb_plan_summa.specs.Summa.{product_acts, summa_masked_acts, mask_op, masked_factors, IsMaskedPlan}
use Rattle.cb_plan_summa.proofs.SummaLengths.{summa_masked_at_most}
use Rattle.cb_plan_summa.proofs.Soundness.{masked_flow}
use Rattle.cb_plan_summa.proofs.Whole.{is_masked_plan}
use Rattle.cb_plan_summa.proofs.masked.summa_masked.Goals.{After-new-plan, In_ok-work_everywhere}
use Rattle.cb_plan_summa.proofs.masked.summa_masked.Goals as goal

-- the acts before the lanes are shut
abbrev open_acts : ℕ → Extent → Extent → List Act
open_acts q a b = product_acts q a b ++ each_rank q mask_op

whole : (c : After-new-plan) → IsWithinLimit c.new-plan.result (summa_masked_acts c.args.grid.now.side c.args.a c.args.b)
whole c =
    let q = c.args.grid.now.side in
    let few : q ≤ LARGEST_SIDE = (let a = c.side.ensures.value in let b = c.side.ensures.limit in omega arith) in
    let most = summa_masked_at_most q few c.args.a c.args.b in
    within_new (summa_masked_acts q c.args.a c.args.b) c.new-plan.result c.new-plan.ensures.acts (omega arith)

-- all but the shutting of lanes
most : (c : After-new-plan) → IsWithinLimit c.new-plan.result (open_acts c.args.grid.now.side c.args.a c.args.b)
most c =
    let q = c.args.grid.now.side in
    within_first (open_acts q c.args.a c.args.b) (shut_acts (q * q)) c.new-plan.result (whole c)

pub multiply-requires : goal.multiply-requires
multiply-requires c =
    let q = c.args.grid.now.side in
    within_first (product_acts q c.args.a c.args.b) (each_rank q mask_op) c.new-plan.result (most (goal.at.multiply-requires c).After-new-plan)

pub work_everywhere-requires : goal.work_everywhere-requires
work_everywhere-requires c =
    let q = c.args.grid.now.side in
    within_rest (product_acts q c.args.a c.args.b) (each_rank q mask_op) c.new-plan.result c.multiply.new.plan (most (goal.at.work_everywhere-requires c).After-new-plan) c.in_ok-multiply.ensures.acts

-- the acts so far
grown : (c : In_ok-work_everywhere) → Grew (open_acts c.args.grid.now.side c.args.a c.args.b) c.new-plan.result c.work_everywhere.new.plan
grown c =
    let q = c.args.grid.now.side in
    grew_both (product_acts q c.args.a c.args.b) (each_rank q mask_op) c.new-plan.result c.multiply.new.plan c.work_everywhere.new.plan c.in_ok-multiply.ensures.acts c.in_ok-work_everywhere.ensures.acts

pub finish-requires-clause-ranks : goal.finish-requires-clause-ranks
finish-requires-clause-ranks c = c.in_ok-work_everywhere.ensures.acts.ranks_are ∙ c.in_ok-multiply.ensures.acts.ranks_are ∙ c.new-plan.ensures.ranks ∙ c.ranks.ensures.value

pub finish-requires-clause-limit : goal.finish-requires-clause-limit
finish-requires-clause-limit c =
    let q = c.args.grid.now.side in
    let at = goal.at.finish-requires-clause-limit c in
    within_rest (open_acts q c.args.a c.args.b) (shut_acts (q * q)) c.new-plan.result c.work_everywhere.new.plan (whole at.After-new-plan) (grown at.In_ok-work_everywhere)

pub finish-requires-clause-flows : goal.finish-requires-clause-flows
finish-requires-clause-flows c =
    let q = c.args.grid.now.side in
    let pos : 0 < q = (let a = c.side.ensures.value in let b = c.side.ensures.some in omega arith) in
    let few : q ≤ LARGEST_SIDE = (let a = c.side.ensures.value in let b = c.side.ensures.limit in omega arith) in
    grown_flows (q * q) (operand_starts q (masked_factors c.args.a c.args.b)) c.in-Ok.starts.items (open_acts q c.args.a c.args.b) c.new-plan.result c.work_everywhere.new.plan
    c.new-plan.ensures.acts (grown (goal.at.finish-requires-clause-flows c).In_ok-work_everywhere) (rw c.with_columns_of.ensures at c.in-Ok.ensures.starts) (masked_flow q pos few c.args.a c.args.b c.requires)

pub returns-clause-starts : goal.returns-clause-starts
returns-clause-starts c = rw (c.in-Ok.ensures.starts, c.with_columns_of.ensures) at c.finish.ensures.starts

pub returns-clause-acts : goal.returns-clause-acts
returns-clause-acts c =
    let q = c.args.grid.now.side in
    ended (λ acts. acts ≡ summa_masked_acts q c.args.a c.args.b) (open_acts q c.args.a c.args.b) (shut_acts (q * q)) c.new-plan.result c.work_everywhere.new.plan c.finish.result
    c.new-plan.ensures.acts (grown (goal.at.returns-clause-acts c).In_ok-work_everywhere) c.finish.ensures.acts refl

pub returns-clause-product : goal.returns-clause-product
returns-clause-product c =
    let q = c.args.grid.now.side in
    let pos : 0 < q = (let a = c.side.ensures.value in let b = c.side.ensures.some in omega arith) in
    ended (λ acts. IsMaskedPlan acts q c.args.a c.args.b) (open_acts q c.args.a c.args.b) (shut_acts (q * q)) c.new-plan.result c.work_everywhere.new.plan c.finish.result
    c.new-plan.ensures.acts (grown (goal.at.returns-clause-product c).In_ok-work_everywhere) c.finish.ensures.acts (is_masked_plan q pos c.args.a c.args.b c.requires)
