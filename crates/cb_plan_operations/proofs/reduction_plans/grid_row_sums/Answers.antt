use Rattle.std.proofs.Common.{◌*◌, ◌++◌, refl, arith}
use Rattle.cb_plan_parts.specs.Collectives.{shut_acts}
use Rattle.cb_plan_parts.specs.PlanParts.{operand_starts}
use Rattle.cb_plan_parts.specs.Growth.{IsWithinLimit}
use Rattle.cb_plan_parts.proofs.LoopGrowth.{ended, grown_flows, within_new, within_first, within_rest}
use Rattle.cb_plan_operations.specs.GridPlans.{one_operand}
use Rattle.cb_plan_operations.specs.ReductionPlans.{row_sums_acts, IsRowSumsPlan}
use Rattle.cb_plan_operations.proofs.Sides.{side_above, side_within}
use Rattle.cb_plan_operations.proofs.ReductionLengths.{row_sums_at_most}
use Rattle.cb_plan_operations.proofs.ReductionFlow.{row_sums_flow}
use Rattle.cb_plan_operations.proofs.SumsOfBlocks.{is_row_sums_plan}
use Rattle.cb_plan_operations.proofs.reduction_plans.grid_row_sums.Goals.{After-new-plan}
use Rattle.cb_plan_operations.proofs.reduction_plans.grid_row_sums.Goals as goal

whole : (c : After-new-plan) → let q = c.args.grid.now.side in IsWithinLimit c.new-plan.result (row_sums_acts q c.args.a ++ shut_acts (q * q))
whole c =
    let q = c.args.grid.now.side in
    let most = row_sums_at_most q (side_within _ _ c.ranks.ensures.value c.ranks.ensures.limit) c.args.a in
    within_new (row_sums_acts q c.args.a ++ shut_acts (q * q)) c.new-plan.result c.new-plan.ensures.acts (omega arith)

pub sum_rows-requires : goal.sum_rows-requires
sum_rows-requires c =
    let q = c.args.grid.now.side in
    within_first (row_sums_acts q c.args.a) (shut_acts (q * q)) c.new-plan.result (whole (goal.at.sum_rows-requires c).After-new-plan)

pub finish_one-requires-clause-limit : goal.finish_one-requires-clause-limit
finish_one-requires-clause-limit c =
    let q = c.args.grid.now.side in
    within_rest (row_sums_acts q c.args.a) (shut_acts (q * q)) c.new-plan.result c.sum_rows.new.plan (whole (goal.at.finish_one-requires-clause-limit c).After-new-plan) c.in_ok-sum_rows.ensures.acts

pub finish_one-requires-clause-flows : goal.finish_one-requires-clause-flows
finish_one-requires-clause-flows c =
    let q = c.args.grid.now.side in
    let flow = row_sums_flow q (side_above _ _ c.ranks.ensures.value c.ranks.ensures.some) (side_within _ _ c.ranks.ensures.value c.ranks.ensures.limit) c.args.a in
    let starts = operand_starts q (one_operand c.args.a) in
    grown_flows (q * q) starts starts (row_sums_acts q c.args.a) c.new-plan.result c.sum_rows.new.plan c.new-plan.ensures.acts c.in_ok-sum_rows.ensures.acts refl flow

pub returns-clause-sums : goal.returns-clause-sums
returns-clause-sums c =
    let q = c.args.grid.now.side in
    let is = is_row_sums_plan q (side_above _ _ c.ranks.ensures.value c.ranks.ensures.some) (side_within _ _ c.ranks.ensures.value c.ranks.ensures.limit) c.args.a in
    ended (λ acts. IsRowSumsPlan acts q c.args.a) (row_sums_acts q c.args.a) (shut_acts (q * q)) c.new-plan.result c.sum_rows.new.plan c.finish_one.result c.new-plan.ensures.acts c.in_ok-sum_rows.ensures.acts c.finish_one.ensures.acts is
