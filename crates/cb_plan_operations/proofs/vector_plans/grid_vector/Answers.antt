use Rattle.std.proofs.Common.{◌*◌, arith}
use Rattle.cb_plan_parts.specs.Collectives.{shut_acts}
use Rattle.cb_plan_parts.specs.Growth.{IsWithinLimit}
use Rattle.cb_plan_parts.proofs.LoopGrowth.{ended, grown_flows, within_new, within_first, within_rest}
use Rattle.cb_plan_operations.specs.VectorPlans.{vector_starts, spread_product_acts, vector_acts, IsVectorPlan}
use Rattle.cb_plan_operations.proofs.Sides.{side_above, side_within}
use Rattle.cb_plan_operations.proofs.VectorLengths.{vector_at_most}
use Rattle.cb_plan_operations.proofs.VectorStarts.{vector_flow}
use Rattle.cb_plan_operations.proofs.SpreadProduct.{is_vector_plan}
use Rattle.cb_plan_operations.proofs.vector_plans.grid_vector.Goals.{After-new-plan}
use Rattle.cb_plan_operations.proofs.vector_plans.grid_vector.Goals as goal

whole : (c : After-new-plan) → IsWithinLimit c.new-plan.result (vector_acts c.args.grid.now.side c.args.a)
whole c =
    let q = c.args.grid.now.side in
    let most = vector_at_most q (side_within _ _ c.ranks.ensures.value c.ranks.ensures.limit) c.args.a in
    within_new (vector_acts q c.args.a) c.new-plan.result c.new-plan.ensures.acts (omega arith)

pub multiply_spread-requires : goal.multiply_spread-requires
multiply_spread-requires c =
    let q = c.args.grid.now.side in
    within_first (spread_product_acts q c.args.a) (shut_acts (q * q)) c.new-plan.result (whole (goal.at.multiply_spread-requires c).After-new-plan)

pub finish-requires-clause-limit : goal.finish-requires-clause-limit
finish-requires-clause-limit c =
    let q = c.args.grid.now.side in
    within_rest (spread_product_acts q c.args.a) (shut_acts (q * q)) c.new-plan.result c.multiply_spread.new.plan (whole (goal.at.finish-requires-clause-limit c).After-new-plan) c.in_ok-multiply_spread.ensures.acts

pub finish-requires-clause-flows : goal.finish-requires-clause-flows
finish-requires-clause-flows c =
    let q = c.args.grid.now.side in
    let flow = vector_flow q c.args.a (side_above _ _ c.ranks.ensures.value c.ranks.ensures.some) (side_within _ _ c.ranks.ensures.value c.ranks.ensures.limit) in
    grown_flows (q * q) (vector_starts q c.args.a) c.in-Ok.starts.items (spread_product_acts q c.args.a) c.new-plan.result c.multiply_spread.new.plan c.new-plan.ensures.acts c.in_ok-multiply_spread.ensures.acts c.in-Ok.ensures.starts flow

pub returns-clause-product : goal.returns-clause-product
returns-clause-product c =
    let q = c.args.grid.now.side in
    let is = is_vector_plan q (side_above _ _ c.ranks.ensures.value c.ranks.ensures.some) (side_within _ _ c.ranks.ensures.value c.ranks.ensures.limit) c.args.a in
    ended (λ acts. IsVectorPlan acts q c.args.a) (spread_product_acts q c.args.a) (shut_acts (q * q)) c.new-plan.result c.multiply_spread.new.plan c.finish.result c.new-plan.ensures.acts c.in_ok-multiply_spread.ensures.acts c.finish.ensures.acts is
