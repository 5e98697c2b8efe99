use Rattle.std.proofs.Common.{◌≡◌, ℕ, ◌*◌, ◌++◌, List, refl, ◌∙◌, arith}
use Rattle.cb_plan.specs.declared.acts.Act.{Act}
use Rattle.cb_plan.specs.declared.acts.Op.TheVariants as op_is
use Rattle.cb_plan_parts.specs.Collectives.{shut_acts}
use Rattle.cb_plan_parts.specs.PlanParts.{each_rank, operand_starts}
use Rattle.cb_plan_parts.specs.Growth.{IsWithinLimit, Grew}
use Rattle.cb_plan_parts.proofs.LoopGrowth.{ended, grew_both, grown_flows, within_new, within_first, within_rest}
use Rattle.cb_plan_operations.specs.GridPlans.{one_operand, mirror_acts, transpose_acts, IsTransposePlan}
use Rattle.cb_plan_operations.proofs.Sides.{side_above, side_within}
use Rattle.cb_plan_operations.proofs.PlacewiseLengths.{transpose_at_most}
use Rattle.cb_plan_operations.proofs.Mirror.{transpose_flow, is_transpose_plan}
use Rattle.cb_plan_operations.proofs.transposes.grid_transpose.Goals.{After-new-plan, In_ok-send_across}
use Rattle.cb_plan_operations.proofs.transposes.grid_transpose.Goals as goal

-- each rank transposes its block
abbrev turn : ℕ → List Act
turn q = each_rank q (λ _. op_is.Transpose 0 1)

whole : (c : After-new-plan) → IsWithinLimit c.new-plan.result (transpose_acts c.args.grid.now.side)
whole c =
    let q = c.args.grid.now.side in
    let most = transpose_at_most q (side_within _ _ c.ranks.ensures.value c.ranks.ensures.limit) in
    within_new (transpose_acts q) c.new-plan.result c.new-plan.ensures.acts (omega arith)

-- all but the shutting of lanes
most : (c : After-new-plan) → IsWithinLimit c.new-plan.result (turn c.args.grid.now.side ++ mirror_acts c.args.grid.now.side)
most c =
    let q = c.args.grid.now.side in
    within_first (turn q ++ mirror_acts q) (shut_acts (q * q)) c.new-plan.result (whole c)

pub work_everywhere-requires : goal.work_everywhere-requires
work_everywhere-requires c =
    let q = c.args.grid.now.side in
    within_first (turn q) (mirror_acts q) c.new-plan.result (most (goal.at.work_everywhere-requires c).After-new-plan)

pub send_across-requires : goal.send_across-requires
send_across-requires c =
    let q = c.args.grid.now.side in
    within_rest (turn q) (mirror_acts q) c.new-plan.result c.work_everywhere.new.plan (most (goal.at.send_across-requires c).After-new-plan) c.in_ok-work_everywhere.ensures.acts

pub operand_starts-requires : goal.operand_starts-requires
operand_starts-requires c = rw c.one_operand.ensures refl

-- the acts so far
grown : (c : In_ok-send_across) → Grew (turn c.args.grid.now.side ++ mirror_acts c.args.grid.now.side) c.new-plan.result c.send_across.new.plan
grown c =
    let q = c.args.grid.now.side in
    grew_both (turn q) (mirror_acts q) c.new-plan.result c.work_everywhere.new.plan c.send_across.new.plan c.in_ok-work_everywhere.ensures.acts c.in_ok-send_across.ensures.acts

pub finish-requires-clause-ranks : goal.finish-requires-clause-ranks
finish-requires-clause-ranks c = c.in_ok-send_across.ensures.acts.ranks_are ∙ c.in_ok-work_everywhere.ensures.acts.ranks_are ∙ c.new-plan.ensures.ranks ∙ c.ranks.ensures.value

pub finish-requires-clause-limit : goal.finish-requires-clause-limit
finish-requires-clause-limit c =
    let q = c.args.grid.now.side in
    let at = goal.at.finish-requires-clause-limit c in
    within_rest (turn q ++ mirror_acts q) (shut_acts (q * q)) c.new-plan.result c.send_across.new.plan (whole at.After-new-plan) (grown at.In_ok-send_across)

pub finish-requires-clause-flows : goal.finish-requires-clause-flows
finish-requires-clause-flows c =
    let q = c.args.grid.now.side in
    let flow = transpose_flow q (side_above _ _ c.ranks.ensures.value c.ranks.ensures.some) c.args.a in
    grown_flows (q * q) (operand_starts q (one_operand c.args.a)) c.in-Ok.starts.items (turn q ++ mirror_acts q) c.new-plan.result c.send_across.new.plan
    c.new-plan.ensures.acts (grown (goal.at.finish-requires-clause-flows c).In_ok-send_across) (rw c.one_operand.ensures at c.in-Ok.ensures.starts) flow

pub returns-clause-starts : goal.returns-clause-starts
returns-clause-starts c = rw (c.in-Ok.ensures.starts, c.one_operand.ensures) at c.finish.ensures.starts

pub returns-clause-acts : goal.returns-clause-acts
returns-clause-acts c =
    let q = c.args.grid.now.side in
    ended (λ acts. acts ≡ transpose_acts q) (turn q ++ mirror_acts q) (shut_acts (q * q)) c.new-plan.result c.send_across.new.plan c.finish.result c.new-plan.ensures.acts (grown (goal.at.returns-clause-acts c).In_ok-send_across) c.finish.ensures.acts refl

pub returns-clause-transpose : goal.returns-clause-transpose
returns-clause-transpose c =
    let q = c.args.grid.now.side in
    ended (λ acts. IsTransposePlan acts q c.args.a) (turn q ++ mirror_acts q) (shut_acts (q * q)) c.new-plan.result c.send_across.new.plan c.finish.result c.new-plan.ensures.acts (grown (goal.at.returns-clause-transpose c).In_ok-send_across) c.finish.ensures.acts (is_transpose_plan q c.args.a)
