use Rattle.std.proofs.Common.{◌≡◌, ◌*◌, refl, ◌∙◌, arith}
use Rattle.cb_plan_parts.specs.Collectives.{shut_acts}
use Rattle.cb_plan_parts.specs.PlanParts.{each_rank, operand_starts}
use Rattle.cb_plan_parts.specs.Growth.{IsWithinLimit}
use Rattle.cb_plan_parts.proofs.LoopGrowth.{ended, grown_flows, within_new, within_first, within_rest}
use Rattle.cb_plan_operations.specs.GridPlans.{placewise_acts}
use Rattle.cb_plan_operations.proofs.Sides.{side_above, side_within}
use Rattle.cb_plan_operations.proofs.PlacewiseLengths.{placewise_at_most}
use Rattle.cb_plan_operations.proofs.placewise.placewise.Goals.{After-new-plan}
use Rattle.cb_plan_operations.proofs.placewise.placewise.Goals as goal

whole : (c : After-new-plan) → IsWithinLimit c.new-plan.result (placewise_acts c.args.grid.now.side c.args.op.now)
whole c =
    let q = c.args.grid.now.side in
    let most = placewise_at_most q (side_within _ _ c.ranks.ensures.value c.ranks.ensures.limit) c.args.op.now in
    within_new (placewise_acts q c.args.op.now) c.new-plan.result c.new-plan.ensures.acts (omega arith)

pub work_everywhere-requires : goal.work_everywhere-requires
work_everywhere-requires c =
    let q = c.args.grid.now.side in
    within_first (each_rank q (λ _. c.args.op.now)) (shut_acts (q * q)) c.new-plan.result (whole (goal.at.work_everywhere-requires c).After-new-plan)

pub finish-requires-clause-ranks : goal.finish-requires-clause-ranks
finish-requires-clause-ranks c = c.in_ok-work_everywhere.ensures.acts.ranks_are ∙ c.new-plan.ensures.ranks ∙ c.ranks.ensures.value

pub finish-requires-clause-limit : goal.finish-requires-clause-limit
finish-requires-clause-limit c =
    let q = c.args.grid.now.side in
    within_rest (each_rank q (λ _. c.args.op.now)) (shut_acts (q * q)) c.new-plan.result c.work_everywhere.new.plan (whole (goal.at.finish-requires-clause-limit c).After-new-plan) c.in_ok-work_everywhere.ensures.acts

pub finish-requires-clause-flows : goal.finish-requires-clause-flows
finish-requires-clause-flows c =
    let q = c.args.grid.now.side in
    grown_flows (q * q) (operand_starts q c.args.operands.now) c.in-Ok.starts.items (each_rank q (λ _. c.args.op.now)) c.new-plan.result c.work_everywhere.new.plan
    c.new-plan.ensures.acts c.in_ok-work_everywhere.ensures.acts c.in-Ok.ensures.starts (c.requires.flows (side_above _ _ c.ranks.ensures.value c.ranks.ensures.some))

pub returns-clause-starts : goal.returns-clause-starts
returns-clause-starts c = rw c.in-Ok.ensures.starts at c.finish.ensures.starts

pub returns-clause-acts : goal.returns-clause-acts
returns-clause-acts c =
    let q = c.args.grid.now.side in
    ended (λ acts. acts ≡ placewise_acts q c.args.op.now) (each_rank q (λ _. c.args.op.now)) (shut_acts (q * q)) c.new-plan.result c.work_everywhere.new.plan c.finish.result c.new-plan.ensures.acts c.in_ok-work_everywhere.ensures.acts c.finish.ensures.acts refl
