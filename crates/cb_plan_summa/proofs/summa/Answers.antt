use Rattle.std.proofs.Common.{◌≡◌, ◌*◌, ◌<◌, ◌≤◌, refl, ◌∙◌, arith}
use Rattle.cb_grid.specs.declared.TheConstants.{LARGEST_SIDE}
use Rattle.cb_plan_parts.specs.Collectives.{shut_acts}
use Rattle.cb_plan_parts.specs.PlanParts.{operand_starts}
use Rattle.cb_plan_parts.specs.Growth.{IsWithinLimit}
use Rattle.cb_plan_parts.proofs.LoopGrowth.{ended, grown_flows, within_new, within_first, within_rest}
use Rattle.cb_plan_summa.specs.Summa.{product_acts, summa_acts, factors, IsProductPlan}
use Rattle.cb_plan_summa.proofs.SummaLengths.{summa_at_most}
use Rattle.cb_plan_summa.proofs.Soundness.{product_flow}
use Rattle.cb_plan_summa.proofs.Whole.{is_product_plan}
use Rattle.cb_plan_summa.proofs.summa.Goals.{After-new-plan}
use Rattle.cb_plan_summa.proofs.summa.Goals as goal

whole : (c : After-new-plan) → IsWithinLimit c.new-plan.result (summa_acts c.args.grid.now.side c.args.a c.args.b)
whole c =
    let q = c.args.grid.now.side in
    let few : q ≤ LARGEST_SIDE = (let a = c.side.ensures.value in let b = c.side.ensures.limit in omega arith) in
    let most = summa_at_most q few c.args.a c.args.b in
    within_new (summa_acts q c.args.a c.args.b) c.new-plan.result c.new-plan.ensures.acts (omega arith)

pub multiply-requires : goal.multiply-requires
multiply-requires c =
    let q = c.args.grid.now.side in
    within_first (product_acts q c.args.a c.args.b) (shut_acts (q * q)) c.new-plan.result (whole (goal.at.multiply-requires c).After-new-plan)

pub finish-requires-clause-ranks : goal.finish-requires-clause-ranks
finish-requires-clause-ranks c = c.in_ok-multiply.ensures.acts.ranks_are ∙ c.new-plan.ensures.ranks ∙ c.ranks.ensures.value

pub finish-requires-clause-limit : goal.finish-requires-clause-limit
finish-requires-clause-limit c =
    let q = c.args.grid.now.side in
    within_rest (product_acts q c.args.a c.args.b) (shut_acts (q * q)) c.new-plan.result c.multiply.new.plan (whole (goal.at.finish-requires-clause-limit c).After-new-plan) c.in_ok-multiply.ensures.acts

pub finish-requires-clause-flows : goal.finish-requires-clause-flows
finish-requires-clause-flows c =
    let q = c.args.grid.now.side in
    let pos : 0 < q = (let a = c.side.ensures.value in let b = c.side.ensures.some in omega arith) in
    let few : q ≤ LARGEST_SIDE = (let a = c.side.ensures.value in let b = c.side.ensures.limit in omega arith) in
    grown_flows (q * q) (operand_starts q (factors c.args.a c.args.b)) c.in-Ok.starts.items (product_acts q c.args.a c.args.b) c.new-plan.result c.multiply.new.plan
    c.new-plan.ensures.acts c.in_ok-multiply.ensures.acts c.in-Ok.ensures.starts (product_flow q pos few c.args.a c.args.b c.requires)

pub returns-clause-starts : goal.returns-clause-starts
returns-clause-starts c = rw c.in-Ok.ensures.starts at c.finish.ensures.starts

pub returns-clause-acts : goal.returns-clause-acts
returns-clause-acts c =
    let q = c.args.grid.now.side in
    ended (λ acts. acts ≡ summa_acts q c.args.a c.args.b) (product_acts q c.args.a c.args.b) (shut_acts (q * q)) c.new-plan.result c.multiply.new.plan c.finish.result c.new-plan.ensures.acts c.in_ok-multiply.ensures.acts c.finish.ensures.acts refl

pub returns-clause-product : goal.returns-clause-product
returns-clause-product c =
    let q = c.args.grid.now.side in
    let pos : 0 < q = (let a = c.side.ensures.value in let b = c.side.ensures.some in omega arith) in
    ended (λ acts. IsProductPlan acts q c.args.a c.args.b) (product_acts q c.args.a c.args.b) (shut_acts (q * q)) c.new-plan.result c.multiply.new.plan c.finish.result c.new-plan.ensures.acts c.in_ok-multiply.ensures.acts c.finish.ensures.acts
    (is_product_plan q pos c.args.a c.args.b c.requires)
