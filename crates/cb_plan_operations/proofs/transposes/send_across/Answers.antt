use Rattle.std.proofs.Common.{rules, ℕ, ◌*◌, ◌++◌, length, length-append, [], ◌∷◌, ap, ◌∙◌, arith}
use Rattle.cb_plan.specs.declared.acts.Act.{Act}
use Rattle.cb_plan_parts.specs.Collectives.{sent}
use Rattle.cb_plan_parts.specs.PlanParts.{tagged}
use Rattle.cb_plan_parts.proofs.LoopGrowth.{room_refused, grew_by_one}
use Rattle.cb_plan_operations.specs.GridPlans.{mirrored}
use Rattle.cb_plan_operations.proofs.transposes.send_across.Goals as goal

pub returns-in_err-make_room-clause-fault : goal.returns-in_err-make_room-clause-fault
returns-in_err-make_room-clause-fault c =
    let q = c.args.grid.now.side in
    let f : ℕ → Act = λ r. sent r (mirrored q r) (tagged 0) 1 2 in
    let h = room_refused f (q * q) c.from.result c.args.plan.now _ (c.from.ensures ∙ c.ranks.ensures.value) c.requires c.in_err-make_room.ensures.faults in
    let g = c.from_residual.ensures in
    search rules

pub loop-rank-preserved : goal.loop-rank-preserved
loop-rank-preserved c =
    let q = c.args.grid.now.side in
    let r = c.loop-rank.rank in
    let f : ℕ → Act = λ r. sent r (mirrored q r) (tagged 0) 1 2 in
    let is = c.in_ok-send.ensures.appended.grew.acts_are ∙ ap (λ (to : ℕ). c.loop-rank.plan.acts ++ sent r to (tagged 0) 1 2 ∷ []) c.mirrored.ensures in
    let e = ap length is ∙ length-append c.loop-rank.plan.acts (f r ∷ []) in
    let room = c.loop-rank.invariant.1 in
    let limit = c.loop-rank.invariant.2 in
    let wide = c.in_ok-send.ensures.appended.room in
    let l = c.loop-rank-test.true in
    let m = c.ranks-rank-end.ensures.value in (
      grew_by_one f r _ c.loop-rank.plan _ c.loop-rank.invariant.0 c.in_ok-send.ensures.appended.grew.ranks_are is,
      omega arith,
      omega arith,
    )
