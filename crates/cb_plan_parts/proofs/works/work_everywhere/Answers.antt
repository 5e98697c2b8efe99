use Rattle.std.proofs.Common.{rules, ℕ, ◌*◌, length, length-append, [], ◌∷◌, ap, ◌∙◌, arith}
use Rattle.cb_plan.specs.declared.acts.Act.{Act}
use Rattle.cb_plan.specs.declared.acts.Act.TheVariants as act_is
use Rattle.cb_plan_parts.proofs.LoopGrowth.{room_refused, grew_by_one}
use Rattle.cb_plan_parts.proofs.works.work_everywhere.Goals as goal

pub returns-in_err-make_room-clause-fault : goal.returns-in_err-make_room-clause-fault
returns-in_err-make_room-clause-fault c =
    let q = c.args.grid.now.side in
    let f : ℕ → Act = λ r. act_is.Work r c.args.op.now in
    let h = room_refused f (q * q) c.from.result c.args.plan.now _ (c.from.ensures ∙ c.ranks.ensures.value) c.requires c.in_err-make_room.ensures.faults in
    let g = c.from_residual.ensures in
    search rules

pub loop-rank-preserved : goal.loop-rank-preserved
loop-rank-preserved c =
    let f : ℕ → Act = λ r. act_is.Work r c.args.op.now in
    let e = ap length c.in_ok-push.ensures.acts ∙ length-append c.loop-rank.plan.acts (f c.loop-rank.rank ∷ []) in
    let room = c.loop-rank.invariant.1 in
    let limit = c.loop-rank.invariant.2 in
    let wide = c.push.ensures.room in
    let l = c.loop-rank-test.true in
    let m = c.ranks-rank-end.ensures.value in (
      grew_by_one f c.loop-rank.rank _ c.loop-rank.plan _ c.loop-rank.invariant.0 c.push.ensures.ranks c.in_ok-push.ensures.acts,
      omega arith,
      omega arith,
    )
