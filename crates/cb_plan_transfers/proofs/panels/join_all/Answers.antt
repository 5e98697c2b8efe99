use Rattle.std.proofs.Common.{◌≡◌, ◌/◌, ◌%◌, ◌++◌, sym, ap, ◌∙◌}
use Rattle.std.proofs.lemmas.List.{map-append}
use Rattle.cb_grid.specs.Pieces.{piece_start}
use Rattle.cb_plan.specs.declared.acts.Act.TheVariants as act_is
use Rattle.cb_plan_parts.proofs.LoopGrowth.{grew_both}
use Rattle.cb_plan_operations.specs.VectorPlans.{works}
use Rattle.cb_plan_operations.proofs.Loops.{next_grew}
use Rattle.cb_plan_transfers.specs.Panels.{joined_parts, joined_at}
use Rattle.cb_plan_transfers.specs.Rounds.{sent_away}
use Rattle.cb_plan_transfers.proofs.panels.join_all.Goals as goal

pub loop-rank-preserved : goal.loop-rank-preserved
loop-rank-preserved c =
    let q = c.args.grid.now.side in
    let shape = c.args.shape in
    let r = c.loop-rank.rank in
    let sent = ap (λ side. works r (sent_away side)) c.side.ensures.value in
    let parts = ap (λ left. works r (joined_parts q shape left)) (c.first_column-left.ensures ∙ ap (λ cols. piece_start q cols (r % q) (r / q)) c.cols.ensures.value) in
    let is = (λ z. sent z ++ parts z) ∙ sym (map-append (λ op. act_is.Work r op) (sent_away q) (joined_parts q shape (piece_start q shape.cols (r % q) (r / q)))) in
    next_grew (λ r. works r (joined_at q shape r)) r c.args.plan.now c.loop-rank.plan _ is _ c.loop-rank.invariant
    (grew_both _ _ c.loop-rank.plan c.forget_sent.new.plan c.join_parts.new.plan c.in_ok-forget_sent.ensures.acts c.in_ok-join_parts.ensures.acts)
