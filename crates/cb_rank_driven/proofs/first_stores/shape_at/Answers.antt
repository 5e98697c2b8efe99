use Rattle.std.proofs.Common.{◌∙◌, rules}
use Rattle.cb_rank_driven.proofs.FirstSlots.{found_next, kept_next}
use Rattle.cb_rank_driven.proofs.first_stores.shape_at.Goals as goal
use Rattle.cb_rank_driven.proofs.first_stores.shape_at.Goals.{then-is_of, else-is_of}

pub loop-start-preserved : goal.loop-start-preserved
loop-start-preserved c =
    elim c.if-is_of.branch [
      | then-is_of w ↦ w.found-is ∙ found_next c.args.starts.now c.loop-start.start-index c.args.rank c.args.slot c.start-item.result c.start-item.result c.loop-start-test.true c.start-item.is (search rules)
      | else-is_of w ↦ w.found-is ∙ kept_next c.args.starts.now c.loop-start.start-index c.args.rank c.args.slot c.start-item.result c.start-item.result c.loop-start.found c.loop-start-test.true c.start-item.is (search rules) c.loop-start.invariant
    ]
