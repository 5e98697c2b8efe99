-- One mailbox more is new; in the end all are.
use Rattle.std.proofs.Common.{◌+◌, ◌≤◌, sym, subst}
use Rattle.cb_rank_world.proofs.Boxes.{IsNewBox, AreFirstBoxes, one_box_more}
use Rattle.cb_rank_world.proofs.ends.Ends.open.Goals as goal

pub loop-rank-preserved : goal.loop-rank-preserved
loop-rank-preserved g c =
    let opened = c.in_ok-open.ensures in
    let new : IsNewBox c.args.ranks c.args.capacity c.loop-rank.rank c.in_ok-open.field-0 = record { owner = opened.ranks.0; lanes = opened.ranks.1; new = opened.new } in (
      subst (AreFirstBoxes c.args.ranks c.args.capacity (c.loop-rank.rank + 1)) (sym c.push_reserved.ensures.items) (one_box_more c.args.ranks c.args.capacity c.loop-rank.rank c.loop-rank.boxes.items c.in_ok-open.field-0 c.loop-rank.invariant.0 new),
      subst (λ n. c.args.ranks ≤ n) (sym c.push_reserved.ensures.capacity) c.loop-rank.invariant.1,
    )
