use Rattle.std.proofs.Common.{rules}
use Rattle.cb_kept.specs.Misfits.{IsColumnUnordered}
use Rattle.cb_kept.proofs.FirstMisfits.{one_more}
use Rattle.cb_kept.proofs.misfits.first_unordered.Goals as goal

pub loop-n-preserved : goal.loop-n-preserved
loop-n-preserved c =
    let here : IsColumnUnordered c.args.lists.now c.loop-n.n → ⊥ = search rules in
    one_more (IsColumnUnordered c.args.lists.now) c.loop-n.n c.loop-n.invariant here
