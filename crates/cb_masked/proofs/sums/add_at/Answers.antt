use Rattle.cb_masked.proofs.AddedSums.{one_added}
use Rattle.cb_masked.proofs.sums.add_at.Goals as goal

pub returns-clause-sums : goal.returns-clause-sums
returns-clause-sums g c =
    let r = c.requires in
    let there = c.place_of-n.ensures in
    rw c.add.ensures (one_added g.S.Semiring.arithmetic g.met.S.Semiring.is_semiring c.args.rows.now c.args.sums.now r.sums c.args.row c.args.value c.place_of-n.result r.rows there.within there.here there.none)
