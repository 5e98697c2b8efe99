use Rattle.std.proofs.Common.{arith}
use Rattle.cb_shares.proofs.SumShares.{adds_shares, adds_totals}
use Rattle.cb_shares.proofs.sums.add_share.Goals as goal

pub returns-clause-shares : goal.returns-clause-shares
returns-clause-shares g c =
    let inv = c.loop-n.invariant in
    let long = inv.long in
    let past = c.loop-n-test.false in
    adds_shares g.S.Semiring.arithmetic g.met.S.Semiring.is_semiring c.args.sums.now c.args.more.now c.loop-n.sums inv.long c.requires.length c.requires.values c.requires.more (λ i l. inv.done i (omega arith))

pub returns-clause-totals : goal.returns-clause-totals
returns-clause-totals g c =
    let inv = c.loop-n.invariant in
    let long = inv.long in
    let past = c.loop-n-test.false in
    adds_totals g.S.Semiring.arithmetic g.met.S.Semiring.is_semiring c.args.sums.now c.args.more.now c.loop-n.sums inv.long c.requires.length c.requires.values c.requires.more (λ i l. inv.done i (omega arith))
