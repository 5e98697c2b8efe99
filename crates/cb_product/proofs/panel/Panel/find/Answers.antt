use Rattle.cb_product.specs.declared.panel.Panel.{Panel}
use Rattle.cb_product.specs.Gathered.{AreGathered, Holds, HasTermsAt}
use Rattle.cb_product.proofs.Gathered.{found, no_terms}
use Rattle.cb_product.proofs.panel.Panel.find.Goals as goal
use Rattle.cb_product.proofs.panel.Panel.find.Goals.{then-not-holds+in_ok-gather, else-not-holds}

pub returns-then-from-until-clause-terms : goal.returns-then-from-until-clause-terms
returns-then-from-until-clause-terms g c =
    let s = g.S.Semiring.arithmetic in
    rw c.if-from-until.true (no_terms s g.met.S.Semiring.is_semiring c.args.left.now c.requires.matrix c.args.rows.now c.args.values.now c.requires.lengths c.args.self.now c.requires.gathered c.args.until)

pub returns-clause-terms : goal.returns-clause-terms
returns-clause-terms g c =
    let s = g.S.Semiring.arithmetic in
    let a = c.args.left.now in
    let rows = c.args.rows.now in
    let values = c.args.values.now in
    let p : Panel = c.if-not-holds.self in
    let has : AreGathered s a rows values p → Holds p c.args.from c.args.until → HasTermsAt s a rows values c.args.from c.args.until p (c.index.result.now, c.index-2.result.now) =
    λ h holds. found s g.met.S.Semiring.is_semiring a c.requires.matrix rows values c.requires.lengths p h c.args.from c.args.until c.requires.order holds c.index.result.now c.index-2.result.now c.index.ensures c.index-2.ensures in
    elim c.if-not-holds.branch [
      | then-not-holds+in_ok-gather w ↦ has (rw w.self-is w.in_ok-gather.ensures.gathered) (rw w.self-is w.in_ok-gather.ensures.holds)
      | else-not-holds w ↦ has (rw w.self-is c.requires.gathered) (rw w.self-is (c.holds.ensures w.if-not-holds.false))
    ]
