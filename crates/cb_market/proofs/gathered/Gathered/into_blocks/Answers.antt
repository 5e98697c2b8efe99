use Rattle.cb_market.proofs.Listed.{all_in_blocks, ok_equal}
use Rattle.cb_market.proofs.gathered.Gathered.into_blocks.Goals as goal

pub returns-then-self : goal.returns-then-self
returns-then-self g c =
    let a = c.self.inside in
    let same = all_in_blocks g.S.Semiring.arithmetic g.met.S.Semiring.is_semiring a.blocks.side a.room a.blocks.matrix a.list.items c.args.self c.shape-shape.ensures.matrix c.self.view_is (c.self.invariant.in_blocks c.if-self.true) in
    ok_equal c.into_blocks.result a.blocks _ c.into_blocks.ensures (λ i. record { side = same.0 i; matrix = same.1 i })
