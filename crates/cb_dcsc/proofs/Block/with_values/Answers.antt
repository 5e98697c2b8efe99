use Rattle.cb_dcsc.proofs.Revalued.{revalued_is, revalued_block}
use Rattle.cb_dcsc.proofs.Block.with_values.Goals as goal

pub invariant_of-result : goal.invariant_of-result
invariant_of-result g c =
    rw (c.in_ok-from_slice.ensures.items, c.deref.ensures.value, c.in_ok-from_slice-2.ensures.items, c.deref-2.ensures.value, c.in_ok-from_slice-3.ensures.items, c.deref-3.ensures.value)
    (revalued_block g.S.Semiring.arithmetic _ _ _ _ _ c.self.invariant _ c.self.view_is c.args.values.items c.requires.count c.requires.values c.requires.not_zero)

pub returns : goal.returns
returns g c =
    rw (c.in_ok-from_slice.ensures.items, c.deref.ensures.value, c.in_ok-from_slice-2.ensures.items, c.deref-2.ensures.value, c.in_ok-from_slice-3.ensures.items, c.deref-3.ensures.value)
    (revalued_is g.S.Semiring.arithmetic _ _ _ _ _ c.self.invariant _ c.self.view_is c.args.values.items c.requires.count c.requires.values c.requires.not_zero)
