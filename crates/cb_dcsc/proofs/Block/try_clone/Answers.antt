use Rattle.cb_dcsc.proofs.Block.try_clone.Goals as goal

pub invariant_of-result : goal.invariant_of-result
invariant_of-result g c =
    rw (c.in_ok-from_slice.ensures.items, c.deref.ensures.value, c.in_ok-from_slice-2.ensures.items, c.deref-2.ensures.value) (
    rw (c.in_ok-from_slice-3.ensures.items, c.deref-3.ensures.value, c.in_ok-from_slice-4.ensures.items, c.deref-4.ensures.value) c.self.invariant)

pub returns : goal.returns
returns g c =
    rw (c.in_ok-from_slice.ensures.items, c.deref.ensures.value, c.in_ok-from_slice-2.ensures.items, c.deref-2.ensures.value) (
    rw (c.in_ok-from_slice-3.ensures.items, c.deref-3.ensures.value, c.in_ok-from_slice-4.ensures.items, c.deref-4.ensures.value) c.self.view_is)
