use Rattle.cb_dcsc.proofs.Block.reserve.Goals as goal

pub invariant_of-self : goal.invariant_of-self
invariant_of-self g c = rw (c.in_err-reserve_both.ensures.left, c.in_err-reserve_both.ensures.right) c.self.invariant

pub returns-in_err-reserve_both : goal.returns-in_err-reserve_both
returns-in_err-reserve_both g c = record { same = rw (c.in_err-reserve_both.ensures.left, c.in_err-reserve_both.ensures.right) c.self.view_is }

pub invariant_of-self-in_err-reserve_both-2 : goal.invariant_of-self-in_err-reserve_both-2
invariant_of-self-in_err-reserve_both-2 g c = rw (c.in_ok-reserve_both.ensures.left, c.in_ok-reserve_both.ensures.right, c.in_err-reserve_both-2.ensures.left, c.in_err-reserve_both-2.ensures.right) c.self.invariant

pub returns-in_err-reserve_both-2 : goal.returns-in_err-reserve_both-2
returns-in_err-reserve_both-2 g c = record { same = rw (c.in_ok-reserve_both.ensures.left, c.in_ok-reserve_both.ensures.right, c.in_err-reserve_both-2.ensures.left, c.in_err-reserve_both-2.ensures.right) c.self.view_is }

pub invariant_of-self-2 : goal.invariant_of-self-2
invariant_of-self-2 g c = rw (c.in_ok-reserve_both.ensures.left, c.in_ok-reserve_both.ensures.right, c.in_ok-reserve_both-2.ensures.left, c.in_ok-reserve_both-2.ensures.right) c.self.invariant

pub returns : goal.returns
returns g c = record { same = rw (c.in_ok-reserve_both.ensures.left, c.in_ok-reserve_both.ensures.right, c.in_ok-reserve_both-2.ensures.left, c.in_ok-reserve_both-2.ensures.right) c.self.view_is }
