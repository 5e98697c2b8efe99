use Rattle.cb_dcsc.proofs.Held.{no_lists, no_block}
use Rattle.cb_dcsc.proofs.Block.empty.Goals as goal

pub invariant_of-result : goal.invariant_of-result
invariant_of-result g c =
    rw (c.new.ensures.items, c.new-2.ensures.items, c.new-3.ensures.items, c.new-4.ensures.items) (no_block g.S.Semiring.arithmetic c.args.shape)

pub returns-clause-value : goal.returns-clause-value
returns-clause-value g c = rw (c.new.ensures.items, c.new-2.ensures.items, c.new-3.ensures.items, c.new-4.ensures.items) (no_lists c.args.shape)

pub returns-clause-matrix : goal.returns-clause-matrix
returns-clause-matrix g c = rw (c.new.ensures.items, c.new-2.ensures.items, c.new-3.ensures.items, c.new-4.ensures.items) ((no_block g.S.Semiring.arithmetic c.args.shape).matrix)
