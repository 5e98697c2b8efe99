use Rattle.std.proofs.Common.{arith}
use Rattle.cb_dcsc.proofs.Held.{found_next, missed_some, missed_here, missed_next}
use Rattle.cb_dcsc.proofs.part_of.Goals as goal

pub overflow_sub-result : goal.overflow_sub-result
overflow_sub-result c = let h = missed_some c.args.starts.now c.args.index c.requires.ascending c.in-Err.n c.requires.some c.requires.first c.in-Err.ensures.position in omega arith

pub returns-in-Ok-clause-next : goal.returns-in-Ok-clause-next
returns-in-Ok-clause-next c = found_next c.args.starts.now c.args.index c.requires.ascending c.in-Ok.n c.in-Ok.ensures.bound (c.in-Ok.ensures.ok 0)

pub returns-in-Err-clause-here : goal.returns-in-Err-clause-here
returns-in-Err-clause-here c =
    missed_here c.args.starts.now c.args.index c.requires.ascending c.in-Err.n (missed_some c.args.starts.now c.args.index c.requires.ascending c.in-Err.n c.requires.some c.requires.first c.in-Err.ensures.position) c.in-Err.ensures.position

pub returns-in-Err-clause-next : goal.returns-in-Err-clause-next
returns-in-Err-clause-next c =
    missed_next c.args.starts.now c.args.index c.requires.ascending c.in-Err.n (missed_some c.args.starts.now c.args.index c.requires.ascending c.in-Err.n c.requires.some c.requires.first c.in-Err.ensures.position) c.in-Err.ensures.position
