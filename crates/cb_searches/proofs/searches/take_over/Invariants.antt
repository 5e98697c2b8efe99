use Rattle.std.proofs.Common.{take}
use Rattle.cb_searches.proofs.TakenNumbers.{HasTaken}
use Rattle.cb_searches.proofs.searches.take_over.Given as goal

abbrev pub invariant-loop-entry : goal.invariant-loop-entry
invariant-loop-entry l = HasTaken l.fn.known l.known (take l.entry-index l.entries)
