use Rattle.std.proofs.Common.{◌≡◌, ◌++◌, map, take, drop}
use Rattle.cb_reshape.specs.Exchange.{exchanged}
use Rattle.cb_reshape.proofs.exchange.Given as goal

abbrev pub invariant-loop-entry : goal.invariant-loop-entry
invariant-loop-entry l = l.entries ≡ map exchanged (take l.entry-index l.fn.entries) ++ drop l.entry-index l.fn.entries
