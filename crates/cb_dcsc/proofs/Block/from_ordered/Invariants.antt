use Rattle.std.proofs.Common.{◌≡◌, take}
use Rattle.cb_dcsc.proofs.Block.from_ordered.Given as goal

abbrev pub invariant-loop-entry : goal.invariant-loop-entry
invariant-loop-entry g l = l.block ≡ record { shape = l.fn.shape; entries = take l.entry-index l.entries }
