use Rattle.std.proofs.Common.{◌≡◌, drop}
use Rattle.cb_dcsc.specs.BlockFaults.{first_fault_from, first_fault}
use Rattle.cb_dcsc.proofs.block_faults.first_fault.Given as goal

abbrev pub invariant-loop-index : goal.invariant-loop-index
invariant-loop-index g l =
    let s = g.S.Semiring.arithmetic in
    first_fault_from s l.shape l.index l.before (drop l.index l.entries) ≡ first_fault s l.shape l.entries
