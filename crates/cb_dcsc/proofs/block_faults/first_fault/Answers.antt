use Rattle.std.proofs.Common.{sym, refl, ◌∙◌}
use Rattle.cb_dcsc.proofs.Faultless.{scan_found, scan_on, scan_end}
use Rattle.cb_dcsc.proofs.block_faults.first_fault.Goals as goal

pub loop-index-init : goal.loop-index-init
loop-index-init g c = refl

pub returns-then-is_some : goal.returns-then-is_some
returns-then-is_some g c =
    scan_found g.S.Semiring.arithmetic c.args.shape c.args.entries.now c.loop-index.index c.loop-index.before _ _ c.loop-index-test.true c.loop-index.invariant c.fault_of-fault.ensures (sym c.is_some.ensures ∙ c.if-is_some.true)

pub loop-index-preserved : goal.loop-index-preserved
loop-index-preserved g c =
    scan_on g.S.Semiring.arithmetic c.args.shape c.args.entries.now c.loop-index.index c.loop-index.before _ _ c.loop-index-test.true c.loop-index.invariant c.fault_of-fault.ensures (sym c.is_some.ensures ∙ c.if-is_some.false)

pub returns : goal.returns
returns g c = scan_end g.S.Semiring.arithmetic c.args.shape c.args.entries.now c.loop-index.index c.loop-index.before (record { row = 0; column = 0; value = 0 }) c.loop-index-test.false c.loop-index.invariant
