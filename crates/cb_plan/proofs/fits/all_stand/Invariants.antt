use Rattle.std.proofs.Common.{◌≡◌, drop}
use Rattle.cb_plan.specs.Stores.{all_stand}
use Rattle.cb_plan.proofs.fits.all_stand.Given as goal

abbrev pub invariant-loop-start : goal.invariant-loop-start
invariant-loop-start g l = all_stand l.stores (drop l.start-index l.starts) ≡ all_stand l.stores l.starts
