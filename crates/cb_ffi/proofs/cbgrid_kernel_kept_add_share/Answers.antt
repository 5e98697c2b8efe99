use Rattle.std.proofs.Common.{rules, refl, Ok, Err}
use Rattle.cb_ffi.specs.KeptCalls.{IsAddCall}
use Rattle.cb_ffi.proofs.Calls.{call_of}
use Rattle.cb_ffi.proofs.cbgrid_kernel_kept_add_share.Goals as goal

pub returns-in-Ok : goal.returns-in-Ok
unfolding IsAddCall
returns-in-Ok c =
    rw (← c.borrowed.ensures) (call_of _ _ (Ok c.kept_add_share.new.sums) 0 c.args.sums.now c.kept_add_share.new.sums
    (rw c.in-Ok.is at c.kept_add_share.ensures.answer) (refl, refl) tt)

pub returns-in-Err : goal.returns-in-Err
unfolding IsAddCall
returns-in-Err c =
    rw (← c.borrowed.ensures) (call_of _ _ (Err c.in-Err.fault) _ c.args.sums.now c.kept_add_share.new.sums
    (rw c.in-Err.is at c.kept_add_share.ensures.answer) tt (search rules, search rules, rw c.in-Err.is at c.kept_add_share.ensures.unchanged))
