use Rattle.cb_ffi.specs.KeptCalls.{IsColumnCall}
use Rattle.cb_ffi.proofs.KeptCalls.{kept_call_of}
use Rattle.cb_ffi.proofs.cbgrid_kernel_kept_column_of_sums.Goals as goal

pub returns : goal.returns
unfolding IsColumnCall
returns c = rw (← c.borrowed.ensures) (kept_call_of _ _ _ _ _ _ c.kept_column_of_sums-answer.ensures c.put_kept.ensures.ok c.put_kept.ensures.refused)
