use Rattle.cb_ffi.proofs.Calls.{call_of}
use Rattle.cb_ffi.proofs.cbgrid_kernel_kept_lists.Goals as goal

pub returns : goal.returns
returns c = rw (← c.borrowed.ensures) (call_of _ _ _ _ _ _ c.columns_of.ensures c.put.ensures.ok c.put.ensures.refused)
