use Rattle.cb_ffi.proofs.KeptCalls.{kept_call_of}
use Rattle.cb_ffi.proofs.cbgrid_kernel_keep.Goals as goal

pub returns : goal.returns
returns c = kept_call_of _ _ _ _ _ _ c.keep_lists.ensures c.put_kept.ensures.ok c.put_kept.ensures.refused
