use Rattle.cb_ffi.specs.KeptCalls.{IsExtractCall}
use Rattle.cb_ffi.proofs.KeptCalls.{kept_call_of}
use Rattle.cb_ffi.proofs.cbgrid_kernel_kept_extract.Goals as goal

pub returns : goal.returns
unfolding IsExtractCall
returns c =
    rw (← c.borrowed.ensures) (rw (← c.unless_all-rows.ensures) (rw (← c.unless_all-columns.ensures)
    (kept_call_of _ _ _ _ _ _ c.kept_extract-answer.ensures c.put_kept.ensures.ok c.put_kept.ensures.refused)))
