use Rattle.cb_ffi.specs.KeptCalls.{IsUpdateCall}
use Rattle.cb_ffi.proofs.KeptCalls.{kept_call_of}
use Rattle.cb_ffi.proofs.cbgrid_kernel_kept_update.Goals as goal

pub returns : goal.returns
unfolding IsUpdateCall
returns c =
    rw (← c.borrowed-a.ensures) (rw (← c.borrowed-b.ensures) (rw (← c.if_masked-allowed.ensures) (rw (← c.write_back_of-how.ensures)
    (kept_call_of _ _ _ _ _ _ c.kept_update-answer.ensures c.put_kept.ensures.ok c.put_kept.ensures.refused))))
