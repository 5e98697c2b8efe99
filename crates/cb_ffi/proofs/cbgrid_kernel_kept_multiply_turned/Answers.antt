use Rattle.cb_ffi.specs.KeptCalls.{IsTurnedCall}
use Rattle.cb_ffi.proofs.KeptCalls.{kept_call_of}
use Rattle.cb_ffi.proofs.cbgrid_kernel_kept_multiply_turned.Goals as goal

pub returns : goal.returns
unfolding IsTurnedCall
returns c =
    rw (← c.borrowed-a.ensures) (rw (← c.borrowed-b.ensures)
    (kept_call_of _ _ _ _ _ _ c.kept_turned_product-answer.ensures c.put_kept.ensures.ok c.put_kept.ensures.refused))
