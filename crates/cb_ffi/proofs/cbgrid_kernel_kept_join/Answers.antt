use Rattle.cb_ffi.proofs.cbgrid_kernel_kept_join.Goals as goal

pub returns : goal.returns
returns c = rw (c.take_back.ensures, c.take_back-2.ensures) c.join_kept.ensures
