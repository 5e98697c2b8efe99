use Rattle.cb_ffi.proofs.KeptCalls.{kept_call_of, kept_line_of}
use Rattle.cb_ffi.proofs.cbgrid_kernel_kept_read.Goals as goal

pub returns-clause-call : goal.returns-clause-call
returns-clause-call c = kept_call_of _ _ _ _ _ _ c.read_kept-answer.ensures.answer c.put_kept.ensures.ok c.put_kept.ensures.refused

pub returns-clause-line : goal.returns-clause-line
returns-clause-line c = kept_line_of _ _ _ _ _ _ _ c.read_kept-answer.ensures.line c.put_kept.ensures.ok c.put_kept.ensures.refused
