use Rattle.std.proofs.Common.{◌≡◌}
use Rattle.cb_job_ends.specs.Texts.{joined}
use Rattle.cb_job_files.specs.Loading.{bytes_of}
use Rattle.cb_job_files.proofs.loading.text_of.Given as goal

-- the lists so far have the bytes of the parts so far
abbrev pub invariant-loop-part : goal.invariant-loop-part
invariant-loop-part l = joined l.lists.items ≡ bytes_of l.yielded
