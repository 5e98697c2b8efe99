use Rattle.std.proofs.Common.{◌≤◌, ◌-◌, length}
use Rattle.cb_job_files.specs.StoredFiles.{AreRead}
use Rattle.cb_job_files.proofs.loading.read_up_to.Given as goal

-- the bytes so far were read from the start on
abbrev pub invariant-loop-bytes : goal.invariant-loop-bytes
invariant-loop-bytes g l = record {
  read : AreRead (g.F.StoredFile.gives l.file) l.start l.bytes.items;
  most : length l.bytes.items ≤ l.most;
}

abbrev pub decreases-loop-bytes : goal.decreases-loop-bytes
decreases-loop-bytes g l = l.most - length l.bytes.items
