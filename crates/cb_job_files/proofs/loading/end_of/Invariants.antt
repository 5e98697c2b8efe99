use Rattle.std.proofs.Common.{ℕ, length}
use Rattle.cb_job_files.specs.Loading.{AreInOrder}
use Rattle.cb_job_files.proofs.loading.end_of.Given as goal

-- if those that are left are in order, all are
abbrev pub invariant-loop-left : goal.invariant-loop-left
invariant-loop-left l = (end : ℕ) → AreInOrder l.place l.left end → AreInOrder 0 l.parts end

abbrev pub decreases-loop-left : goal.decreases-loop-left
decreases-loop-left l = length l.left
