use Rattle.std.proofs.Common.{◌<◌, ◌-◌}
use Rattle.cb_job_inputs.proofs.joining.half_of.Given as goal

-- there is a half, and it is below the number
abbrev pub invariant-loop-half : goal.invariant-loop-half
invariant-loop-half l = (0 < l.half) × (l.half < l.count)

abbrev pub decreases-loop-half : goal.decreases-loop-half
decreases-loop-half l = l.count - l.half
