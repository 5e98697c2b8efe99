use Rattle.std.proofs.Common.{ℕ, ◌<◌}
use Rattle.cb_kept.specs.Misfits.{IsColumnUnordered}
use Rattle.cb_kept.proofs.misfits.first_unordered.Given as goal

-- the columns so far are in order
abbrev pub invariant-loop-n : goal.invariant-loop-n
invariant-loop-n l = (k : ℕ) → k < l.n → IsColumnUnordered l.lists k → ⊥
