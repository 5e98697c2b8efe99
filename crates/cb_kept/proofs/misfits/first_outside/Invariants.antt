use Rattle.std.proofs.Common.{ℕ, ◌<◌}
use Rattle.cb_kept.specs.Misfits.{IsFrom}
use Rattle.cb_kept.proofs.misfits.first_outside.Given as goal

-- the numbers so far are below the bound
abbrev pub invariant-loop-n : goal.invariant-loop-n
invariant-loop-n l = (k : ℕ) → k < l.n → IsFrom l.bound l.numbers k → ⊥
