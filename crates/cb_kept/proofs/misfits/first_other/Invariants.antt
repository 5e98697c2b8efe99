use Rattle.std.proofs.Common.{ℕ, ◌<◌}
use Rattle.cb_kept.specs.Misfits.{IsOther}
use Rattle.cb_kept.proofs.misfits.first_other.Given as goal

-- the numbers so far are values
abbrev pub invariant-loop-n : goal.invariant-loop-n
invariant-loop-n g l = (k : ℕ) → k < l.n → IsOther g.S.Semiring.arithmetic l.values k → ⊥
