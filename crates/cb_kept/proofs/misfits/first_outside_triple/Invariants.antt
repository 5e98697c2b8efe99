use Rattle.std.proofs.Common.{ℕ, ◌<◌}
use Rattle.cb_kept.specs.Misfits.{IsTripleOutside}
use Rattle.cb_kept.proofs.misfits.first_outside_triple.Given as goal

-- the triples so far are inside the shape
abbrev pub invariant-loop-n : goal.invariant-loop-n
invariant-loop-n l = (k : ℕ) → k < l.n → IsTripleOutside l.shape l.triples k → ⊥
