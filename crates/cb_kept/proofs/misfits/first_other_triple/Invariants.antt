use Rattle.std.proofs.Common.{ℕ, ◌<◌, map}
use Rattle.cb_kept.specs.declared.triples.Triple.{Triple}
use Rattle.cb_kept.specs.Misfits.{IsOther}
use Rattle.cb_kept.proofs.misfits.first_other_triple.Given as goal

-- the values so far are values of the semiring
abbrev pub invariant-loop-n : goal.invariant-loop-n
invariant-loop-n g l = (k : ℕ) → k < l.n → IsOther g.S.Semiring.arithmetic (map (λ (t : Triple). t.value) l.triples) k → ⊥
