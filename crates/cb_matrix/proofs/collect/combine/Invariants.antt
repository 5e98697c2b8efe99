use Rattle.cb_matrix.proofs.InPlace.{IsCombinedInPlace}
use Rattle.cb_matrix.proofs.collect.combine.Given as goal

-- the sums of the entries so far are the first `kept` and `current`
abbrev pub invariant-loop-index : goal.invariant-loop-index
invariant-loop-index g l = IsCombinedInPlace g.S.Semiring.arithmetic l.fn.entries l.entries l.kept l.index l.current
