use Rattle.cb_product.proofs.WordStep.{IsWordSoFar}
use Rattle.cb_product.proofs.sparse_accumulator.take_word.Given as goal

abbrev pub invariant-loop-rest : goal.invariant-loop-rest
invariant-loop-rest g l = IsWordSoFar g.S.Semiring.arithmetic l.fn.sums l.fn.made l.n l.word l.sums l.made l.rest

abbrev pub decreases-loop-rest : goal.decreases-loop-rest
decreases-loop-rest g l = l.rest
