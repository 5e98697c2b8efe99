use Rattle.cb_masked.proofs.KeptSums.{AreKeptSoFar}
use Rattle.cb_masked.proofs.stored_sums.keep_nonzero.Given as goal

abbrev pub invariant-loop-n : goal.invariant-loop-n
invariant-loop-n g l = AreKeptSoFar g.S.Semiring.arithmetic l.rows l.sums l.n l.kept_rows.items l.values.items
