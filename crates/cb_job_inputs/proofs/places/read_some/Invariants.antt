use Rattle.cb_job_inputs.specs.TextPieces.{AreInOrder}
use Rattle.cb_job_inputs.proofs.places.read_some.Given as goal

-- the places are in order
abbrev pub invariant-loop : goal.invariant-loop
invariant-loop g l = AreInOrder g.S.Semiring.arithmetic l.cut.reading l.cut.pieces.items l.places.items
