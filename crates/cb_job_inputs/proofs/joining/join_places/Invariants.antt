use Rattle.cb_job_inputs.specs.TextPieces.{AreInOrder}
use Rattle.cb_job_inputs.proofs.joining.join_places.Given as goal

-- the places are in order
abbrev pub invariant-loop-number : goal.invariant-loop-number
invariant-loop-number g l = AreInOrder g.S.Semiring.arithmetic l.cut.reading l.cut.pieces.items l.places.items
