use Rattle.std.proofs.Common.{length}
use Rattle.std.specs.Prelude.{All, IfSome}
use Rattle.cb_job_inputs.specs.TextPieces.{AreInOrder}
use Rattle.cb_job_inputs.proofs.places.read_all.Given as goal

abbrev pub decreases-loop-others : goal.decreases-loop-others
decreases-loop-others g l = length l.read.items

-- what is left was read in order, and what was moved is in order
abbrev pub invariant-loop-others : goal.invariant-loop-others
invariant-loop-others g l =
    All (λ o. IfSome o (λ p. AreInOrder g.S.Semiring.arithmetic l.cut.reading l.cut.pieces.items p.items)) l.read.items
    × AreInOrder g.S.Semiring.arithmetic l.cut.reading l.cut.pieces.items l.places.items
