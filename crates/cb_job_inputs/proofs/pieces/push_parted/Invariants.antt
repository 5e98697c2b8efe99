use Rattle.std.proofs.Common.{◌≡◌, true, ◌++◌}
use Rattle.std.specs.Prelude.{All}
use Rattle.cb_market.specs.Pieces.{is_whole}
use Rattle.cb_job_inputs.specs.TextPieces.{in_a_row}
use Rattle.cb_job_inputs.proofs.pieces.push_parted.Given as goal

-- the pieces so far and what is left are the text; each piece ends with a line, and what is left does if the text does
abbrev pub invariant-loop-pieces : goal.invariant-loop-pieces
invariant-loop-pieces l = record {
  all : in_a_row l.cut.items ++ l.left ≡ in_a_row l.fn.cut.items ++ l.part;
  ends : All (λ p. is_whole p ≡ true) l.cut.items;
  last : is_whole l.part ≡ true → is_whole l.left ≡ true;
}

abbrev pub decreases-loop-pieces : goal.decreases-loop-pieces
decreases-loop-pieces l = l.pieces
