use Rattle.std.proofs.Common.{◌≡◌, true, ◌++◌, take}
use Rattle.std.specs.Prelude.{All}
use Rattle.cb_market.specs.Pieces.{is_whole}
use Rattle.cb_job_inputs.specs.TextPieces.{in_a_row}
use Rattle.cb_job_ends.specs.Texts.{joined}
use Rattle.cb_job_inputs.proofs.pieces.cut_parts.Given as goal

-- the pieces so far and the last part are the parts so far, and each piece ends with a line
abbrev pub invariant-loop-part : goal.invariant-loop-part
invariant-loop-part l = record {
  all : in_a_row l.cut.items ++ l.last ≡ l.entries ++ joined (take l.part-index l.rest);
  ends : All (λ p. is_whole p ≡ true) l.cut.items;
}
