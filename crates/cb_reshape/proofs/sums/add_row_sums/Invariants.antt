use Rattle.std.proofs.Common.{◌≡◌, ℕ, ◌<◌, length, get_or, drop}
use Rattle.std.specs.Prelude.{All}
use Rattle.cb_semirings.specs.Arithmetic.{IsValue}
use Rattle.cb_reshape.proofs.RowTotals.{row_sum}
use Rattle.cb_reshape.proofs.sums.add_row_sums.Given as goal

abbrev pub invariant-loop-n : goal.invariant-loop-n
invariant-loop-n g l =
    let s = g.S.Semiring.arithmetic in
    record {
      long : length l.sums ≡ length l.fn.sums;
      values : All (IsValue s) l.sums;
      sums : (i : ℕ) → i < length l.sums → s.add (get_or l.sums i s.zero) (row_sum s (drop l.n l.block.entries) i) ≡ s.add (get_or l.fn.sums i s.zero) (row_sum s l.block.entries i);
    }
