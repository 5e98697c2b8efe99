use Rattle.std.proofs.Common.{◌≡◌, ℕ, ◌<◌, length, get_or}
use Rattle.std.specs.Prelude.{All}
use Rattle.cb_semirings.specs.Arithmetic.{IsValue}
use Rattle.cb_dcsc.specs.Columns.{row_value}
use Rattle.cb_product.specs.SparseColumn.{rest_value}
use Rattle.cb_dense.proofs.add_column.Given as goal

abbrev pub invariant-loop-n : goal.invariant-loop-n
invariant-loop-n g l =
    let s = g.S.Semiring.arithmetic in
    record {
      long : length l.sums ≡ length l.fn.sums;
      values : All (IsValue s) l.sums;
      sums : (i : ℕ) → i < length l.sums → s.add (get_or l.sums i s.zero) (s.mul (rest_value s.zero l.rows l.values l.n i) l.scale) ≡ s.add (get_or l.fn.sums i s.zero) (s.mul (row_value s.zero l.rows l.values i) l.scale);
    }
