use Rattle.std.proofs.Common.{◌≡◌, ℕ, ◌<◌, ◌≤◌, length, get_or, drop}
use Rattle.std.specs.Prelude.{All}
use Rattle.cb_semirings.specs.Arithmetic.{IsValue}
use Rattle.cb_dense.proofs.ListedColumns.{listed_sum}
use Rattle.cb_dense.proofs.add_product_of_columns.Given as goal

abbrev pub invariant-loop-n : goal.invariant-loop-n
invariant-loop-n g l =
    let s = g.S.Semiring.arithmetic in
    record {
      long : length l.sums ≡ length l.fn.sums;
      values : All (IsValue s) l.sums;
      before : (k m : ℕ) → k < l.next → l.n ≤ m → m < length l.columns → get_or l.places k 0 < get_or l.columns m 0;
      sums : (i : ℕ) → i < length l.sums → s.add (get_or l.sums i s.zero) (listed_sum s l.matrix l.vector i (drop l.n l.columns)) ≡ s.add (get_or l.fn.sums i s.zero) (listed_sum s l.matrix l.vector i l.columns);
    }
