use Rattle.std.proofs.Common.{◌≡◌, ℕ, ◌*◌, ◌<◌, ◌≤◌, length, get_or}
use Rattle.std.specs.Prelude.{All}
use Rattle.cb_product.specs.DenseSums.{column_and_sum}
use Rattle.cb_product.specs.Marks.{IsAccumulator, IsZeroOutside}
use Rattle.cb_product.proofs.sparse_accumulator.take_rows.Given as goal

abbrev pub invariant-loop-n : goal.invariant-loop-n
invariant-loop-n g l =
    let s = g.S.Semiring.arithmetic in
    record {
      long : length l.sums ≡ length l.fn.sums;
      groups_long : length l.groups ≡ length l.fn.groups;
      accumulator : IsAccumulator s l.sums l.marks l.groups;
      from : l.fn.used.0 ≤ l.n;
      used : IsZeroOutside l.fn.used.0 l.fn.used.1 l.groups;
      passed : (k : ℕ) → k < l.n → get_or l.groups k 0 ≡ 0;
      before : All (λ i. i < l.n * 4096) l.made.rows;
      together : (i : ℕ) → column_and_sum s l.made l.sums i ≡ get_or l.fn.sums i s.zero;
    }
