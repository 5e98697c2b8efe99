use Rattle.std.proofs.Common.{◌≡◌, ◌≢◌, ℕ, ◌+◌, ◌*◌, ◌<◌, length, get_or}
use Rattle.std.specs.Prelude.{All}
use Rattle.std.specs.Int.{bit_at}
use Rattle.cb_product.specs.DenseSums.{column_and_sum}
use Rattle.cb_product.specs.Marks.{IsAccumulator}
use Rattle.cb_product.proofs.sparse_accumulator.take_group.Given as goal

abbrev pub invariant-loop-rest : goal.invariant-loop-rest
invariant-loop-rest g l =
    let s = g.S.Semiring.arithmetic in
    record {
      long : length l.sums ≡ length l.fn.sums;
      groups_long : length l.groups ≡ length l.fn.groups;
      accumulator : IsAccumulator s l.sums l.marks l.groups;
      left : get_or l.groups l.n 0 ≡ l.rest;
      before : (k : ℕ) → bit_at l.rest k ≡ 1 → All (λ i. i < (l.n * 64 + k) * 64) l.made.rows;
      upper : All (λ i. i < l.n * 4096 + 4096) l.made.rows;
      others : (k : ℕ) → k ≢ l.n → get_or l.groups k 0 ≡ get_or l.fn.groups k 0;
      together : (i : ℕ) → column_and_sum s l.made l.sums i ≡ column_and_sum s l.fn.made l.fn.sums i;
    }

abbrev pub decreases-loop-rest : goal.decreases-loop-rest
decreases-loop-rest g l = l.rest
