use Rattle.std.proofs.Common.{◌≡◌, ◌<◌, ℕ, length, get_or, take}
use Rattle.std.specs.Prelude.{◌==◌, count_by}
use Rattle.cb_graphs.proofs.degrees.row_counts.Given as goal

abbrev pub invariant-loop-row : goal.invariant-loop-row
invariant-loop-row l =
    record {
      long : length l.counts.items ≡ l.fn.bound;
      so_far : (i : ℕ) → i < l.fn.bound → get_or l.counts.items i 0 ≡ count_by (λ r. r == i) (take l.row-index l.rows);
    }
