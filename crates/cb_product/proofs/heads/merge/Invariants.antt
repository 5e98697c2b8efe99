use Rattle.std.proofs.Common.{◌<◌, ◌≤◌, heap_items}
use Rattle.std.specs.Prelude.{All}
use Rattle.std.specs.BinaryHeap.{IsHeap}
use Rattle.cb_semirings.specs.Arithmetic.{IsValue}
use Rattle.cb_product.specs.SparseColumn.{one_value}
use Rattle.cb_product.specs.Heads.{IsHead, by_row, heads_value, entries_left}
use Rattle.cb_product.specs.Terms.{terms_value}
use Rattle.cb_product.proofs.ColumnSoFar.{IsColumnSoFar}
use Rattle.cb_product.proofs.heads.merge.Given as goal

abbrev pub invariant-loop-later : goal.invariant-loop-later
invariant-loop-later g l =
    let s = g.S.Semiring.arithmetic in
    record {
      so_far : IsColumnSoFar s (λ i. terms_value s l.rows l.values i l.terms) l.made (λ i. s.add (one_value s.zero (l.row, l.sum) i) (heads_value s l.rows l.values i (heap_items l.heads)));
      before : All (λ i. i < l.row) l.made.rows;
      value : IsValue s l.sum;
      heads : All (IsHead s l.rows) (heap_items l.heads);
      order : IsHeap by_row (heap_items l.heads);
      heads_after : All (λ h. l.row ≤ h.row) (heap_items l.heads);
    }

abbrev pub decreases-loop-later : goal.decreases-loop-later
decreases-loop-later g l = entries_left (heap_items l.heads)
