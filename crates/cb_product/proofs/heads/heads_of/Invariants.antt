use Rattle.std.proofs.Common.{◌≡◌, ℕ, List, length, drop, heap_items}
use Rattle.std.specs.Prelude.{All}
use Rattle.std.specs.BinaryHeap.{IsHeap}
use Rattle.cb_semirings.specs.Arithmetic.{IsValue}
use Rattle.cb_product.specs.Heads.{IsHead, by_row, heads_value}
use Rattle.cb_product.specs.Terms.{terms_value}
use Rattle.cb_product.proofs.heads.heads_of.Given as goal

abbrev pub invariant-loop-term : goal.invariant-loop-term
invariant-loop-term g l =
    let s = g.S.Semiring.arithmetic in
    record {
      heads : All (IsHead s l.rows) (heap_items l.heads);
      order : IsHeap by_row (heap_items l.heads);
      sums : (values : List ℕ) → length values ≡ length l.rows → All (IsValue s) values → (i : ℕ) → s.add (heads_value s l.rows values i (heap_items l.heads)) (terms_value s l.rows values i (drop l.term-index l.terms)) ≡ terms_value s l.rows values i l.terms;
    }
