use Rattle.std.proofs.Common.{◌≡◌, ℕ, ◌<◌, length, drop, get_or}
use Rattle.cb_product.specs.Terms.{column_sum}
use Rattle.cb_masked.specs.RowSums.{AreSums}
use Rattle.cb_masked.proofs.sums.add_terms.Given as goal

abbrev pub invariant-loop-n : goal.invariant-loop-n
invariant-loop-n g l =
    let s = g.S.Semiring.arithmetic in
    record {
      are : AreSums s l.rows l.sums;
      sums : (k : ℕ) → k < length l.rows → s.add (get_or l.sums k s.zero) (column_sum s l.left (get_or l.rows k 0) (drop l.n l.inner) (drop l.n l.factors)) ≡ column_sum s l.left (get_or l.rows k 0) l.inner l.factors;
    }
