use Rattle.std.proofs.Common.{◌≡◌, ℕ, ◌≤◌, drop}
use Rattle.std.specs.Prelude.{All}
use Rattle.cb_semirings.specs.Arithmetic.{IsValue}
use Rattle.cb_product.specs.SparseColumn.{value_in}
use Rattle.cb_product.specs.Sources.{plus_terms, sum_with_all}
use Rattle.cb_product.proofs.several.make_all_joined.Given as goal

abbrev pub invariant-loop-source : goal.invariant-loop-source
invariant-loop-source g l =
    let s = g.S.Semiring.arithmetic in
    record {
      zeros : All (λ x. x ≡ s.zero) l.work.sums;
      values : (i : ℕ) → IsValue s (value_in s.zero l.work.made i);
      past : (i : ℕ) → l.rows ≤ i → value_in s.zero l.work.made i ≡ s.zero;
      so_far : (i : ℕ) → plus_terms s i (drop l.source-index l.sources) (value_in s.zero l.work.made i) ≡ sum_with_all s l.sources l.own_rows l.own_values i;
    }
