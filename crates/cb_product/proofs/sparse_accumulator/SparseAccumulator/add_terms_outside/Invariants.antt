use Rattle.std.proofs.Common.{◌≡◌, ℕ, ◌<◌, cond, length, get_or, drop}
use Rattle.std.specs.Prelude.{All, ◌==◌}
use Rattle.cb_semirings.specs.Arithmetic.{IsValue}
use Rattle.cb_product.specs.Marks.{mark_of}
use Rattle.cb_product.specs.Terms.{terms_value}
use Rattle.cb_product.proofs.sparse_accumulator.SparseAccumulator.add_terms_outside.Given as goal

abbrev pub invariant-loop-term : goal.invariant-loop-term
invariant-loop-term g l =
    let s = g.S.Semiring.arithmetic in
    record {
      long : length l.self ≡ length l.fn.self;
      values : All (IsValue s) l.self;
      sums : (i : ℕ) → i < length l.self → s.add (get_or l.self i s.zero) (cond (mark_of l.excluded i == 1) s.zero (terms_value s l.rows l.values i (drop l.term-index l.terms))) ≡ s.add (get_or l.fn.self i s.zero) (cond (mark_of l.excluded i == 1) s.zero (terms_value s l.rows l.values i l.terms));
    }
