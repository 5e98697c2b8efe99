use Rattle.std.proofs.Common.{◌≡◌, ℕ, ◌<◌, length, drop, get_or}
use Rattle.std.specs.Prelude.{All}
use Rattle.cb_semirings.specs.Arithmetic.{IsValue}
use Rattle.cb_product.specs.Sources.{plus_terms, sum_with_all}
use Rattle.cb_product.proofs.workspace.Workspace.make_all_dense.Given as goal

abbrev pub invariant-loop-source : goal.invariant-loop-source
invariant-loop-source g l =
    let s = g.S.Semiring.arithmetic in
    record {
      length : length l.self.sums ≡ l.rows;
      values : All (IsValue s) l.self.sums;
      so_far : (i : ℕ) → i < l.rows → plus_terms s i (drop l.source-index l.sources) (get_or l.self.sums i s.zero) ≡ sum_with_all s l.sources l.own_rows l.own_values i;
    }
