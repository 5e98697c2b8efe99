use Rattle.std.proofs.Common.{◌≡◌, drop}
use Rattle.std.specs.Prelude.{All}
use Rattle.cb_semirings.specs.Arithmetic.{IsValue}
use Rattle.cb_matrix.specs.Sparse.{Sparse, IsMatrix}
use Rattle.cb_layout.specs.Panels.{side_by_side}
use Rattle.cb_reshape.specs.Sums.{matrix_total}
use Rattle.cb_shares.specs.Shares.{panel}
use Rattle.cb_shares.proofs.sums.total_of_columns.Given as goal

-- the sum so far, and that of these columns of the panels that are left, add up to the sum of all
abbrev pub invariant-loop-panel : goal.invariant-loop-panel
invariant-loop-panel g l =
    let s = g.S.Semiring.arithmetic in
    let rest = drop l.panel-index l.others in record {
      whole : s.add l.sum (matrix_total s (panel (side_by_side l.matrix.shape rest) l.first l.end)) ≡ matrix_total s (panel l.matrix l.first l.end);
      value : IsValue s l.sum;
      matrix : IsMatrix s (side_by_side l.matrix.shape rest);
      shapes : All (λ (panel : Sparse). panel.shape ≡ l.matrix.shape) rest;
    }
