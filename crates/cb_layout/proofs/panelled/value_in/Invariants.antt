use Rattle.std.proofs.Common.{◌≡◌, ◌≢◌, drop}
use Rattle.std.specs.Prelude.{All}
use Rattle.cb_matrix.specs.Sparse.{value_at}
use Rattle.cb_layout.specs.Panels.{entries_of_panels}
use Rattle.cb_layout.proofs.panelled.value_in.Given as goal

-- no panel so far has an entry there
abbrev pub invariant-loop-panel : goal.invariant-loop-panel
invariant-loop-panel g l =
    let z = g.S.Semiring.arithmetic.zero in
    let rest = entries_of_panels (drop l.panel-index l.panels) in record {
      none : value_at z rest l.row l.column ≡ value_at z (entries_of_panels l.panels) l.row l.column;
      stored : All (λ e. e.value ≢ z) rest;
    }
