use Rattle.std.proofs.Common.{◌≡◌, drop}
use Rattle.std.specs.Prelude.{All}
use Rattle.cb_matrix.specs.Sparse.{Sparse}
use Rattle.cb_dcsc.specs.Columns.{with_entries}
use Rattle.cb_layout.specs.Panels.{entries_of_panels}
use Rattle.cb_layout.proofs.panelled.append_copies.Given as goal

-- the panels so far are joined, and those that are left are of the same shape
abbrev pub invariant-loop-panel : goal.invariant-loop-panel
invariant-loop-panel g l =
    let rest = drop l.panel-index l.panels in record {
      whole : with_entries l.block (entries_of_panels rest) ≡ with_entries l.fn.block (entries_of_panels l.fn.panels);
      shapes : All (λ (panel : Sparse). panel.shape ≡ l.block.shape) rest;
    }
