use Rattle.std.proofs.Common.{◌≡◌, drop}
use Rattle.std.specs.Prelude.{All}
use Rattle.cb_matrix.specs.Sparse.{Sparse}
use Rattle.cb_dcsc.specs.Columns.{with_entries}
use Rattle.cb_layout.specs.Panels.{entries_of_panels}
use Rattle.cb_shares.specs.Shares.{among_entries, columns_from}
use Rattle.cb_shares.proofs.columns.append_columns.Given as goal

-- the columns of the panels so far are appended, and those that are left are of the same shape
abbrev pub invariant-loop-panel : goal.invariant-loop-panel
invariant-loop-panel g l =
    let cs = columns_from l.first l.end in
    let rest = drop l.panel-index l.panels in record {
      whole : with_entries l.made (among_entries cs (entries_of_panels rest)) ≡ with_entries l.fn.made (among_entries cs (entries_of_panels l.fn.panels));
      shapes : All (λ (panel : Sparse). panel.shape ≡ l.made.shape) rest;
    }
