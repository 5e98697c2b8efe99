use Rattle.std.proofs.Common.{◌≢◌, take}
use Rattle.std.specs.Prelude.{All}
use Rattle.cb_matrix.specs.Sparse.{Sparse}
use Rattle.cb_searches.specs.Numbers.{number_at}
use Rattle.cb_searches.specs.Walks.{infinite}
use Rattle.cb_graphs.specs.Forests.{AreParentsIn, IsFlat, IsShortened}
use Rattle.cb_graphs.proofs.connected.flatten_all.Given as goal

-- the parents of the first vertices are roots
abbrev pub invariant-loop-entry : goal.invariant-loop-entry
invariant-loop-entry l = record {
  trees : (a : Sparse) → AreParentsIn a l.fn.parents → AreParentsIn a l.parents;
  shorter : IsShortened (number_at l.fn.parents) (number_at l.parents);
  flat : All (λ e. (number_at l.parents e.row ≢ infinite) × IsFlat (number_at l.parents) e.row) (take l.entry-index l.entries);
}
