use Rattle.std.proofs.Common.{◌≡◌}
use Rattle.cb_matrix.specs.Sparse.{Sparse}
use Rattle.cb_searches.specs.Numbers.{number_at}
use Rattle.cb_graphs.specs.Forests.{AreParentsIn, IsShortened}
use Rattle.cb_graphs.proofs.connected.flatten_at.Given as goal

-- the path is shorter
abbrev pub invariant-loop-parents : goal.invariant-loop-parents
invariant-loop-parents l = record {
  trees : (a : Sparse) → AreParentsIn a l.fn.parents → AreParentsIn a l.parents;
  shorter : IsShortened (number_at l.fn.parents) (number_at l.parents);
  parent : number_at l.parents l.vertex ≡ l.parent;
}

abbrev pub decreases-loop-parents : goal.decreases-loop-parents
decreases-loop-parents l = l.parent
