use Rattle.cb_matrix.specs.Sparse.{Sparse}
use Rattle.cb_searches.specs.Numbers.{number_at}
use Rattle.cb_graphs.specs.Components.{AreJoined}
use Rattle.cb_graphs.specs.Forests.{AreInOneTree, AreParentsIn, IsShortened}
use Rattle.cb_graphs.proofs.connected.root_of.Given as goal

-- the path is shorter, and the vertex that it has come to is above the first one
abbrev pub invariant-loop-parents : goal.invariant-loop-parents
invariant-loop-parents l = record {
  trees : (a : Sparse) → AreParentsIn a l.fn.parents → AreParentsIn a l.parents;
  shorter : IsShortened (number_at l.fn.parents) (number_at l.parents);
  same : AreInOneTree (number_at l.parents) l.vertex l.root;
  joined : (a : Sparse) → AreParentsIn a l.fn.parents → AreJoined a l.root l.vertex;
}

abbrev pub decreases-loop-parents : goal.decreases-loop-parents
decreases-loop-parents l = l.root
