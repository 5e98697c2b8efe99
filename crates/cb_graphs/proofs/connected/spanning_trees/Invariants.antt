use Rattle.std.proofs.Common.{◌<◌, ℕ}
use Rattle.cb_searches.specs.Numbers.{number_at}
use Rattle.cb_graphs.specs.Forests.{AreJoinedInColumn, AreParentsIn}
use Rattle.cb_graphs.specs.Neighbours.{vertex_at}
use Rattle.cb_graphs.proofs.connected.spanning_trees.Given as goal

-- the vertices of each entry of the first columns are in one tree
abbrev pub invariant-loop-n : goal.invariant-loop-n
invariant-loop-n l = record {
  trees : AreParentsIn l.graph l.parents;
  joined : (k : ℕ) → k < l.n → AreJoinedInColumn l.graph (number_at l.parents) (vertex_at l.graph k);
}
