use Rattle.std.proofs.Common.{◌≡◌, take}
use Rattle.std.specs.Prelude.{All}
use Rattle.cb_matrix.specs.Sparse.{Sparse}
use Rattle.cb_searches.specs.Numbers.{number_at}
use Rattle.cb_graphs.specs.Components.{AreJoined}
use Rattle.cb_graphs.specs.Forests.{AreInOneTree, AreParentsIn, IsReached, KeepsTrees}
use Rattle.cb_graphs.proofs.connected.join_all.Given as goal

-- the first vertices are in the tree of the least root so far
abbrev pub invariant-loop-vertex : goal.invariant-loop-vertex
invariant-loop-vertex l = record {
  trees : (a : Sparse) → AreParentsIn a l.fn.parents → All (IsReached a l.root) l.vertices → AreParentsIn a l.parents;
  keeps : KeepsTrees (number_at l.fn.parents) (number_at l.parents);
  root : number_at l.parents l.least ≡ l.least;
  same : AreInOneTree (number_at l.parents) l.root l.least;
  above : (a : Sparse) → AreParentsIn a l.fn.parents → All (IsReached a l.root) l.vertices → AreJoined a l.least l.root;
  passed : All (λ v. AreInOneTree (number_at l.parents) v l.root) (take l.vertex-index l.vertices);
}
