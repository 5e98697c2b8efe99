use Rattle.std.proofs.Common.{ℕ, ◌∷◌, ◌≤◌, heap_items}
use Rattle.cb_matrix.specs.Sparse.{Sparse}
use Rattle.cb_searches.specs.Numbers.{number_at, AreNumbers}
use Rattle.cb_searches.specs.Settling.{AreEdges, IsSettling, work_left}
use Rattle.cb_searches.proofs.RelaxedEdges.{IsRelaxing}
use Rattle.cb_searches.proofs.dijkstra.relax_edges.Given as goal

-- the first edges are relaxed
abbrev pub invariant-loop-n : goal.invariant-loop-n
invariant-loop-n l = record {
  numbers : AreNumbers l.edges.shape.rows l.known;
  work : work_left l.edges.shape.rows l.known (heap_items l.waiting) ≤ work_left l.edges.shape.rows l.fn.known (heap_items l.fn.waiting);
  relaxing : (a : Sparse) (f : ℕ → ℕ) → AreEdges l.edges a → IsSettling a f (number_at l.fn.known) (l.from ∷ heap_items l.fn.waiting) → IsRelaxing a f (number_at l.known) (heap_items l.waiting) l.from l.rows l.values l.n;
}
