use Rattle.std.proofs.Common.{ℕ, heap_items}
use Rattle.cb_matrix.specs.Sparse.{Sparse}
use Rattle.cb_searches.specs.Numbers.{number_at, AreNumbers}
use Rattle.cb_searches.specs.Settling.{AreEdges, IsSettling, work_left}
use Rattle.cb_searches.proofs.dijkstra.settle_waiting.Given as goal

-- what waits settles, if it did at first
abbrev pub invariant-loop-least : goal.invariant-loop-least
invariant-loop-least l = record {
  numbers : AreNumbers l.edges.shape.rows l.known;
  settling : (a : Sparse) (f : ℕ → ℕ) → AreEdges l.edges a → IsSettling a f (number_at l.fn.known) (heap_items l.fn.waiting) → IsSettling a f (number_at l.known) (heap_items l.waiting);
}

abbrev pub decreases-loop-least : goal.decreases-loop-least
decreases-loop-least l = work_left l.edges.shape.rows l.known (heap_items l.waiting)
