use Rattle.std.proofs.Common.{◌≢◌, ◌<◌, ◌≤◌, ℕ, get_or}
use Rattle.cb_semirings.specs.Tables.{or_and}
use Rattle.cb_matrix.specs.Sparse.{Sparse, at}
use Rattle.cb_searches.specs.Walks.{infinite}
use Rattle.cb_searches.specs.Numbers.{number_at, AreNumbers}
use Rattle.cb_searches.specs.BreadthFirst.{HasTurned, IsReaching, IsRoundFrom}
use Rattle.cb_searches.proofs.breadth_first.down.Given as goal

-- the edges from the first of the vertices that were just reached have been followed
abbrev pub invariant-loop-n : goal.invariant-loop-n
invariant-loop-n l = record {
  numbers : AreNumbers l.turned.shape.rows l.known;
  round : (a : Sparse) (source : ℕ) → HasTurned l.turned a → IsReaching a source l.rounds l.fn.known l.fn.queue.items l.start → IsRoundFrom a l.rounds (number_at l.fn.known) l.fn.queue.items (number_at l.known) l.queue.items;
  followed : (a : Sparse) → HasTurned l.turned a → (i : ℕ) → l.start ≤ i → i < l.n → (v : ℕ) → at or_and a (get_or l.fn.queue.items i 0) v ≢ 0 → number_at l.known v ≢ infinite;
}
