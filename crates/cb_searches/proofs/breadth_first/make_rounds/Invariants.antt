use Rattle.std.proofs.Common.{ℕ, ◌-◌}
use Rattle.cb_searches.specs.BreadthFirst.{IsReaching}
use Rattle.cb_searches.proofs.breadth_first.make_rounds.Given as goal

-- so many rounds are made
abbrev pub invariant-loop-rounds : goal.invariant-loop-rounds
invariant-loop-rounds l = (source : ℕ) → IsReaching l.graph source l.first l.fn.known l.fn.queue.items l.fn.start → IsReaching l.graph source l.rounds l.known l.queue.items l.start

abbrev pub decreases-loop-rounds : goal.decreases-loop-rounds
decreases-loop-rounds l = l.graph.shape.rows - l.rounds
