use Rattle.std.proofs.Common.{◌≡◌, ◌+◌, ◌<◌, ◌≤◌, ◌∙◌, length, ap, arith}
use Rattle.cb_matrix.specs.Sparse.{Extent}
use Rattle.cb_searches.specs.Walks.{infinite}
use Rattle.cb_searches.specs.Numbers.{number_at}
use Rattle.cb_searches.proofs.LevelNumbers.{rounds_are_levels}
use Rattle.cb_searches.proofs.SearchRounds.{reaching_ended}
use Rattle.cb_searches.proofs.breadth_first.make_rounds.Goals as goal

pub returns-else-start-len-clause-levels : goal.returns-else-start-len-clause-levels
returns-else-start-len-clause-levels c source inside is =
    let k = c.loop-rounds.rounds in
    let q = c.loop-rounds.queue.items in
    let few : k + 1 < infinite = omega (arith, c.loop-rounds-test.true, c.rows.ensures.limit) in
    let none : length q ≤ c.loop-rounds.start = omega (arith, c.if-start-len.false, c.len.ensures) in
    reaching_ended c.args.graph.now source k c.loop-rounds.known q c.loop-rounds.start (c.loop-rounds.invariant source is) few none

pub returns-after-loop-rounds-clause-levels : goal.returns-after-loop-rounds-clause-levels
returns-after-loop-rounds-clause-levels c source inside is =
    let a = c.args.graph.now in
    let rows : c.rows.result ≡ a.shape.rows = c.rows.ensures.value ∙ ap (λ (e : Extent). e.rows) c.shape-shape.ensures.shape in
    let fits : a.shape.rows < infinite = omega (arith, rows, c.rows.ensures.limit) in
    let all : a.shape.rows ≤ c.loop-rounds.rounds = omega (arith, rows, c.loop-rounds-test.false) in
    rounds_are_levels a c.requires.turned.matrix c.requires.turned.square fits source inside (number_at c.loop-rounds.known) c.loop-rounds.rounds all (c.loop-rounds.invariant source is).rounds
