use Rattle.std.proofs.Common.{◌≡◌, ℕ, ◌<◌, ◌≤◌, [], get_or, ◌∙◌, arith}
use Rattle.cb_layout.specs.Segments.{entries_left}
use Rattle.cb_layout.proofs.Fronts.{if_none}
use Rattle.cb_layout.proofs.RemainingEntries.{next_left, none_left}
use Rattle.cb_layout.proofs.traversal.reach.Goals as goal

pub loop-column-preserved : goal.loop-column-preserved
loop-column-preserved g c =
    let s = g.S.Semiring.arithmetic in
    let f = c.loop-column.front in
    let front = c.loop-column.invariant.0 in
    let column = c.start.ensures.column in
    let at = c.loop-column.invariant.2 in (
      c.start.ensures.front,
      next_left s g.met.S.Semiring.is_semiring c.args.grid.side c.args.shape c.args.blocks.now c.requires.blocks f c.start.result front (rw c.in-None.is at front.none) c.start.ensures.front c.start.ensures.start (omega arith)
          ∙ c.loop-column.invariant.1,
      omega arith,
    )

pub returns-clause-last : goal.returns-clause-last
returns-clause-last g c =
    let s = g.S.Semiring.arithmetic in
    let q = c.args.grid.side in
    let f = c.loop-column.front in
    let front = c.loop-column.invariant.0 in
    let at = c.loop-column.invariant.2 in
    let past = c.loop-column-test.false in
    let side = c.side-column-end.ensures.value in
    if_none f.first ((k : ℕ) → k < q → 4294967295 ≤ get_or f.columns k 0) (entries_left s q c.args.shape c.args.blocks.now f ≡ []) front.none
    (λ none. none_left s g.met.S.Semiring.is_semiring q c.args.shape c.args.blocks.now c.requires.blocks f front none (omega arith))
