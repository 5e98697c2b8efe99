use Rattle.std.proofs.Common.{◌≡◌, ◌+◌}
use Rattle.cb_layout.specs.Fronts.{IsFront}
use Rattle.cb_layout.specs.Segments.{entries_left}
use Rattle.cb_layout.proofs.traversal.reach.Given as goal

-- the front of the column of the grid before this one, at which as many entries are left
abbrev pub invariant-loop-column : goal.invariant-loop-column
invariant-loop-column g l =
    IsFront l.fn.grid.side l.fn.shape l.fn.blocks l.front × (entries_left g.S.Semiring.arithmetic l.fn.grid.side l.fn.shape l.fn.blocks l.front ≡ entries_left g.S.Semiring.arithmetic l.fn.grid.side l.fn.shape l.fn.blocks l.fn.front) × (l.front.column + 1 ≡ l.column)
