use Rattle.std.proofs.Common.{◌≡◌, ◌++◌, length}
use Rattle.cb_grid.specs.Blocks.{glued_blocks}
use Rattle.cb_layout.proofs.glue.gather.Given as goal

-- the entries so far, and those that are left
abbrev pub invariant-loop-segment : goal.invariant-loop-segment
invariant-loop-segment g l = l.entries.items ++ l.segments ≡ (glued_blocks g.S.Semiring.arithmetic l.fn.grid.side l.fn.shape l.fn.blocks).entries

abbrev pub decreases-loop-segment : goal.decreases-loop-segment
decreases-loop-segment g l = length l.segments
