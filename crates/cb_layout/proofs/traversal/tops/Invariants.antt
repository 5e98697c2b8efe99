use Rattle.std.proofs.Common.{◌≡◌, ℕ, ◌<◌, length, get_or}
use Rattle.cb_grid.specs.declared.TheConstants.{LARGEST_SIDE}
use Rattle.cb_grid.specs.Parts.{part_start}
use Rattle.cb_layout.proofs.traversal.tops.Given as goal

-- the parts so far
abbrev pub invariant-loop-part : goal.invariant-loop-part
invariant-loop-part l = (length l.tops ≡ LARGEST_SIDE) × ((k : ℕ) → k < l.part → get_or l.tops k 0 ≡ part_start l.fn.grid.side l.fn.rows k)
