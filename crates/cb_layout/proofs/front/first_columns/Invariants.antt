use Rattle.std.proofs.Common.{◌≡◌, ℕ, ◌<◌, length, get_or}
use Rattle.cb_grid.specs.declared.TheConstants.{LARGEST_SIDE}
use Rattle.cb_layout.specs.Fronts.{columns_in}
use Rattle.cb_layout.proofs.front.first_columns.Given as goal

-- the blocks of the rows so far
abbrev pub invariant-loop-i : goal.invariant-loop-i
invariant-loop-i g l =
    (length l.columns ≡ LARGEST_SIDE) × ((k : ℕ) → k < l.i → get_or l.columns k 0 ≡ get_or (columns_in l.fn.grid.side l.fn.blocks l.fn.column k) 0 4294967295)
