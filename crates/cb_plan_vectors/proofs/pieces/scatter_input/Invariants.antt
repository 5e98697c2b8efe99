use Rattle.std.proofs.Common.{take}
use Rattle.cb_grid.proofs.EntriesByTile.{IsScattered}
use Rattle.cb_plan_vectors.specs.PieceTiles.{input_tiles}
use Rattle.cb_plan_vectors.proofs.pieces.scatter_input.Given as goal

-- the blocks of the entries so far
abbrev pub invariant-loop-entry : goal.invariant-loop-entry
invariant-loop-entry g l =
    IsScattered (input_tiles l.fn.grid.side l.fn.vector.shape) (take l.entry-index l.fn.vector.entries) l.blocks.items
