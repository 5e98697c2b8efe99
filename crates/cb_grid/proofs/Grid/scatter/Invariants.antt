use Rattle.std.proofs.Common.{take}
use Rattle.cb_grid.proofs.EntriesByTile.{IsScattered}
use Rattle.cb_grid.specs.Tiles.{block_tiles}
use Rattle.cb_grid.proofs.Grid.scatter.Given as goal

-- the blocks of the entries so far
abbrev pub invariant-loop-entry : goal.invariant-loop-entry
invariant-loop-entry g l =
    IsScattered (block_tiles l.fn.self.side l.fn.matrix.shape) (take l.entry-index l.fn.matrix.entries) l.blocks.items
