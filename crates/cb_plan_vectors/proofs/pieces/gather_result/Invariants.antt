use Rattle.cb_plan_vectors.specs.PieceTiles.{result_tiles, IsGathered, before_rank}
use Rattle.cb_plan_vectors.proofs.pieces.gather_result.Given as goal

-- the pieces of the ranks so far
abbrev pub invariant-loop-rank : goal.invariant-loop-rank
invariant-loop-rank g l =
    IsGathered g.S.Semiring.arithmetic l.fn.shape (result_tiles l.fn.grid.side l.fn.shape) (before_rank l.fn.blocks l.rank) l.entries.items
