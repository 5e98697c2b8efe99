use Rattle.std.proofs.Common.{◌≡◌, ℕ, ◌<◌, length, take, min}
use Rattle.std.specs.Prelude.{sum_by}
use Rattle.cb_matrix.specs.Sparse.{Sparse, IsMatrix}
use Rattle.cb_grid.specs.Blocks.{block_at}
use Rattle.cb_layout.proofs.glue.stored.Given as goal

-- the entries of the blocks so far, which are matrices
abbrev pub invariant-loop-block : goal.invariant-loop-block
invariant-loop-block g l =
    (l.count ≡ min (sum_by (λ (block : Sparse). length block.entries) (take l.block-index l.blocks)) 18446744073709551615) × ((r : ℕ) → r < l.block-index → IsMatrix g.S.Semiring.arithmetic (block_at l.blocks r))
