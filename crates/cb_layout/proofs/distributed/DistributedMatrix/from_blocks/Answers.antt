use Rattle.std.proofs.Common.{◌≡◌, ℕ, ◌<◌, ◌≤◌, List, length, min, ap, subst, ◌∙◌, arith}
use Rattle.std.specs.Prelude.{sum_by}
use Rattle.cb_matrix.specs.Sparse.{Sparse, IsMatrix}
use Rattle.cb_grid.specs.Blocks.{block_at}
use Rattle.cb_layout.specs.Distributed.{AreBlocks}
use Rattle.cb_layout.proofs.BlockColumns.{counted_all, counted_below}
use Rattle.cb_layout.proofs.distributed.DistributedMatrix.from_blocks.Goals as goal

pub invariant_of-result : goal.invariant_of-result
invariant_of-result g c =
    let s = g.S.Semiring.arithmetic in
    let laws = g.met.S.Semiring.is_semiring in
    let q = c.args.grid.side in
    let shape = c.args.shape in
    let bs = c.args.blocks.items in
    let side = c.side.ensures.value in
    let some = c.side.ensures.some in
    let few = c.side.ensures.limit in
    let known : (r : ℕ) → r < length bs → IsMatrix s (block_at bs r) = subst (λ (xs : List Sparse). (r : ℕ) → r < length xs → IsMatrix s (block_at xs r)) c.deref.ensures.value c.stored-len.ensures.matrices in
    let are : AreBlocks s q shape bs = record { some = omega arith; few = omega arith; count = c.requires.count; shapes = c.requires.shapes; matrices = known } in
    let rows : shape.rows ≤ 2147483647 = let v = c.rows.ensures.value in let l = c.rows.ensures.limit in omega arith in
    let cols : shape.cols ≤ 2147483647 = let v = c.cols.ensures.value in let l = c.cols.ensures.limit in omega arith in
    let below = counted_below s laws q shape bs are rows cols in
    let all = counted_all s laws q shape bs are in
    let count : c.stored-len.result ≡ min (sum_by (λ (b : Sparse). length b.entries) bs) 18446744073709551615 = c.stored-len.ensures.count ∙ ap (λ (xs : List Sparse). min (sum_by (λ (b : Sparse). length b.entries) xs) 18446744073709551615) c.deref.ensures.value in
    (are, omega arith)
