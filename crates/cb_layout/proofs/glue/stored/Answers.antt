use Rattle.std.proofs.Common.{◌≡◌, ◌<◌, ◌≤◌, List, length, min, ap, subst, ⊎_elim, ◌∙◌, arith}
use Rattle.std.specs.Prelude.{sum_by}
use Rattle.std.proofs.lemmas.Bool.{cases_lt}
use Rattle.std.proofs.lemmas.List.{get_or_read, take_all}
use Rattle.std.proofs.lemmas.List.Sums.{sum_by_more}
use Rattle.cb_matrix.specs.Sparse.{Sparse, IsMatrix}
use Rattle.cb_matrix.specs.Values.{empty_matrix}
use Rattle.cb_grid.specs.Blocks.{block_at}
use Rattle.cb_layout.proofs.glue.stored.Goals as goal

pub loop-block-preserved : goal.loop-block-preserved
loop-block-preserved g c =
    let s = g.S.Semiring.arithmetic in
    let k = c.loop-block.block-index in
    let bs = c.args.blocks.now in
    let none : Sparse = empty_matrix (record { rows = 0; cols = 0 }) in
    let read : c.block-item.result ≡ block_at bs k = get_or_read bs k c.block-item.result c.loop-block-test.true c.block-item.is none in
    let own : c.len.result ≡ length (block_at bs k).entries = c.len.ensures ∙ ap (λ (b : Sparse). length b.entries) read in
    let so_far = c.loop-block.invariant.0 in
    let more = sum_by_more (λ (b : Sparse). length b.entries) bs k none c.loop-block-test.true in (
      omega arith,
      (λ r l.
          ⊎_elim
          (λ (m : r < k). c.loop-block.invariant.1 r m)
          (λ (m : k ≤ r). let e : k ≡ r = omega arith in subst (λ n. IsMatrix s (block_at bs n)) e (subst (λ b. IsMatrix s b) read c.shape-shape.ensures.matrix))
          (cases_lt r k)),
    )

pub returns-clause-count : goal.returns-clause-count
returns-clause-count g c =
    let past = c.loop-block-test.false in
    let bs = c.args.blocks.now in
    c.loop-block.invariant.0 ∙ ap (λ (xs : List Sparse). min (sum_by (λ (b : Sparse). length b.entries) xs) 18446744073709551615) (take_all c.loop-block.block-index bs (omega arith))
