use Rattle.std.proofs.Common.{◌≡◌, ℕ, ◌*◌, List, length, refl, ap, sym, ◌∙◌, arith}
use Rattle.std.specs.Prelude.{◌==◌, ◌&&◌, slice_index_or}
use Rattle.std.proofs.lemmas.Bool.{eq-eqb, false≢true}
use Rattle.std.proofs.lemmas.List.{get_or_default}
use Rattle.cb_semirings.specs.Arithmetic.{Arithmetic, IsSemiring}
use Rattle.cb_matrix.specs.Sparse.{Sparse, Extent, IsMatrix}
use Rattle.cb_matrix.specs.Values.{empty_matrix}
use Rattle.cb_grid.specs.Blocks.{block_at, block_of, AreBlocksOf}
use Rattle.cb_layout.proofs.OneBlock.{one_block}
use Rattle.cb_layout.proofs.distributed.DistributedMatrix.into_block.Goals as goal

-- the first block of a grid of side 1 is the whole matrix
first_is_whole : (s : Arithmetic) → IsSemiring s → (m : Sparse) → IsMatrix s m → (q : ℕ) → q ≡ 1 → (bs : List Sparse) → length bs ≡ q * q → AreBlocksOf s q m bs → (b : Sparse) → b ≡ slice_index_or bs 0 b → b ≡ m
first_is_whole s laws m is q one bs count blocks b read =
    let first : block_at bs 0 ≡ block_of s 1 m 0 0 =
    let h = blocks 0 0 (rw one (omega arith)) (rw one (omega arith)) in
    rw one at h in
    let none : Sparse = empty_matrix (record { rows = 0; cols = 0 }) in
    let some = rw one at count in
    read ∙ get_or_default bs 0 b none (omega (arith, some)) ∙ first ∙ one_block s laws m is

pub prove_eq-unreachable-requires : goal.prove_eq-unreachable-requires
prove_eq-unreachable-requires g c =
    let whole = first_is_whole g.S.Semiring.arithmetic g.met.S.Semiring.is_semiring c.args.self.matrix c.shape-shape.ensures.matrix c.args.self.side c.requires c.into_blocks-blocks.result.items c.into_blocks-blocks.ensures.count c.into_blocks-blocks.ensures.blocks c.remove-block.result c.remove-block.ensures.value in
    let shape : Extent = c.shape-shape.result in
    let same : c.shape.result ≡ shape = c.shape.ensures.shape ∙ ap (λ (m : Sparse). m.shape) whole ∙ sym c.shape-shape.ensures.shape in
    false≢true (c.if-prove_eq.ensures ∙ (λ t. ((same t).rows == shape.rows) && ((same t).cols == shape.cols)) ∙ (λ t. eq-eqb shape.rows shape.rows refl t && eq-eqb shape.cols shape.cols refl t))

pub returns : goal.returns
returns g c = first_is_whole g.S.Semiring.arithmetic g.met.S.Semiring.is_semiring c.args.self.matrix c.shape-shape.ensures.matrix c.args.self.side c.requires c.into_blocks-blocks.result.items c.into_blocks-blocks.ensures.count c.into_blocks-blocks.ensures.blocks c.remove-block.result c.remove-block.ensures.value
