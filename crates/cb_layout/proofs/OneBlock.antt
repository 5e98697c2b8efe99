-- A grid of side 1 has the whole matrix as its only block.
use Rattle.std.proofs.Common.{◌≡◌, ℕ, ◌+◌, ◌-◌, ◌*◌, List, [], ◌∷◌, sym, ap, ◌∙◌, arith}
use Rattle.std.specs.Int.{div_ceil}
use Rattle.cb_semirings.specs.Arithmetic.{Arithmetic, IsSemiring}
use Rattle.cb_matrix.specs.Sparse.{Sparse, Extent, IsMatrix, at}
use Rattle.cb_matrix.specs.Operations.{cut}
use Rattle.cb_matrix.proofs.Equal.{matrix_is}
use Rattle.cb_grid.specs.Parts.{part_start, part_shape}
use Rattle.cb_grid.specs.Blocks.{block_at, block_of, glued_blocks}
use Rattle.cb_grid.proofs.Cuts.{glued_cut}

part_of_one : (d : ℕ) → div_ceil d 1 ≡ d
part_of_one d = omega arith

starts_at_0 : (d : ℕ) → part_start 1 d 0 ≡ 0
starts_at_0 d = omega arith

ends_at_all : (d : ℕ) → part_start 1 d 1 ≡ d
ends_at_all d = let e = part_of_one d in rw e (omega arith)

-- the only block has the whole shape
pub one_shape : (shape : Extent) → part_shape 1 shape 0 0 ≡ shape
one_shape shape =
    let rows : part_start 1 shape.rows 1 - part_start 1 shape.rows 0 ≡ shape.rows = let a = starts_at_0 shape.rows in let b = ends_at_all shape.rows in omega arith in
    let cols : part_start 1 shape.cols 1 - part_start 1 shape.cols 0 ≡ shape.cols = let a = starts_at_0 shape.cols in let b = ends_at_all shape.cols in omega arith in
    λ t. record { rows = rows t; cols = cols t }

whole_cut : (s : Arithmetic) → IsSemiring s → (m : Sparse) → IsMatrix s m → cut s (0, m.shape.rows) (0, m.shape.cols) m ≡ m
whole_cut s laws m is =
    let rows : m.shape.rows ≡ m.shape.rows - 0 = omega arith in
    let cols : m.shape.cols ≡ m.shape.cols - 0 = omega arith in
    sym (matrix_is s laws m (record { rows = m.shape.rows - 0; cols = m.shape.cols - 0 }) (λ i j. at s m (0 + i) (0 + j)) is (λ t. record { rows = rows t; cols = cols t })
    (λ i j l k. let p : i ≡ 0 + i = omega arith in let q : j ≡ 0 + j = omega arith in λ t. at s m (p t) (q t)))

-- it is the matrix
pub one_block : (s : Arithmetic) → IsSemiring s → (m : Sparse) → IsMatrix s m → block_of s 1 m 0 0 ≡ m
one_block s laws m is =
    (λ t. cut s (starts_at_0 m.shape.rows t, ends_at_all m.shape.rows t) (starts_at_0 m.shape.cols t, ends_at_all m.shape.cols t) m) ∙ whole_cut s laws m is

-- and glues to it
pub one_glued : (s : Arithmetic) → IsSemiring s → (m : Sparse) → IsMatrix s m → (blocks : List Sparse) → blocks ≡ m ∷ [] → glued_blocks s 1 m.shape blocks ≡ m
one_glued s laws m is blocks e =
    glued_cut s laws 1 (omega arith) m is (λ i j. block_at blocks (i * 1 + j)) (λ i j l k.
    let p : i ≡ 0 = omega arith in
    let q : j ≡ 0 = omega arith in
    let r : i * 1 + j ≡ 0 = omega arith in
    ap (block_at blocks) r ∙ ap (λ (bs : List Sparse). block_at bs 0) e ∙ sym (one_block s laws m is) ∙ sym (λ t. block_of s 1 m (p t) (q t)))
