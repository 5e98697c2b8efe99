-- What is done to the blocks of matrices makes the blocks of the result.
use Rattle.std.proofs.Common.{◌≡◌, ℕ, ◌+◌, ◌<◌, sym, ap, ◌∙◌, arith}
use Rattle.std.specs.Prelude.{Bool, cond}
use Rattle.cb_semirings.specs.Arithmetic.{Arithmetic}
use Rattle.cb_matrix.specs.Sparse.{Sparse, Extent, at}
use Rattle.cb_matrix.specs.Values.{matrix_of}
use Rattle.cb_matrix.specs.Operations.{transposed, sum_of, times_of, pruned, cut}
use Rattle.cb_matrix.proofs.Made.{at-matrix_of, same_matrix_of}
use Rattle.cb_grid.specs.Parts.{part, part_start, part_shape}
use Rattle.cb_grid.specs.Blocks.{block_of}
use Rattle.cb_plan_parts.proofs.PartStarts.{start_within}

module _ (s : Arithmetic) (q : ℕ) where
  -- the value of a block at a place
  pub at-block : (a : Sparse) (i j x y : ℕ) → x < (part_shape q a.shape i j).rows → y < (part_shape q a.shape i j).cols →
      at s (block_of s q a i j) x y ≡ at s a (part_start q a.shape.rows i + x) (part_start q a.shape.cols j + y)
  at-block a i j x y l m = at-matrix_of s (part_shape q a.shape i j) (λ x y. at s a (part_start q a.shape.rows i + x) (part_start q a.shape.cols j + y)) x y l m

  -- a value at each place of two matrices of one shape
  pub blocks_of_two : (f : ℕ → ℕ → ℕ) (a b : Sparse) → b.shape ≡ a.shape → (i j : ℕ) →
      matrix_of s (part_shape q a.shape i j) (λ x y. f (at s (block_of s q a i j) x y) (at s (block_of s q b i j) x y))
      ≡ block_of s q (matrix_of s a.shape (λ x y. f (at s a x y) (at s b x y))) i j
  blocks_of_two f a b e i j =
      let top = part_start q a.shape.rows i in
      let left = part_start q a.shape.cols j in
      same_matrix_of s (part_shape q a.shape i j) (λ x y. f (at s (block_of s q a i j) x y) (at s (block_of s q b i j) x y)) (λ x y. at s (matrix_of s a.shape (λ x y. f (at s a x y) (at s b x y))) (top + x) (left + y)) (λ x y l m.
      let r = start_within q a.shape.rows (i + 1) in
      let c = start_within q a.shape.cols (j + 1) in
      let other : at s (block_of s q b i j) x y ≡ at s b (top + x) (left + y) =
      ap (λ (z : Extent). at s (cut s (part q z.rows i) (part q z.cols j) b) x y) e ∙ at-matrix_of s (part_shape q a.shape i j) (λ x y. at s b (top + x) (left + y)) x y l m in
      ap (λ v. f v (at s (block_of s q b i j) x y)) (at-block a i j x y l m)
      ∙ ap (f (at s a (top + x) (left + y))) other
      ∙ sym (at-matrix_of s a.shape (λ x y. f (at s a x y) (at s b x y)) (top + x) (left + y) (omega arith) (omega arith)))

  -- the sum of the blocks of two matrices at one place of the grid is the block of their sum
  pub sum_of_blocks : (a b : Sparse) → b.shape ≡ a.shape → (i j : ℕ) → sum_of s (block_of s q a i j) (block_of s q b i j) ≡ block_of s q (sum_of s a b) i j
  sum_of_blocks a b e i j = blocks_of_two s.add a b e i j

  -- the product of such blocks, place by place, is the block of the product of the matrices, place by place
  pub times_of_blocks : (a b : Sparse) → b.shape ≡ a.shape → (i j : ℕ) → times_of s (block_of s q a i j) (block_of s q b i j) ≡ block_of s q (times_of s a b) i j
  times_of_blocks a b e i j = blocks_of_two s.mul a b e i j

  -- a block without the entries that pass a test is the block of what is left of the matrix
  pub pruned_block : (test : ℕ → Bool) (a : Sparse) (i j : ℕ) → pruned s test (block_of s q a i j) ≡ block_of s q (pruned s test a) i j
  pruned_block test a i j = blocks_of_two (λ v _. cond (test v) s.zero v) a a (λ t. a.shape) i j

  -- the transposed block (j, i) is block (i, j) of the transpose
  pub transposed_block : (a : Sparse) (i j : ℕ) → transposed s (block_of s q a j i) ≡ block_of s q (transposed s a) i j
  transposed_block a i j =
      let top = part_start q a.shape.rows j in
      let left = part_start q a.shape.cols i in
      let turned : Extent = record { rows = a.shape.cols; cols = a.shape.rows } in
      same_matrix_of s (part_shape q turned i j) (λ x y. at s (block_of s q a j i) y x) (λ x y. at s (transposed s a) (left + x) (top + y)) (λ x y l m.
      let r = start_within q a.shape.rows (j + 1) in
      let c = start_within q a.shape.cols (i + 1) in
      at-block a j i y x m l
      ∙ sym (at-matrix_of s turned (λ x y. at s a y x) (left + x) (top + y) (omega arith) (omega arith)))
