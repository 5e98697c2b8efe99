-- A block under the block of a mask is the block of what is under the mask.
use Rattle.std.proofs.Common.{◌≡◌, ℕ, ◌+◌, sym, ap, ◌∙◌, arith}
use Rattle.std.specs.Prelude.{◌==◌, not, cond}
use Rattle.cb_semirings.specs.Arithmetic.{Arithmetic}
use Rattle.cb_matrix.specs.Sparse.{Sparse, Extent, at}
use Rattle.cb_matrix.specs.Operations.{masked, has_entry, cut}
use Rattle.cb_matrix.proofs.Made.{at-matrix_of, same_matrix_of}
use Rattle.cb_grid.specs.Parts.{part, part_start, part_shape}
use Rattle.cb_grid.specs.Blocks.{block_of}
use Rattle.cb_plan_parts.proofs.PartStarts.{start_within}

module _ (s : Arithmetic) (q : ℕ) (p m : Sparse) (e : m.shape ≡ p.shape) (i j : ℕ) where
  abbrev shape : Extent
  shape = part_shape q p.shape i j

  abbrev top : ℕ
  top = part_start q p.shape.rows i

  abbrev left : ℕ
  left = part_start q p.shape.cols j

  -- a block of what a mask keeps is what its block keeps of a block
  pub masked_blocks : masked s (block_of s q p i j) (block_of s q m i j) ≡ block_of s q (masked s p m) i j
  masked_blocks =
      same_matrix_of s shape (λ x y. cond (has_entry s (block_of s q m i j) x y) (at s (block_of s q p i j) x y) s.zero) (λ x y. at s (masked s p m) (top + x) (left + y)) (λ x y k l.
      let r = start_within q p.shape.rows (i + 1) in
      let c = start_within q p.shape.cols (j + 1) in
      let mask : at s (block_of s q m i j) x y ≡ at s m (top + x) (left + y) =
      ap (λ z. at s (cut s (part q z.rows i) (part q z.cols j) m) x y) e ∙ at-matrix_of s shape (λ x y. at s m (top + x) (left + y)) x y k l in
      ap (λ v. cond (not (v == s.zero)) (at s (block_of s q p i j) x y) s.zero) mask
      ∙ ap (λ v. cond (has_entry s m (top + x) (left + y)) v s.zero) (at-matrix_of s shape (λ x y. at s p (top + x) (left + y)) x y k l)
      ∙ sym (at-matrix_of s p.shape (λ x y. cond (has_entry s m x y) (at s p x y) s.zero) (top + x) (left + y) (omega arith) (omega arith)))
