-- Panels side by side, each walked as the only block of a grid.
use Rattle.std.proofs.Common.{◌≡◌, ℕ, ◌+◌, ◌*◌, ◌<◌, List, [], ◌∷◌, length, get_or, append-nil, refl, sym, ap, subst, ◌∙◌, arith}
use Rattle.cb_semirings.specs.Arithmetic.{Arithmetic, IsSemiring}
use Rattle.cb_matrix.specs.Sparse.{Extent, Sparse, IsMatrix}
use Rattle.cb_grid.specs.Parts.{part_shape}
use Rattle.cb_grid.specs.Blocks.{block_at, glued_blocks}
use Rattle.cb_layout.specs.Distributed.{AreBlocks}
use Rattle.cb_layout.specs.Panels.{entries_of_panels}
use Rattle.cb_layout.proofs.OneBlock.{one_shape, one_glued}

-- a list of one panel
pub only_panel : (panels : List Sparse) (b : Sparse) → length panels ≡ 1 → b ≡ get_or panels 0 b → panels ≡ b ∷ []
only_panel [] b e h = absurd (omega (arith, e))
only_panel (p ∷ []) b e h = ap (λ (m : Sparse). m ∷ []) (sym h)
only_panel (p ∷ q ∷ ps) b e h = absurd (omega (arith, e))

module _ (s : Arithmetic) (q : ℕ) (shape : Extent) (panels : List Sparse) (b : Sparse) (one : q ≡ 1) (same : shape ≡ b.shape) (is : IsMatrix s b) (e : panels ≡ b ∷ []) where
  only_shape : (i j : ℕ) → i < 1 → j < 1 → (block_at (b ∷ []) (i * 1 + j)).shape ≡ part_shape 1 b.shape i j
  only_shape i j l k =
      let first : i ≡ 0 = omega arith in
      let left : j ≡ 0 = omega arith in
      let at : i * 1 + j ≡ 0 = omega arith in
      ap (λ n. (block_at (b ∷ []) n).shape) at ∙ sym (one_shape b.shape) ∙ (λ t. part_shape 1 b.shape (sym first t) (sym left t))

  -- it is the only block of a grid
  pub panel_is_block : AreBlocks s q shape panels
  panel_is_block = rw (one, same, e) (record {
    some = omega arith;
    few = omega arith;
    count = refl;
    shapes = only_shape;
    matrices = λ r l. let at : r ≡ 0 = omega arith in subst (λ n. IsMatrix s (block_at (b ∷ []) n)) (sym at) is;
  })

  -- which is glued to it
  pub panel_glued : IsSemiring s → (glued_blocks s q shape panels).entries ≡ entries_of_panels panels
  panel_glued laws =
      (λ t. (glued_blocks s (one t) (same t) panels).entries)
      ∙ ap (λ (m : Sparse). m.entries) (one_glued s laws b is panels e)
      ∙ sym (append-nil b.entries)
      ∙ ap entries_of_panels (sym e)
