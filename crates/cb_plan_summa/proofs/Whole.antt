-- The plans make the product, and the product under a mask.
use Rattle.std.proofs.Common.{◌≡◌, ℕ, ◌+◌, ◌*◌, ◌<◌, sym, ap, subst, ◌∙◌, ◌++◌}
use Rattle.std.specs.Prelude.{Some}
use Rattle.cb_semirings.specs.Arithmetic.{Arithmetic, IsSemiring}
use Rattle.cb_matrix.specs.Sparse.{Sparse, Extent, IsMatrix}
use Rattle.cb_matrix.specs.Values.{product}
use Rattle.cb_grid.specs.Blocks.{block_of}
use Rattle.cb_plan.specs.Meaning.{meaning, two}
use Rattle.cb_plan.specs.Algebras.{matrices}
use Rattle.cb_plan.proofs.Effects.{meaning-append}
use Rattle.cb_plan_parts.specs.Collectives.{shut_acts}
use Rattle.cb_plan_parts.proofs.ShutMeaning.{shut_nothing}
use Rattle.cb_plan_parts.specs.PlanParts.{each_rank}
use Rattle.cb_plan_parts.proofs.Everywhere.{each_here}
use Rattle.cb_plan_summa.specs.Summa.{product_acts, summa_acts, summa_masked_acts, mask_op, MakesProduct, MakesMaskedProduct, IsProductPlan, IsMaskedPlan, result_shape}
use Rattle.cb_plan_summa.proofs.Stages.{after_products, products_leave}
use Rattle.cb_plan_summa.proofs.ProductParts.{stages_make_product}
use Rattle.cb_plan_summa.proofs.Masks.{masked_blocks}

module _ (s : Arithmetic) (laws : IsSemiring s) (q : ℕ) (pos : 0 < q) (a b : Sparse) (is_a : IsMatrix s a) (is_b : IsMatrix s b) (agree : a.shape.cols ≡ b.shape.rows) where
  -- before the lanes are shut the product is there
  products : MakesProduct (product_acts q a.shape b.shape) q s a b
  products state has_a has_b i j l m =
      (after_products (matrices s) q a.shape b.shape (block_of s q a) (block_of s q b) state has_a has_b).total i j l m
      ∙ ap Some (stages_make_product s laws q pos a b is_a is_b agree i j)

  pub summa_makes_product : MakesProduct (summa_acts q a.shape b.shape) q s a b
  summa_makes_product state has_a has_b i j l m =
      let after = meaning (matrices s) (product_acts q a.shape b.shape) state in
      ap (λ x. x (i * q + j) 2) (meaning-append (matrices s) (product_acts q a.shape b.shape) (shut_acts (q * q)) state ∙ shut_nothing (matrices s) (q * q) after)
      ∙ products state has_a has_b i j l m

  pub summa_makes_masked : (m : Sparse) → m.shape ≡ result_shape a.shape b.shape → MakesMaskedProduct (summa_masked_acts q a.shape b.shape) q s a b m
  summa_makes_masked m e state has_a has_b has_m i j k l =
      let after = meaning (matrices s) (product_acts q a.shape b.shape) state in
      let mask : after (i * q + j) 7 ≡ Some (block_of s q m i j) = products_leave (matrices s) q a.shape b.shape state (i * q + j) ∙ has_m i j k l in
      ap (λ x. x (i * q + j) 2) (meaning-append (matrices s) (product_acts q a.shape b.shape ++ each_rank q mask_op) (shut_acts (q * q)) state ∙ shut_nothing (matrices s) (q * q) (meaning (matrices s) (product_acts q a.shape b.shape ++ each_rank q mask_op) state) ∙ meaning-append (matrices s) (product_acts q a.shape b.shape) (each_rank q mask_op) state)
      ∙ each_here (matrices s) q mask_op after i j k l
      ∙ ap (λ x. two ((matrices s).mask) x (after (i * q + j) 7)) (products state has_a has_b i j k l)
      ∙ ap (λ x. two ((matrices s).mask) (Some (block_of s q (product s a b) i j)) x) mask
      ∙ ap Some (masked_blocks s q (product s a b) m e i j)

-- on the cuts of two matrices the acts mean the cuts of their product
pub is_product_plan : (q : ℕ) → 0 < q → (left right : Extent) → left.cols ≡ right.rows → IsProductPlan (summa_acts q left right) q left right
is_product_plan q pos left right agree s laws a b is_a is_b e f =
    subst (λ x. MakesProduct (summa_acts q left x) q s a b) f
    (subst (λ x. MakesProduct (summa_acts q x b.shape) q s a b) e
    (summa_makes_product s laws q pos a b is_a is_b (ap (λ x. x.cols) e ∙ agree ∙ sym (ap (λ x. x.rows) f))))

-- and under a mask, of what the mask keeps of it
pub is_masked_plan : (q : ℕ) → 0 < q → (left right : Extent) → left.cols ≡ right.rows → IsMaskedPlan (summa_masked_acts q left right) q left right
is_masked_plan q pos left right agree s laws a b m is_a is_b is_m e f g =
    let h : m.shape ≡ result_shape a.shape b.shape = g ∙ sym (ap (λ x. result_shape x right) e) ∙ sym (ap (λ x. result_shape a.shape x) f) in
    subst (λ x. MakesMaskedProduct (summa_masked_acts q left x) q s a b m) f
    (subst (λ x. MakesMaskedProduct (summa_masked_acts q x b.shape) q s a b m) e
    (summa_makes_masked s laws q pos a b is_a is_b (ap (λ x. x.cols) e ∙ agree ∙ sym (ap (λ x. x.rows) f)) m h))
