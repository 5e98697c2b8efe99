-- Products by vectors of ranks that were stepped in an order.
use Rattle.std.proofs.Common.{◌≡◌, ℕ, List, subst}
use Rattle.cb_semirings.specs.Arithmetic.{Arithmetic, IsSemiring}
use Rattle.cb_matrix.specs.Sparse.{Sparse, IsMatrix}
use Rattle.cb_matrix.specs.Values.{product}
use Rattle.cb_plan.specs.declared.stores.Slot.{Slot}
use Rattle.cb_plan.specs.Plans.{CheckedView}
use Rattle.cb_plan.specs.PlanTables.{IsTable}
use Rattle.cb_plan_operations.specs.VectorPlans.{column}
use Rattle.cb_rank.specs.Leavings.{HoldsMeaning}
use Rattle.cb_rank_engines.specs.declared.engines.Engine.{Engine}
use Rattle.cb_rank_faults.specs.declared.RanksFault.{RanksFault}
use Rattle.cb_rank_faults.specs.declared.RanksFault.TheVariants.{Memory, Lost}
use Rattle.cb_rank_engines.specs.Orders.{IsLeftInOrder, IsOrdered}
use Rattle.cb_rank_engines.proofs.Lost.{left_means}
use Rattle.cb_rank_engines.proofs.SteppedRuns.{of_its_order}
use Rattle.cb_plan_vectors.specs.SpreadVectors.{HasSpread, HasProduct, MultipliesVectors}
use Rattle.cb_plan_vectors.proofs.SpreadProducts.{has_product}
use Rattle.cb_rank_operations.specs.VectorOrders.{IsSteppedProduct, IsOrderedProduct, IsSteppedProductLoss, IsOrderedProductLoss, IsProductLoss}

module _ (s : Arithmetic) (q : ℕ) (plan : CheckedView) (a x : Sparse) (first : List (List (Slot Sparse))) (has : HasSpread s q a x first) (stores : List (List (Slot Sparse))) (refusals : List ℕ) where
  -- what ranks leave after the plan are the matrix and the product
  pub left_product : IsSemiring s → IsMatrix s a → IsMatrix s x → x.shape ≡ column a.shape.cols → MultipliesVectors q a.shape plan → HoldsMeaning s plan first stores refusals → HasProduct s q a (product s a x) stores
  left_product laws is_a is_x vector multiplies left =
      has_product s q a x first has laws is_a is_x vector plan.acts multiplies.means stores
      (subst (λ n. IsTable n 256 stores) multiplies.ranks left.table) (left_means s plan first stores refusals left)

  -- a run that leaves them is one of a product
  pub ordered_product : (engine : Engine) (y : Sparse) → IsOrdered s engine plan first stores refusals → HasProduct s q a y stores → IsOrderedProduct s engine q plan a x y refusals
  ordered_product engine y ordered held =
      of_its_order engine (λ letters order. IsLeftInOrder s plan first stores refusals letters order) (λ letters order. IsSteppedProduct s q plan a x y letters order refusals)
      (λ letters order left. record { first = first; has = has; stores = stores; left = left; held = held }) ordered

  -- a loss in such a run is one in a product
  pub ordered_product_loss : (engine : Engine) → IsOrdered s engine plan first stores refusals → (e : RanksFault) → IsProductLoss stores refusals e → IsOrderedProductLoss s engine q plan a x e
  ordered_product_loss engine ordered Memory h = tt
  ordered_product_loss engine ordered (Lost r count) h =
      of_its_order engine (λ letters order. IsLeftInOrder s plan first stores refusals letters order) (λ letters order. IsSteppedProductLoss s q plan a x letters order r count)
      (λ letters order left. record { first = first; has = has; stores = stores; refusals = refusals; left = left; lost = h }) ordered
  ordered_product_loss engine ordered _ h = absurd h
