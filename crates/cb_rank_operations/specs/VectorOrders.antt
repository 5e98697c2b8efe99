-- Products by vectors, made by ranks that are stepped in an order.
use Rattle.std.specs.Prelude.{ℕ, ◌⊎◌, List}
use Rattle.cb_semirings.specs.Arithmetic.{Arithmetic}
use Rattle.cb_matrix.specs.Sparse.{Sparse}
use Rattle.cb_plan.specs.declared.stores.Slot.{Slot}
use Rattle.cb_plan.specs.Plans.{CheckedView}
use Rattle.cb_rank_world.specs.declared.events.Event.{Event}
use Rattle.cb_rank_engines.specs.declared.engines.Engine.{Engine}
use Rattle.cb_rank_faults.specs.declared.RanksFault.{RanksFault}
use Rattle.cb_rank_faults.specs.declared.RanksFault.TheVariants.{Memory, Lost}
use Rattle.cb_rank_engines.specs.EngineRuns.{IsLostBlock}
use Rattle.cb_rank_engines.specs.Orders.{IsLeftInOrder, OfItsOrder}
use Rattle.cb_plan_vectors.specs.SpreadVectors.{HasSpread, HasProduct}

-- The ranks of a plan begin with the blocks of a and the pieces of x, and are stepped in an order. At the end they have the
-- pieces of y.
pub record IsSteppedProduct (s : Arithmetic) (q : ℕ) (plan : CheckedView) (a x y : Sparse)
    (letters : ℕ) (order : List Event) (refusals : List ℕ) : Type 0 where
  pub first : List (List (Slot Sparse))
  pub has : HasSpread s q a x first
  pub stores : List (List (Slot Sparse))
  pub left : IsLeftInOrder s plan first stores refusals letters order
  pub held : HasProduct s q a y stores

-- an engine returns what ranks make that are stepped in its order, or, if its ranks run in threads, in some order
abbrev pub IsOrderedProduct : Arithmetic → Engine → ℕ → CheckedView → Sparse → Sparse → Sparse → List ℕ → Type 0
IsOrderedProduct s engine q plan a x y refusals =
    OfItsOrder engine (λ letters order. IsSteppedProduct s q plan a x y letters order refusals)

-- a block of the matrix, in slot 0, or a piece of the product, in slot 2, is lost at rank r, which was refused memory `count`
-- times
abbrev pub LosePart : List (List (Slot Sparse)) → List ℕ → ℕ → ℕ → Type 0
LosePart stores refusals r count = IsLostBlock 0 stores refusals r count ⊎ IsLostBlock 2 stores refusals r count

-- why the blocks and the pieces that ranks left can't be gathered: memory was refused, or some of them are lost
abbrev pub IsProductLoss : List (List (Slot Sparse)) → List ℕ → RanksFault → Type 0
IsProductLoss stores refusals Memory = Unit {0}
IsProductLoss stores refusals (Lost r count) = LosePart stores refusals r count
IsProductLoss stores refusals _ = ⊥

-- The ranks of a plan begin with the blocks of a and the pieces of x, and are stepped in an order. Then a block of a or a
-- piece of the product is lost, at rank r, which was refused memory `count` times.
pub record IsSteppedProductLoss (s : Arithmetic) (q : ℕ) (plan : CheckedView) (a x : Sparse)
    (letters : ℕ) (order : List Event) (r count : ℕ) : Type 0 where
  pub first : List (List (Slot Sparse))
  pub has : HasSpread s q a x first
  pub stores : List (List (Slot Sparse))
  pub refusals : List ℕ
  pub left : IsLeftInOrder s plan first stores refusals letters order
  pub lost : LosePart stores refusals r count

-- if one is lost, ranks lose it that are stepped in the engine's order, or, if its ranks run in threads, in some order
abbrev pub IsOrderedProductLoss : Arithmetic → Engine → ℕ → CheckedView → Sparse → Sparse → RanksFault → Type 0
IsOrderedProductLoss s engine q plan a x (Lost r count) = OfItsOrder engine (λ letters order. IsSteppedProductLoss s q plan a x letters order r count)
IsOrderedProductLoss s engine q plan a x _ = Unit {0}
