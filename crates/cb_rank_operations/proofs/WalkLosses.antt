-- Blocks that ranks lose in a search.
use Rattle.std.proofs.Common.{◌≡◌, ℕ, List, [], ◌∷◌, inl, inr, subst}
use Rattle.cb_semirings.specs.Tables.{min_plus}
use Rattle.cb_matrix.specs.Sparse.{Sparse}
use Rattle.cb_matrix.specs.Operations.{transposed}
use Rattle.cb_plan.specs.Plans.{CheckedView}
use Rattle.cb_operations.specs.declared.operations.Operation.TheVariants.{Transpose}
use Rattle.cb_searches.specs.declared.searches.Search.{Search}
use Rattle.cb_searches.specs.Searches.{IsSearch}
use Rattle.cb_rank_world.specs.declared.events.Event.{Event}
use Rattle.cb_rank_engines.specs.declared.engines.Engine.{Engine}
use Rattle.cb_rank_faults.specs.declared.RanksFault.{RanksFault}
use Rattle.cb_rank_faults.specs.declared.RanksFault.TheVariants.{Lost}
use Rattle.cb_rank_engines.specs.EngineRuns.{IsNoLoss}
use Rattle.cb_rank_engines.proofs.SteppedRuns.{of_its_order}
use Rattle.cb_plan_vectors.specs.SpreadVectors.{MultipliesVectors}
use Rattle.cb_rank_operations.specs.declared.operation_faults.OperationFault.TheVariants.{Failed}
use Rattle.cb_rank_operations.specs.Outcomes.{IsLossFor, IsSteppedLossFor}
use Rattle.cb_rank_operations.specs.Searched.{IsSteppedRoundLoss, IsSteppedWalkLoss, IsWalkLoss}
use Rattle.cb_rank_operations.specs.VectorOrders.{IsSteppedProductLoss, IsOrderedProductLoss}

module _ (engine : Engine) (q : ℕ) (graph : Sparse) (source : ℕ) where
  -- a fault without a loss is none in a search
  pub no_walk_loss : (e : RanksFault) → IsNoLoss e → IsWalkLoss engine q graph source (Failed e)
  no_walk_loss (Lost r count) none = absurd none
  no_walk_loss _ none = tt

  -- a loss in the transpose is one in the search
  pub transpose_loss : (e : RanksFault) → IsLossFor min_plus engine Transpose q (graph ∷ []) (Failed e) → IsWalkLoss engine q graph source (Failed e)
  transpose_loss (Lost r count) loss =
      of_its_order engine (λ letters order. IsSteppedLossFor min_plus Transpose q (graph ∷ []) letters order r count)
      (λ letters order. IsSteppedWalkLoss q graph source letters order r count) (λ letters order is. inl is) loss
  transpose_loss _ loss = tt

  module _ (round : ℕ) (search : Search) (so_far : IsSearch graph source round search) (turned fell : Sparse) (turned_is : turned ≡ transposed min_plus graph) (fell_is : fell ≡ search.fell)
      (plan : CheckedView) (multiplies : MultipliesVectors q turned.shape plan) where
    stepped_round_loss : (letters : ℕ) (order : List Event) (r count : ℕ) → IsSteppedProductLoss min_plus q plan turned fell letters order r count → IsSteppedRoundLoss q graph source letters order r count
    stepped_round_loss letters order r count loss = record {
      round = round;
      search = search;
      so_far = so_far;
      lost = (
        plan,
        subst (λ (m : Sparse). MultipliesVectors q m.shape plan) turned_is multiplies,
        subst (λ (m : Sparse). IsSteppedProductLoss min_plus q plan m search.fell letters order r count) turned_is
            (subst (λ (x : Sparse). IsSteppedProductLoss min_plus q plan turned x letters order r count) fell_is loss),
      );
    }

    -- a loss in a round's product is one in the search
    pub round_loss : (e : RanksFault) → IsOrderedProductLoss min_plus engine q plan turned fell e → IsWalkLoss engine q graph source (Failed e)
    round_loss (Lost r count) loss =
        of_its_order engine (λ letters order. IsSteppedProductLoss min_plus q plan turned fell letters order r count)
        (λ letters order. IsSteppedWalkLoss q graph source letters order r count) (λ letters order is. inr (stepped_round_loss letters order r count is)) loss
    round_loss _ loss = tt
