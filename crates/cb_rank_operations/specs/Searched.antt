-- Why levels and distances in a graph are refused or fail, and how they are related.
use Rattle.std.specs.Prelude.{ℕ, ◌*◌, ◌⊎◌, List, [], ◌∷◌}
use Rattle.cb_semirings.specs.Tables.{min_plus}
use Rattle.cb_matrix.specs.Sparse.{Sparse, Extent}
use Rattle.cb_matrix.specs.Operations.{transposed}
use Rattle.cb_operations.specs.Graphs.{HasSource, IsGraphRefusal}
use Rattle.cb_operations.specs.declared.operations.Operation.TheVariants.{MultiplyVector, Transpose}
use Rattle.cb_searches.specs.declared.searches.Search.{Search}
use Rattle.cb_searches.specs.Searches.{HasEdges, IsSearch}
use Rattle.cb_searches.specs.Walks.{AreLevels, AreDistances}
use Rattle.cb_rank_world.specs.declared.events.Event.{Event}
use Rattle.cb_rank_engines.specs.declared.engines.Engine.{Engine}
use Rattle.cb_rank_faults.specs.declared.RanksFault.TheVariants.{Lost}
use Rattle.cb_rank_engines.specs.EngineRuns.{IsEngineFault}
use Rattle.cb_rank_engines.specs.Orders.{OfItsOrder}
use Rattle.cb_rank_operations.specs.declared.operation_faults.OperationFault.{OperationFault}
use Rattle.cb_rank_operations.specs.declared.operation_faults.OperationFault.TheVariants.{Refused, Failed}
use Rattle.cb_rank_operations.specs.Outcomes.{IsSteppedLossFor}

-- distances in the graph of the weights are levels in the graph
abbrev pub DistancesAreLevels : Sparse → Sparse → Type 0
DistancesAreLevels weights graph =
    (source : ℕ) (column : Sparse) → HasSource graph.shape source
    → AreDistances weights source column → AreLevels graph source column

-- by an engine on a grid of side q: such a refusal, or, if there is none, a fault of the engine
abbrev pub IsWalkRefusal : Engine → ℕ → Extent → ℕ → OperationFault → Type 0
IsWalkRefusal engine q d source (Refused refusal) = IsGraphRefusal d source refusal
IsWalkRefusal engine q d source (Failed fault) = HasSource d source × IsEngineFault engine (q * q) fault

-- After some round of a search in the graph of weights, ranks that are stepped in an order multiply the transposed matrix by
-- what fell. They lose a block of the matrix or a piece of the product at rank r, which was refused memory `count` times.
pub record IsSteppedRoundLoss (q : ℕ) (graph : Sparse) (source letters : ℕ) (order : List Event) (r count : ℕ) : Type 0 where
  pub round : ℕ
  pub search : Search
  pub so_far : IsSearch graph source round search
  pub lost : IsSteppedLossFor min_plus MultiplyVector q (transposed min_plus graph ∷ search.fell ∷ []) letters order r count

-- such ranks lose a block as they transpose the matrix, or in a round of the search
abbrev pub IsSteppedWalkLoss : ℕ → Sparse → ℕ → ℕ → List Event → ℕ → ℕ → Type 0
IsSteppedWalkLoss q graph source letters order r count =
    IsSteppedLossFor min_plus Transpose q (graph ∷ []) letters order r count ⊎ IsSteppedRoundLoss q graph source letters order r count

-- if a block is lost, ranks lose it that are stepped in the engine's order, or, if its ranks run in threads, in some order
abbrev pub IsWalkLoss : Engine → ℕ → Sparse → ℕ → OperationFault → Type 0
IsWalkLoss engine q graph source (Failed (Lost r count)) = OfItsOrder engine (λ letters order. IsSteppedWalkLoss q graph source letters order r count)
IsWalkLoss engine q graph source _ = Unit {0}

-- this holds for each graph and source of which these are the edges and the beginning of the search
abbrev pub OfEachSearch : Sparse → Search → (Sparse → ℕ → Type 0) → Type 0
OfEachSearch edges begun holds = (a : Sparse) (source : ℕ) → HasEdges edges a → IsSearch a source 0 begun → holds a source
