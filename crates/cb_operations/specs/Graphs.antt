-- What each task on a graph takes, and when it is refused.
use Rattle.std.specs.Prelude.{◌≡◌, ◌≢◌, ℕ, ◌<◌, ◌≤◌, List, All}
use Rattle.cb_semirings.specs.declared.names.SemiringName.{SemiringName}
use Rattle.cb_semirings.specs.declared.names.SemiringName.TheVariants.{MinPlus, OrAnd}
use Rattle.cb_matrix.specs.Sparse.{Extent}
use Rattle.cb_operations.specs.declared.graphs.Beside.{Beside}
use Rattle.cb_operations.specs.declared.graphs.Beside.TheVariants.{Nothing, Sources, Values}
use Rattle.cb_operations.specs.declared.graphs.GraphTask.{GraphTask}
use Rattle.cb_operations.specs.declared.graphs.GraphTask.TheVariants.{Levels, Distances, LevelsFrom, DistancesFrom, LevelsGiven, DistancesGiven}
use Rattle.cb_operations.specs.declared.graphs.GraphTask.TheVariants.{Parents, RowDegrees, ColumnDegrees}
use Rattle.cb_operations.specs.declared.refusals.Refusal.{Refusal}
use Rattle.cb_operations.specs.declared.refusals.Refusal.TheVariants as refusal_is

-- the semiring of the graph of a task: min-plus if edges have weights, or else or-and
abbrev pub semiring_of : GraphTask → SemiringName
semiring_of (Distances source) = MinPlus
semiring_of DistancesFrom = MinPlus
semiring_of DistancesGiven = MinPlus
semiring_of _ = OrAnd

-- what a task takes beside its graph
abbrev pub beside_of : GraphTask → Beside
beside_of LevelsFrom = Sources
beside_of DistancesFrom = Sources
beside_of LevelsGiven = Values
beside_of DistancesGiven = Values
beside_of _ = Nothing

-- the operands with a graph and what a task takes beside it
abbrev pub count_with : Beside → ℕ
count_with Nothing = 1
count_with Sources = 2
count_with Values = 2

-- how many operands a task takes
abbrev pub operand_count_of : GraphTask → ℕ
operand_count_of task = count_with (beside_of task)

-- the shape is square, and the source is one of its vertices
pub record HasSource (d : Extent) (source : ℕ) : Type 0 where
  pub square : d.rows ≡ d.cols
  pub vertex : source < d.rows

-- the shape isn't square, or, if it is, the source isn't one of its vertices
abbrev pub IsGraphRefusal : Extent → ℕ → Refusal → Type 0
IsGraphRefusal d source refusal_is.NotSquare = d.rows ≢ d.cols
IsGraphRefusal d source refusal_is.Source = (d.rows ≡ d.cols) × (d.rows ≤ source)
IsGraphRefusal d source _ = ⊥

-- a matrix of some shape is a graph for a task: it is square and has the source, if any; degrees take any matrix
abbrev pub Suits : GraphTask → Extent → Type 0
Suits (Levels source) d = HasSource d source
Suits (Distances source) d = HasSource d source
Suits (Parents source) d = HasSource d source
Suits RowDegrees d = Unit {0}
Suits ColumnDegrees d = Unit {0}
Suits _ d = d.rows ≡ d.cols

-- why it isn't
abbrev pub IsRefusal : GraphTask → Extent → Refusal → Type 0
IsRefusal (Levels source) d refusal = IsGraphRefusal d source refusal
IsRefusal (Distances source) d refusal = IsGraphRefusal d source refusal
IsRefusal (Parents source) d refusal = IsGraphRefusal d source refusal
IsRefusal RowDegrees d refusal = ⊥
IsRefusal ColumnDegrees d refusal = ⊥
IsRefusal _ d refusal = (refusal ≡ refusal_is.NotSquare) × (d.rows ≢ d.cols)

-- all sources are vertices of a graph of some shape, or they are refused
abbrev pub AreVertices : Extent → List ℕ → Type 0
AreVertices d sources = All (λ v. v < d.rows) sources

abbrev pub IsSourcesRefusal : Extent → List ℕ → Refusal → Type 0
IsSourcesRefusal d sources refusal = (refusal ≡ refusal_is.Source) × ¬ AreVertices d sources

-- a shape is that of a column with a place for each vertex of a graph, or it is refused
abbrev pub HasColumn : Extent → Extent → Type 0
HasColumn d values = values ≡ record { rows = d.rows; cols = 1 }

abbrev pub IsValuesRefusal : Extent → Extent → Refusal → Type 0
IsValuesRefusal d values refusal = (refusal ≡ refusal_is.Shapes) × ¬ HasColumn d values
