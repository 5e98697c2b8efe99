-- The answer of each task on a graph, and why there is none.
use Rattle.std.specs.Prelude.{◌≡◌, ◌⊎◌, ℕ, ◌<◌, ◌≤◌, List, [], length}
use Rattle.cb_semirings.specs.Arithmetic.{Arithmetic}
use Rattle.cb_semirings.specs.Tables.{min_plus, plus_times}
use Rattle.cb_matrix.specs.declared.TheConstants.{LIMIT}
use Rattle.cb_matrix.specs.Sparse.{Sparse, Extent, IsMatrix}
use Rattle.cb_matrix.specs.Values.{empty_matrix}
use Rattle.cb_operations.specs.declared.graphs.Beside.{Beside}
use Rattle.cb_operations.specs.declared.graphs.Beside.TheVariants as beside_is
use Rattle.cb_operations.specs.declared.graphs.GraphTask.{GraphTask}
use Rattle.cb_operations.specs.declared.graphs.GraphTask.TheVariants.{Levels, Distances, LevelsFrom, DistancesFrom, LevelsGiven, DistancesGiven}
use Rattle.cb_operations.specs.declared.graphs.GraphTask.TheVariants.{Parents, Components, Triangles, TriangleCounts, RowDegrees, ColumnDegrees}
use Rattle.cb_operations.specs.declared.refusals.ComputeFault.{ComputeFault}
use Rattle.cb_operations.specs.declared.refusals.ComputeFault.TheVariants.{Refused, Memory}
use Rattle.cb_operations.specs.declared.refusals.Refusal.{Refusal}
use Rattle.cb_operations.specs.declared.refusals.Refusal.TheVariants.{TooLarge}
use Rattle.cb_operations.specs.Graphs.{AreVertices, HasColumn, IsRefusal, IsSourcesRefusal, IsValuesRefusal, Suits}
use Rattle.cb_searches.specs.Walks.{AreLevels, AreDistances}
use Rattle.cb_searches.specs.SeveralSources.{AreLevelsFrom, AreDistancesFrom}
use Rattle.cb_searches.specs.GivenNumbers.{AreLevelsGiven, AreDistancesGiven}
use Rattle.cb_searches.specs.Parents.{AreParents}
use Rattle.cb_graphs.specs.declared.graph_tasks.GraphAnswer.{GraphAnswer}
use Rattle.cb_graphs.specs.declared.graph_tasks.GraphAnswer.TheVariants.{Numbers, Columns, Vertices, Counts, Count}
use Rattle.cb_graphs.specs.declared.graph_tasks.GraphOperand.{GraphOperand}
use Rattle.cb_graphs.specs.declared.graph_tasks.GraphOperand.TheVariants.{Nothing, Sources, Values}
use Rattle.cb_graphs.specs.Components.{AreComponents}
use Rattle.cb_graphs.specs.Triangles.{AreTriangleCounts, triangle_count, stopped}
use Rattle.cb_graphs.specs.Degrees.{row_degrees, column_degrees}

-- What a task takes beside its graph: nothing, sources, or a column of initial values.
pub data OperandValue : Type 0 where
  NoOperand : OperandValue
  SourceList : List ℕ → OperandValue
  ValueColumn : Sparse → OperandValue

-- an operand, without where it lies in memory
abbrev pub value_of : GraphOperand → OperandValue
value_of Nothing = NoOperand
value_of (Sources sources) = SourceList sources.now
value_of (Values values) = ValueColumn values.now

-- which of the three it is
abbrev pub kind_of : OperandValue → Beside
kind_of NoOperand = beside_is.Nothing
kind_of (SourceList sources) = beside_is.Sources
kind_of (ValueColumn values) = beside_is.Values

-- the sources of an operand, and its initial values
abbrev pub sources_in : OperandValue → List ℕ
sources_in (SourceList sources) = sources
sources_in _ = []

abbrev pub values_in : OperandValue → Sparse
values_in (ValueColumn values) = values
values_in _ = empty_matrix (record { rows = 0; cols = 0 })

-- ---- refusals
-- an operand can be taken beside a graph of some shape: sources are vertices, and no more than a matrix can have columns
abbrev pub Fits : Extent → OperandValue → Type 0
Fits d NoOperand = Unit {0}
Fits d (SourceList sources) = (length sources ≤ LIMIT) × AreVertices d sources
Fits d (ValueColumn values) = HasColumn d values.shape

-- why it can't be
abbrev pub IsUnfit : Extent → OperandValue → Refusal → Type 0
IsUnfit d NoOperand refusal = ⊥
IsUnfit d (SourceList sources) refusal =
    ((refusal ≡ TooLarge) × (LIMIT < length sources)) ⊎ ((length sources ≤ LIMIT) × IsSourcesRefusal d sources refusal)
IsUnfit d (ValueColumn values) refusal = IsValuesRefusal d values.shape refusal

-- a task takes a graph of some shape and an operand
abbrev pub IsTaken : GraphTask → Extent → OperandValue → Type 0
IsTaken task d operand = Suits task d × Fits d operand

-- the graph is refused, or else the operand; or neither is, and memory was
abbrev pub IsFaultOf : GraphTask → Extent → OperandValue → ComputeFault → Type 0
IsFaultOf task d operand (Refused refusal) = IsRefusal task d refusal ⊎ (Suits task d × IsUnfit d operand refusal)
IsFaultOf task d operand Memory = IsTaken task d operand

-- ---- answers
-- the answer is a matrix of one kind, over a semiring, with a property
abbrev pub IsOfKind : (Sparse → GraphAnswer) → Arithmetic → (Sparse → Type 0) → GraphAnswer → Type 0
IsOfKind kind s is_right answer = (m : Sparse) × (answer ≡ kind m) × IsMatrix s m × is_right m

-- the answer of a task on the graph of a matrix over a semiring, with an operand that it takes
abbrev pub IsAnswerOf : Arithmetic → GraphTask → Sparse → OperandValue → GraphAnswer → Type 0
IsAnswerOf s (Levels source) a _ = IsOfKind Numbers min_plus (AreLevels a source)
IsAnswerOf s (Distances source) a _ = IsOfKind Numbers min_plus (AreDistances a source)
IsAnswerOf s LevelsFrom a operand = IsOfKind Columns min_plus (AreLevelsFrom a (sources_in operand))
IsAnswerOf s DistancesFrom a operand = IsOfKind Columns min_plus (AreDistancesFrom a (sources_in operand))
IsAnswerOf s LevelsGiven a operand = IsOfKind Numbers min_plus (AreLevelsGiven a (values_in operand))
IsAnswerOf s DistancesGiven a operand = IsOfKind Numbers min_plus (AreDistancesGiven a (values_in operand))
IsAnswerOf s (Parents source) a _ = IsOfKind Vertices min_plus (AreParents a source)
IsAnswerOf s Components a _ = IsOfKind Vertices min_plus (AreComponents a)
IsAnswerOf s Triangles a _ = λ answer. answer ≡ Count (stopped (triangle_count a))
IsAnswerOf s TriangleCounts a _ = IsOfKind Counts plus_times (AreTriangleCounts a)
IsAnswerOf s RowDegrees a _ = IsOfKind Counts plus_times (λ column. column ≡ row_degrees s a)
IsAnswerOf s ColumnDegrees a _ = IsOfKind Counts plus_times (λ column. column ≡ column_degrees s a)
