-- What a task on a kept graph returns: levels, distances, parents and components, as columns over min-plus; counts, as a column
-- over plus-times; or one count.
use Rattle.std.specs.Prelude.{◌≡◌, ℕ, ◌==◌, ◌⊎◌, if◌then◌else◌, List, Option, Some, None}
use Rattle.cb_semirings.specs.Arithmetic.{Arithmetic}
use Rattle.cb_semirings.specs.declared.names.SemiringName.{SemiringName}
use Rattle.cb_semirings.specs.declared.names.SemiringName.TheVariants as name_is
use Rattle.cb_semirings.specs.Names.{arithmetic_of}
use Rattle.cb_matrix.specs.Sparse.{Sparse, Extent}
use Rattle.cb_operations.specs.declared.graphs.Beside.{Beside}
use Rattle.cb_operations.specs.declared.graphs.Beside.TheVariants.{Nothing, Sources, Values}
use Rattle.cb_operations.specs.declared.graphs.GraphTask.{GraphTask}
use Rattle.cb_operations.specs.declared.graphs.GraphTask.TheVariants.{Levels, Distances, LevelsFrom, DistancesFrom, LevelsGiven, DistancesGiven}
use Rattle.cb_operations.specs.declared.graphs.GraphTask.TheVariants.{Parents, Components, Triangles, TriangleCounts, RowDegrees, ColumnDegrees}
use Rattle.cb_operations.specs.declared.refusals.Refusal.{Refusal}
use Rattle.cb_operations.specs.Graphs as graphs
use Rattle.cb_operations.specs.Graphs.{IsRefusal, Suits, beside_of}
use Rattle.cb_graphs.specs.declared.graph_tasks.GraphAnswer.{GraphAnswer}
use Rattle.cb_graphs.specs.declared.graph_tasks.GraphAnswer.TheVariants.{Numbers, Columns, Vertices, Counts, Count}
use Rattle.cb_graphs.specs.GraphAnswers.{Fits, IsAnswerOf, IsUnfit, OperandValue, NoOperand, SourceList, ValueColumn}
use Rattle.cb_kept.specs.declared.faults.Fault.{Fault}
use Rattle.cb_kept.specs.declared.faults.Fault.TheVariants.{Test, Mixed}
use Rattle.cb_kept.specs.declared.kept.Kept.{Kept}
use Rattle.cb_kept_graphs.specs.declared.KeptAnswer.{KeptAnswer}
use Rattle.cb_kept_graphs.specs.declared.KeptAnswer.TheVariants.{Matrix, Number}
use Rattle.cb_kept.specs.Kept.{Keeps, semiring_of, matrix_in}
use Rattle.cb_kept.specs.Refusals.{Unless, IsMemory, refused_as}

-- the task of a number, 0 to 11, with the source that some begin at
abbrev pub graph_task_of : ℕ → ℕ → Option GraphTask
graph_task_of n source =
    if n == 0 then Some (Levels source)
    else (if n == 1 then Some (Distances source)
    else (if n == 2 then Some LevelsFrom
    else (if n == 3 then Some DistancesFrom
    else (if n == 4 then Some LevelsGiven
    else (if n == 5 then Some DistancesGiven
    else (if n == 6 then Some (Parents source)
    else (if n == 7 then Some Components
    else (if n == 8 then Some Triangles
    else (if n == 9 then Some TriangleCounts
    else (if n == 10 then Some RowDegrees
    else (if n == 11 then Some ColumnDegrees else None)))))))))))

-- ---- faults
-- what a task takes beside its graph, of some sources and a kept column of initial values
abbrev pub operand_of : Beside → List ℕ → Kept → OperandValue
operand_of Nothing sources values = NoOperand
operand_of Sources sources values = SourceList sources
operand_of Values sources values = ValueColumn (matrix_in values)

-- initial values, if a task takes them, are over min-plus
abbrev pub AreOverMinPlus : Beside → Kept → Type 0
AreOverMinPlus Values values = semiring_of values ≡ name_is.MinPlus
AreOverMinPlus _ values = Unit {0}

-- a refusal, or, if what could be refused suits, one of the faults that come next
abbrev pub UnlessRefused : (Refusal → Type 0) → Type 0 → (Fault → Type 0) → Fault → Type 0
UnlessRefused is_refused suits next f = ((refusal : Refusal) × (f ≡ refused_as refusal) × is_refused refusal) ⊎ (suits × next f)

-- the graph is refused, or initial values are over another semiring; or else one of the faults that come next
abbrev pub operand_faults : GraphTask → Extent → Kept → (Fault → Type 0) → Fault → Type 0
operand_faults task d values next =
    UnlessRefused (IsRefusal task d) (Suits task d) (Unless (AreOverMinPlus (beside_of task) values) Mixed next)

-- an operand is refused, for a graph of some shape; or else memory is
abbrev pub fit_faults : Extent → OperandValue → Fault → Type 0
fit_faults d operand = UnlessRefused (IsUnfit d operand) (Fits d operand) IsMemory

-- the faults of a graph that has to be over a semiring, and of what the task takes beside it
unfoldable pub faults_over : SemiringName → GraphTask → Kept → List ℕ → Kept → Fault → Type 0
faults_over name task k sources values =
    Unless (semiring_of k ≡ name) Mixed
    (operand_faults task (matrix_in k).shape values (fit_faults (matrix_in k).shape (operand_of (beside_of task) sources values)))

-- of a task; degrees are those of any matrix
abbrev pub task_faults : GraphTask → Kept → List ℕ → Kept → Fault → Type 0
task_faults RowDegrees k sources values = IsMemory
task_faults ColumnDegrees k sources values = IsMemory
task_faults task k sources values = faults_over (graphs.semiring_of task) task k sources values

-- of a call: no task has the number
abbrev pub graph_faults : Option GraphTask → Kept → List ℕ → Kept → Fault → Type 0
graph_faults None k sources values = λ f. f ≡ Test
graph_faults (Some task) k sources values = task_faults task k sources values

-- ---- answers
-- an answer, kept: numbers and vertices over min-plus, counts over plus-times; or one count
abbrev pub IsKeptAs : GraphAnswer → KeptAnswer → Type 0
IsKeptAs (Numbers column) (Matrix k) = Keeps name_is.MinPlus column k
IsKeptAs (Columns m) (Matrix k) = Keeps name_is.MinPlus m k
IsKeptAs (Vertices column) (Matrix k) = Keeps name_is.MinPlus column k
IsKeptAs (Counts column) (Matrix k) = Keeps name_is.PlusTimes column k
IsKeptAs (Count n) (Number count) = count ≡ n
IsKeptAs _ _ = ⊥

-- the answer of a task on the graph of a matrix over a semiring, with an operand that it takes, kept
abbrev pub IsKeptAnswer : Arithmetic → GraphTask → Sparse → OperandValue → KeptAnswer → Type 0
IsKeptAnswer s task m operand made = (answer : GraphAnswer) × IsAnswerOf s task m operand answer × IsKeptAs answer made

-- the answer of a task on a kept graph, over the semiring of the graph
abbrev pub IsTaskAnswer : GraphTask → Kept → List ℕ → Kept → KeptAnswer → Type 0
IsTaskAnswer task k sources values =
    IsKeptAnswer (arithmetic_of (semiring_of k)) task (matrix_in k) (operand_of (beside_of task) sources values)

-- a task computes degrees
abbrev pub IsDegrees : GraphTask → Type 0
IsDegrees task = (task ≡ RowDegrees) ⊎ (task ≡ ColumnDegrees)

-- the answer of a call, if there is a task
abbrev pub IsGraphAnswer : Option GraphTask → Kept → List ℕ → Kept → KeptAnswer → Type 0
IsGraphAnswer None k sources values = λ _. ⊥
IsGraphAnswer (Some task) k sources values = IsTaskAnswer task k sources values
