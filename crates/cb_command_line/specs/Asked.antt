-- What a command asks for by its options and files.
use Rattle.std.specs.Prelude.{◌≡◌, ◌≤◌, ◌<◌, ◌+◌, ◌*◌, ◌||◌, ℕ, ℤ, pos, negsuc, suc, Bool, List, [], ◌∷◌, map, min, max}
use Rattle.std.specs.Prelude.{Option, Some, None, if◌then◌else◌, MatchOption, codes, option_map, option_and_then, unwrap_or}
use Rattle.std.specs.Prelude.{bytes_eq, string_bytes, take, IsSomeAnd, Vec, String}
use Rattle.std.specs.Bool.{MatchBool}
use Rattle.std.specs.declared.alloc.Global.{Global}
use Rattle.std.specs.Int.NonZero.{non_zero_u32_get}
use Rattle.clap.specs.Walk.{Row, Text}
use Rattle.cb_semirings.specs.Names.{named}
use Rattle.cb_semirings.specs.declared.names.SemiringName.{SemiringName}
use Rattle.cb_matrix.specs.declared.passing.Test.{Test}
use Rattle.cb_matrix.specs.declared.passing.Test.TheVariants.{Below, Above, Equal}
use Rattle.cb_operations.specs.declared.graphs.Beside.{Beside}
use Rattle.cb_operations.specs.declared.graphs.Beside.TheVariants.{Nothing, Sources, Values}
use Rattle.cb_operations.specs.declared.graphs.GraphTask.{GraphTask}
use Rattle.cb_operations.specs.declared.graphs.GraphTask.TheVariants.{Levels, Distances, LevelsFrom, DistancesFrom, LevelsGiven}
use Rattle.cb_operations.specs.declared.graphs.GraphTask.TheVariants.{DistancesGiven, Parents, Components, Triangles, TriangleCounts}
use Rattle.cb_operations.specs.declared.graphs.GraphTask.TheVariants.{RowDegrees, ColumnDegrees}
use Rattle.cb_operations.specs.declared.operations.Operation.{Operation}
use Rattle.cb_operations.specs.declared.operations.Operation.TheVariants.{Multiply, MultiplyMasked, MultiplyVector, Transpose}
use Rattle.cb_operations.specs.declared.operations.Operation.TheVariants.{RowSums, ColumnSums, Add, Times, Prune}
use Rattle.cb_operations.specs.declared.selections.Selection.{Selection}
use Rattle.cb_operations.specs.declared.selections.Selection.TheVariants.{Select, Apply, DiagonalMatrix, Power, Kronecker, Assign}
use Rattle.cb_operations.specs.declared.selections.Selection.TheVariants as selection_is
use Rattle.cb_operations.specs.declared.regions.Diagonal.{Diagonal}
use Rattle.cb_operations.specs.declared.regions.Region.{Region}
use Rattle.cb_operations.specs.declared.regions.Region.TheVariants.{Lower, Upper, On, Off}
use Rattle.cb_operations.specs.declared.functions.Function.{Function}
use Rattle.cb_operations.specs.declared.functions.Function.TheVariants as function
use Rattle.cb_operations.specs.Graphs.{beside_of}
use Rattle.cb_operations.specs.declared.computations.Computation.{Computation}
use Rattle.cb_operations.specs.declared.computations.Computation.TheVariants as computation
use Rattle.cb_operations.specs.Computations.{operand_count_of}
use Rattle.cb_command_line.specs.Options.{integer, is_there, is_word, number, place, word}
use Rattle.cb_command_line.specs.declared.jobs.EngineName.{EngineName}
use Rattle.cb_command_line.specs.declared.jobs.EngineName.TheVariants.{Plain, Ranks, Traced}
use Rattle.cb_command_line.specs.declared.jobs.Job.{Job}
use Rattle.cb_command_line.specs.declared.lists.Lists.{Lists}
use Rattle.cb_command_line.specs.declared.lists.Lists.TheVariants as list_of
use Rattle.cb_command_line.specs.declared.tasks.Task.{Task}
use Rattle.cb_command_line.specs.declared.tasks.Task.TheVariants as task

module _ {X : Type 0} where
  -- what stands beside a word in a table
  abbrev pub entry : Text → List (Text × Option X) → Option X
  entry wanted [] = None
  entry wanted (row ∷ rest) = if bytes_eq wanted row.0 then row.1 else entry wanted rest

  -- what the word of an option stands for
  abbrev pub choice : Text → List (Text × Option X) → List Row → Option X
  choice option table rows = option_and_then (λ given. entry given table) (word option rows)

-- the semiring of `--semiring`
abbrev pub semiring_in : List Row → Option SemiringName
semiring_in rows = option_and_then named (word (codes "semiring") rows)

-- the test of `--test` with the number of `--value`
abbrev pub tests : ℕ → List (Text × Option Test)
tests n = (codes "below", Some (Below n)) ∷ (codes "above", Some (Above n)) ∷ (codes "equal", Some (Equal n)) ∷ []

abbrev pub test_in : List Row → Option Test
test_in rows = option_and_then (λ n. choice (codes "test") (tests n) rows) (number 64 (codes "value") rows)

-- the commands on matrices over a semiring
abbrev pub operations : List Row → List (Text × Option Operation)
operations rows =
    (codes "multiply", Some (if is_there (codes "mask") rows then MultiplyMasked else Multiply))
    ∷ (codes "spmv", Some MultiplyVector)
    ∷ (codes "transpose", Some Transpose)
    ∷ (codes "reduce", Some (if is_word (codes "by") (codes "columns") rows then ColumnSums else RowSums))
    ∷ (codes "add", Some Add)
    ∷ (codes "times", Some Times)
    ∷ (codes "prune", option_map Prune (test_in rows))
    ∷ []

-- the diagonal of a number: so many columns right of the main one, or so many rows below it
abbrev pub diagonal_at : ℤ → Diagonal
diagonal_at (pos right) = record { row = 0; column = right }
diagonal_at (negsuc more) = record { row = suc more; column = 0 }

-- the region of `--region`, by the diagonal of `--diagonal`
abbrev pub regions : Diagonal → List (Text × Option Region)
regions d =
    (codes "lower", Some (Lower d)) ∷ (codes "upper", Some (Upper d)) ∷ (codes "diagonal", Some (On d)) ∷ (codes "off-diagonal", Some (Off d)) ∷ []

abbrev pub kept_in : List Row → Option Selection
kept_in rows =
    option_and_then (λ k. option_map Select (choice (codes "region") (regions (diagonal_at k)) rows)) (integer (codes "diagonal") rows)

-- the function of `--function`, some with the number of `--value`, which is the right factor of a product
abbrev pub functions : Option ℕ → List (Text × Option Function)
functions n =
    (codes "constant", option_map function.Constant n)
    ∷ (codes "plus", option_map function.Sum n)
    ∷ (codes "times", option_map function.RightProduct n)
    ∷ (codes "row", Some function.Row)
    ∷ (codes "column", Some function.Column)
    ∷ []

abbrev pub function_in : List Row → Option Function
function_in rows = choice (codes "function") (functions (number 64 (codes "value") rows)) rows

-- the corner of `--row` and `--column`
abbrev pub corner_in : List Row → Option (ℕ × ℕ)
corner_in rows = option_and_then (λ row. option_map (λ column. (row, column)) (place (codes "column") rows))
    (place (codes "row") rows)

-- the commands that select
abbrev pub selections : List Row → List (Text × Option Selection)
selections rows =
    (codes "select", kept_in rows)
    ∷ (codes "apply", option_map Apply (function_in rows))
    ∷ (codes "diagonal", Some (if is_word (codes "as") (codes "matrix") rows then DiagonalMatrix else selection_is.Diagonal))
    ∷ (codes "kron", Some Kronecker)
    ∷ (codes "assign", option_map Assign (corner_in rows))
    ∷ []

-- the command asks for a selection; a power has as many factors as `--exponent` says
abbrev pub AsksForSelection : Text → List Row → Selection → Type 0
AsksForSelection command rows (Power factors) =
    (command ≡ codes "power") × (number 32 (codes "exponent") rows ≡ Some (non_zero_u32_get factors))
AsksForSelection command rows selection = entry command (selections rows) ≡ Some selection

-- the command asks for a computation: an operation or a selection, and no command for the product outside a mask
abbrev pub AsksForComputation : Text → List Row → Computation → Type 0
AsksForComputation command rows (computation.Operation operation) = entry command (operations rows) ≡ Some operation
AsksForComputation command rows (computation.Selection selection) = AsksForSelection command rows selection
AsksForComputation command rows computation.MultiplyOutside = ⊥

-- the lists that `--rows` and `--columns` name files of
abbrev pub lists_in : List Row → Option Lists
lists_in rows =
    if is_there (codes "rows") rows then Some (if is_there (codes "columns") rows then list_of.Both else list_of.Rows)
    else (if is_there (codes "columns") rows then Some list_of.Columns else None)

-- the commands on graphs
abbrev pub graph_tasks : List Row → List (Text × Option GraphTask)
graph_tasks rows =
    let source = place (codes "source") rows in
    (codes "bfs", option_map Levels source)
    ∷ (codes "relax", option_map Distances source)
    ∷ (codes "parents", option_map Parents source)
    ∷ (codes "bfs-from", Some LevelsFrom)
    ∷ (codes "relax-from", Some DistancesFrom)
    ∷ (codes "bfs-given", Some LevelsGiven)
    ∷ (codes "relax-given", Some DistancesGiven)
    ∷ (codes "components", Some Components)
    ∷ (codes "triangles", Some (if is_word (codes "by") (codes "vertex") rows then TriangleCounts else Triangles))
    ∷ (codes "degrees", Some (if is_word (codes "by") (codes "column") rows then ColumnDegrees else RowDegrees))
    ∷ []

-- the command asks for a task; one over a semiring takes that of `--semiring`
abbrev pub AsksFor : Text → List Row → Task → Type 0
AsksFor command rows (task.Compute computed semiring) = AsksForComputation command rows computed × (semiring_in rows ≡ Some semiring)
AsksFor command rows (task.Extract lists semiring) =
    (command ≡ codes "extract") × (lists_in rows ≡ Some lists) × (semiring_in rows ≡ Some semiring)
AsksFor command rows (task.Graph graph) = entry command (graph_tasks rows) ≡ Some graph

-- the files of a task, by the names that the command's help gives them, in the order in which they are read
abbrev pub operand_names : Computation → List Text
operand_names (computation.Operation MultiplyVector) = codes "A" ∷ codes "x" ∷ []
operand_names computed = take (operand_count_of computed) (codes "A" ∷ codes "B" ∷ codes "mask" ∷ [])

abbrev pub list_names : Lists → List Text
list_names list_of.Rows = codes "A" ∷ codes "rows" ∷ []
list_names list_of.Columns = codes "A" ∷ codes "columns" ∷ []
list_names list_of.Both = codes "A" ∷ codes "rows" ∷ codes "columns" ∷ []

abbrev pub names_with : Beside → List Text
names_with Nothing = codes "A" ∷ []
names_with Sources = codes "A" ∷ codes "s" ∷ []
names_with Values = codes "A" ∷ codes "x" ∷ []

abbrev pub file_names : Task → List Text
file_names (task.Compute computed semiring) = operand_names computed
file_names (task.Extract lists semiring) = list_names lists
file_names (task.Graph graph) = names_with (beside_of graph)

-- the command asks for a trace
abbrev pub is_traced : List Row → Bool
is_traced = is_word (codes "trace") (codes "true")

-- the command asks for ranks, by `--engine` or by an option that only ranks need
abbrev pub asks_for_ranks : List Row → Bool
asks_for_ranks rows = is_word (codes "engine") (codes "ranks") rows
    || (is_there (codes "grid") rows || (is_there (codes "lane") rows || is_traced rows))

-- the letters that a lane of `--lane` has room for
abbrev pub lane_in : List Row → ℕ
lane_in rows = unwrap_or (number 32 (codes "lane") rows) 2

abbrev pub is_plain : List Row → Bool
is_plain = is_word (codes "engine") (codes "plain")

-- what computes the command
abbrev pub engine_in : List Row → EngineName
engine_in rows =
    if is_plain rows then Plain
    else (if is_traced rows then Traced (lane_in rows)
    else (if asks_for_ranks rows then Ranks (lane_in rows) else Plain))

-- the side of a grid by default: the largest, up to 6, with no more ranks than processors, but 2 from two processors on
abbrev pub IsDefaultSide : ℕ → ℕ → Type 0
IsDefaultSide processors side = (side ≤ 6) × (side < 6 → processors < (side + 1) * (side + 1))
    × (2 < side → side * side ≤ processors) × (1 < side → 1 < processors) × (1 < processors → 1 < side) × (0 < side)

-- the side of the grid of a command: that of `--grid`, 2 with a trace, or the default
abbrev pub IsSideOf : ℕ → List Row → ℕ → Type 0
IsSideOf processors rows side = MatchOption (number 32 (codes "grid") rows)
    (MatchBool (is_traced rows) (side ≡ 2) (IsDefaultSide processors side)) (λ given. side ≡ given)

-- the most threads of a command: one with `--engine plain`, as many as ranks if ranks compute it, and else 36
abbrev pub most_threads : List Row → ℕ → ℕ
most_threads rows side = if is_plain rows then 1 else (if asks_for_ranks rows then side * side else 36)

-- the texts are the words of options and files with these names, in this order
abbrev pub AreWordsOf : List Text → List Row → Vec (String Global) Global → Type 0
AreWordsOf names rows texts = map (λ text. Some (string_bytes text)) texts.items ≡ map (λ name. word name rows) names

-- the job is what a command asks for with these rows, on so many processors
pub record IsJobOf (processors : ℕ) (command : Text) (rows : List Row) (job : Job) : Type 0 where
  pub task : AsksFor command rows job.task
  pub files : AreWordsOf (file_names job.task) rows job.files
  pub engine : job.engine ≡ engine_in rows
  pub side : IsSideOf processors rows job.side
  pub threads : job.threads ≡ max 1 (min processors (most_threads rows job.side))

-- the same of the command that was found, if one was
abbrev pub IsJobIn : ℕ → Option (Text × List Row) → Job → Type 0
IsJobIn processors found job = IsSomeAnd found (λ command. IsJobOf processors command.0 command.1 job)
