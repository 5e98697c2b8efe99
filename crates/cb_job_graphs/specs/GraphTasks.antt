-- The answers of tasks on the graph of a text, and the reasons why there is none.
use Rattle.std.specs.Prelude.{ℕ, ◌≡◌, ◌≢◌, ◌⊎◌, Bool, List, [], ◌∷◌, Option, Result, IfOk, IfErr}
use Rattle.cb_semirings.specs.Arithmetic.{Arithmetic}
use Rattle.cb_semirings.specs.Names.{arithmetic_of}
use Rattle.cb_semirings.specs.Tables.{min_plus, plus_times}
use Rattle.cb_matrix.specs.Sparse.{Sparse, Extent}
use Rattle.cb_market_lines.specs.Reads.{Reads}
use Rattle.cb_market_pages.specs.Text.{number_line, text_of, vertex_text_of, vertex_pairs_text_of}
use Rattle.cb_operations.specs.declared.graphs.Beside.{Beside}
use Rattle.cb_operations.specs.declared.graphs.Beside.TheVariants.{Nothing, Sources, Values}
use Rattle.cb_operations.specs.declared.graphs.GraphTask.{GraphTask}
use Rattle.cb_operations.specs.declared.refusals.ComputeFault.{ComputeFault}
use Rattle.cb_operations.specs.declared.refusals.ComputeFault.TheVariants as compute_fault
use Rattle.cb_operations.specs.declared.refusals.Refusal.{Refusal}
use Rattle.cb_operations.specs.declared.refusals.Refusal.TheVariants.{Source}
use Rattle.cb_operations.specs.Graphs.{IsRefusal, Suits, beside_of, semiring_of}
use Rattle.cb_graphs.specs.declared.graph_tasks.GraphAnswer.{GraphAnswer}
use Rattle.cb_graphs.specs.declared.graph_tasks.GraphAnswer.TheVariants.{Numbers, Columns, Vertices, Counts, Count}
use Rattle.cb_graphs.specs.GraphAnswers.{OperandValue, NoOperand, SourceList, ValueColumn, IsAnswerOf, IsFaultOf, IsTaken}
use Rattle.cb_job_ends.specs.Texts.{text_at}
use Rattle.cb_job_ends.specs.WriteEnds.{IsEndOn}
use Rattle.cb_job_ends.specs.declared.faults.JobFault.{JobFault}
use Rattle.cb_job_ends.specs.declared.faults.JobFault.TheVariants.{Read, Refused, Ranks, Memory, Output, Absent}
use Rattle.cb_job_inputs.specs.Inputs.{AreWithList, IsFirstReadFault, arithmetic_at}
use Rattle.cb_job_inputs.specs.Lists.{IsList, IsListRefusal, numbers_in}
use Rattle.cb_job_output.specs.declared.answers.Answer.{Answer}
use Rattle.cb_job_output.specs.Answers.{IsAnsweredOn}

-- ---- what the texts of a task read as, where the graph is read over s
-- a graph, and initial values, which are read in min-plus
abbrev pub AreWithValues : Arithmetic → List (List ℕ) → Sparse → Sparse → Type 0
AreWithValues s texts a x = Reads s (text_at texts 0) a × Reads min_plus (text_at texts 1) x

-- a graph, and what is taken beside it: nothing; the sources of a list, counted from 0; or a column of initial values
abbrev pub AreRead : Beside → Arithmetic → List (List ℕ) → Sparse → OperandValue → Type 0
AreRead Nothing s texts a operand = Reads s (text_at texts 0) a × (operand ≡ NoOperand)
AreRead Sources s texts a operand =
    (l : Sparse) × AreWithList s texts a l × IsList a.shape.rows l × (operand ≡ SourceList (numbers_in l))
AreRead Values s texts a operand = (x : Sparse) × AreWithValues s texts a x × (operand ≡ ValueColumn x)

-- the operands of a task
abbrev pub AreOperands : Beside → Arithmetic → GraphTask → List (List ℕ) → Sparse → OperandValue → Type 0
AreOperands beside s task texts a operand = IsTaken task a.shape operand × AreRead beside s texts a operand

-- ---- why they aren't operands
-- the graph is refused; else the list isn't a column; else a place of it has no number of a vertex; or memory was refused
abbrev pub IsListFault : GraphTask → Extent → Sparse → ComputeFault → Type 0
IsListFault task d l (compute_fault.Refused refusal) = IsRefusal task d refusal ⊎ (Suits task d × IsListRefusal Source d.rows l refusal)
IsListFault task d l compute_fault.Memory = IsTaken task d (SourceList (numbers_in l)) × IsList d.rows l

-- the texts are matrices, and refused
abbrev pub AreRefused : Beside → Arithmetic → GraphTask → List (List ℕ) → Refusal → Type 0
AreRefused Sources s task texts refusal =
    (a : Sparse) × (l : Sparse) × AreWithList s texts a l × IsListFault task a.shape l (compute_fault.Refused refusal)
AreRefused beside s task texts refusal =
    (a : Sparse) × (operand : OperandValue) × AreRead beside s texts a operand × IsFaultOf task a.shape operand (compute_fault.Refused refusal)

-- how the text at a position is read
abbrev pub read_by : Beside → Arithmetic → ℕ → Arithmetic
read_by Nothing s = λ _. s
read_by Sources s = arithmetic_at s plus_times
read_by Values s = arithmetic_at s min_plus

-- Why a task has no answer, or why the answer wasn't written: a text isn't a matrix; else the operands are refused; else memory
-- was refused, or the sink failed.
abbrev pub IsFaultBy : Beside → Arithmetic → GraphTask → List (List ℕ) → JobFault → Type 0
IsFaultBy beside s task texts (Read which fault) = IsFirstReadFault (read_by beside s) texts (Read which fault)
IsFaultBy beside s task texts (Refused refusal) = AreRefused beside s task texts refusal
IsFaultBy beside s task texts (Ranks fault) = ⊥
IsFaultBy beside s task texts Absent = ⊥
IsFaultBy beside s task texts Memory = (a : Sparse) × (operand : OperandValue) × AreOperands beside s task texts a operand
IsFaultBy beside s task texts Output = (a : Sparse) × (operand : OperandValue) × AreOperands beside s task texts a operand

-- ---- answers
-- the answer for the operands that the texts read as
abbrev pub IsAnswerBy : Beside → Arithmetic → GraphTask → List (List ℕ) → GraphAnswer → Type 0
IsAnswerBy beside s task texts answer =
    (a : Sparse) × (operand : OperandValue) × AreOperands beside s task texts a operand × IsAnswerOf s task a operand answer

-- How a call ends that reads the operands and computes the answer.
pub record HasAnswer (beside : Beside) (s : Arithmetic) (task : GraphTask) (texts : List (List ℕ)) (result : Result GraphAnswer JobFault) : Type 0 where
  pub answer : IfOk result (IsAnswerBy beside s task texts)
  pub fault : IfErr result (IsFaultBy beside s task texts)
  pub unwritten : IfErr result (λ f. f ≢ Output)

-- the text of an answer: a line for each vertex, row or column that has a number, a vertex or a count; a matrix; or a number
abbrev pub answer_text : GraphAnswer → List ℕ
answer_text (Numbers column) = vertex_text_of column
answer_text (Columns m) = text_of min_plus m
answer_text (Vertices column) = vertex_pairs_text_of column
answer_text (Counts column) = vertex_text_of column
answer_text (Count n) = number_line (n ∷ [])

-- the text of the answer of a task, over the semiring of its graph
abbrev pub IsGraphAnswer : GraphTask → List (List ℕ) → List ℕ → Type 0
IsGraphAnswer task texts text =
    (answer : GraphAnswer) × IsAnswerBy (beside_of task) (arithmetic_of (semiring_of task)) task texts answer × (text ≡ answer_text answer)

-- why it has no answer, or why the answer wasn't written
abbrev pub IsGraphFault : GraphTask → List (List ℕ) → JobFault → Type 0
IsGraphFault task = IsFaultBy (beside_of task) (arithmetic_of (semiring_of task)) task

-- how a call ends that computes the answer of a task
abbrev pub IsGraphAnswered : {S : Type 0} → GraphTask → List (List ℕ) → Result (Answer S) JobFault → Type 0
IsGraphAnswered task = IsAnsweredOn (IsGraphAnswer task) (IsGraphFault task) min_plus

-- how a call ends that writes it
abbrev pub IsGraphEnd : {T : Type 0} → GraphTask → List (List ℕ) → Option (List ℕ) → Option (List ℕ) → Bool → Result T JobFault → Type 0
IsGraphEnd task = IsEndOn (IsGraphAnswer task) (IsGraphFault task)
