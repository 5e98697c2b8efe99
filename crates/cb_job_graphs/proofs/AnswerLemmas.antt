-- What a list of sources is taken for, and why what was read isn't computed.
use Rattle.std.proofs.Common.{◌≡◌, ◌∙◌, ◌-◌, ◌<◌, ◌≤◌, ℕ, List, Err, arith, refl, subst, sym}
use Rattle.std.proofs.lemmas.List.{length-map}
use Rattle.std.proofs.lemmas.List.Elements.{All-map, All-weaker}
use Rattle.cb_semirings.specs.Arithmetic.{Arithmetic}
use Rattle.cb_matrix.specs.declared.TheConstants.{LIMIT}
use Rattle.cb_matrix.specs.Sparse.{Sparse, Extent}
use Rattle.cb_dcsc.specs.Columns.{values_of}
use Rattle.cb_operations.specs.declared.graphs.Beside.{Beside}
use Rattle.cb_operations.specs.declared.graphs.Beside.TheVariants.{Nothing, Sources, Values}
use Rattle.cb_operations.specs.declared.graphs.GraphTask.{GraphTask}
use Rattle.cb_operations.specs.declared.refusals.ComputeFault.{ComputeFault}
use Rattle.cb_operations.specs.declared.refusals.ComputeFault.TheVariants as compute_fault
use Rattle.cb_graphs.specs.GraphAnswers.{Fits, IsFaultOf, IsTaken, OperandValue, SourceList}
use Rattle.cb_graphs.proofs.TaskRefusals.{refused_or_taken}
use Rattle.cb_job_ends.specs.WriteEnds.{told_of}
use Rattle.cb_job_inputs.specs.Inputs.{AreWithList}
use Rattle.cb_job_inputs.specs.Lists.{IsList, IsNumberTo, numbers_in}
use Rattle.cb_job_graphs.specs.GraphTasks.{AreRead, HasAnswer, IsListFault}

-- the numbers of a list of vertices are sources that can be taken
pub list_fits : (d : Extent) (l : Sparse) → l.shape.rows ≤ LIMIT → IsList d.rows l → Fits d (SourceList (numbers_in l))
list_fits d l few is =
    let count = length-map (values_of l.entries) (λ x. x - 1) ∙ length-map l.entries (λ e. e.value) ∙ is.1.0 in (
      subst (λ n. n ≤ LIMIT) (sym count) few,
      All-map (λ v. v < d.rows) (λ x. x - 1) (values_of l.entries)
          (All-weaker (IsNumberTo d.rows) (λ x. x - 1 < d.rows) (λ x h. omega (arith, h.0, h.1)) (values_of l.entries) is.1.1),
    )

-- why what was read isn't computed; sources of a list are never refused
module _ (s : Arithmetic) (task : GraphTask) (texts : List (List ℕ)) (a : Sparse) (operand : OperandValue) where
  pub untaken : (beside : Beside) → (beside ≡ Sources → IsTaken task a.shape operand) → AreRead beside s texts a operand → (fault : ComputeFault)
      → IsFaultOf task a.shape operand fault → HasAnswer beside s task texts (Err (told_of fault))
  untaken Nothing taken read (compute_fault.Refused refusal) h = record { answer = tt; fault = (a, operand, read, h); unwritten = λ e. cc }
  untaken Values taken read (compute_fault.Refused refusal) h = record { answer = tt; fault = (a, operand, read, h); unwritten = λ e. cc }
  untaken Sources taken read (compute_fault.Refused refusal) h = absurd (refused_or_taken task a.shape operand refusal h (taken refl))
  untaken beside taken read compute_fault.Memory h = record { answer = tt; fault = (a, operand, (h, read)); unwritten = λ e. cc }

-- why a list has no sources for a task
pub unlisted : (s : Arithmetic) (task : GraphTask) (texts : List (List ℕ)) (a l : Sparse) → AreWithList s texts a l → (fault : ComputeFault)
    → IsListFault task a.shape l fault → HasAnswer Sources s task texts (Err (told_of fault))
unlisted s task texts a l read (compute_fault.Refused refusal) h = record { answer = tt; fault = (a, l, read, h); unwritten = λ e. cc }
unlisted s task texts a l read compute_fault.Memory h =
    record { answer = tt; fault = (a, SourceList (numbers_in l), (h.0, (l, read, h.1, refl))); unwritten = λ e. cc }
