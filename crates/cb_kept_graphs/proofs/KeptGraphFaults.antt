-- The first fault of a task on a kept graph, and its answer.
use Rattle.std.proofs.Common.{◌≡◌, ℕ, List, refl, sym, ap, subst, inl, inr, ⊎_elim, ◌⊎◌, ◌∙◌}
use Rattle.cb_semirings.specs.Arithmetic.{Arithmetic}
use Rattle.cb_semirings.specs.Names.{arithmetic_of}
use Rattle.cb_semirings.specs.Tables.{plus_times}
use Rattle.cb_semirings.specs.declared.names.SemiringName.{SemiringName}
use Rattle.cb_matrix.specs.Sparse.{Sparse, IsMatrix}
use Rattle.cb_operations.specs.declared.graphs.GraphTask.{GraphTask}
use Rattle.cb_operations.specs.declared.graphs.GraphTask.TheVariants.{RowDegrees, ColumnDegrees}
use Rattle.cb_operations.specs.declared.refusals.ComputeFault.{ComputeFault}
use Rattle.cb_operations.specs.declared.refusals.ComputeFault.TheVariants as compute_fault
use Rattle.cb_operations.specs.declared.refusals.Refusal.{Refusal}
use Rattle.cb_operations.specs.Graphs.{beside_of}
use Rattle.cb_graphs.specs.declared.graph_tasks.GraphAnswer.{GraphAnswer}
use Rattle.cb_graphs.specs.declared.graph_tasks.GraphAnswer.TheVariants.{Counts}
use Rattle.cb_graphs.specs.Degrees.{row_degrees, column_degrees}
use Rattle.cb_graphs.specs.GraphAnswers.{IsAnswerOf, IsFaultOf, IsTaken, NoOperand, OperandValue}
use Rattle.cb_graphs.proofs.TaskRefusals.{refused_or_suits, unfit_or_fits}
use Rattle.cb_kept.specs.declared.faults.Fault.{Fault}
use Rattle.cb_kept.specs.declared.faults.Fault.TheVariants.{Mixed}
use Rattle.cb_kept.specs.declared.kept.Kept.{Kept}
use Rattle.cb_kept.specs.Answers.{NoFault}
use Rattle.cb_kept.specs.Kept.{Keeps, semiring_of, matrix_in}
use Rattle.cb_kept_graphs.specs.KeptGraphs.{AreOverMinPlus, UnlessRefused, faults_over, fit_faults, operand_faults, operand_of}
use Rattle.cb_kept.specs.Refusals.{uncomputed_as}
use Rattle.cb_kept.proofs.Firsts.{no_more, passed, wider}

-- a fault of the parts that come first is one of the whole
refused_wider : (is_refused : Refusal → Type 0) (suits : Type 0) (first next : Fault → Type 0) → ((f : Fault) → first f → next f) → (f : Fault)
    → UnlessRefused is_refused suits first f → UnlessRefused is_refused suits next f
refused_wider is_refused suits first next k f h = ⊎_elim (λ a. inl a) (λ b. inr (b.0, k f b.1)) h

-- there is no fault if nothing is refused and none comes next
refused_passed : (is_refused : Refusal → Type 0) (suits : Type 0) (next : Fault → Type 0) → ((refusal : Refusal) → is_refused refusal → suits → ⊥)
    → suits → NoFault next → NoFault (UnlessRefused is_refused suits next)
refused_passed is_refused suits next never holds none = record {
  memory = inr (holds, none.memory);
  only = λ f h. ⊎_elim (λ a. absurd (never a.0 a.2 holds)) (λ b. none.only f b.1) h;
}

-- the answer of degrees
pub degrees_answer : (s : Arithmetic) (task : GraphTask) (a m : Sparse) → IsMatrix plus_times m
    → ((task ≡ RowDegrees) × (m ≡ row_degrees s a)) ⊎ ((task ≡ ColumnDegrees) × (m ≡ column_degrees s a)) → IsAnswerOf s task a NoOperand (Counts m)
degrees_answer s task a m is h = ⊎_elim
    (λ k. subst (λ t. IsAnswerOf s t a NoOperand (Counts m)) (sym k.0) (m, refl, is, k.1))
    (λ k. subst (λ t. IsAnswerOf s t a NoOperand (Counts m)) (sym k.0) (m, refl, is, k.1)) h

-- the answer of a task, kept, over the arithmetic of the kept graph
pub kept_answer : (s : Arithmetic) (name : SemiringName) (task : GraphTask) (k : Kept) (m : Sparse) (operand : OperandValue) (answer : GraphAnswer)
    → arithmetic_of name ≡ s → Keeps name m k → IsAnswerOf s task m operand answer
    → IsAnswerOf (arithmetic_of (semiring_of k)) task (matrix_in k) operand answer
kept_answer s name task k m operand answer e keeps h =
    subst (λ t. IsAnswerOf t task (matrix_in k) operand answer) (sym (ap arithmetic_of keeps.semiring ∙ e))
    (subst (λ x. IsAnswerOf s task x operand answer) (sym keeps.matrix) h)

module _ (name : SemiringName) (task : GraphTask) (k : Kept) (sources : List ℕ) (values : Kept) where
  pub other_semiring : (semiring_of k ≡ name → ⊥) → faults_over name task k sources values Mixed
  unfolding faults_over
  other_semiring n = inl (refl, n)

  pub operand_fault : (m : Sparse) (f : Fault) → Keeps name m k → operand_faults task m.shape values (λ _. ⊥) f → faults_over name task k sources values f
  unfolding faults_over
  operand_fault m f keeps h = inr (
    keeps.semiring,
    refused_wider _ _ _ _ (wider _ Mixed (λ _. ⊥) (fit_faults (matrix_in k).shape (operand_of (beside_of task) sources values)) (λ g a. absurd a)) f
        (subst (λ x. operand_faults task x.shape values (λ _. ⊥) f) (sym keeps.matrix) h),
  )

  uncomputed : semiring_of k ≡ name → AreOverMinPlus (beside_of task) values → (fault : ComputeFault)
      → IsFaultOf task (matrix_in k).shape (operand_of (beside_of task) sources values) fault → faults_over name task k sources values (uncomputed_as fault)
  unfolding faults_over
  uncomputed e over (compute_fault.Refused refusal) h =
      ⊎_elim (λ a. inr (e, inl (refusal, refl, a))) (λ b. inr (e, inr (b.0, inr (over, inl (refusal, refl, b.1))))) h
  uncomputed e over compute_fault.Memory h = inr (e, inr (h.0, inr (over, inr (h.1, refl))))

  -- why the task isn't computed on a graph over the semiring
  pub uncomputed_on : (m : Sparse) (fault : ComputeFault) → Keeps name m k → AreOverMinPlus (beside_of task) values
      → IsFaultOf task m.shape (operand_of (beside_of task) sources values) fault → faults_over name task k sources values (uncomputed_as fault)
  uncomputed_on m fault keeps over h =
      uncomputed keeps.semiring over fault (subst (λ x. IsFaultOf task x.shape (operand_of (beside_of task) sources values) fault) (sym keeps.matrix) h)

  computed : semiring_of k ≡ name → AreOverMinPlus (beside_of task) values → IsTaken task (matrix_in k).shape (operand_of (beside_of task) sources values)
      → NoFault (faults_over name task k sources values)
  unfolding faults_over
  computed e over taken =
      passed _ Mixed _ e
      (refused_passed _ _ _ (refused_or_suits task (matrix_in k).shape) taken.0
      (passed _ Mixed _ over
      (refused_passed _ _ _ (unfit_or_fits (matrix_in k).shape (operand_of (beside_of task) sources values)) taken.1 no_more)))

  -- no fault comes before the answer on a graph that is taken
  pub computed_on : (m : Sparse) → Keeps name m k → AreOverMinPlus (beside_of task) values → IsTaken task m.shape (operand_of (beside_of task) sources values)
      → NoFault (faults_over name task k sources values)
  computed_on m keeps over taken =
      computed keeps.semiring over (subst (λ x. IsTaken task x.shape (operand_of (beside_of task) sources values)) (sym keeps.matrix) taken)
