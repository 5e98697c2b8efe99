-- What is refused isn't taken.
use Rattle.std.proofs.Common.{ℕ, ⊎_elim, arith}
use Rattle.cb_matrix.specs.Sparse.{Extent}
use Rattle.cb_operations.specs.declared.graphs.GraphTask.{GraphTask}
use Rattle.cb_operations.specs.declared.graphs.GraphTask.TheVariants.{Levels, Distances, Parents, RowDegrees, ColumnDegrees}
use Rattle.cb_operations.specs.declared.refusals.ComputeFault.TheVariants.{Refused}
use Rattle.cb_operations.specs.declared.refusals.Refusal.{Refusal}
use Rattle.cb_operations.specs.declared.refusals.Refusal.TheVariants as refusal_is
use Rattle.cb_operations.specs.Graphs.{HasSource, IsGraphRefusal, IsRefusal, Suits}
use Rattle.cb_graphs.specs.GraphAnswers.{Fits, IsFaultOf, IsTaken, IsUnfit, OperandValue, NoOperand, SourceList, ValueColumn}

-- a shape that is refused has no such source
source_refused : (d : Extent) (source : ℕ) (refusal : Refusal) → IsGraphRefusal d source refusal → HasSource d source → ⊥
source_refused d source refusal_is.Shapes h has = h
source_refused d source refusal_is.NotSquare h has = h has.square
source_refused d source refusal_is.Source h has = omega (arith, h.1, has.vertex)
source_refused d source _ h has = h

-- a shape that is refused isn't that of a graph for the task
pub refused_or_suits : (task : GraphTask) (d : Extent) (refusal : Refusal) → IsRefusal task d refusal → Suits task d → ⊥
refused_or_suits (Levels source) d refusal h suits = source_refused d source refusal h suits
refused_or_suits (Distances source) d refusal h suits = source_refused d source refusal h suits
refused_or_suits (Parents source) d refusal h suits = source_refused d source refusal h suits
refused_or_suits RowDegrees d refusal h suits = h
refused_or_suits ColumnDegrees d refusal h suits = h
refused_or_suits _ d refusal h suits = h.1 suits

-- an operand that is refused doesn't fit
pub unfit_or_fits : (d : Extent) (operand : OperandValue) (refusal : Refusal) → IsUnfit d operand refusal → Fits d operand → ⊥
unfit_or_fits d NoOperand refusal h fits = h
unfit_or_fits d (SourceList sources) refusal h fits = ⊎_elim (λ a. omega (arith, a.1, fits.0)) (λ b. b.1.1 fits.1) h
unfit_or_fits d (ValueColumn values) refusal h fits = h.1 fits

-- a task that is refused isn't taken
pub refused_or_taken : (task : GraphTask) (d : Extent) (operand : OperandValue) (refusal : Refusal) → IsFaultOf task d operand (Refused refusal) → IsTaken task d operand → ⊥
refused_or_taken task d operand refusal h taken =
    ⊎_elim (λ a. refused_or_suits task d refusal a taken.0) (λ b. unfit_or_fits d operand refusal b.1 taken.1) h
