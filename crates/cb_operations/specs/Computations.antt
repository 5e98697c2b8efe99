-- What each computation takes, when it is refused, and its result.
use Rattle.std.specs.Prelude.{◌≡◌, ℕ, List}
use Rattle.cb_semirings.specs.Arithmetic.{Arithmetic}
use Rattle.cb_matrix.specs.Sparse.{Sparse, Extent}
use Rattle.cb_matrix.specs.Values.{product}
use Rattle.cb_operations.specs.declared.operations.Operation.TheVariants.{MultiplyMasked}
use Rattle.cb_operations.specs.declared.computations.Computation.{Computation}
use Rattle.cb_operations.specs.declared.computations.Computation.TheVariants.{Operation, Selection, MultiplyOutside}
use Rattle.cb_operations.specs.declared.refusals.Refusal.{Refusal}
use Rattle.cb_operations.specs.declared.refusals.Refusal.TheVariants.{Shapes}
use Rattle.cb_operations.specs.declared.refusals.ComputeFault.{ComputeFault}
use Rattle.cb_operations.specs.declared.refusals.ComputeFault.TheVariants.{Refused, Memory}
use Rattle.cb_operations.specs.OperationAnswers as operations
use Rattle.cb_operations.specs.OperationAnswers.{matrix_at, shapes_in}
use Rattle.cb_operations.specs.SelectionAnswers as selections
use Rattle.cb_operations.specs.SelectionAnswers.{excluded}

-- how many matrices it takes
abbrev pub operand_count_of : Computation → ℕ
operand_count_of (Operation operation) = operations.operand_count_of operation
operand_count_of (Selection selection) = selections.operand_count_of selection
operand_count_of MultiplyOutside = 3

-- it can be computed of matrices of these shapes over a semiring
abbrev pub Suits : Computation → Arithmetic → List Extent → Type 0
Suits (Operation operation) s ds = operations.Agree operation ds
Suits (Selection selection) s ds = selections.Suits selection s ds
Suits MultiplyOutside s ds = operations.Agree MultiplyMasked ds

-- why it is refused if it can't be
abbrev pub refusal_of : Computation → Refusal
refusal_of (Operation operation) = Shapes
refusal_of (Selection selection) = selections.refusal_of selection
refusal_of MultiplyOutside = Shapes

-- it is refused for this reason
abbrev pub IsRefusal : Computation → Arithmetic → List Extent → Refusal → Type 0
IsRefusal computation s ds refusal = (refusal ≡ refusal_of computation) × ¬ Suits computation s ds

-- the result for these matrices
abbrev pub answer_of : Computation → Arithmetic → List Sparse → Sparse
answer_of (Operation operation) s ms = operations.answer_of operation s ms
answer_of (Selection selection) s ms = selections.answer_of selection s ms
answer_of MultiplyOutside s ms = excluded s (product s (matrix_at ms 0) (matrix_at ms 1)) (matrix_at ms 2)

-- it is refused; or it isn't, and memory was
abbrev pub IsFaultOf : Computation → Arithmetic → List Sparse → ComputeFault → Type 0
IsFaultOf computation s ms (Refused refusal) = IsRefusal computation s (shapes_in ms) refusal
IsFaultOf computation s ms Memory = Suits computation s (shapes_in ms)
