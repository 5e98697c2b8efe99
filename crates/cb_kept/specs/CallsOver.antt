-- Calls on kept matrices, by what they are on matrices over one semiring.
use Rattle.std.specs.Prelude.{List, map, Result}
use Rattle.cb_semirings.specs.Arithmetic.{Arithmetic}
use Rattle.cb_semirings.specs.declared.names.SemiringName.{SemiringName}
use Rattle.cb_semirings.specs.Names.{arithmetic_of}
use Rattle.cb_matrix.specs.Sparse.{Sparse}
use Rattle.cb_operations.specs.declared.computations.Computation.{Computation}
use Rattle.cb_operations.specs.declared.computations.Computation.TheVariants as computation_is
use Rattle.cb_operations.specs.declared.operations.Operation.{Operation}
use Rattle.cb_operations.specs.Computations.{Suits, refusal_of}
use Rattle.cb_operations.specs.OperationAnswers.{shapes_in}
use Rattle.cb_kept.specs.declared.faults.Fault.{Fault}
use Rattle.cb_kept.specs.declared.faults.Fault.TheVariants.{Mixed}
use Rattle.cb_kept.specs.declared.kept.Kept.{Kept}
use Rattle.cb_kept.specs.Answers.{IsAnswer}
use Rattle.cb_kept.specs.Kept.{AreOver, semiring_in, matrix_in}
use Rattle.cb_kept.specs.Refusals.{Unless, IsMemory, refused_as}

-- the faults of a computation on matrices over a semiring: it is refused
abbrev pub refusal_faults : Computation → Arithmetic → List Sparse → Fault → Type 0
refusal_faults computation s ms = Unless (Suits computation s (shapes_in ms)) (refused_as (refusal_of computation)) IsMemory

-- the same of an operation: the shapes don't agree
abbrev pub operation_faults : Operation → Arithmetic → List Sparse → Fault → Type 0
operation_faults operation = refusal_faults (computation_is.Operation operation)

-- how a call ends on matrices over a semiring, by its faults and its answers
abbrev pub IsCallOver : {X : Type 0} → (Arithmetic → List Sparse → Fault → Type 0) → (SemiringName → Arithmetic → List Sparse → X → Type 0) → SemiringName → Arithmetic → List Sparse → Result X Fault → Type 0
IsCallOver faults gives name s ms = IsAnswer (faults s ms) (gives name s ms)

-- its faults on kept matrices: they aren't over the semiring, or those over it
abbrev pub kept_faults_over : SemiringName → Arithmetic → (Arithmetic → List Sparse → Fault → Type 0) → List Kept → Fault → Type 0
kept_faults_over name s faults ks = Unless (AreOver name ks) Mixed (faults s (map matrix_in ks))

-- how it ends on kept matrices that have to be over a semiring
abbrev pub IsCallOnKept : {X : Type 0} → (Arithmetic → List Sparse → Fault → Type 0) → (SemiringName → Arithmetic → List Sparse → X → Type 0) → SemiringName → Arithmetic → List Kept → Result X Fault → Type 0
IsCallOnKept faults gives name s ks = IsAnswer (kept_faults_over name s faults ks) (gives name s (map matrix_in ks))

-- the same of kept matrices that have to be over the semiring of the first
abbrev pub common_faults : (Arithmetic → List Sparse → Fault → Type 0) → List Kept → Fault → Type 0
common_faults faults ks = kept_faults_over (semiring_in ks) (arithmetic_of (semiring_in ks)) faults ks

abbrev pub IsCallOverCommon : {X : Type 0} → (Arithmetic → List Sparse → Fault → Type 0) → (SemiringName → Arithmetic → List Sparse → X → Type 0) → List Kept → Result X Fault → Type 0
IsCallOverCommon faults gives ks = IsCallOnKept faults gives (semiring_in ks) (arithmetic_of (semiring_in ks)) ks
