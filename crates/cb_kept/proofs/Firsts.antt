-- The first fault of a call, from the faults of its parts.
use Rattle.std.proofs.Common.{List, refl, ap, inl, inr, ⊎_elim}
use Rattle.cb_semirings.specs.Arithmetic.{Arithmetic}
use Rattle.cb_matrix.specs.Sparse.{Sparse}
use Rattle.cb_lists.specs.declared.lists.Columns.{Columns}
use Rattle.cb_operations.specs.declared.computations.Computation.{Computation}
use Rattle.cb_operations.specs.declared.refusals.Refusal.{Refusal}
use Rattle.cb_operations.specs.declared.refusals.ComputeFault.{ComputeFault}
use Rattle.cb_operations.specs.declared.refusals.ComputeFault.TheVariants as compute_fault
use Rattle.cb_operations.specs.Computations.{IsFaultOf, IsRefusal, Suits, refusal_of}
use Rattle.cb_operations.specs.OperationAnswers.{shapes_in}
use Rattle.cb_kept.specs.declared.faults.Fault.{Fault}
use Rattle.cb_kept.specs.declared.faults.Fault.TheVariants.{Form, TooLarge, Lengths, Order, Place, Value}
use Rattle.cb_lists.specs.Lists.{AreLists, HasForm, Fits, HaveLengths, AreOrdered, AreInside, AreValues}
use Rattle.cb_kept.specs.Refusals.{Unless, IsMemory, matrix_faults, list_faults, refused_as, uncomputed_as}
use Rattle.cb_kept.specs.Answers.{NoFault}
use Rattle.cb_kept.specs.CallsOver.{refusal_faults}

-- if P holds, the fault is one of those that come next
pub only : (P : Type 0) (g : Fault) (next : Fault → Type 0) (f : Fault) → P → Unless P g next f → next f
only P g next f p h = ⊎_elim (λ k. absurd (k.1 p)) (λ k. k.1) h

pub wider : (P : Type 0) (g : Fault) (first next : Fault → Type 0) → ((f : Fault) → first f → next f) → (f : Fault) → Unless P g first f → Unless P g next f
wider P g first next k f h = ⊎_elim (λ a. inl a) (λ a. inr (a.0, k f a.1)) h

-- there is no fault if P holds and none comes next
pub passed : (P : Type 0) (g : Fault) (next : Fault → Type 0) → P → NoFault next → NoFault (Unless P g next)
passed P g next p none = record { memory = inr (p, none.memory); only = λ f h. none.only f (only P g next f p h) }

pub no_more : NoFault IsMemory
no_more = record { memory = refl; only = λ f h. h }

-- a fault of a matrix comes before those that come next
matrix_rest : (s : Arithmetic) (c : Columns) (first next : Fault → Type 0) → ((f : Fault) → first f → next f) → (f : Fault) → matrix_faults s c first f → matrix_faults s c next f
unfolding matrix_faults
matrix_rest s c first next k =
    wider (HasForm c) Form _ _
    (wider (Fits c) TooLarge _ _
    (wider (HaveLengths c) Lengths _ _
    (wider (AreOrdered c) Order _ _
    (wider (AreInside c) Place _ _
    (wider (AreValues s c) Value first next k)))))

-- the same, from the faults of the matrix alone
pub matrix_wider : (s : Arithmetic) (c : Columns) (next : Fault → Type 0) (f : Fault) → matrix_faults s c (λ _. ⊥) f → matrix_faults s c next f
matrix_wider s c next = matrix_rest s c (λ _. ⊥) next (λ f k. absurd k)

matrix_passed : (s : Arithmetic) (c : Columns) (next : Fault → Type 0) → AreLists s c → NoFault next → NoFault (matrix_faults s c next)
unfolding matrix_faults
matrix_passed s c next are none =
    passed (HasForm c) Form _ are.form
    (passed (Fits c) TooLarge _ are.fits
    (passed (HaveLengths c) Lengths _ are.lengths
    (passed (AreOrdered c) Order _ are.ordered
    (passed (AreInside c) Place _ are.inside
    (passed (AreValues s c) Value _ are.values none)))))

-- the faults of lists are those of their matrix
pub of_lists : (s : Arithmetic) (a : Columns) (f : Fault) → matrix_faults s a (λ _. ⊥) f → list_faults s a f
unfolding list_faults
of_lists s a f h = matrix_wider s a IsMemory f h

pub none_of_lists : (s : Arithmetic) (a : Columns) → AreLists s a → NoFault (list_faults s a)
unfolding list_faults
none_of_lists s a are = matrix_passed s a IsMemory are no_more

-- a refusal of a computation on matrices over a semiring, or want of memory, is the fault of a call
pub refused_fault : (c : Computation) (s : Arithmetic) (ms : List Sparse) (refusal : Refusal) → IsRefusal c s (shapes_in ms) refusal → refusal_faults c s ms (refused_as refusal)
refused_fault c s ms refusal h = inl (ap refused_as h.0, h.1)

pub computed_fault : (c : Computation) (s : Arithmetic) (ms : List Sparse) (f : ComputeFault) → IsFaultOf c s ms f → refusal_faults c s ms (uncomputed_as f)
computed_fault c s ms (compute_fault.Refused refusal) h = refused_fault c s ms refusal h
computed_fault c s ms compute_fault.Memory h = inr (h, refl)

-- and there is none where it can be computed
pub none_of_computed : (c : Computation) (s : Arithmetic) (ms : List Sparse) → Suits c s (shapes_in ms) → NoFault (refusal_faults c s ms)
none_of_computed c s ms suits = passed _ (refused_as (refusal_of c)) _ suits no_more
