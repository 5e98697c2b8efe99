-- What C gets of a call that keeps a matrix.
use Rattle.std.specs.Prelude.{◌≡◌, ◌≢◌, ℕ, ◌==◌, ◌⊎◌, Bool, List, cond, length, take, Option, None, Some, option_map, IfSome}
use Rattle.std.specs.Borrow.{MutBor}
use Rattle.cb_semirings.specs.Names.{arithmetic_of, numbered}
use Rattle.cb_semirings.specs.Arithmetic.{Arithmetic}
use Rattle.cb_semirings.specs.declared.names.SemiringName.{SemiringName}
use Rattle.cb_operations.specs.declared.graphs.GraphTask.{GraphTask}
use Rattle.cb_operations.specs.declared.operations.Operation.{Operation}
use Rattle.cb_operations.specs.declared.computations.Computation.{Computation}
use Rattle.cb_operations.specs.declared.computations.Computation.TheVariants as computation_is
use Rattle.cb_operations.specs.Computations.{answer_of, operand_count_of}
use Rattle.cb_lists.specs.declared.lists.Columns.{Columns}
use Rattle.cb_kept.specs.declared.triples.Triple.{Triple}
use Rattle.cb_kept.specs.declared.faults.Fault.{Fault}
use Rattle.cb_kept.specs.declared.faults.Fault.TheVariants.{Memory}
use Rattle.cb_kept.specs.declared.kept.Kept.{Kept}
use Rattle.cb_kept.specs.Refusals.{code_of, over, read_faults, list_faults}
use Rattle.cb_operations.specs.declared.numbers.Choice.{Choice}
use Rattle.cb_operations.specs.Numbers.{IsChosen}
use Rattle.cb_kept.specs.KeptAnswers.{numbered_faults, HasColumns, OverName, IsKeptOf}
use Rattle.cb_kept.specs.Kept.{matrix_in, semiring_of}
use Rattle.cb_kept.specs.CallsOver.{operation_faults, refusal_faults}
use Rattle.cb_kept.specs.KeptExtracts.{number_faults, IsKeptExtract}
use Rattle.cb_kept.specs.KeptTurned.{turned_faults, IsKeptTurned}
use Rattle.cb_selections.specs.declared.updates.WriteBack.{WriteBack}
use Rattle.cb_kept.specs.KeptUpdates.{shape_faults, update_of}
use Rattle.cb_shares.specs.Shares.{AreEnds}
use Rattle.cb_kept.specs.KeptPanels.{join_faults, IsKeptJoined}
use Rattle.cb_kept.specs.KeptShares.{factor_faults, pair_faults}
use Rattle.cb_kept.specs.KeptSums.{AddsShare, IsKeptColumn, IsKeptShare, share_faults, sum_faults}
use Rattle.cb_kept.specs.declared.kept_sums.Sums.{Sums}
use Rattle.cb_kept_graphs.specs.declared.KeptAnswer.{KeptAnswer}
use Rattle.cb_kept_graphs.specs.declared.KeptAnswer.TheVariants.{Matrix, Number}
use Rattle.cb_kept_graphs.specs.KeptGraphs.{graph_faults, IsGraphAnswer}
use Rattle.cb_kept.specs.Triples.{triple_faults, IsKeptTriples}
use Rattle.cb_kept.specs.KeptTexts.{IsKeptRead}
use Rattle.cb_ffi.specs.declared.handles.OwnedMatrix.{OwnedMatrix}
use Rattle.cb_ffi.specs.Calls.{IsCall}

-- C owns a kept matrix, for which a property holds
abbrev pub Has : (Kept → Type 0) → OwnedMatrix → Type 0
Has is owned = (k : MutBor Kept) × (owned.kept ≡ Some k) × is k.now

-- what C gets of a call that keeps a matrix: it owns the result, or has the number of the first fault and what it had
abbrev pub IsKeptCall : (Fault → Type 0) → (Kept → Type 0) → ℕ → OwnedMatrix → OwnedMatrix → Type 0
IsKeptCall faults is code old new = IsCall faults (Has is) code old new

-- the same of a call over the semiring of a number
abbrev pub IsKeptCallOver : ℕ → (Arithmetic → Fault → Type 0) → (Arithmetic → SemiringName → Kept → Type 0) → ℕ → OwnedMatrix → OwnedMatrix → Type 0
IsKeptCallOver semiring faults is =
    IsKeptCall (over (numbered semiring) faults) (λ k. OverName (numbered semiring) (λ name. is (arithmetic_of name) name k))

-- how many matrices a computation, or a sum, takes; one of an unknown number takes none
abbrev pub count_of : Option Computation → ℕ
count_of None = 0
count_of (Some computation) = operand_count_of computation

abbrev pub sum_count_of : Option Operation → ℕ
sum_count_of operation = count_of (option_map computation_is.Operation operation)

-- what C gets of a call that keeps columns of a computation's result, and of a share of a sum. The call is given at least as many
-- matrices as it takes.
unfoldable pub IsComputationCall : Option Computation → ℕ → ℕ → List Kept → ℕ → OwnedMatrix → OwnedMatrix → Type 0
IsComputationCall computation first end given code old new =
    let ks = take (count_of computation) given in
    IsKeptCall (numbered_faults refusal_faults computation ks) (HasColumns answer_of computation first end ks) code old new

unfoldable pub IsShareCall : Option Operation → ℕ → ℕ → List Kept → ℕ → Sums → Sums → Type 0
IsShareCall operation first end given code old new =
    let ks = take (sum_count_of operation) given in
    IsCall (numbered_faults operation_faults operation ks) (IsKeptShare operation first end ks) code old new

-- the same of the computation of a choice
abbrev pub IsChoiceCall : Choice → ℕ → ℕ → List Kept → ℕ → OwnedMatrix → OwnedMatrix → Type 0
IsChoiceCall choice first end given code old new = (o : Option Computation) × IsChosen choice o × IsComputationCall o first end given code old new

-- a list, unless all numbers are meant: those of a number other than 0
abbrev pub unless_all : ℕ → List ℕ → Option (List ℕ)
unless_all all numbers = cond (all == 0) (Some numbers) None

-- the same of rows and columns by their numbers
unfoldable pub IsExtractCall : Option (List ℕ) → Option (List ℕ) → ℕ → ℕ → Kept → ℕ → OwnedMatrix → OwnedMatrix → Type 0
IsExtractCall rows cols first end k code old new =
    IsKeptCall (number_faults rows cols (matrix_in k).shape) (IsKeptExtract rows cols first end k) code old new

-- of a product of transposes, which is kept whole
unfoldable pub IsTurnedCall : Bool → Bool → Kept → Kept → ℕ → OwnedMatrix → OwnedMatrix → Type 0
IsTurnedCall left right a b code old new = IsKeptCall (turned_faults left right a b) (IsKeptTurned left right a b) code old new

-- a mask, if there is one: with a number other than 0
abbrev pub if_masked : ℕ → Kept → Option Kept
if_masked masked mask = cond (masked == 0) None (Some mask)

-- the same of a kept matrix updated by another, under a mask if there is one
unfoldable pub IsUpdateCall : Option WriteBack → ℕ → ℕ → List Kept → ℕ → OwnedMatrix → OwnedMatrix → Type 0
IsUpdateCall how first end ks code old new =
    IsKeptCall (numbered_faults (λ _. shape_faults) how ks) (HasColumns update_of how first end ks) code old new

-- C owns this kept matrix; or memory for it was refused, and C has what it had
abbrev pub HasHandedOut : ℕ → OwnedMatrix → OwnedMatrix → Kept → Type 0
HasHandedOut code old new k = ((code ≡ 0) × Has (λ x. x ≡ k) new) ⊎ ((code ≡ code_of Memory) × (new ≡ old))

-- ---- tasks on graphs: C has a place for a kept matrix, and one for a number
-- C owns an answer, which has a property, or has it as a number; the other place is as it was
abbrev pub HasEither : (KeptAnswer → Type 0) → (OwnedMatrix × ℕ) → (OwnedMatrix × ℕ) → Type 0
HasEither is old new = (Has (λ k. is (Matrix k)) new.0 × (new.1 ≡ old.1)) ⊎ (is (Number new.1) × (new.0 ≡ old.0))

-- what C gets of a task on a kept graph, from sources or initial values if it takes these
unfoldable pub IsGraphCall : Option GraphTask → Kept → List ℕ → Kept → ℕ → (OwnedMatrix × ℕ) → (OwnedMatrix × ℕ) → Type 0
IsGraphCall task k sources values code old new =
    IsCall (graph_faults task k sources values) (HasEither (IsGraphAnswer task k sources values) old) code old new

-- this answer is in its place; or memory for a kept matrix was refused, and C has what it had
abbrev pub HasWritten : ℕ → (OwnedMatrix × ℕ) → (OwnedMatrix × ℕ) → KeptAnswer → Type 0
HasWritten code old new (Matrix k) = HasHandedOut code old.0 new.0 k × (new.1 ≡ old.1)
HasWritten code old new (Number n) = (code ≡ 0) × (new.1 ≡ n) × (new.0 ≡ old.0)

-- ---- from lists, triples and texts
-- what C gets of the call that keeps the matrix of lists
abbrev pub IsKeepCall : ℕ → Columns → ℕ → OwnedMatrix → OwnedMatrix → Type 0
IsKeepCall semiring a code old new =
    IsKeptCallOver semiring (λ s. list_faults s a) (λ s name. IsKeptOf s name a) code old new

-- the same of triples
abbrev pub IsTriplesCall : ℕ → ℕ → ℕ → List Triple → ℕ → OwnedMatrix → OwnedMatrix → Type 0
IsTriplesCall semiring nrows ncols ts code old new =
    IsKeptCallOver semiring (λ s. triple_faults s nrows ncols ts) (λ s name. IsKeptTriples s name nrows ncols ts) code old new

-- the same of a text
abbrev pub IsReadCall : ℕ → List ℕ → ℕ → OwnedMatrix → OwnedMatrix → Type 0
IsReadCall semiring text code old new =
    IsKeptCallOver semiring (λ s. read_faults s text) (λ s name. IsKeptRead s name text) code old new

-- ---- results by several threads
-- what C gets of the call that parts the columns of two matrices into as many ranges as its list has places
unfoldable pub IsEntryEndsCall : Kept → Kept → ℕ → List ℕ → List ℕ → Type 0
IsEntryEndsCall a b code old new = IsCall (pair_faults a b) (AreEnds (length old) (matrix_in a).shape.cols) code old new

-- the same of the columns of their product
unfoldable pub IsProductEndsCall : Kept → Kept → ℕ → List ℕ → List ℕ → Type 0
IsProductEndsCall a b code old new = IsCall (factor_faults a b) (AreEnds (length old) (matrix_in b).shape.cols) code old new

-- of both, by a number: 0 for the columns of the two, any other for those of their product
pub record IsEndsCall (by_products : ℕ) (a b : Kept) (code : ℕ) (old new : List ℕ) : Type 0 where
  pub entries : by_products ≡ 0 → IsEntryEndsCall a b code old new
  pub products : by_products ≢ 0 → IsProductEndsCall a b code old new

-- ---- sums over columns by several threads
-- what C gets of the call that adds a share of a sum to another
unfoldable pub IsAddCall : Kept → List ℕ → ℕ → List ℕ → List ℕ → Type 0
IsAddCall like more code old new =
    IsCall (share_faults (arithmetic_of (semiring_of like)) old more) (AddsShare (arithmetic_of (semiring_of like)) old more) code old new

-- of the call that keeps the column of a list
unfoldable pub IsColumnCall : Kept → List ℕ → ℕ → OwnedMatrix → OwnedMatrix → Type 0
IsColumnCall like list code old new =
    IsKeptCall (sum_faults (arithmetic_of (semiring_of like)) (matrix_in like).shape.rows list) (IsKeptColumn like list) code old new

-- of the call that joins two panels
unfoldable pub IsJoinCall : Kept → Kept → ℕ → OwnedMatrix → OwnedMatrix → Type 0
IsJoinCall front back code old new = IsKeptCall (join_faults front back) (IsKeptJoined front back) code old new

-- the same of panels that C has owned so far
abbrev pub IsOwnedJoinCall : OwnedMatrix → OwnedMatrix → ℕ → OwnedMatrix → OwnedMatrix → Type 0
IsOwnedJoinCall front back code old new = IfSome front.kept (λ f. IfSome back.kept (λ b. IsJoinCall f.now b.now code old new))

-- ---- a transpose kept beside a matrix
-- what C gets of that call: it owns the matrix that it owned, and memory for the transpose may have been refused
abbrev pub IsTransposeCall : Kept → ℕ → OwnedMatrix → Type 0
IsTransposeCall k code new = Has (λ x. x ≡ k) new × ((code ≡ 0) ⊎ (code ≡ code_of Memory))
