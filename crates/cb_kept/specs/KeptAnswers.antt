-- What a call on kept matrices returns.
use Rattle.std.specs.Prelude.{◌≡◌, ℕ, List, length, map, Option, Some, None, Result}
use Rattle.cb_semirings.specs.Arithmetic.{Arithmetic}
use Rattle.cb_semirings.specs.declared.names.SemiringName.{SemiringName}
use Rattle.cb_semirings.specs.Names.{arithmetic_of, numbered}
use Rattle.cb_matrix.specs.Sparse.{Sparse}
use Rattle.cb_kept.specs.declared.faults.Fault.{Fault}
use Rattle.cb_kept.specs.declared.faults.Fault.TheVariants.{Test}
use Rattle.cb_kept.specs.declared.kept.Kept.{Kept}
use Rattle.cb_kept.specs.declared.kept_values.Summary.{Summary}
use Rattle.cb_lists.specs.declared.lists.Columns.{Columns}
use Rattle.cb_lists.specs.Lists.{matrix_of}
use Rattle.cb_kept.specs.Kept.{Keeps, semiring_of, semiring_in, matrix_in}
use Rattle.cb_kept.specs.KeptShares.{KeepsColumns}
use Rattle.cb_kept.specs.CallsOver.{common_faults}
use Rattle.cb_kept.specs.Refusals.{over}
use Rattle.cb_kept.specs.Answers.{IsAnswer}

-- the faults of a call that has a number: no call has it, or those of the call on kept matrices
unfoldable pub numbered_faults : {C : Type 0} → (C → Arithmetic → List Sparse → Fault → Type 0) → Option C → List Kept → Fault → Type 0
numbered_faults faults None ks = λ f. f ≡ Test
numbered_faults faults (Some call) ks = common_faults (faults call) ks

-- the columns of a range of its result, kept over their semiring
abbrev pub HasColumns : {C : Type 0} → (C → Arithmetic → List Sparse → Sparse) → Option C → ℕ → ℕ → List Kept → Kept → Type 0
HasColumns answer None first end ks k = ⊥
HasColumns answer (Some call) first end ks k =
    KeepsColumns (semiring_in ks) (answer call (arithmetic_of (semiring_in ks)) (map matrix_in ks)) first end k

-- what a call returns that has a number, and keeps the columns of a range of its result
abbrev pub IsColumnsAnswer : {C : Type 0} → (C → Arithmetic → List Sparse → Fault → Type 0) → (C → Arithmetic → List Sparse → Sparse) → Option C → ℕ → ℕ → List Kept → Result Kept Fault → Type 0
IsColumnsAnswer faults answer call first end ks = IsAnswer (numbered_faults faults call ks) (HasColumns answer call first end ks)

-- what holds over the semiring of a number, by its name; nothing does over none
abbrev pub OverName : Option SemiringName → (SemiringName → Type 0) → Type 0
OverName None P = ⊥
OverName (Some name) P = P name

-- what a call returns that keeps a matrix over the semiring of a number
abbrev pub IsKeptAnswerOver : ℕ → (Arithmetic → Fault → Type 0) → (Arithmetic → SemiringName → Kept → Type 0) → Result Kept Fault → Type 0
IsKeptAnswerOver semiring faults is =
    IsAnswer (over (numbered semiring) faults) (λ k. OverName (numbered semiring) (λ name. is (arithmetic_of name) name k))

-- the matrix of lists, kept over a semiring and its name
abbrev pub IsKeptOf : Arithmetic → SemiringName → Columns → Kept → Type 0
IsKeptOf s name a k = Keeps name (matrix_of s a) k

-- the shape, the semiring's number and the number of entries
pub record IsSummary (k : Kept) (summary : Summary) : Type 0 where
  pub rows : summary.nrows ≡ (matrix_in k).shape.rows
  pub cols : summary.ncols ≡ (matrix_in k).shape.cols
  pub semiring : numbered summary.semiring ≡ Some (semiring_of k)
  pub entries : summary.entries ≡ length (matrix_in k).entries
