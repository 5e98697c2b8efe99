-- The plans of the transpose, of element-wise sums and products, and of pruning.
use Rattle.std.specs.Prelude.{◌≡◌, ℕ, ◌+◌, ◌*◌, ◌/◌, ◌%◌, List, [], ◌∷◌, ◌++◌, map}
use Rattle.std.specs.List.{range_with_len}
use Rattle.cb_semirings.specs.Arithmetic.{Arithmetic}
use Rattle.cb_matrix.specs.Sparse.{Extent, Sparse}
use Rattle.cb_matrix.specs.Operations.{transposed, sum_of, times_of, pruned}
use Rattle.cb_matrix.specs.declared.passing.Test.{Test}
use Rattle.cb_matrix.specs.Passing.{passes}
use Rattle.cb_plan.specs.declared.acts.Op.{Op}
use Rattle.cb_plan.specs.declared.acts.Op.TheVariants as op_is
use Rattle.cb_plan.specs.declared.acts.Act.{Act}
use Rattle.cb_plan.specs.Meaning.{State, meaning}
use Rattle.cb_plan.specs.Algebras.{matrices}
use Rattle.cb_plan_parts.specs.Collectives.{sent, shut_acts}
use Rattle.cb_plan_parts.specs.declared.first_slots.Operand.{Operand}
use Rattle.cb_plan_parts.specs.PlanParts.{tagged, each_rank, HasParts}

-- one matrix in slot 0
abbrev pub one_operand : Extent → List Operand
one_operand a = record { slot = 0; shape = a } ∷ []

-- two matrices of one shape in slots 0 and 1
abbrev pub two_operands : Extent → List Operand
two_operands a = record { slot = 0; shape = a } ∷ record { slot = 1; shape = a } ∷ []

-- each rank does one operation
abbrev pub placewise_acts : ℕ → Op → List Act
placewise_acts q op = each_rank q (λ _. op) ++ shut_acts (q * q)

-- the rank in row j and column i, for the one in row i and column j
abbrev pub mirrored : ℕ → ℕ → ℕ
mirrored q r = (r % q) * q + r / q

-- slot 1 of each rank goes to slot 2 of the rank on the other side of the diagonal
abbrev pub mirror_acts : ℕ → List Act
mirror_acts q = map (λ r. sent r (mirrored q r) (tagged 0) 1 2) (range_with_len 0 (q * q))

-- each rank transposes its block, and the blocks cross the diagonal
abbrev pub transpose_acts : ℕ → List Act
transpose_acts q = (each_rank q (λ _. op_is.Transpose 0 1) ++ mirror_acts q) ++ shut_acts (q * q)

-- from this state, the acts leave the parts of a matrix in slot 2, and don't change slot 0
pub record Leaves (s : Arithmetic) (q : ℕ) (acts : List Act) (state : State Sparse) (m : Sparse) : Type 0 where
  pub parts : HasParts s q m 2 (meaning (matrices s) acts state)
  pub kept : (r : ℕ) → meaning (matrices s) acts state r 0 ≡ state r 0

-- over any semiring, the acts leave the transpose of any matrix of this shape whose parts are in slot 0
abbrev pub IsTransposePlan : List Act → ℕ → Extent → Type 0
IsTransposePlan acts q shape =
    (s : Arithmetic) (a : Sparse) → a.shape ≡ shape → (state : State Sparse)
    → HasParts s q a 0 state → Leaves s q acts state (transposed s a)

-- over any semiring, the acts leave any such matrix without the entries that pass the test
abbrev pub IsPrunePlan : List Act → ℕ → Extent → Test → Type 0
IsPrunePlan acts q shape test =
    (s : Arithmetic) (a : Sparse) → a.shape ≡ shape → (state : State Sparse)
    → HasParts s q a 0 state → Leaves s q acts state (pruned s (passes test) a)

-- over any semiring, the acts leave the sum of any two matrices of this shape whose parts are in slots 0 and 1
abbrev pub IsSumPlan : List Act → ℕ → Extent → Type 0
IsSumPlan acts q shape =
    (s : Arithmetic) (a b : Sparse) → a.shape ≡ shape → b.shape ≡ shape → (state : State Sparse)
    → HasParts s q a 0 state → HasParts s q b 1 state → Leaves s q acts state (sum_of s a b)

-- over any semiring, the acts leave the element-wise product of two such matrices
abbrev pub IsTimesPlan : List Act → ℕ → Extent → Type 0
IsTimesPlan acts q shape =
    (s : Arithmetic) (a b : Sparse) → a.shape ≡ shape → b.shape ≡ shape → (state : State Sparse)
    → HasParts s q a 0 state → HasParts s q b 1 state → Leaves s q acts state (times_of s a b)
