-- What threads share: a result, of which each makes some columns.
use Rattle.std.specs.Prelude.{◌≡◌, ℕ, ◌<◌, ◌≤◌, List, length, AllPairs}
use Rattle.std.specs.Borrow.{Bor}
use Rattle.cb_semirings.specs.Arithmetic.{Arithmetic}
use Rattle.cb_matrix.specs.Sparse.{Sparse, IsMatrix}
use Rattle.cb_operations.specs.declared.computations.Computation.{Computation}
use Rattle.cb_operations.specs.Computations.{operand_count_of, Suits, answer_of}
use Rattle.cb_operations.specs.OperationAnswers.{shapes_in}
use Rattle.cb_operations.specs.Operands.{lent_in}
use Rattle.cb_shares.specs.Shares.{AreEnds}

-- There are as many operands as the computation takes, they suit it, and its answer is a matrix.
pub record AreShared (s : Arithmetic) (computation : Computation) (operands : List (Bor Sparse)) : Type 0 where
  pub count : length operands ≡ operand_count_of computation
  pub suits : Suits computation s (shapes_in (lent_in operands))
  pub matrix : IsMatrix s (answer_of computation s (lent_in operands))

-- There are so many ranges, and more than none, and none ends before the one in front of it.
pub record HasRanges (ends : List ℕ) (count : ℕ) : Type 0 where
  pub ascending : AllPairs (λ c d. c ≤ d) ends
  pub some : 0 < count
  pub within : count ≤ length ends

-- Where ranges that make up all columns of a matrix end; or there are none.
abbrev pub MayEnd : Sparse → List ℕ → Type 0
MayEnd m ends = 0 < length ends → AreEnds (length ends) m.shape.cols ends
