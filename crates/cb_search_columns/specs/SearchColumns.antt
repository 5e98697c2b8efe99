-- A search as two columns: the numbers of the vertices so far, and those that fell in the last round.
use Rattle.std.specs.Prelude.{◌≡◌, ℕ, ◌+◌, ◌<◌, Bool, true, false, cond, nat_lt}
use Rattle.cb_semirings.specs.Arithmetic.{IsValue}
use Rattle.cb_semirings.specs.Laws.{min_plus_is_semiring}
use Rattle.cb_semirings.specs.Tables.{min_plus}
use Rattle.cb_matrix.specs.Sparse.{Sparse, IsMatrix, at}
use Rattle.cb_matrix.specs.Values.{matrix_of, product}
use Rattle.cb_matrix.specs.Operations.{sum_of, transposed}
use Rattle.cb_searches.specs.Walks.{AreDistances, AreLevels, column_shape, infinite}
use Rattle.cb_searches.specs.Numbers.{number_in}
use Rattle.cb_searches.specs.Searches.{Nearing}
use Rattle.cb_searches.specs.Settling.{first_at}

-- the column of n vertices in which only the source has a number: 0
abbrev pub source_column : ℕ → ℕ → Sparse
source_column n source = matrix_of min_plus (record { rows = n; cols = 1 }) (λ v _. first_at source v)

either : (b : Bool) (x y : ℕ) → IsValue min_plus x → IsValue min_plus y → IsValue min_plus (cond b x y)
either true x y h k = h
either false x y h k = k

-- the second number if it is below the first, or else infinity
abbrev pub if_lower : ℕ → ℕ → ℕ
if_lower x y = cond (nat_lt y x) y infinite

-- which is a value if the second number is one
pub if_lower-value : (x y : ℕ) → IsValue min_plus y → IsValue min_plus (if_lower x y)
if_lower-value x y h = either (nat_lt y x) y infinite h min_plus_is_semiring.zero_value

-- the values of a matrix that are below those of another, place by place
abbrev pub lower_values : Sparse → Sparse → Sparse
lower_values known reached = matrix_of min_plus reached.shape (λ i j. if_lower (at min_plus known i j) (at min_plus reached i j))

-- A search in the graph of a square matrix, after k rounds: one column has the numbers of the vertices, and the other those of
-- them that fell in the last round.
pub record AreSearch (a : Sparse) (source k : ℕ) (known fell : Sparse) : Type 0 where
  pub matrix : IsMatrix min_plus a
  pub square : a.shape.rows ≡ a.shape.cols
  pub vertex : source < a.shape.rows
  pub known_matrix : IsMatrix min_plus known
  pub fell_matrix : IsMatrix min_plus fell
  pub known_shape : known.shape ≡ column_shape a
  pub fell_shape : fell.shape ≡ column_shape a
  pub nearing : Nearing a source k (number_in known) (number_in fell)

-- what a round reaches: the product of the transposed matrix and the column of the numbers that fell
abbrev pub reached_from : Sparse → Sparse → Sparse
reached_from a fell = product min_plus (transposed min_plus a) fell

-- one more round, given what it reaches: the lower numbers are taken over, and are those that fell
abbrev pub AreNextRound : Sparse → ℕ → ℕ → Sparse → Sparse → Type 0
AreNextRound a source k known reached = AreSearch a source (k + 1) (sum_of min_plus known reached) (lower_values known reached)

-- the distances in the matrix of weights are the levels in a matrix of bits
abbrev pub DistancesAreLevels : Sparse → Type 0
DistancesAreLevels a = (source : ℕ) (column : Sparse) → source < a.shape.rows → AreDistances a source column → AreLevels a source column
