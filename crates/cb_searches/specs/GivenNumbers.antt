-- Distances and levels from initial values that some vertices have: a column has them.
use Rattle.std.specs.Prelude.{◌≡◌, ◌≢◌, ℕ, ◌+◌, ◌<◌, ◌≤◌, min, List}
use Rattle.cb_semirings.specs.Arithmetic.{Arithmetic}
use Rattle.cb_semirings.specs.Tables.{min_plus, or_and}
use Rattle.cb_matrix.specs.Sparse.{Sparse}
use Rattle.cb_searches.specs.Walks.{IsWalk, steps, cost, infinite, column_shape}
use Rattle.cb_searches.specs.Numbers.{number_in}

-- a walk from a vertex that has an initial value
pub record IsWalkGiven (s : Arithmetic) (a given : Sparse) (from to : ℕ) (walk : List ℕ) : Type 0 where
  pub number : number_in given from ≢ infinite
  pub is : IsWalk s a from to walk

-- the initial value of a vertex plus what a walk from it counts, saturating at infinity
abbrev pub count_given : Sparse → (List ℕ → ℕ) → ℕ → List ℕ → ℕ
count_given given count from walk = min (number_in given from + count walk) infinite

-- a walk from a vertex with an initial value counts n with it, and no such walk counts less
pub record IsLeastGiven (s : Arithmetic) (a given : Sparse) (to : ℕ) (count : List ℕ → ℕ) (n : ℕ) : Type 0 where
  pub reached : (from : ℕ) × (walk : List ℕ) × IsWalkGiven s a given from to walk × (count_given given count from walk ≡ n)
  pub least : (from : ℕ) (walk : List ℕ) → IsWalkGiven s a given from to walk → n ≤ count_given given count from walk

-- A column has for each vertex the least sum of an initial value and the weight of a walk from its vertex, over all
-- vertices that have an initial value, and nothing if that is infinite or there is no such walk.
pub record AreDistancesGiven (a given column : Sparse) : Type 0 where
  pub shape : column.shape ≡ column_shape a
  pub distances : (v : ℕ) → v < a.shape.rows → number_in column v ≢ infinite → IsLeastGiven min_plus a given v (cost a) (number_in column v)
  pub none : (v : ℕ) → v < a.shape.rows → number_in column v ≡ infinite → (from : ℕ) (walk : List ℕ) → IsWalkGiven min_plus a given from v walk
      → count_given given (cost a) from walk ≡ infinite

-- A column has for each vertex the least sum of an initial value and the length of a walk from its vertex, over all
-- vertices that have an initial value, and nothing if that is infinite or there is no such walk.
pub record AreLevelsGiven (a given column : Sparse) : Type 0 where
  pub shape : column.shape ≡ column_shape a
  pub levels : (v : ℕ) → v < a.shape.rows → number_in column v ≢ infinite → IsLeastGiven or_and a given v steps (number_in column v)
  pub none : (v : ℕ) → v < a.shape.rows → number_in column v ≡ infinite → (from : ℕ) (walk : List ℕ) → IsWalkGiven or_and a given from v walk
      → count_given given steps from walk ≡ infinite
