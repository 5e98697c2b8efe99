-- A search for the least costs of walks, round by round.
use Rattle.std.specs.Prelude.{◌≡◌, ◌≢◌, ℕ, ◌+◌, ◌≤◌, ◌<◌, ◌⊎◌, List, []}
use Rattle.cb_semirings.specs.Tables.{min_plus}
use Rattle.cb_matrix.specs.Sparse.{Sparse, IsMatrix, at}
use Rattle.cb_matrix.specs.Operations.{transposed}
use Rattle.cb_searches.specs.declared.searches.Search.{Search}
use Rattle.cb_searches.specs.Walks.{IsWalk, steps, cost, infinite, column_shape}
use Rattle.cb_searches.specs.Numbers.{number_at, AreNumbers}

-- After k rounds: each number is the cost of a walk, at most that of each walk of at most k steps, and can still lower
-- others only if it is in x, the numbers that fell in the last round.
pub record Nearing (a : Sparse) (source k : ℕ) (d x : ℕ → ℕ) : Type 0 where
  pub fits : (v : ℕ) → d v ≤ infinite
  pub reached : (v : ℕ) → d v ≢ infinite → (walk : List ℕ) × IsWalk min_plus a source v walk × (cost a walk ≡ d v)
  pub within : (v : ℕ) (walk : List ℕ) → IsWalk min_plus a source v walk → steps walk ≤ k → d v ≤ cost a walk
  pub fell : (u : ℕ) → (x u ≡ d u) ⊎ ((x u ≡ infinite) × ((v : ℕ) → d v ≤ d u + at min_plus a u v))

-- a search in the graph of a square matrix, after k rounds
pub record IsSearch (a : Sparse) (source k : ℕ) (search : Search) : Type 0 where
  pub matrix : IsMatrix min_plus a
  pub square : a.shape.rows ≡ a.shape.cols
  pub vertex : source < a.shape.rows
  pub numbers : AreNumbers a.shape.rows search.known
  pub shape : search.fell.shape ≡ column_shape a
  pub nearing : Nearing a source k (number_at search.known) (λ u. at min_plus search.fell u 0)

-- a square matrix, and the edges of its graph: the transposed matrix
pub record HasEdges (edges a : Sparse) : Type 0 where
  pub matrix : IsMatrix min_plus a
  pub square : a.shape.rows ≡ a.shape.cols
  pub turned : edges ≡ transposed min_plus a

-- a search has ended: nothing fell in the last round, or there were as many rounds as vertices
abbrev pub HasEnded : Sparse → ℕ → Search → Type 0
HasEnded a k search = (search.fell.entries ≡ []) ⊎ (a.shape.rows ≤ k)

-- a search that has ended
abbrev pub IsWholeSearch : Sparse → ℕ → ℕ → Search → Type 0
IsWholeSearch a source k search = IsSearch a source k search × HasEnded a k search

-- if a search has made k rounds in the graph of a matrix that fits, the next one has made one more there
abbrev pub IsNextRound : (Sparse → Type 0) → Search → Search → Type 0
IsNextRound fits search next =
    (a : Sparse) (source k : ℕ) → IsSearch a source k search → fits a → IsSearch a source (k + 1) next

-- some rounds of a search are made, in the graph of a matrix that fits
abbrev pub HasMadeRounds : (Sparse → Type 0) → Search → Type 0
HasMadeRounds fits search = (a : Sparse) × (source : ℕ) × (k : ℕ) × IsSearch a source k search × fits a
