-- Walks in the graph of a square matrix, in which a stored entry (i, j) is an edge from i to j, and the columns of
-- levels and distances.
use Rattle.std.specs.Prelude.{◌≡◌, ◌≢◌, ℕ, ◌-◌, ◌^◌, ◌<◌, ◌≤◌, min, Option, Some, None, List, [], ◌∷◌, length, map, All}
use Rattle.std.specs.List.{sum}
use Rattle.cb_semirings.specs.Arithmetic.{Arithmetic}
use Rattle.cb_semirings.specs.Tables.{min_plus, or_and}
use Rattle.cb_matrix.specs.Sparse.{Sparse, Extent, at}

-- the neighbouring pairs of a list, in order
abbrev pub pairs : List ℕ → List (ℕ × ℕ)
pairs [] = []
pairs (u ∷ []) = []
pairs (u ∷ v ∷ vs) = (u, v) ∷ pairs (v ∷ vs)

-- the first vertex, if any
abbrev pub first : List ℕ → Option ℕ
first [] = None
first (u ∷ us) = Some u

-- the last vertex, if any
abbrev pub last : List ℕ → Option ℕ
last [] = None
last (u ∷ []) = Some u
last (u ∷ v ∷ vs) = last (v ∷ vs)

-- A walk is a list of vertices that begins with one and ends with another, each neighbouring pair a stored entry.
pub record IsWalk (s : Arithmetic) (a : Sparse) (from to : ℕ) (walk : List ℕ) : Type 0 where
  pub begins : first walk ≡ Some from
  pub ends : last walk ≡ Some to
  pub stored : All (λ p. at s a p.0 p.1 ≢ s.zero) (pairs walk)

-- infinity, which is never stored
abbrev pub infinite : ℕ
infinite = 2 ^ 64 - 1

-- the length of a walk: the number of its pairs
abbrev pub steps : List ℕ → ℕ
steps walk = length (pairs walk)

-- the cost of a walk: the sum of the values of its pairs
abbrev pub cost : Sparse → List ℕ → ℕ
cost a walk = sum (map (λ (p : ℕ × ℕ). at min_plus a p.0 p.1) (pairs walk))

-- the weight of a walk: its cost, saturating at infinity
abbrev pub weight : Sparse → List ℕ → ℕ
weight a walk = min (cost a walk) infinite

-- a walk counts n, and no walk counts less
pub record IsLeast (s : Arithmetic) (a : Sparse) (from to : ℕ) (count : List ℕ → ℕ) (n : ℕ) : Type 0 where
  pub reached : (walk : List ℕ) × IsWalk s a from to walk × (count walk ≡ n)
  pub least : (walk : List ℕ) → IsWalk s a from to walk → n ≤ count walk

-- the shape of a column with a place for each vertex
abbrev pub column_shape : Sparse → Extent
column_shape a = record { rows = a.shape.rows; cols = 1 }

-- A column has the least length of a walk from the source to each vertex, and nothing for a vertex without a walk.
pub record AreLevels (a : Sparse) (source : ℕ) (column : Sparse) : Type 0 where
  pub shape : column.shape ≡ column_shape a
  pub levels : (v : ℕ) → v < a.shape.rows → at min_plus column v 0 ≢ infinite → IsLeast or_and a source v steps (at min_plus column v 0)
  pub none : (v : ℕ) → v < a.shape.rows → at min_plus column v 0 ≡ infinite → (walk : List ℕ) → ¬ IsWalk or_and a source v walk

-- A column has the least weight of a walk from the source to each vertex, and nothing if that is infinite or there is
-- no walk.
pub record AreDistances (a : Sparse) (source : ℕ) (column : Sparse) : Type 0 where
  pub shape : column.shape ≡ column_shape a
  pub distances : (v : ℕ) → v < a.shape.rows → at min_plus column v 0 ≢ infinite → IsLeast min_plus a source v (weight a) (at min_plus column v 0)
  pub none : (v : ℕ) → v < a.shape.rows → at min_plus column v 0 ≡ infinite → (walk : List ℕ) → IsWalk min_plus a source v walk → weight a walk ≡ infinite
