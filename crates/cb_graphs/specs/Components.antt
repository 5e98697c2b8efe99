-- The connected components of the graph of a square matrix, in which a stored entry (i, j) is an edge from i to j.
use Rattle.std.specs.Prelude.{◌≡◌, ◌≢◌, ℕ, ◌≤◌, List}
use Rattle.cb_semirings.specs.Tables.{min_plus, or_and}
use Rattle.cb_matrix.specs.Sparse.{Sparse, at}
use Rattle.cb_matrix.specs.Operations.{sum_of, transposed}
use Rattle.cb_searches.specs.Walks.{IsWalk, infinite, column_shape}

-- the undirected graph: each entry is there in both directions
abbrev pub undirected : Sparse → Sparse
undirected a = sum_of or_and a (transposed or_and a)

-- each entry has one in the other direction
abbrev pub IsUndirected : Sparse → Type 0
IsUndirected s = (u v : ℕ) → at or_and s u v ≢ 0 → at or_and s v u ≢ 0

-- a vertex has an entry in its row or its column
abbrev pub HasEntry : Sparse → ℕ → Type 0
HasEntry a v = (u : ℕ) × (at or_and (undirected a) u v ≢ or_and.zero)

-- two vertices are joined by a walk whose steps are entries in either direction
abbrev pub AreJoined : Sparse → ℕ → ℕ → Type 0
AreJoined a u v = (walk : List ℕ) × IsWalk or_and (undirected a) u v walk

-- u is the least of the vertices that are joined to v
pub record IsLeastJoined (a : Sparse) (u v : ℕ) : Type 0 where
  pub joined : AreJoined a u v
  pub least : (w : ℕ) → AreJoined a w v → u ≤ w

-- A column has the least vertex of its component for each vertex that has an entry, and nothing for the others.
pub record AreComponents (a column : Sparse) : Type 0 where
  pub shape : column.shape ≡ column_shape a
  pub least : (v : ℕ) → HasEntry a v → IsLeastJoined a (at min_plus column v 0) v
  pub none : (v : ℕ) → ¬ HasEntry a v → at min_plus column v 0 ≡ infinite
