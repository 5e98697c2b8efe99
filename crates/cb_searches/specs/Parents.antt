-- Parents in a breadth-first search, in the graph of a square matrix.
use Rattle.std.specs.Prelude.{◌≡◌, ◌≢◌, ℕ, ◌+◌, ◌<◌, ◌≤◌, cond, nat_lt, List, [], ◌∷◌}
use Rattle.cb_semirings.specs.Tables.{min_plus, or_and}
use Rattle.cb_matrix.specs.Sparse.{Sparse, at}
use Rattle.cb_dcsc.specs.Columns.{in_column, rows_of}
use Rattle.cb_searches.specs.Walks.{IsLeast, steps, infinite, column_shape}

-- u is a parent of v: an edge leads from u to v, and v is one step farther from the source than u
pub record IsParent (a : Sparse) (source u v : ℕ) : Type 0 where
  pub edge : at or_and a u v ≢ or_and.zero
  pub level : ℕ
  pub near : IsLeast or_and a source u steps level
  pub far : IsLeast or_and a source v steps (level + 1)

-- u is the least of the parents of v
pub record IsLeastParent (a : Sparse) (source u v : ℕ) : Type 0 where
  pub parent : IsParent a source u v
  pub least : (w : ℕ) → IsParent a source w v → u ≤ w

-- A column has the least parent of each vertex that has one, and nothing for the others.
pub record AreParents (a : Sparse) (source : ℕ) (column : Sparse) : Type 0 where
  pub shape : column.shape ≡ column_shape a
  pub parents : (v : ℕ) → v < a.shape.rows → at min_plus column v 0 ≢ infinite → IsLeastParent a source (at min_plus column v 0) v
  pub none : (v : ℕ) → v < a.shape.rows → at min_plus column v 0 ≡ infinite → (u : ℕ) → ¬ IsParent a source u v

-- the first vertex whose number is below n, or else infinity
unfoldable pub first_below : (ℕ → ℕ) → ℕ → List ℕ → ℕ
first_below d n [] = infinite
first_below d n (u ∷ us) = cond (nat_lt (d u) n) u (first_below d n us)

-- the first vertex with an edge to v whose number is below that of v, or else infinity
abbrev pub first_nearer : Sparse → (ℕ → ℕ) → ℕ → ℕ
first_nearer a d v = first_below d (d v) (rows_of (in_column v a.entries))
