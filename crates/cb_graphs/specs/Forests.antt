-- Forests: each vertex of a tree has a parent, which is a vertex of the same tree and not above it. A root is its own
-- parent. A vertex that is in no tree has the parent infinity.
use Rattle.std.specs.Prelude.{◌≡◌, ◌≢◌, ℕ, ◌<◌, ◌≤◌, All}
use Rattle.cb_semirings.specs.Tables.{or_and}
use Rattle.cb_matrix.specs.Sparse.{Sparse, at}
use Rattle.cb_dcsc.specs.Columns.{in_column, rows_of}
use Rattle.cb_searches.specs.Walks.{infinite}
use Rattle.cb_searches.specs.Numbers.{number_at, AreNumbers}
use Rattle.cb_searches.specs.declared.numbers.Numbers.{Numbers}
use Rattle.cb_graphs.specs.Components.{undirected, IsUndirected, HasEntry, AreJoined}

-- each vertex of a tree has the same label as its parent
abbrev pub IsConstant : (ℕ → ℕ) → (ℕ → ℕ) → Type 0
IsConstant p label = (v : ℕ) → p v ≢ infinite → label (p v) ≡ label v

-- two vertices are in one tree: labels that never differ between a vertex and its parent don't differ between them
pub record AreInOneTree (p : ℕ → ℕ) (u v : ℕ) : Type 0 where
  pub first : p u ≢ infinite
  pub second : p v ≢ infinite
  pub same : (label : ℕ → ℕ) → IsConstant p label → label u ≡ label v

-- Trees in the graph of a matrix: a vertex of a tree has entries, and its parent is a vertex of a tree that is joined to
-- it and not above it.
pub record AreTrees (a : Sparse) (p : ℕ → ℕ) : Type 0 where
  pub inside : (v : ℕ) → p v ≢ infinite → v < a.shape.rows
  pub entered : (v : ℕ) → p v ≢ infinite → HasEntry a v
  pub low : (v : ℕ) → p v ≢ infinite → p v ≤ v
  pub joined : (v : ℕ) → p v ≢ infinite → AreJoined a (p v) v
  pub closed : (v : ℕ) → p v ≢ infinite → p (p v) ≢ infinite

-- numbers that are the parents in trees; each edge counts in both directions
pub record AreParentsIn (a : Sparse) (parents : Numbers) : Type 0 where
  pub both : IsUndirected (undirected a)
  pub numbers : AreNumbers a.shape.rows parents
  pub trees : AreTrees a (number_at parents)

-- the two vertices of each entry are in one tree
abbrev pub IsSpanning : Sparse → (ℕ → ℕ) → Type 0
IsSpanning a p = (u v : ℕ) → at or_and a u v ≢ 0 → AreInOneTree p u v

-- each vertex from which an entry leads to v is in one tree with v
abbrev pub AreJoinedInColumn : Sparse → (ℕ → ℕ) → ℕ → Type 0
AreJoinedInColumn a p v = All (λ u. AreInOneTree p u v) (rows_of (in_column v a.entries))

-- a vertex that has entries and is joined to a root
pub record IsReached (a : Sparse) (root v : ℕ) : Type 0 where
  pub inside : v < a.shape.rows
  pub entered : HasEntry a v
  pub joined : AreJoined a root v

-- vertices that are in one tree of the first forest are in one of the second
pub record KeepsTrees (p q : ℕ → ℕ) : Type 0 where
  pub kept : (v : ℕ) → p v ≢ infinite → q v ≢ infinite
  pub constant : (label : ℕ → ℕ) → IsConstant q label → IsConstant p label

-- the parent of a vertex is a root
abbrev pub IsFlat : (ℕ → ℕ) → ℕ → Type 0
IsFlat p v = p (p v) ≡ p v

-- The second forest has the same vertices, in the same trees. A vertex whose parent is a root keeps it.
pub record IsShortened (p q : ℕ → ℕ) : Type 0 where
  pub trees : KeepsTrees p q
  pub known : (v : ℕ) → q v ≢ infinite → p v ≢ infinite
  pub flat : (v : ℕ) → p v ≢ infinite → IsFlat p v → q v ≡ p v
