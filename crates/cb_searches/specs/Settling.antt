-- Vertices that settle one after another: the numbers so far, and those of them that may still lower others.
use Rattle.std.specs.Prelude.{◌≡◌, ◌≢◌, ℕ, ◌+◌, ◌≤◌, ◌==◌, cond, ◌⊎◌, List, length, Contains}
use Rattle.std.specs.List.{sum_by, range_with_len}
use Rattle.cb_semirings.specs.Tables.{min_plus}
use Rattle.cb_matrix.specs.declared.Entry.{Entry}
use Rattle.cb_matrix.specs.Sparse.{Sparse, at}
use Rattle.cb_searches.specs.declared.dijkstra.Tentative.{Tentative}
use Rattle.cb_searches.specs.declared.numbers.Numbers.{Numbers}
use Rattle.cb_searches.specs.Walks.{IsWalk, cost, infinite}
use Rattle.cb_searches.specs.Numbers.{number_at}

-- the entries of a block are the edges of a graph, with rows and columns exchanged
abbrev pub AreEdges : Sparse → Sparse → Type 0
AreEdges edges a = (u v : ℕ) → at min_plus edges v u ≡ at min_plus a u v

-- a vertex and its number, from an entry of a column
abbrev pub tentative : Entry → Tentative
tentative e = record { number = e.value; vertex = e.row }

-- a vertex waits with its number
abbrev pub IsWaiting : (ℕ → ℕ) → List Tentative → ℕ → Type 0
IsWaiting d waiting v = Contains waiting (record { number = d v; vertex = v })

-- no edge from a vertex can lower the number of another
abbrev pub IsRelaxed : Sparse → (ℕ → ℕ) → ℕ → Type 0
IsRelaxed a d u = (v : ℕ) → d v ≤ d u + at min_plus a u v

-- initial values, of which only the source has one: 0
abbrev pub first_at : ℕ → ℕ → ℕ
first_at source v = cond (v == source) 0 infinite

-- Given the initial value f of each vertex: each number is an initial value plus the cost of a walk from its vertex, at
-- most the vertex's own initial value, and a vertex that doesn't wait can lower no other.
pub record IsSettling (a : Sparse) (f d : ℕ → ℕ) (waiting : List Tentative) : Type 0 where
  pub fits : (v : ℕ) → d v ≤ infinite
  pub begins : (v : ℕ) → d v ≤ f v
  pub reached : (v : ℕ) → d v ≢ infinite → (u : ℕ) × (walk : List ℕ) × IsWalk min_plus a u v walk × (f u + cost a walk ≡ d v)
  pub settled : (u : ℕ) → IsWaiting d waiting u ⊎ IsRelaxed a d u

-- a bound for the remaining work: a number that falls makes the sum of all less and waits once more; a number that is
-- popped waits no more
abbrev pub work_left : {X : Type 0} → ℕ → Numbers → List X → ℕ
work_left n known waiting = sum_by (number_at known) (range_with_len 0 n) + length waiting

-- if vertices settle with the old numbers and what waited, they settle with the new ones and what waits
abbrev pub KeepSettling : Sparse → Numbers → List Tentative → Numbers → List Tentative → Type 0
KeepSettling edges old waited new waiting = (a : Sparse) (f : ℕ → ℕ) → AreEdges edges a →
    IsSettling a f (number_at old) waited → IsSettling a f (number_at new) waiting

-- there is no more work left than before
abbrev pub IsNoMoreWork : {X : Type 0} → ℕ → Numbers → List X → Numbers → List X → Type 0
IsNoMoreWork n old waited new waiting = work_left n new waiting ≤ work_left n old waited
