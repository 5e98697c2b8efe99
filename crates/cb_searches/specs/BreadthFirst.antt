-- Breadth-first search: levels, and the vertices that are reached, in a queue, round by round.
use Rattle.std.specs.Prelude.{◌≡◌, ◌≢◌, ℕ, ◌+◌, ◌<◌, ◌≤◌, ◌⊎◌, List, length, slice_index, All, Contains}
use Rattle.cb_semirings.specs.Tables.{or_and}
use Rattle.cb_matrix.specs.Sparse.{Sparse, IsMatrix, at}
use Rattle.cb_matrix.specs.Operations.{transposed}
use Rattle.cb_searches.specs.declared.numbers.Numbers.{Numbers}
use Rattle.cb_searches.specs.Walks.{IsWalk, IsLeast, steps, infinite}
use Rattle.cb_searches.specs.Numbers.{listed_at, number_at, AreNumbers}

-- The levels up to k: each number is the least length of a walk from the source and at most k, and each vertex to which a
-- walk of at most k steps leads has a number.
pub record AreLevelsWithin (a : Sparse) (source k : ℕ) (d : ℕ → ℕ) : Type 0 where
  pub fits : (v : ℕ) → d v ≤ infinite
  pub levels : (v : ℕ) → d v ≢ infinite → (d v ≤ k) × IsLeast or_and a source v steps (d v)
  pub within : (v : ℕ) (walk : List ℕ) → IsWalk or_and a source v walk → steps walk ≤ k → d v ≢ infinite

-- Rounds from the kth to the mth: whichever source it is from, a list of the levels up to k becomes one of those up to m.
abbrev pub AreRounds : Sparse → ℕ → ℕ → List ℕ → List ℕ → Type 0
AreRounds a k m old new = (source : ℕ) → AreLevelsWithin a source k (listed_at old) → AreLevelsWithin a source m (listed_at new)

-- Each number is the level of its vertex, the least length of a walk from the source, and a vertex without a number has
-- no walk.
pub record AreLevelNumbers (a : Sparse) (source : ℕ) (d : ℕ → ℕ) : Type 0 where
  pub fits : (v : ℕ) → d v ≤ infinite
  pub levels : (v : ℕ) → d v ≢ infinite → IsLeast or_and a source v steps (d v)
  pub none : (v : ℕ) → d v ≡ infinite → (walk : List ℕ) → ¬ IsWalk or_and a source v walk

-- a vertex is in a list, at this place or later
abbrev pub IsListedFrom : ℕ → List ℕ → ℕ → Type 0
IsListedFrom start queue v = (i : ℕ) × (start ≤ i) × (i < length queue) × (slice_index queue i ≡ v)

-- After k rounds: the numbers are the levels up to k, the queue has vertices whose levels these are, and from `start` on it
-- has all those of level k.
pub record IsReaching (a : Sparse) (source k : ℕ) (known : Numbers) (queue : List ℕ) (start : ℕ) : Type 0 where
  pub numbers : AreNumbers a.shape.rows known
  pub rounds : AreLevelsWithin a source k (number_at known)
  pub within : start ≤ length queue
  pub near : (i : ℕ) → i < length queue → number_at known (slice_index queue i) ≤ k
  pub last : (v : ℕ) → number_at known v ≡ k → IsListedFrom start queue v

-- Those of some vertices that had no number get the number x, and are appended to the queue.
pub record HaveClaimed (x : ℕ) (old : ℕ → ℕ) (queue vertices : List ℕ) (new : ℕ → ℕ) (now : List ℕ) : Type 0 where
  pub longer : length queue ≤ length now
  pub kept : (i : ℕ) → i < length queue → slice_index now i ≡ slice_index queue i
  pub held : (v : ℕ) → (new v ≡ old v) ⊎ ((old v ≡ infinite) × (new v ≡ x) × Contains vertices v × IsListedFrom (length queue) now v)
  pub near : (i : ℕ) → length queue ≤ i → i < length now → new (slice_index now i) ≡ x
  pub all : All (λ v. new v ≢ infinite) vertices

-- an edge leads to v from a vertex whose number is at most k
abbrev pub IsNext : Sparse → ℕ → (ℕ → ℕ) → ℕ → Type 0
IsNext a k old v = (u : ℕ) × (at or_and a u v ≢ 0) × (old u ≤ k)

-- A round so far: it reaches vertices to which edges lead from those reached before.
pub record IsRoundFrom (a : Sparse) (k : ℕ) (old : ℕ → ℕ) (queue : List ℕ) (new : ℕ → ℕ) (now : List ℕ) : Type 0 where
  pub vertices : List ℕ
  pub claimed : HaveClaimed (k + 1) old queue vertices new now
  pub next : All (IsNext a k old) vertices

-- a square matrix, and the edges of its graph: the transposed matrix
pub record HasTurned (turned a : Sparse) : Type 0 where
  pub matrix : IsMatrix or_and a
  pub square : a.shape.rows ≡ a.shape.cols
  pub is : turned ≡ transposed or_and a
