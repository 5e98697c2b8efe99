-- The numbers of vertices so far: in a list with a place for each vertex, or in a tree of the finite ones.
use Rattle.std.specs.Prelude.{◌≡◌, ℕ, ◌<◌, ◌≤◌, min, Bool, cond, Some, unwrap_or, nat_lt, List, length, slice_index_or, All}
use Rattle.std.specs.Ordering.{nat_cmp}
use Rattle.std.specs.BTreeMap.{get}
use Rattle.cb_semirings.specs.Tables.{min_plus}
use Rattle.cb_matrix.specs.declared.Entry.{Entry}
use Rattle.cb_matrix.specs.Sparse.{Sparse, at}
use Rattle.cb_matrix.specs.Values.{product}
use Rattle.cb_searches.specs.declared.numbers.Numbers.{Numbers}
use Rattle.cb_searches.specs.declared.numbers.Numbers.TheVariants.{Dense, Tree}
use Rattle.cb_searches.specs.Walks.{infinite}

-- the number of a vertex, or infinity if it has none
abbrev pub number_at : Numbers → ℕ → ℕ
number_at (Dense list) v = slice_index_or list.items v infinite
number_at (Tree tree) v = unwrap_or (get nat_cmp tree v) infinite

-- numbers of n vertices: a list has a place for each, and a tree has finite numbers of vertices below n
abbrev pub AreNumbers : ℕ → Numbers → Type 0
AreNumbers n (Dense list) = (length list.items ≡ n) × All (λ x. x ≤ infinite) list.items
AreNumbers n (Tree tree) = (v x : ℕ) → get nat_cmp tree v ≡ Some x → (v < n) × (x < infinite)

-- the number of a vertex in a list, or infinity if the list has no place for it
abbrev pub listed_at : List ℕ → ℕ → ℕ
listed_at list v = slice_index_or list v infinite

-- the number of a vertex in a column
abbrev pub number_in : Sparse → ℕ → ℕ
number_in column v = at min_plus column v 0

-- the number at which edges reach a vertex from those that fell: a product in min-plus
abbrev pub reached_by : Sparse → Sparse → ℕ → ℕ
reached_by edges fell v = at min_plus (product min_plus edges fell) v 0

-- each new number is the less of the old one and the one reached
abbrev pub AreLeast : (ℕ → ℕ) → (ℕ → ℕ) → (ℕ → ℕ) → Type 0
AreLeast old reached new = (v : ℕ) → new v ≡ min (old v) (reached v)

-- a column has each number that is reached below the old one
abbrev pub HaveFallen : (ℕ → ℕ) → (ℕ → ℕ) → Sparse → Type 0
HaveFallen old reached column = (v : ℕ) → reached v < old v → at min_plus column v 0 ≡ reached v

-- a column has nothing for a vertex that isn't reached below its old number
abbrev pub HaveStayed : (ℕ → ℕ) → (ℕ → ℕ) → Sparse → Type 0
HaveStayed old reached column = (v : ℕ) → old v ≤ reached v → at min_plus column v 0 ≡ infinite

-- whether an entry is below the number of its row
abbrev pub is_lower : Numbers → Entry → Bool
is_lower known e = nat_lt e.value (number_at known e.row)

-- a vertex and its number, as an entry of a column
abbrev pub number_entry : ℕ × ℕ → Entry
number_entry p = record { row = p.0; column = 0; value = p.1 }

-- the number of a vertex in a list if it is below what it was before, or else infinity
abbrev pub fallen : List ℕ → List ℕ → ℕ → ℕ
fallen before now v = cond (nat_lt (listed_at now v) (listed_at before v)) (listed_at now v) infinite
