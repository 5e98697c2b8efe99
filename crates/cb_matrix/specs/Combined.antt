-- Entries in order, one for each place.
use Rattle.std.specs.Prelude.{◌≡◌, ◌≢◌, ℕ, cond, ◌==◌, List, [], ◌∷◌, All, AllPairs}
use Rattle.cb_semirings.specs.Arithmetic.{Arithmetic, IsValue}
use Rattle.cb_matrix.specs.declared.Entry.{Entry}
use Rattle.cb_matrix.specs.Sparse.{Extent, value_at, IsBefore, IsInside}
use Rattle.cb_matrix.specs.Values.{total, values_at}

-- a list of the entry, or of none if its value is z
abbrev pub stored : ℕ → Entry → List Entry
stored z e = cond (e.value == z) [] (e ∷ [])

-- `kept` has, in order, the sum of the values that `given` has at each place, unless it is zero
pub record IsCombined (s : Arithmetic) (given kept : List Entry) : Type 0 where
  pub ascending : AllPairs IsBefore kept
  pub inside : (shape : Extent) → All (IsInside shape) given → All (IsInside shape) kept
  pub values : All (λ e. IsValue s e.value) kept
  pub not_zero : All (λ e. e.value ≢ s.zero) kept
  pub sums : (i j : ℕ) → value_at s.zero kept i j ≡ total s (values_at given i j)
