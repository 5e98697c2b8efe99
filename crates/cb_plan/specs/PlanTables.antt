-- Tables: rows of equal length.
use Rattle.std.specs.Prelude.{◌≡◌, ℕ, ◌<◌, List, [], get_or, length, slice_set}

-- the value at a place of a row
abbrev pub cell : {X : Type 0} → X → List (List X) → ℕ → ℕ → X
cell blank table r n = get_or (get_or table r []) n blank

abbrev pub cell_set : {X : Type 0} → List (List X) → ℕ → ℕ → X → List (List X)
cell_set table r n x = slice_set table r (slice_set (get_or table r []) n x)

pub record IsTable {X : Type 0} (height width : ℕ) (table : List (List X)) : Type 0 where
  pub rows : length table ≡ height
  pub cols : (r : ℕ) → r < height → length (get_or table r []) ≡ width
