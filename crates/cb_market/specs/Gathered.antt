-- The entries of a text as they are gathered, and where they are kept.
use Rattle.std.specs.Prelude.{◌≡◌, ℕ, ◌+◌, ◌*◌, ◌^◌, ◌<◌, ◌≤◌, Bool, true, false, List, [], All, filter}
use Rattle.cb_semirings.specs.Arithmetic.{Arithmetic, IsValue}
use Rattle.cb_matrix.specs.declared.Entry.{Entry}
use Rattle.cb_matrix.specs.Sparse.{Extent, Sparse, IsInside, is_at}

-- The side of a grid, a shape, the number of entries to take room for, and those read so far, in order.
pub record Listed : Type 0 where
  pub side : ℕ
  pub shape : Extent
  pub room : ℕ
  pub entries : List Entry

-- the number of a place, by column and then by row
abbrev pub place_number : Entry → ℕ
place_number e = e.column * 2 ^ 32 + e.row

-- The blocks have all entries, whose numbers are from the first up to below the bound; or the list has all.
pub record IsGathered (s : Arithmetic) (blocks : Sparse) (list : List Entry) (ascends : Bool) (first bound : ℕ) : Type 0 where
  pub in_blocks : ascends ≡ true → list ≡ []
  pub in_list : ascends ≡ false → blocks.entries ≡ []
  pub above : All (λ e. first ≤ place_number e) blocks.entries
  pub below : All (λ e. place_number e < bound) blocks.entries
  pub inside : All (IsInside blocks.shape) list
  pub values : All (λ e. IsValue s e.value) list

-- the entries of each place are the same ones, in the same order
abbrev pub AreSamePlaces : List Entry → List Entry → Type 0
AreSamePlaces es fs = (i j : ℕ) → filter (is_at i j) es ≡ filter (is_at i j) fs
