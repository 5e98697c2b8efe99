-- A sparse matrix: a shape and the stored entries, by column and then by row.
use Rattle.std.specs.Prelude.{◌≡◌, ◌≢◌, ℕ, ◌<◌, not, nat_lt, Bool, cond, ◌&&◌, ◌==◌, ◌⊎◌, List, [], ◌∷◌, All, AllPairs}
use Rattle.cb_semirings.specs.Arithmetic.{Arithmetic, IsValue}
use Rattle.cb_matrix.specs.declared.Entry.{Entry}

-- How many rows and columns.
pub record Extent : Type 0 where
  pub rows : ℕ
  pub cols : ℕ

-- A shape, and the stored entries in order.
pub record Sparse : Type 0 where
  pub shape : Extent
  pub entries : List Entry

-- whether an entry is at the place (i, j)
abbrev pub is_at : ℕ → ℕ → Entry → Bool
is_at i j e = (e.row == i) && (e.column == j)

-- the first entry is before the second, by column and then by row
abbrev pub IsBefore : Entry → Entry → Type 0
IsBefore d e = (d.column < e.column) ⊎ ((d.column ≡ e.column) × (d.row < e.row))

-- the entry is inside the shape
abbrev pub IsInside : Extent → Entry → Type 0
IsInside shape e = (e.row < shape.rows) × (e.column < shape.cols)

-- the value of the first entry at the place (i, j), or else z
unfoldable pub value_at : ℕ → List Entry → ℕ → ℕ → ℕ
value_at z [] i j = z
value_at z (e ∷ es) i j = cond (is_at i j e) e.value (value_at z es i j)

-- the value of a matrix at the place (i, j)
abbrev pub at : Arithmetic → Sparse → ℕ → ℕ → ℕ
at s m i j = value_at s.zero m.entries i j

-- The entries are inside the shape, are values other than zero, and ascend: so no two share a place.
pub record IsMatrix (s : Arithmetic) (m : Sparse) : Type 0 where
  pub ascending : AllPairs IsBefore m.entries
  pub inside : All (IsInside m.shape) m.entries
  pub values : All (λ e. IsValue s e.value) m.entries
  pub not_zero : All (λ e. e.value ≢ s.zero) m.entries

-- the first entry is before the second, or at the same place
abbrev pub IsNotAfter : Entry → Entry → Type 0
IsNotAfter d e = IsBefore d e ⊎ ((d.row ≡ e.row) × (d.column ≡ e.column))

-- whether an entry is outside the shape
abbrev pub is_outside : Extent → Entry → Bool
is_outside shape e = not (nat_lt e.row shape.rows && nat_lt e.column shape.cols)
