-- Entries that are in given columns.
use Rattle.std.specs.Prelude.{ℕ, ◌==◌, ◌||◌, Bool, false, List, [], ◌∷◌, filter, All, Contains}
use Rattle.cb_matrix.specs.declared.Entry.{Entry}
use Rattle.cb_matrix.specs.Sparse.{Sparse}

-- each entry is in one of these columns
abbrev pub AreInColumns : List ℕ → List Entry → Type 0
AreInColumns columns es = All (λ e. Contains columns e.column) es

-- whether a column is in a list
unfoldable pub is_among : List ℕ → ℕ → Bool
is_among [] c = false
is_among (d ∷ ds) c = (d == c) || is_among ds c

-- a matrix without its entries outside the listed columns
abbrev pub only_columns : List ℕ → Sparse → Sparse
only_columns columns m = record { shape = m.shape; entries = filter (λ e. is_among columns e.column) m.entries }
