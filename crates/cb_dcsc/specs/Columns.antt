-- The columns of a block, in terms of its entries.
use Rattle.std.specs.Prelude.{ℕ, ◌+◌, ◌-◌, ◌==◌, ◌&&◌, Bool, nat_le, nat_lt, cond, List, [], ◌∷◌, ◌++◌, filter, map}
use Rattle.cb_matrix.specs.declared.Entry.{Entry}
use Rattle.cb_matrix.specs.Sparse.{Sparse}

-- the entries in column j
abbrev pub in_column : ℕ → List Entry → List Entry
in_column j es = filter (λ e. e.column == j) es

abbrev pub rows_of : List Entry → List ℕ
rows_of es = map (λ e. e.row) es

abbrev pub values_of : List Entry → List ℕ
values_of es = map (λ e. e.value) es

-- c in front of a list, unless it is there already
abbrev pub with_front : ℕ → List ℕ → List ℕ
with_front c [] = c ∷ []
with_front c (d ∷ ds) = cond (c == d) (d ∷ ds) (c ∷ d ∷ ds)

-- the columns that have entries, for entries in order
unfoldable pub columns_with_entries : List Entry → List ℕ
columns_with_entries [] = []
columns_with_entries (e ∷ es) = with_front e.column (columns_with_entries es)

-- the value at row i of a column, given by its rows and values, or z if it has none
unfoldable pub row_value : ℕ → List ℕ → List ℕ → ℕ → ℕ
row_value z [] vs i = z
row_value z (r ∷ rs) [] i = z
row_value z (r ∷ rs) (v ∷ vs) i = cond (r == i) v (row_value z rs vs i)

-- a matrix with one more entry, after all the others
abbrev pub with_entry : Sparse → Entry → Sparse
with_entry m e = record { shape = m.shape; entries = m.entries ++ e ∷ [] }

-- a matrix with more entries, after all the others
abbrev pub with_entries : Sparse → List Entry → Sparse
with_entries m es = record { shape = m.shape; entries = m.entries ++ es }

-- entries with other values, one for each
unfoldable pub revalued : List Entry → List ℕ → List Entry
revalued [] vs = []
revalued (e ∷ es) [] = []
revalued (e ∷ es) (v ∷ vs) = record { row = e.row; column = e.column; value = v } ∷ revalued es vs

-- whether an entry is in a range of columns, given by its first column and the one after its last
abbrev pub is_in_columns : ℕ × ℕ → Entry → Bool
is_in_columns cols e = nat_le cols.0 e.column && nat_lt e.column cols.1

-- an entry, moved so that row 0 and the given column come to a corner
abbrev pub moved_to : ℕ × ℕ → ℕ → Entry → Entry
moved_to corner column e = record { row = e.row + corner.0; column = e.column - column + corner.1; value = e.value }

-- the entries in a range of columns, moved so that row 0 and the first of these columns come to a corner
abbrev pub moved_columns : ℕ × ℕ → ℕ × ℕ → List Entry → List Entry
moved_columns cols corner es = map (moved_to corner cols.0) (filter (is_in_columns cols) es)
