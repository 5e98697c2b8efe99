-- A column of a product as a sum of terms: columns of the left block, each scaled by an entry of the right.
use Rattle.std.specs.Prelude.{◌≡◌, ℕ, ◌<◌, ◌≤◌, ◌+◌, ◌-◌, List, [], ◌∷◌, length, map, AllPairs, slice_range, slice_index}
use Rattle.cb_semirings.specs.Arithmetic.{Arithmetic, IsValue}
use Rattle.cb_matrix.specs.Sparse.{Sparse, at}
use Rattle.cb_matrix.specs.Values.{total}
use Rattle.cb_dcsc.specs.Columns.{in_column, row_value, rows_of, values_of}
use Rattle.cb_product.specs.declared.terms.Term.{Term}

-- the value of a term at row i, given the rows and values of all entries
abbrev pub term_value : Arithmetic → List ℕ → List ℕ → ℕ → Term → ℕ
term_value s rows values i t = s.mul (row_value s.zero (slice_range rows t.at t.end) (slice_range values t.at t.end) i) t.scale

-- the sum of the values of all terms at row i
abbrev pub terms_value : Arithmetic → List ℕ → List ℕ → ℕ → List Term → ℕ
terms_value s rows values i ts = total s (map (term_value s rows values i) ts)

-- the sum over pairs k, v of the value of `a` at row i of column k, times v
unfoldable pub column_sum : Arithmetic → Sparse → ℕ → List ℕ → List ℕ → ℕ
column_sum s a i [] vs = s.zero
column_sum s a i (k ∷ ks) [] = s.zero
column_sum s a i (k ∷ ks) (v ∷ vs) = s.add (s.mul (at s a i k) v) (column_sum s a i ks vs)

-- a term has entries, its row is that of the first of them, and their rows ascend
pub record IsTerm (s : Arithmetic) (rows : List ℕ) (t : Term) : Type 0 where
  pub some : t.at < t.end
  pub within : t.end ≤ length rows
  pub row : t.row ≡ slice_index rows t.at
  pub ascending : AllPairs (λ i j. i < j) (slice_range rows t.at t.end)
  pub scale : IsValue s t.scale

-- how many products terms have
unfoldable pub terms_length : List Term → ℕ
terms_length [] = 0
terms_length (t ∷ ts) = (t.end - t.at) + terms_length ts

-- the sum at row i of terms of a matrix
abbrev pub terms_at : Arithmetic → Sparse → ℕ → List Term → ℕ
terms_at s a i ts = terms_value s (rows_of a.entries) (values_of a.entries) i ts

-- the sum at row i of a column of the accumulator and of terms of the left block
abbrev pub sum_with : Arithmetic → Sparse → List ℕ → List ℕ → List Term → ℕ → ℕ
sum_with s a own_rows own_values ts i = s.add (row_value s.zero own_rows own_values i) (terms_at s a i ts)

-- these terms of `a` have, at each row, the sum over the entries of column j of `b`
abbrev pub AreTermsOf : Arithmetic → Sparse → Sparse → ℕ → List Term → Type 0
AreTermsOf s a b j ts = (i : ℕ) → terms_at s a i ts ≡ column_sum s a i (rows_of (in_column j b.entries)) (values_of (in_column j b.entries))
