-- How many entries a column has, as a count over all rows and as a list.
use Rattle.std.proofs.Common.{◌≡◌, ◌≢◌, ℕ, ◌+◌, ◌<◌, ◌≤◌, true, false, cond, ⊎_elim, List, [], ◌∷◌, length, map, get_or, sym, refl, ap, subst, ◌∙◌, arith, true≢false}
use Rattle.std.specs.Prelude.{All, AllPairs, Contains, not, ◌&&◌, ◌==◌}
use Rattle.std.specs.List.{sum_by}
use Rattle.std.proofs.lemmas.Bool.{cases_Bool, eq-eqb, ne_eqb, eqb-true, eqb-false}
use Rattle.std.proofs.lemmas.List.{get_or_default, length-map}
use Rattle.std.proofs.lemmas.List.Elements.{All-nil, All-cons, All-head, All-tail, All-from_get_or, All-get_or, All-weaker, All-filter, All-map}
use Rattle.std.proofs.lemmas.List.Sums.{sum_by-cons}
use Rattle.cb_semirings.specs.Arithmetic.{Arithmetic}
use Rattle.cb_semirings.specs.Tables.{plus_times}
use Rattle.cb_semirings.specs.Laws.{plus_times_is_semiring}
use Rattle.cb_matrix.specs.declared.Entry.{Entry}
use Rattle.cb_matrix.specs.Sparse.{Sparse, IsMatrix, at, value_at}
use Rattle.cb_matrix.specs.Operations.{has_entry, transposed}
use Rattle.cb_matrix.proofs.Made.{at-matrix_of, same_matrix_of}
use Rattle.cb_matrix.proofs.Equal.{matrix_is}
use Rattle.cb_dcsc.specs.Columns.{in_column, rows_of, values_of, row_value, columns_with_entries}
use Rattle.cb_dcsc.specs.Compressed.{entries_in}
use Rattle.cb_dcsc.proofs.Lookup.{column_value, row_value-found, row_value-absent, ascending_rows, rows_inside, as_long}
use Rattle.cb_dcsc.proofs.ColumnEntries.{in_column-none}
use Rattle.cb_dcsc.proofs.NumbersOfColumns.{entries_all}
use Rattle.cb_graphs.specs.Degrees.{column_degree, row_degree, column_degrees, row_degrees}
use Rattle.cb_graphs.specs.Triangles.{is_listed}
use Rattle.cb_graphs.proofs.Counting.{sum_listed, listed_from, listed_true}
use Rattle.cb_graphs.proofs.Listed.{sum_below}

-- ones add up to their number
ones : (f : ℕ → ℕ) (xs : List ℕ) → All (λ x. f x ≡ 1) xs → sum_by f xs ≡ length xs
ones f [] h = refl
ones f (x ∷ xs) h = omega (arith, sum_by-cons f x xs, All-head (λ x. f x ≡ 1) x xs h, ones f xs (All-tail (λ x. f x ≡ 1) x xs h))

module _ (s : Arithmetic) (a : Sparse) (is : IsMatrix s a) (j : ℕ) where
  abbrev rows_here : List ℕ
  rows_here = rows_of (in_column j a.entries)

  abbrev values_here : List ℕ
  values_here = values_of (in_column j a.entries)

  abbrev adds : ℕ → ℕ
  adds i = cond (has_entry s a i j) 1 0

  long : length values_here ≡ length rows_here
  long = as_long a.entries rows_here values_here j refl refl

  up : AllPairs (λ i k. i < k) rows_here
  up = ascending_rows s a j rows_here is refl

  stored_here : All (λ v. v ≢ s.zero) values_here
  stored_here = All-map (λ v. v ≢ s.zero) (λ (e : Entry). e.value) (in_column j a.entries) (All-filter (λ e. e.column == j) (λ e. e.value ≢ s.zero) a.entries is.not_zero)

  -- a listed row adds one
  listed_adds : (n : ℕ) → n < length rows_here → adds (get_or rows_here n 0) ≡ 1
  listed_adds n l =
      let r = get_or rows_here n 0 in
      let value : at s a r j ≡ get_or values_here n 0 = sym (column_value s.zero a.entries r j) ∙ row_value-found s.zero rows_here values_here n r long up l refl in
      let k : n < length values_here = omega (arith, long) in
      let ne : at s a r j ≢ s.zero = λ e. All-get_or (λ v. v ≢ s.zero) values_here n 0 k stored_here (sym value ∙ e) in
      ap (λ b. cond (not b) 1 0) (ne_eqb (at s a r j) s.zero ne)

  -- a row that adds something is listed
  adds_listed : (i : ℕ) → adds i ≢ 0 → Contains rows_here i
  adds_listed i ne =
      ⊎_elim
      (λ (t : is_listed rows_here i ≡ true). listed_from rows_here i t)
      (λ (f : is_listed rows_here i ≡ false).
      let absent : row_value s.zero rows_here values_here i ≡ s.zero =
      row_value-absent s.zero rows_here values_here i (λ k l e. true≢false (sym (listed_true rows_here i (k, l, get_or_default rows_here k i 0 l ∙ e)) ∙ f)) in
      let none : at s a i j ≡ s.zero = sym (column_value s.zero a.entries i j) ∙ absent in
      absurd (ne (ap (λ b. cond (not b) 1 0) (eq-eqb (at s a i j) s.zero none))))
      (cases_Bool (is_listed rows_here i))

  -- the count over all rows is the number of entries
  pub column_count : column_degree s a j ≡ length (in_column j a.entries)
  column_count =
      sum_listed adds 0 a.shape.rows rows_here up (All-from_get_or (λ x. 0 ≤ x) rows_here 0 (λ k l. omega arith)) (All-weaker (λ i. i < a.shape.rows) (λ i. i < 0 + a.shape.rows) (λ i l. omega arith) rows_here (rows_inside s a j rows_here is refl)) (λ v ne _. adds_listed v ne)
      ∙ ones adds rows_here (All-from_get_or (λ x. adds x ≡ 1) rows_here 0 listed_adds)
      ∙ length-map (in_column j a.entries) (λ (e : Entry). e.row)

-- ---- the degrees of the columns that have entries, one after another
-- the entry of a column's degree
abbrev pub degree_entry : List Entry → ℕ → Entry
degree_entry es c = record { row = c; column = 0; value = length (in_column c es) }

module _ (es : List Entry) where
  -- the value in each row, if columns that aren't listed have no entries
  degree_value : (cs : List ℕ) (i : ℕ) → (All (λ c. c ≢ i) cs → length (in_column i es) ≡ 0) → value_at 0 (map (degree_entry es) cs) i 0 ≡ length (in_column i es)
  unfolding value_at
  degree_value [] i none = sym (none (All-nil (λ c. c ≢ i)))
  degree_value (c ∷ cs) i none =
      elim (c == i) as (λ b. (c == i) ≡ b → cond (b && (0 == 0)) (length (in_column c es)) (value_at 0 (map (degree_entry es) cs) i 0) ≡ length (in_column i es)) [
        | true ↦ λ t. ap (λ k. length (in_column k es)) (eqb-true c i t)
        | false ↦ λ f. degree_value cs i (λ h. none (All-cons (λ c. c ≢ i) c cs (eqb-false c i f) h))
      ] refl

-- the entries of a column with these degrees
pub degree_entries : (es : List Entry) (cs : List ℕ) → entries_in 0 cs (map (λ c. length (in_column c es)) cs) ≡ map (degree_entry es) cs
unfolding entries_in
degree_entries es [] = refl
degree_entries es (c ∷ cs) = ap (λ xs. degree_entry es c ∷ xs) (degree_entries es cs)

-- the degrees of all columns with entries are those of the matrix
pub degrees_are : (s : Arithmetic) (a degrees : Sparse) (cs : List ℕ) → IsMatrix s a → IsMatrix plus_times degrees → cs ≡ columns_with_entries a.entries →
    degrees ≡ record { shape = record { rows = a.shape.cols; cols = 1 }; entries = map (degree_entry a.entries) cs } → degrees ≡ column_degrees s a
degrees_are s a degrees cs is is_degrees are e =
    matrix_is plus_times plus_times_is_semiring degrees (record { rows = a.shape.cols; cols = 1 }) (λ j _. column_degree s a j) is_degrees (ap (λ (m : Sparse). m.shape) e)
    (λ i k l m.
    let z : k ≡ 0 = omega arith in
    ap (λ (x : Sparse). value_at 0 x.entries i k) e
    ∙ ap (λ x. value_at 0 (map (degree_entry a.entries) cs) i x) z
    ∙ degree_value a.entries cs i (λ none. ap length (in_column-none i a.entries (entries_all (λ c. c ≢ i) a.entries (subst (All (λ c. c ≢ i)) are none))))
    ∙ sym (column_count s a is i))

-- the degrees of the rows are those of the transpose's columns
pub turned_degrees : (s : Arithmetic) (a : Sparse) → column_degrees s (transposed s a) ≡ row_degrees s a
turned_degrees s a =
    let m = a.shape.rows in
    let n = a.shape.cols in
    same_matrix_of plus_times (record { rows = m; cols = 1 }) (λ i _. column_degree s (transposed s a) i) (λ i _. row_degree s a i) (λ i _ l _.
    sum_below n (λ j. cond (has_entry s (transposed s a) j i) 1 0) (λ j. cond (has_entry s a i j) 1 0)
    (λ j b. ap (λ v. cond (not (v == s.zero)) 1 0) (at-matrix_of s (record { rows = n; cols = m }) (λ i j. at s a j i) j i b l)))
