-- All entries, column by column.
use Rattle.std.proofs.Common.{◌≡◌, ◌≢◌, ℕ, ◌+◌, ◌-◌, ◌<◌, ◌≤◌, true, false, cond, List, [], ◌∷◌, ◌++◌, length, map, filter, take, drop, get_or, sym, refl, ap, ◌∙◌, ⊎_elim, arith, subst, length-drop}
use Rattle.std.specs.Prelude.{All, AllPairs, ◌==◌}
use Rattle.std.specs.List.{flat_map}
use Rattle.std.proofs.lemmas.Bool.{cond-true, eq-eqb, ne_eqb, eqb-true, eqb-false}
use Rattle.std.proofs.lemmas.Bool.Decides.{nat_tests}
use Rattle.std.proofs.lemmas.List.{append-nil, take_more, take-append-drop, get_or-take, get_or-drop, length-take-le}
use Rattle.std.proofs.lemmas.List.Concat.{flat_map-append}
use Rattle.std.proofs.lemmas.List.Elements.{All-nil, All-cons, All-head, All-tail, All-append, All-map, All-filter, All-from_get_or, All-weaker, filter_passes}
use Rattle.cb_matrix.specs.declared.Entry.{Entry}
use Rattle.cb_matrix.specs.Sparse.{Sparse, Extent, IsBefore}
use Rattle.cb_matrix.proofs.Pairs.{AllPairs-nil, AllPairs-cons, AllPairs-head, AllPairs-tail}
use Rattle.cb_dcsc.specs.Columns.{in_column, rows_of, values_of, with_front, columns_with_entries, with_entries, is_in_columns, moved_to, moved_columns}
use Rattle.cb_matrix.specs.Values.{empty_matrix}
use Rattle.cb_dcsc.specs.Compressed.{entries_in}
use Rattle.cb_dcsc.proofs.ColumnEntries.{in_column-none, entries_in-column}
use Rattle.cb_dcsc.proofs.NumbersOfColumns.{columns_all, entries_all}
use Rattle.cb_reshape.specs.declared.parts.Part.{Part}
use Rattle.cb_reshape.specs.Moving.{Fits, is_in, is_within, moved_entry, moved_entries}
use Rattle.cb_reshape.proofs.PartOfColumn.{moved_none, moved_append, moved_all, column_below, column_past}

-- ---- the columns that have entries
later : (c d : ℕ) (ds : List ℕ) → c < d → AllPairs (λ i j. i < j) (d ∷ ds) → All (λ x. c < x) (d ∷ ds)
later c d ds l up = All-cons (λ x. c < x) d ds l (All-weaker (λ x. d < x) (λ x. c < x) (λ x m. omega arith) ds (AllPairs-head (λ i j. i < j) d ds up))

with_front_ascends : (c : ℕ) (ds : List ℕ) → All (λ d. c ≤ d) ds → AllPairs (λ i j. i < j) ds → AllPairs (λ i j. i < j) (with_front c ds)
with_front_ascends c [] h k = AllPairs-cons (λ i j. i < j) c [] (All-nil (λ d. c < d)) k
with_front_ascends c (d ∷ ds) h k =
    elim (c == d) as (λ b. (c == d) ≡ b → AllPairs (λ i j. i < j) (cond b (d ∷ ds) (c ∷ d ∷ ds))) [
      | true ↦ λ _. k
      | false ↦ λ n.
          let other : c ≢ d = eqb-false c d n in
          let least : c ≤ d = All-head (λ d. c ≤ d) d ds h in
          AllPairs-cons (λ i j. i < j) c (d ∷ ds) (later c d ds (omega arith) k) k
    ] refl

least_column : (e : Entry) (es : List Entry) → AllPairs IsBefore (e ∷ es) → All (λ c. e.column ≤ c) (columns_with_entries es)
least_column e es up = columns_all (λ c. e.column ≤ c) es (All-weaker (IsBefore e) (λ d. e.column ≤ d.column) (λ d b. ⊎_elim (λ l. omega arith) (λ l. omega arith) b) es (AllPairs-head IsBefore e es up))

-- the columns that have entries ascend
pub columns_ascend : (es : List Entry) → AllPairs IsBefore es → AllPairs (λ i j. i < j) (columns_with_entries es)
unfolding columns_with_entries
columns_ascend [] h = AllPairs-nil (λ i j. i < j)
columns_ascend (e ∷ es) h = with_front_ascends e.column (columns_with_entries es) (least_column e es h) (columns_ascend es (AllPairs-tail IsBefore e es h))

-- ---- the entries of each
other_columns : (e : Entry) (es : List Entry) (cs : List ℕ) → All (λ c. e.column < c) cs → flat_map (λ c. in_column c (e ∷ es)) cs ≡ flat_map (λ c. in_column c es) cs
other_columns e es [] h = refl
other_columns e es (c ∷ cs) h =
    let less = All-head (λ c. e.column < c) c cs h in
    let f = ne_eqb e.column c (omega arith) in
    rw f (ap (λ xs. in_column c es ++ xs) (other_columns e es cs (All-tail (λ c. e.column < c) c cs h)))

front_column : (e : Entry) (es : List Entry) (cs : List ℕ) → All (λ c. e.column ≤ c) cs → AllPairs (λ i j. i < j) cs → flat_map (λ c. in_column c es) cs ≡ es → (All (λ c. c ≢ e.column) cs → in_column e.column es ≡ [])
    → flat_map (λ c. in_column c (e ∷ es)) (with_front e.column cs) ≡ e ∷ es
front_column e es [] least up so_far none =
    let t = eq-eqb e.column e.column refl in
    rw t (append-nil (e ∷ in_column e.column es) ∙ ap (λ xs. e ∷ xs) (none (All-nil (λ c. c ≢ e.column)) ∙ so_far))
front_column e es (d ∷ ds) least up so_far none =
    elim (e.column == d) as (λ b. (e.column == d) ≡ b → flat_map (λ c. in_column c (e ∷ es)) (cond b (d ∷ ds) (e.column ∷ d ∷ ds)) ≡ e ∷ es) [
      | true ↦ λ t.
          let same : e.column ≡ d = eqb-true e.column d t in
          let after : All (λ c. e.column < c) ds = subst (λ x. All (λ c. x < c) ds) (sym same) (AllPairs-head (λ i j. i < j) d ds up) in
          ap (λ xs. xs ++ flat_map (λ c. in_column c (e ∷ es)) ds) (cond-true _ _ _ t) ∙ ap (λ xs. (e ∷ in_column d es) ++ xs) (other_columns e es ds after) ∙ ap (λ xs. e ∷ xs) so_far
      | false ↦ λ n.
          let other : e.column ≢ d = eqb-false e.column d n in
          let first : e.column ≤ d = All-head (λ c. e.column ≤ c) d ds least in
          let after : All (λ c. e.column < c) (d ∷ ds) = later e.column d ds (omega arith) up in
          let own = cond-true _ _ _ (eq-eqb e.column e.column refl) ∙ ap (λ xs. e ∷ xs) (none (All-weaker (λ c. e.column < c) (λ c. c ≢ e.column) (λ c l p. omega arith) (d ∷ ds) after)) in
          ap (λ xs. xs ++ flat_map (λ c. in_column c (e ∷ es)) (d ∷ ds)) own ∙ ap (λ xs. e ∷ xs) (other_columns e es (d ∷ ds) after ∙ so_far)
    ] refl

-- all entries are those of each column, one column after another
pub all_columns : (es : List Entry) → AllPairs IsBefore es → flat_map (λ c. in_column c es) (columns_with_entries es) ≡ es
unfolding columns_with_entries
all_columns [] up = refl
all_columns (e ∷ es) up =
    let rest = AllPairs-tail IsBefore e es up in
    front_column e es (columns_with_entries es) (least_column e es up) (columns_ascend es rest) (all_columns es rest) (λ h. in_column-none e.column es (entries_all (λ c. c ≢ e.column) es h))

All-flat_map : (P : Entry → Type 0) (f : ℕ → List Entry) (cs : List ℕ) → All (λ c. All P (f c)) cs → All P (flat_map f cs)
All-flat_map P f [] h = All-nil P
All-flat_map P f (c ∷ cs) h = All-append P (f c) (flat_map f cs) (All-head (λ c. All P (f c)) c cs h) (All-flat_map P f cs (All-tail (λ c. All P (f c)) c cs h))

-- the entries in a column have its number
pub own_column : (c : ℕ) (es : List Entry) → All (λ e. e.column ≡ c) (in_column c es)
own_column c es = All-weaker (λ e. (e.column == c) ≡ true) (λ e. e.column ≡ c) (λ e t. eqb-true e.column c t) (in_column c es) (filter_passes (λ e. e.column == c) es)

-- no value of a column is zero
pub column_not_zero : (z c : ℕ) (es : List Entry) → All (λ e. e.value ≢ z) es → All (λ v. v ≢ z) (values_of (in_column c es))
column_not_zero z c es h = All-map (λ v. v ≢ z) (λ (e : Entry). e.value) (in_column c es) (All-filter (λ e. e.column == c) (λ e. e.value ≢ z) es h)

-- ---- the first columns that have entries
module _ (part : Part) (es : List Entry) (up : AllPairs IsBefore es) where
  abbrev columns : List ℕ
  columns = columns_with_entries es

  -- the entries of the first n columns that have some
  abbrev pub first_columns : ℕ → List Entry
  first_columns n = flat_map (λ c. in_column c es) (take n (columns_with_entries es))

  of_columns : (P : Entry → Type 0) (Q : ℕ → Type 0) (cs : List ℕ) → ((e : Entry) → Q e.column → P e) → All Q cs → All P (flat_map (λ c. in_column c es) cs)
  of_columns P Q cs f h =
      All-flat_map P (λ c. in_column c es) cs
      (All-weaker Q (λ c. All P (in_column c es)) (λ c q. All-weaker (λ e. e.column ≡ c) P (λ e p. f e (subst Q (sym p) q)) (in_column c es) (own_column c es)) cs h)

  first_all : (Q : ℕ → Type 0) (n : ℕ) → n ≤ length columns → ((k : ℕ) → k < n → Q (get_or columns k 0)) → All Q (take n columns)
  first_all Q n l h = All-from_get_or Q (take n columns) 0 (λ k m. let size = length-take-le n columns l in let k_below : k < n = omega arith in subst Q (sym (get_or-take n columns k 0 k_below)) (h k k_below))

  -- before the first column of the part nothing is moved
  pub none_first : (n : ℕ) → n ≤ length columns → ((k : ℕ) → k < n → get_or columns k 0 < part.cols.0) → moved_entries part (first_columns n) ≡ []
  none_first n l below = moved_none part (first_columns n) (of_columns (λ e. is_in part e ≡ false) (λ c. c < part.cols.0) (take n columns) (λ e q. column_below part e q) (first_all (λ c. c < part.cols.0) n l below))

  -- one more column
  pub more_first : (n : ℕ) → n < length columns → moved_entries part (first_columns (n + 1)) ≡ moved_entries part (first_columns n) ++ moved_entries part (in_column (get_or columns n 0) es)
  more_first n l =
      ap (λ cs. moved_entries part (flat_map (λ c. in_column c es) cs)) (take_more columns n 0 l)
      ∙ ap (moved_entries part) (flat_map-append (λ c. in_column c es) (take n columns) (get_or columns n 0 ∷ []))
      ∙ ap (λ xs. moved_entries part (first_columns n ++ xs)) (append-nil (in_column (get_or columns n 0) es))
      ∙ moved_append part (first_columns n) (in_column (get_or columns n 0) es)

  -- after its last column nothing more is moved
  pub all_first : (n : ℕ) → ((k : ℕ) → n ≤ k → k < length columns → part.cols.1 ≤ get_or columns k 0) → moved_entries part (first_columns n) ≡ moved_entries part es
  all_first n from =
      let rest : All (λ c. part.cols.1 ≤ c) (drop n columns) = All-from_get_or (λ c. part.cols.1 ≤ c) (drop n columns) 0 (λ k m.
      let size = length-drop n columns in
      subst (λ c. part.cols.1 ≤ c) (sym (get_or-drop n columns k 0)) (from (n + k) (omega arith) (omega arith))) in
      let none = moved_none part (flat_map (λ c. in_column c es) (drop n columns)) (of_columns (λ e. is_in part e ≡ false) (λ c. part.cols.1 ≤ c) (drop n columns) (λ e q. column_past part e q) rest) in
      sym (ap (moved_entries part) (sym (all_columns es up))
      ∙ ap (λ cs. moved_entries part (flat_map (λ c. in_column c es) cs)) (sym (take-append-drop n columns))
      ∙ ap (moved_entries part) (flat_map-append (λ c. in_column c es) (take n columns) (drop n columns))
      ∙ moved_append part (first_columns n) (flat_map (λ c. in_column c es) (drop n columns))
      ∙ ap (λ xs. moved_entries part (first_columns n) ++ xs) none ∙ append-nil (moved_entries part (first_columns n)))

  -- what is moved comes before the next column
  pub before_next : (n : ℕ) → n < length columns → All (λ e. e.column < get_or columns n 0 - part.cols.0 + part.corner.1) (moved_entries part (first_columns n))
  before_next n l =
      moved_all (λ e. e.column < get_or columns n 0 - part.cols.0 + part.corner.1) (λ e. e.column < get_or columns n 0) part (first_columns n)
      (λ e i h. let first = i.first_column in omega arith)
      (of_columns (λ e. e.column < get_or columns n 0) (λ c. c < get_or columns n 0) (take n columns) (λ e q. q) (first_all (λ c. c < get_or columns n 0) n (omega arith) (λ k m. columns_ascend es up k n 0 m l)))

-- what one column adds
pub column_stored : (shape : Extent) (out new : Sparse) (xs ys zs ws : List Entry) → out ≡ record { shape = shape; entries = xs } → new ≡ with_entries out ws → ws ≡ ys → zs ≡ xs ++ ys → new ≡ record { shape = shape; entries = zs }
column_stored shape out new xs ys zs ws so_far more same is =
    more ∙ (λ t. with_entries (so_far t) (same t)) ∙ ap (λ (es : List Entry). record { shape = shape; entries = es }) (sym is)

-- ---- the walk over the columns of the part
module _ (part : Part) (es : List Entry) (up : AllPairs IsBefore es) (shape : Extent) where
  -- before the walk nothing is stored
  pub columns_begin : (blank out : Sparse) (numbers : List ℕ) (n : ℕ) → numbers ≡ columns_with_entries es → n ≤ length numbers → ((k : ℕ) → k < n → get_or numbers k 0 < part.cols.0) → out ≡ blank → blank ≡ empty_matrix shape
      → out ≡ record { shape = shape; entries = moved_entries part (first_columns part es up n) }
  columns_begin blank out numbers n are l below same is =
      same ∙ is ∙ ap (λ (xs : List Entry). record { shape = shape; entries = xs }) (sym (none_first part es up n (rw (← are) l) (λ k m. rw (← are) (below k m))))

  -- one more column is stored
  pub columns_more : (out new : Sparse) (numbers rows values : List ℕ) (n c : ℕ) → numbers ≡ columns_with_entries es → n < length numbers → c ≡ get_or numbers n 0
      → rows ≡ rows_of (in_column (get_or (columns_with_entries es) n 0) es) → values ≡ values_of (in_column (get_or (columns_with_entries es) n 0) es)
      → out ≡ record { shape = shape; entries = moved_entries part (first_columns part es up n) } → new ≡ with_entries out (moved_entries part (entries_in c rows values))
      → new ≡ record { shape = shape; entries = moved_entries part (first_columns part es up (n + 1)) }
  columns_more out new numbers rows values n c are l number rows_are values_are so_far more =
      let column : c ≡ get_or (columns_with_entries es) n 0 = number ∙ ap (λ xs. get_or xs n 0) are in
      let whole = (λ t. entries_in (column t) (rows_are t) (values_are t)) ∙ entries_in-column (get_or (columns_with_entries es) n 0) es in
      column_stored shape out new (moved_entries part (first_columns part es up n)) (moved_entries part (in_column (get_or (columns_with_entries es) n 0) es)) (moved_entries part (first_columns part es up (n + 1))) (moved_entries part (entries_in c rows values))
      so_far more (ap (moved_entries part) whole) (more_first part es up n (rw (← are) l))

  -- after the walk all of the part is
  pub columns_end : (numbers : List ℕ) (n : ℕ) → numbers ≡ columns_with_entries es → ((k : ℕ) → n ≤ k → k < length numbers → part.cols.1 ≤ get_or numbers k 0) → moved_entries part (first_columns part es up n) ≡ moved_entries part es
  columns_end numbers n are from = all_first part es up n (λ k l m. rw (← are) (from k l (rw are m)))

  -- what is stored comes before the next column
  pub next_before : (out : Sparse) (numbers : List ℕ) (n c : ℕ) → numbers ≡ columns_with_entries es → n < length numbers → c ≡ get_or numbers n 0 → out ≡ record { shape = shape; entries = moved_entries part (first_columns part es up n) }
      → All (λ e. e.column < c - part.cols.0 + part.corner.1) out.entries
  next_before out numbers n c are l number so_far =
      let column : c ≡ get_or (columns_with_entries es) n 0 = number ∙ ap (λ xs. get_or xs n 0) are in
      subst (λ (o : Sparse). All (λ e. e.column < c - part.cols.0 + part.corner.1) o.entries) (sym so_far)
      (subst (λ x. All (λ e. e.column < x - part.cols.0 + part.corner.1) (moved_entries part (first_columns part es up n))) (sym column) (before_next part es up n (rw (← are) l)))

-- the part fits the block that it goes into
pub in_shape : (part : Part) (shape : Extent) (out : Sparse) (es : List Entry) → out ≡ record { shape = shape; entries = es } → Fits shape part → Fits out.shape part
in_shape part shape out es is h = subst (λ (o : Sparse). Fits o.shape part) (sym is) h

-- ---- a part with all rows
rows_within : (part : Part) (e : Entry) → part.rows.0 ≡ 0 → e.row < part.rows.1 → is_within part.rows e.row ≡ true
rows_within part e z l = grind (arith, nat_tests)

-- has the entries of whole columns
pub whole_columns : (part : Part) (es : List Entry) → part.rows.0 ≡ 0 → All (λ e. e.row < part.rows.1) es → moved_columns part.cols part.corner es ≡ moved_entries part es
whole_columns part [] z h = refl
whole_columns part (e ∷ es) z h =
    let rest = whole_columns part es z (All-tail (λ e. e.row < part.rows.1) e es h) in
    let row : e.row + part.corner.0 ≡ e.row - part.rows.0 + part.corner.0 = omega (arith, z) in
    let one : moved_to part.corner part.cols.0 e ≡ moved_entry part e = λ t. record { row = row t; column = e.column - part.cols.0 + part.corner.1; value = e.value } in
    let inside = rows_within part e z (All-head (λ e. e.row < part.rows.1) e es h) in
    rw inside (elim (is_in_columns part.cols e) as (λ b. map (moved_to part.corner part.cols.0) (cond b (e ∷ filter (is_in_columns part.cols) es) (filter (is_in_columns part.cols) es)) ≡ map (moved_entry part) (cond b (e ∷ filter (is_in part) es) (filter (is_in part) es))) [
      | true ↦ (λ t. one t ∷ rest t)
      | false ↦ rest
    ])
