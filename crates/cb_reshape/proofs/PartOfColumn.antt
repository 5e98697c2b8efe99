-- The part of one column, moved.
use Rattle.std.proofs.Common.{◌≡◌, ℕ, zero, suc, ◌+◌, ◌-◌, ◌<◌, ◌≤◌, true, false, inl, inr, List, [], ◌∷◌, ◌++◌, length, map, filter, take, drop, get_or, sym, refl, ap, ◌∙◌, ⊎_elim, arith, subst, length-drop, append_assoc}
use Rattle.std.specs.Prelude.{All, AllPairs}
use Rattle.std.proofs.lemmas.Bool.{cases_Bool}
use Rattle.std.proofs.lemmas.Bool.Decides.{nat_tests}
use Rattle.std.proofs.lemmas.List.{append-nil, map-append, take_more, take-append-drop, get_or-take, get_or-drop, length-map, length-take-le}
use Rattle.std.proofs.lemmas.List.Elements.{All-head, All-tail, All-append, All-map, All-filter, All-from_get_or, All-weaker, filter-append, filter_passes}
use Rattle.cb_matrix.specs.declared.Entry.{Entry}
use Rattle.cb_matrix.specs.Sparse.{Sparse, IsBefore}
use Rattle.cb_dcsc.specs.Compressed.{entries_in}
use Rattle.cb_dcsc.specs.Columns.{with_entry, with_entries}
use Rattle.cb_dcsc.proofs.ColumnEntries.{length-entries_in, entries_in-push}
use Rattle.cb_reshape.specs.declared.parts.Part.{Part}
use Rattle.cb_reshape.specs.Moving.{is_in, moved_entry, moved_entries}

-- ---- what is in the part
-- an entry in the rows and columns of the part is in it
pub is_in-true : (part : Part) (e : Entry) → part.rows.0 ≤ e.row → e.row < part.rows.1 → part.cols.0 ≤ e.column → e.column < part.cols.1 → is_in part e ≡ true
is_in-true part e a b c d = grind (arith, nat_tests)

-- what it says of an entry that it is in the part
pub record IsIn (part : Part) (e : Entry) : Type 0 where
  pub first_row : part.rows.0 ≤ e.row
  pub end_row : e.row < part.rows.1
  pub first_column : part.cols.0 ≤ e.column
  pub end_column : e.column < part.cols.1

is_in-first_row : (part : Part) (e : Entry) → is_in part e ≡ true → part.rows.0 ≤ e.row
is_in-first_row part e h = grind (arith, nat_tests)

is_in-end_row : (part : Part) (e : Entry) → is_in part e ≡ true → e.row < part.rows.1
is_in-end_row part e h = grind (arith, nat_tests)

is_in-first_column : (part : Part) (e : Entry) → is_in part e ≡ true → part.cols.0 ≤ e.column
is_in-first_column part e h = grind (arith, nat_tests)

is_in-end_column : (part : Part) (e : Entry) → is_in part e ≡ true → e.column < part.cols.1
is_in-end_column part e h = grind (arith, nat_tests)

-- an entry in the part is in its rows and columns
pub is_in-parts : (part : Part) (e : Entry) → is_in part e ≡ true → IsIn part e
is_in-parts part e h = record { first_row = is_in-first_row part e h; end_row = is_in-end_row part e h; first_column = is_in-first_column part e h; end_column = is_in-end_column part e h }

-- an entry before its rows is not in it
pub row_below : (part : Part) (e : Entry) → e.row < part.rows.0 → is_in part e ≡ false
row_below part e h = ⊎_elim (λ t. let k = is_in-first_row part e t in absurd (omega arith)) (λ f. f) (cases_Bool (is_in part e))

-- nor one after them
pub row_past : (part : Part) (e : Entry) → part.rows.1 ≤ e.row → is_in part e ≡ false
row_past part e h = ⊎_elim (λ t. let k = is_in-end_row part e t in absurd (omega arith)) (λ f. f) (cases_Bool (is_in part e))

-- nor one before its columns
pub column_below : (part : Part) (e : Entry) → e.column < part.cols.0 → is_in part e ≡ false
column_below part e h = ⊎_elim (λ t. let k = is_in-first_column part e t in absurd (omega arith)) (λ f. f) (cases_Bool (is_in part e))

-- nor one after them
pub column_past : (part : Part) (e : Entry) → part.cols.1 ≤ e.column → is_in part e ≡ false
column_past part e h = ⊎_elim (λ t. let k = is_in-end_column part e t in absurd (omega arith)) (λ f. f) (cases_Bool (is_in part e))

-- ---- what is moved
-- if no entry is in the part, nothing is moved
pub moved_none : (part : Part) (es : List Entry) → All (λ e. is_in part e ≡ false) es → moved_entries part es ≡ []
moved_none part [] h = refl
moved_none part (e ∷ es) h = let f = All-head (λ e. is_in part e ≡ false) e es h in rw f (moved_none part es (All-tail (λ e. is_in part e ≡ false) e es h))

-- of two lists what each has is moved
pub moved_append : (part : Part) (xs ys : List Entry) → moved_entries part (xs ++ ys) ≡ moved_entries part xs ++ moved_entries part ys
moved_append part xs ys = ap (map (moved_entry part)) (filter-append (is_in part) xs ys) ∙ map-append (moved_entry part) (filter (is_in part) xs) (filter (is_in part) ys)

-- of one entry in the part it is moved
pub moved_one : (part : Part) (e : Entry) → is_in part e ≡ true → moved_entries part (e ∷ []) ≡ moved_entry part e ∷ []
moved_one part e h = rw h refl

-- what holds of each entry of the part, once it is moved
pub moved_all : (P Q : Entry → Type 0) (part : Part) (es : List Entry) → ((e : Entry) → IsIn part e → Q e → P (moved_entry part e)) → All Q es → All P (moved_entries part es)
moved_all P Q part es f h =
    All-map P (moved_entry part) (filter (is_in part) es)
    (λ k d l. f (get_or (filter (is_in part) es) k d) (is_in-parts part (get_or (filter (is_in part) es) k d) (filter_passes (is_in part) es k d l)) (All-filter (is_in part) Q es h k d l))

blank : Entry
blank = record { row = 0; column = 0; value = 0 }

-- ---- one column
entry_in : (c : ℕ) (rows values : List ℕ) (n : ℕ) (d : Entry) → length values ≡ length rows → n < length rows → get_or (entries_in c rows values) n d ≡ record { row = get_or rows n 0; column = c; value = get_or values n 0 }
unfolding entries_in
entry_in c [] vs n d e l = absurd (omega arith)
entry_in c (r ∷ rs) [] n d e l = absurd (omega arith)
entry_in c (r ∷ rs) (v ∷ vs) zero d e l = refl
entry_in c (r ∷ rs) (v ∷ vs) (suc n) d e l = entry_in c rs vs n d (omega arith) (omega arith)

module _ (part : Part) (c : ℕ) (rows values : List ℕ) (lengths : length values ≡ length rows) where
  abbrev all : List Entry
  all = entries_in c rows values

  size : length all ≡ length rows
  size = length-entries_in c rows values lengths

  -- before the first row of the part nothing is taken
  pub taken_none : (n : ℕ) → n ≤ length rows → ((k : ℕ) → k < n → get_or rows k 0 < part.rows.0) → moved_entries part (take n all) ≡ []
  taken_none n l below =
      moved_none part (take n all) (All-from_get_or (λ e. is_in part e ≡ false) (take n all) blank (λ k m.
      let count = length-take-le n all (rw size l) in
      let k_below : k < n = omega arith in
      let e = get_or-take n all k blank k_below ∙ entry_in c rows values k blank lengths (omega arith) in
      subst (λ x. is_in part x ≡ false) (sym e) (row_below part (record { row = get_or rows k 0; column = c; value = get_or values k 0 }) (below k k_below))))

  -- the entry at a row of the part is taken
  pub taken_more : (n : ℕ) → n < length rows → part.rows.0 ≤ get_or rows n 0 → get_or rows n 0 < part.rows.1 → part.cols.0 ≤ c → c < part.cols.1
      → moved_entries part (take (n + 1) all) ≡ moved_entries part (take n all) ++ record { row = get_or rows n 0 - part.rows.0 + part.corner.0; column = c - part.cols.0 + part.corner.1; value = get_or values n 0 } ∷ []
  taken_more n l a b p q =
      let e : Entry = record { row = get_or rows n 0; column = c; value = get_or values n 0 } in
      ap (moved_entries part) (take_more all n blank (rw size l)) ∙ ap (λ x. moved_entries part (take n all ++ x ∷ [])) (entry_in c rows values n blank lengths l)
      ∙ moved_append part (take n all) (e ∷ []) ∙ ap (λ xs. moved_entries part (take n all) ++ xs) (moved_one part e (is_in-true part e a b p q))

  -- after its last row nothing more is taken
  pub taken_all : (n : ℕ) → ((k : ℕ) → n ≤ k → k < length rows → part.rows.1 ≤ get_or rows k 0) → moved_entries part (take n all) ≡ moved_entries part all
  taken_all n from =
      sym (ap (moved_entries part) (sym (take-append-drop n all)) ∙ moved_append part (take n all) (drop n all)
      ∙ ap (λ xs. moved_entries part (take n all) ++ xs) (moved_none part (drop n all) (All-from_get_or (λ e. is_in part e ≡ false) (drop n all) blank (λ k m.
      let count = length-drop n all in
      let s = size in
      let within : n + k < length rows = omega arith in
      let e = get_or-drop n all k blank ∙ entry_in c rows values (n + k) blank lengths within in
      subst (λ x. is_in part x ≡ false) (sym e) (row_past part (record { row = get_or rows (n + k) 0; column = c; value = get_or values (n + k) 0 }) (from (n + k) (omega arith) within)))))
      ∙ append-nil (moved_entries part (take n all)))

  -- those before are before the next, once they are moved
  pub taken_before : (n v : ℕ) → AllPairs (λ i j. i < j) rows → n < length rows → All (λ e. IsBefore e (record { row = get_or rows n 0 - part.rows.0 + part.corner.0; column = c - part.cols.0 + part.corner.1; value = v })) (moved_entries part (take n all))
  taken_before n v up l =
      moved_all (λ e. IsBefore e (record { row = get_or rows n 0 - part.rows.0 + part.corner.0; column = c - part.cols.0 + part.corner.1; value = v })) (λ e. (e.column ≡ c) × (e.row < get_or rows n 0)) part (take n all)
      (λ e i h. let first = i.first_row in let column = h.0 in let row = h.1 in inr (ap (λ x. x - part.cols.0 + part.corner.1) column, omega arith))
      (All-from_get_or (λ e. (e.column ≡ c) × (e.row < get_or rows n 0)) (take n all) blank (λ k m.
      let count = length-take-le n all (rw size (omega arith)) in
      let k_below : k < n = omega arith in
      let e = get_or-take n all k blank k_below ∙ entry_in c rows values k blank lengths (omega arith) in
      subst (λ x. (x.column ≡ c) × (x.row < get_or rows n 0)) (sym e) (refl, up k n 0 k_below l)))

  -- the entries of the part follow one another: they are those at its rows, moved
  abbrev pub moved_rows : ℕ → ℕ → List ℕ
  moved_rows a m = map (λ i. i - part.rows.0 + part.corner.0) (take m (drop a rows))

  pub column_moved : (a m n : ℕ) → n ≡ a + m → n ≤ length rows → ((k : ℕ) → k < a → get_or rows k 0 < part.rows.0) → ((k : ℕ) → a ≤ k → k < length rows → part.rows.0 ≤ get_or rows k 0) → ((k : ℕ) → k < n → get_or rows k 0 < part.rows.1) → part.cols.0 ≤ c → c < part.cols.1
      → entries_in (c - part.cols.0 + part.corner.1) (moved_rows a m) (take m (drop a values)) ≡ moved_entries part (take n all)
  unfolding entries_in
  column_moved a zero n e l below first last p q = sym (taken_none n l (λ k b. below k (omega arith)))
  column_moved a (suc m) n e l below first last p q =
      let row = get_or rows (a + m) 0 in
      let value = get_or values (a + m) 0 in
      let next : suc m ≡ m + 1 = omega arith in
      let last_place : a + m + 1 ≡ n = omega arith in
      let rest = length-drop a rows in
      let rest_values = length-drop a values in
      let more : take (suc m) (drop a rows) ≡ take m (drop a rows) ++ row ∷ [] = ap (λ i. take i (drop a rows)) next ∙ take_more (drop a rows) m 0 (omega arith) ∙ ap (λ r. take m (drop a rows) ++ r ∷ []) (get_or-drop a rows m 0) in
      let more_values : take (suc m) (drop a values) ≡ take m (drop a values) ++ value ∷ [] = ap (λ i. take i (drop a values)) next ∙ take_more (drop a values) m 0 (omega arith) ∙ ap (λ v. take m (drop a values) ++ v ∷ []) (get_or-drop a values m 0) in
      let same : length (take m (drop a values)) ≡ length (moved_rows a m) = (let x = length-take-le m (drop a rows) (omega arith) in let y = length-take-le m (drop a values) (omega arith) in let z = length-map (take m (drop a rows)) (λ i. i - part.rows.0 + part.corner.0) in omega arith) in
      (λ t. entries_in (c - part.cols.0 + part.corner.1) (map (λ i. i - part.rows.0 + part.corner.0) (more t)) (more_values t))
      ∙ ap (λ is. entries_in (c - part.cols.0 + part.corner.1) is (take m (drop a values) ++ value ∷ [])) (map-append (λ i. i - part.rows.0 + part.corner.0) (take m (drop a rows)) (row ∷ []))
      ∙ entries_in-push (c - part.cols.0 + part.corner.1) (moved_rows a m) (take m (drop a values)) (row - part.rows.0 + part.corner.0) value same
      ∙ ap (λ es. es ++ record { row = row - part.rows.0 + part.corner.0; column = c - part.cols.0 + part.corner.1; value = value } ∷ []) (column_moved a m (a + m) refl (omega arith) below first (λ k x. last k (omega arith)) p q)
      ∙ sym (taken_more (a + m) (omega arith) (first (a + m) (omega arith) (omega arith)) (last (a + m) (omega arith)) p q)
      ∙ ap (λ i. moved_entries part (take i all)) last_place

-- ---- a column after those before it
-- what was stored before the column comes before an entry of it
pub old_before : (old out : Sparse) (es : List Entry) (e : Entry) → out ≡ with_entries old es → All (λ x. x.column < e.column) old.entries → All (λ x. IsBefore x e) es → All (λ x. IsBefore x e) out.entries
old_before old out es e is h k =
    subst (λ (o : Sparse). All (λ x. IsBefore x e) o.entries) (sym is) (All-append (λ x. IsBefore x e) old.entries es (All-weaker (λ x. x.column < e.column) (λ x. IsBefore x e) (λ x l. inl l) old.entries h) k)

-- one more entry is stored
pub stored_more : (old out new : Sparse) (xs ys : List Entry) (e : Entry) → out ≡ with_entries old xs → new ≡ with_entry out e → ys ≡ xs ++ e ∷ [] → new ≡ with_entries old ys
stored_more old out new xs ys e so_far more is =
    more ∙ ap (λ o. with_entry o e) so_far ∙ ap (λ (es : List Entry). record { shape = old.shape; entries = es }) (append_assoc old.entries xs (e ∷ []) ∙ ap (λ es. old.entries ++ es) (sym is))

-- none is stored yet
pub stored_none : (old : Sparse) (xs : List Entry) → xs ≡ [] → old ≡ with_entries old xs
stored_none old xs e = ap (λ (es : List Entry). record { shape = old.shape; entries = es }) (sym (append-nil old.entries)) ∙ ap (with_entries old) (sym e)
