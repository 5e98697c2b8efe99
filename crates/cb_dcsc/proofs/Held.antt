-- What the four lists of a block say of its entries.
use Rattle.std.proofs.Common.{◌≡◌, ◌≢◌, ℕ, zero, suc, ◌+◌, ◌-◌, ◌<◌, ◌≤◌, List, [], ◌++◌, length, take, drop, get_or, sym, refl, ap, ◌∙◌, ⊎_elim, arith, length-append, length-drop, length-take, subst}
use Rattle.std.specs.Prelude.{All, AllPairs, slice_range}
use Rattle.std.proofs.lemmas.Bool.{cases_eq, cases_lt}
use Rattle.std.proofs.lemmas.List.{get_or-take, get_or-drop, take_all, get_or_default, get_or-map, map-append}
use Rattle.std.proofs.lemmas.List.Elements.{All-nil, All-get_or}
use Rattle.cb_matrix.specs.declared.Entry.{Entry}
use Rattle.std.specs.Ordering.{nat_cmp}
use Rattle.std.specs.declared.cmp.Ordering.TheVariants.{Equal}
use Rattle.std.specs.List.Sorted.{IsBinarySearchResult}
use Rattle.std.proofs.lemmas.List.Sorted.{searched}
use Rattle.std.proofs.lemmas.Bool.Decides.{nat_tests}
use Rattle.std.proofs.Common.{Err}
use Rattle.cb_semirings.specs.Arithmetic.{Arithmetic, IsValue}
use Rattle.cb_matrix.specs.Sparse.{Extent, IsBefore, IsInside}
use Rattle.cb_matrix.specs.Values.{empty_matrix}
use Rattle.cb_matrix.proofs.Pairs.{AllPairs-nil}
use Rattle.cb_dcsc.specs.Compressed.{part, piece, pieces, all_entries, AreColumns, IsBlock, block_of}
use Rattle.cb_dcsc.specs.Columns.{in_column, rows_of, values_of, columns_with_entries}
use Rattle.cb_dcsc.proofs.Ranges.{range_back, range_front, range_join}
use Rattle.cb_dcsc.proofs.ColumnEntries.{length-entries_in, rows-entries_in, values-entries_in, entries_in-columns, pieces_same, no_piece, its_piece, columns_with_entries-pieces}

module _ (columns starts rows values : List ℕ) (are : AreColumns columns starts rows values) where
  -- starts rise, from nothing to all
  pub up_to : (k m : ℕ) → k + m ≤ length columns → get_or starts k 0 ≤ get_or starts (k + m) 0
  up_to k zero l = let e : k + 0 ≡ k = omega arith in rw e (omega arith)
  up_to k (suc m) l =
      let h = up_to k m (omega arith) in
      let r = are.rising (k + m) (omega arith) in
      let e : k + suc m ≡ (k + m) + 1 = omega arith in
      rw e (omega arith)

  -- a column starts within the entries
  pub start_within : (k : ℕ) → k ≤ length columns → get_or starts k 0 ≤ length rows
  start_within k l =
      let h = up_to k (length columns - k) (omega arith) in
      let e : k + (length columns - k) ≡ length columns = omega arith in
      let h' = rw e at h in
      let last = are.last in
      omega arith

  -- a part is as long as from its start to the next
  pub length-part : (xs : List ℕ) (n : ℕ) → length xs ≡ length rows → n < length columns → length (part starts xs n) ≡ get_or starts (n + 1) 0 - get_or starts n 0
  length-part xs n e l =
      let b = start_within (n + 1) (omega arith) in
      let r = are.rising n l in
      simp (length-take, length-drop) (omega arith)

  -- a column has as many values as rows
  pub same_parts : (n : ℕ) → n < length columns → length (part starts values n) ≡ length (part starts rows n)
  same_parts n l = length-part values n are.same_length l ∙ sym (length-part rows n refl l)

  -- a piece has the entries of its own column
  pub own_columns : (k : ℕ) → All (λ e. e.column ≡ get_or columns k 0) (piece columns starts rows values k)
  own_columns k = entries_in-columns (get_or columns k 0) (part starts rows k) (part starts values k)

  -- a piece is as long as from its start to the next
  pub length-piece : (n : ℕ) → n < length columns → length (piece columns starts rows values n) ≡ get_or starts (n + 1) 0 - get_or starts n 0
  length-piece n l = length-entries_in (get_or columns n 0) (part starts rows n) (part starts values n) (same_parts n l) ∙ length-part rows n refl l

  -- each column that is named has an entry
  pub some_entry : (n : ℕ) → n < length columns → 0 < length (piece columns starts rows values n)
  some_entry n l = let h = length-piece n l in let r = are.rising n l in omega arith

  -- how many there are in the first columns
  pub length-pieces : (n : ℕ) → n ≤ length columns → length (pieces (piece columns starts rows values) n) ≡ get_or starts n 0
  unfolding pieces
  length-pieces zero l = sym are.first
  length-pieces (suc n) l =
      let h = length-pieces n (omega arith) in
      let p = length-piece n (omega arith) in
      let r = are.rising n (omega arith) in
      let a = length-append (pieces (piece columns starts rows values) n) (piece columns starts rows values n) in
      let e : n + 1 ≡ suc n = omega arith in
      let sum : length (pieces (piece columns starts rows values) n) + length (piece columns starts rows values n) ≡ get_or starts (n + 1) 0 = omega arith in
      a ∙ sum ∙ ap (λ k. get_or starts k 0) e

  rows_of_pieces : (n : ℕ) → n ≤ length columns → rows_of (pieces (piece columns starts rows values) n) ≡ take (get_or starts n 0) rows
  unfolding pieces
  rows_of_pieces zero l = ap (λ k. take k rows) (sym are.first)
  rows_of_pieces (suc n) l =
      let r = are.rising n (omega arith) in
      let e : n + 1 ≡ suc n = omega arith in
      map-append (λ (e : Entry). e.row) (pieces (piece columns starts rows values) n) (piece columns starts rows values n)
      ∙ ap (λ xs. xs ++ rows_of (piece columns starts rows values n)) (rows_of_pieces n (omega arith))
      ∙ ap (λ xs. take (get_or starts n 0) rows ++ xs) (rows-entries_in (get_or columns n 0) (part starts rows n) (part starts values n) (same_parts n (omega arith)))
      ∙ range_join (get_or starts n 0) (get_or starts (n + 1) 0) rows (omega arith) ∙ ap (λ k. take (get_or starts k 0) rows) e

  -- the rows of all entries are the list of rows
  pub rows_of_all : rows_of (all_entries columns starts rows values) ≡ rows
  rows_of_all = rows_of_pieces (length columns) (omega arith) ∙ take_all (get_or starts (length columns) 0) rows (let e = are.last in omega arith)

  values_of_pieces : (n : ℕ) → n ≤ length columns → values_of (pieces (piece columns starts rows values) n) ≡ take (get_or starts n 0) values
  unfolding pieces
  values_of_pieces zero l = ap (λ k. take k values) (sym are.first)
  values_of_pieces (suc n) l =
      let r = are.rising n (omega arith) in
      let e : n + 1 ≡ suc n = omega arith in
      map-append (λ (e : Entry). e.value) (pieces (piece columns starts rows values) n) (piece columns starts rows values n)
      ∙ ap (λ xs. xs ++ values_of (piece columns starts rows values n)) (values_of_pieces n (omega arith))
      ∙ ap (λ xs. take (get_or starts n 0) values ++ xs) (values-entries_in (get_or columns n 0) (part starts rows n) (part starts values n) (same_parts n (omega arith)))
      ∙ range_join (get_or starts n 0) (get_or starts (n + 1) 0) values (omega arith) ∙ ap (λ k. take (get_or starts k 0) values) e

  -- and the values the list of values
  pub values_of_all : values_of (all_entries columns starts rows values) ≡ values
  values_of_all = values_of_pieces (length columns) (omega arith) ∙ take_all (get_or starts (length columns) 0) values (let e = are.last in let f = are.same_length in omega arith)

  -- where the n-th column stands among all entries
  range_of_piece : (m n : ℕ) → n < m → m ≤ length columns → slice_range (pieces (piece columns starts rows values) m) (get_or starts n 0) (get_or starts (n + 1) 0) ≡ piece columns starts rows values n
  unfolding pieces
  range_of_piece zero n l b = absurd (omega arith)
  range_of_piece (suc m) n l b =
      let long = length-pieces m (omega arith) in
      let r = are.rising n (omega arith) in
      ⊎_elim
      (λ (k : n < m).
      let h = up_to (n + 1) (m - (n + 1)) (omega arith) in
      let e : (n + 1) + (m - (n + 1)) ≡ m = omega arith in
      let h' = rw e at h in
      range_front (get_or starts n 0) (get_or starts (n + 1) 0) (pieces (piece columns starts rows values) m) (piece columns starts rows values m) (omega arith) (omega arith) ∙ range_of_piece m n k (omega arith))
      (λ (k : m ≤ n).
      let same : m ≡ n = omega arith in
      range_back (get_or starts n 0) (get_or starts (n + 1) 0) (pieces (piece columns starts rows values) m) (piece columns starts rows values m) (long ∙ ap (λ x. get_or starts x 0) same) (ap (λ x. length (piece columns starts rows values x)) same ∙ length-piece n (omega arith))
      ∙ ap (piece columns starts rows values) same)
      (cases_lt n m)

  -- there are as many entries as rows
  pub length_all : length (all_entries columns starts rows values) ≡ length rows
  length_all = length-pieces (length columns) (omega arith) ∙ are.last

  -- the columns that have entries are those that are named
  pub its_columns : columns_with_entries (all_entries columns starts rows values) ≡ columns
  its_columns = columns_with_entries-pieces columns (piece columns starts rows values) own_columns are.ascending some_entry (length columns) (omega arith) ∙ take_all (length columns) columns (omega arith)

  -- the entries of the n-th column
  pub nth_piece : (n : ℕ) → n < length columns → in_column (get_or columns n 0) (all_entries columns starts rows values) ≡ piece columns starts rows values n
  nth_piece n l = its_piece columns (piece columns starts rows values) own_columns are.ascending (get_or columns n 0) (length columns) n l (omega arith) refl

  -- its rows
  pub nth_rows : (n : ℕ) → n < length columns → part starts rows n ≡ rows_of (in_column (get_or columns n 0) (all_entries columns starts rows values))
  nth_rows n l = sym (ap rows_of (nth_piece n l) ∙ rows-entries_in (get_or columns n 0) (part starts rows n) (part starts values n) (same_parts n l))

  -- its values
  pub nth_values : (n : ℕ) → n < length columns → part starts values n ≡ values_of (in_column (get_or columns n 0) (all_entries columns starts rows values))
  nth_values n l = sym (ap values_of (nth_piece n l) ∙ values-entries_in (get_or columns n 0) (part starts rows n) (part starts values n) (same_parts n l))

  -- a column that is not named has no entries
  pub no_column : (j : ℕ) → ((k : ℕ) → k < length columns → get_or columns k 0 ≢ j) → in_column j (all_entries columns starts rows values) ≡ []
  no_column j h = no_piece columns (piece columns starts rows values) own_columns are.ascending j (length columns) h

  -- a column that is named has a start and an end
  pub start_at : (n : ℕ) → n < length columns → n + 1 < length starts
  start_at n l = let e = are.one_more_start (omega arith) in omega arith

  -- the starts, strictly
  pub starts_ascend : AllPairs (λ a b. a < b) starts
  starts_ascend i j d l m =
      let none : length columns ≡ 0 → length starts ≡ 0 = are.no_starts in
      let some : 0 < length columns = ⊎_elim (λ (z : length columns ≡ 0). let e = none z in absurd (omega arith)) (λ (z : length columns ≡ 0 → ⊥). let n : length columns ≢ 0 = z in omega arith) (cases_eq (length columns) 0) in
      let longer = are.one_more_start some in
      let r = are.rising i (omega arith) in
      let h = up_to (i + 1) (j - (i + 1)) (omega arith) in
      let e : (i + 1) + (j - (i + 1)) ≡ j = omega arith in
      let h' = rw e at h in
      let a : get_or starts i d ≡ get_or starts i 0 = get_or_default starts i d 0 (omega arith) in
      let b : get_or starts j d ≡ get_or starts j 0 = get_or_default starts j d 0 m in
      omega arith

-- the same at a value that has these lists
module _ (columns starts rows values : List ℕ) (es : List Entry) (are : AreColumns columns starts rows values) (view : all_entries columns starts rows values ≡ es) where
  -- there are as many entries as rows
  pub count_is : length rows ≡ length es
  count_is = sym (length_all columns starts rows values are) ∙ ap length view

  -- the columns that have entries are those that are named
  pub columns_are : columns ≡ columns_with_entries es
  columns_are = sym (its_columns columns starts rows values are) ∙ ap columns_with_entries view

  -- the n-th column that has entries is the n-th that is named
  pub is_nth : (n : ℕ) → n < length (columns_with_entries es) → n < length columns
  is_nth n l = let e = ap length columns_are in omega arith

  -- its rows
  pub nth_column_rows : (n : ℕ) → n < length (columns_with_entries es) → part starts rows n ≡ rows_of (in_column (get_or (columns_with_entries es) n 0) es)
  nth_column_rows n l = nth_rows columns starts rows values are n (is_nth n l) ∙ ap (λ cs. rows_of (in_column (get_or cs n 0) (all_entries columns starts rows values))) columns_are ∙ ap (λ xs. rows_of (in_column (get_or (columns_with_entries es) n 0) xs)) view

  -- its values
  pub nth_column_values : (n : ℕ) → n < length (columns_with_entries es) → part starts values n ≡ values_of (in_column (get_or (columns_with_entries es) n 0) es)
  nth_column_values n l = nth_values columns starts rows values are n (is_nth n l) ∙ ap (λ cs. values_of (in_column (get_or cs n 0) (all_entries columns starts rows values))) columns_are ∙ ap (λ xs. values_of (in_column (get_or (columns_with_entries es) n 0) xs)) view

  -- it starts and ends within the entries
  pub starts_for : (n : ℕ) → n < length (columns_with_entries es) → (n + 1 < length starts) × (get_or starts n 0 ≤ get_or starts (n + 1) 0) × (get_or starts (n + 1) 0 ≤ length rows)
  starts_for n l =
      let k = is_nth n l in
      let r = are.rising n k in
      (start_at columns starts rows values are n k, omega arith, start_within columns starts rows values are (n + 1) (omega arith))

  -- its entries, among all
  pub nth_range : (n : ℕ) → n < length columns → slice_range es (get_or starts n 0) (get_or starts (n + 1) 0) ≡ in_column (get_or columns n 0) es
  nth_range n l =
      ap (λ xs. slice_range xs (get_or starts n 0) (get_or starts (n + 1) 0)) (sym view)
      ∙ range_of_piece columns starts rows values are (length columns) n l (omega arith)
      ∙ sym (nth_piece columns starts rows values are n l) ∙ ap (in_column (get_or columns n 0)) view

  -- the list of rows has the row of each entry
  pub rows_are : rows ≡ rows_of es
  rows_are = sym (rows_of_all columns starts rows values are) ∙ ap rows_of view

  -- and the list of values its value
  pub values_are : values ≡ values_of es
  values_are = sym (values_of_all columns starts rows values are) ∙ ap values_of view

  -- a column that is not named has no entries
  pub none_in : (j : ℕ) → ((k : ℕ) → k < length columns → get_or columns k 0 ≢ j) → [] ≡ in_column j es
  none_in j h = sym (ap (in_column j) (sym view) ∙ no_column columns starts rows values are j h)

  -- ---- one entry
  -- entries are in columns
  pub has_columns : 0 < length es → 0 < length columns
  has_columns l =
      let count = count_is in
      let last = are.last in
      let first = are.first in
      ⊎_elim (λ (z : length columns ≡ 0). let e = ap (λ k. get_or starts k 0) z in absurd (omega arith)) (λ (z : length columns ≡ 0 → ⊥). let n : length columns ≢ 0 = z in omega arith) (cases_eq (length columns) 0)

  -- there is a start that is not past an index
  pub some_start : (index : ℕ) → index < length es → (0 < length starts) × (get_or starts 0 0 ≤ index)
  some_start index l =
      let some = has_columns (omega arith) in
      let longer = are.one_more_start some in
      let first = are.first in
      (omega arith, omega arith)

  -- a start that is not past an index is that of a column
  pub some_column : (n index : ℕ) → index < length es → n < length starts → get_or starts n 0 ≤ index → n < length columns
  some_column n index l m here =
      let count = count_is in
      let last = are.last in
      let longer = are.one_more_start in
      ⊎_elim (λ (k : n < length columns). k) (λ (k : length columns ≤ n).
      let s = some_start index l in
      let some : 0 < length columns = ⊎_elim (λ (z : length columns ≡ 0). let e = are.no_starts z in absurd (omega arith)) (λ (z : length columns ≡ 0 → ⊥). let n : length columns ≢ 0 = z in omega arith) (cases_eq (length columns) 0) in
      let long = are.one_more_start some in
      let same : n ≡ length columns = omega arith in
      let at = ap (λ k. get_or starts k 0) same in
      absurd (omega arith)) (cases_lt n (length columns))

  in_its_column : (n index : ℕ) (d : Entry) → n < length columns → get_or starts n 0 ≤ index → index < get_or starts (n + 1) 0 → (get_or es index d).column ≡ get_or columns n 0
  in_its_column n index d l here next =
      let a = get_or starts n 0 in
      let b = get_or starts (n + 1) 0 in
      let w = start_within columns starts rows values are (n + 1) (omega arith) in
      let count = count_is in
      let whole : slice_range es a b ≡ piece columns starts rows values n = ap (λ xs. slice_range xs a b) (sym view) ∙ range_of_piece columns starts rows values are (length columns) n l (omega arith) in
      let own : All (λ e. e.column ≡ get_or columns n 0) (slice_range es a b) = subst (All (λ e. e.column ≡ get_or columns n 0)) (sym whole) (own_columns columns starts rows values are n) in
      let long : length (slice_range es a b) ≡ b - a = simp (length-take, length-drop) (omega arith) in
      let at : get_or (slice_range es a b) (index - a) d ≡ get_or es (a + (index - a)) d = get_or-take (b - a) (drop a es) (index - a) d (omega arith) ∙ get_or-drop a es (index - a) d in
      let e : a + (index - a) ≡ index = omega arith in
      ap (λ (x : Entry). x.column) (sym (at ∙ ap (λ k. get_or es k d) e)) ∙ All-get_or (λ e. e.column ≡ get_or columns n 0) (slice_range es a b) (index - a) d (omega arith) own

  -- the entry at an index, by the column that it is in
  pub entry_is : (n index r j v : ℕ) (d : Entry) → n < length columns → index < length es → get_or starts n 0 ≤ index → index < get_or starts (n + 1) 0 → r ≡ get_or rows index 0 → j ≡ get_or columns n 0 → v ≡ get_or values index 0 → record { row = r; column = j; value = v } ≡ get_or es index d
  entry_is n index r j v d l m here next p q u =
      let row : r ≡ (get_or es index d).row = p ∙ ap (λ xs. get_or xs index 0) rows_are ∙ get_or-map (λ (e : Entry). e.row) es index d 0 m in
      let value : v ≡ (get_or es index d).value = u ∙ ap (λ xs. get_or xs index 0) values_are ∙ get_or-map (λ (e : Entry). e.value) es index d 0 m in
      let column : j ≡ (get_or es index d).column = q ∙ sym (in_its_column n index d l here next) in
      λ t. record { row = row t; column = column t; value = value t }

  -- all entries are those of each column, one column after another
  pub all_columns : (n : ℕ) (new : List Entry) → n ≡ length (columns_with_entries es) → new ≡ pieces (λ k. in_column (get_or (columns_with_entries es) k 0) es) n → new ≡ es
  all_columns n new e is =
      let long = ap length columns_are in
      is
      ∙ pieces_same (λ k. in_column (get_or (columns_with_entries es) k 0) es) (piece columns starts rows values) n
      (λ k l. ap (λ cs. in_column (get_or cs k 0) es) (sym columns_are) ∙ ap (in_column (get_or columns k 0)) (sym view) ∙ nth_piece columns starts rows values are k (omega arith))
      ∙ ap (pieces (piece columns starts rows values)) (e ∙ sym long) ∙ view

-- numbers that compare as equal are equal
pub same_number : (x y : ℕ) → nat_cmp x y ≡ Equal → x ≡ y
same_number x y h = grind (arith, nat_tests)

rising_order : (xs : List ℕ) → AllPairs (λ c d. c < d) xs → (i j : ℕ) → i ≤ j → j < length xs → get_or xs i 0 ≤ get_or xs j 0
rising_order xs up i j l m = ⊎_elim (λ (k : i < j). let h : get_or xs i 0 < get_or xs j 0 = up i j 0 k m in omega arith) (λ (k : j ≤ i). let e : i ≡ j = omega arith in rw e (omega arith)) (cases_lt i j)

-- a search that finds nothing
pub not_found : (xs : List ℕ) (x n : ℕ) → AllPairs (λ c d. c < d) xs → IsBinarySearchResult (λ y. nat_cmp y x) xs (Err n) → (k : ℕ) → k < length xs → get_or xs k 0 ≢ x
not_found xs x n up h k l e =
    let found = searched xs x (Err n) h (rising_order xs up) in
    ⊎_elim (λ (b : k < n). let less = found.1 k b in absurd (omega arith)) (λ (b : n ≤ k). let more = found.2 k b l in absurd (omega arith)) (cases_lt k n)

-- no columns have no entries
pub no_pieces : (f : ℕ → List Entry) → [] ≡ pieces f 0
unfolding pieces
no_pieces f = refl

-- four empty lists are the matrix without entries
pub no_lists : (shape : Extent) → block_of shape [] [] [] [] ≡ empty_matrix shape
unfolding pieces
no_lists shape = refl

-- they are a block
pub no_block : (s : Arithmetic) (shape : Extent) → IsBlock s shape [] [] [] []
unfolding pieces
no_block s shape = record {
  lists = record {
    ascending = AllPairs-nil (λ c d. c < d);
    no_starts = λ _. refl;
    one_more_start = λ l. absurd (omega arith);
    first = refl;
    rising = λ n l. absurd (omega arith);
    last = refl;
    same_length = refl;
  };
  matrix = record {
    ascending = AllPairs-nil IsBefore;
    inside = All-nil (IsInside shape);
    values = All-nil (λ e. IsValue s e.value);
    not_zero = All-nil (λ e. e.value ≢ s.zero);
  };
}

-- the part that an index is in
module _ (starts : List ℕ) (index : ℕ) (up : AllPairs (λ a b. a < b) starts) where
  -- where a start is the index, the next start is past it
  pub found_next : (n : ℕ) → n < length starts → nat_cmp (get_or starts n 0) index ≡ Equal → n + 1 < length starts → index < get_or starts (n + 1) 0
  found_next n l found m = let e : get_or starts n 0 ≡ index = same_number _ _ found in let r : get_or starts n 0 < get_or starts (n + 1) 0 = up n (n + 1) 0 (omega arith) m in omega arith

  -- where no start is the index, some start is before it
  pub missed_some : (n : ℕ) → 0 < length starts → get_or starts 0 0 ≤ index → IsBinarySearchResult (λ y. nat_cmp y index) starts (Err n) → 0 < n
  missed_some n l first h =
      let found = searched starts index (Err n) h (rising_order starts up) in
      ⊎_elim (λ (z : n ≡ 0). let more = found.2 0 (omega arith) l in absurd (omega arith)) (λ (z : n ≡ 0 → ⊥). let o : n ≢ 0 = z in omega arith) (cases_eq n 0)

  -- the last of these is not past it
  pub missed_here : (n : ℕ) → 0 < n → IsBinarySearchResult (λ y. nat_cmp y index) starts (Err n) → get_or starts (n - 1) 0 ≤ index
  missed_here n l h = let found = searched starts index (Err n) h (rising_order starts up) in let less = found.1 (n - 1) (omega arith) in omega arith

  -- and the next start is past it
  pub missed_next : (n : ℕ) → 0 < n → IsBinarySearchResult (λ y. nat_cmp y index) starts (Err n) → (n - 1) + 1 < length starts → index < get_or starts ((n - 1) + 1) 0
  missed_next n l h m = let found = searched starts index (Err n) h (rising_order starts up) in let e : (n - 1) + 1 ≡ n = omega arith in let more = found.2 n (omega arith) (omega arith) in rw e (omega arith)
