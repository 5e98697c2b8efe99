-- One entry more, after all the others.
use Rattle.std.proofs.Common.{◌≡◌, ◌≢◌, ℕ, zero, suc, ◌+◌, ◌-◌, ◌<◌, ◌≤◌, List, [], ◌∷◌, ◌++◌, length, drop, get_or, set, sym, refl, ap, ◌∙◌, ⊎_elim, arith, length-drop, subst, append_assoc}
use Rattle.std.specs.Prelude.{All, slice_range}
use Rattle.std.proofs.lemmas.Bool.{cases_lt}
use Rattle.std.proofs.lemmas.List.{get_or_append_left, drop-append-le, take_all, length-set, get_or-set_same, get_or-set_other, get_or_push, length_push, get_or_default}
use Rattle.std.proofs.lemmas.List.Elements.{All-head, All-tail, All-push}
use Rattle.std.proofs.lemmas.List.Quantifiers.{all_pairs_push}
use Rattle.cb_semirings.specs.Arithmetic.{Arithmetic, IsValue}
use Rattle.cb_matrix.specs.declared.Entry.{Entry}
use Rattle.cb_matrix.specs.Sparse.{Sparse, Extent, IsMatrix, IsBefore, IsInside}
use Rattle.cb_matrix.proofs.Pairs.{AllPairs-push}
use Rattle.cb_dcsc.specs.Compressed.{entries_in, part, piece, pieces, all_entries, AreColumns, IsBlock, block_of, opened}
use Rattle.cb_dcsc.specs.Columns.{with_entry}
use Rattle.cb_dcsc.proofs.ColumnEntries.{entries_in-push, pieces_same}
use Rattle.cb_dcsc.proofs.Ranges.{no_range, range_front}
use Rattle.cb_dcsc.proofs.Held.{same_parts, own_columns, some_entry, start_within}

range-end : (xs : List ℕ) (a b : ℕ) → length xs ≡ b → slice_range xs a b ≡ drop a xs
range-end xs a b e = take_all (b - a) (drop a xs) (simp length-drop (omega arith))

range-push : (xs : List ℕ) (x a b c : ℕ) → a ≤ length xs → length xs ≡ b → b + 1 ≡ c → slice_range (xs ++ x ∷ []) a c ≡ slice_range xs a b ++ x ∷ []
range-push xs x a b c l e f =
    let n = length_push xs x in
    range-end (xs ++ x ∷ []) a c (omega arith) ∙ drop-append-le a xs (x ∷ []) l ∙ ap (λ ys. ys ++ x ∷ []) (sym (range-end xs a b e))

-- what holds of each element holds of each of a back of the list
pub All-back : {X : Type 0} (P : X → Type 0) (xs ys : List X) → All P (xs ++ ys) → All P ys
All-back P [] ys h = h
All-back P (x ∷ xs) ys h = All-back P xs ys (All-tail P x (xs ++ ys) h)

first_column : (es : List Entry) (c : ℕ) (e : Entry) → 0 < length es → All (λ d. d.column ≡ c) es → All (λ d. IsBefore d e) es → c ≤ e.column
first_column [] c e l h k = absurd (omega arith)
first_column (d ∷ es) c e l h k =
    let p = All-head (λ d. d.column ≡ c) d es h in
    ⊎_elim (λ b. omega arith) (λ b. omega arith) (All-head (λ d. IsBefore d e) d es k)

-- a matrix with an entry more, after all others, is one
pub matrix_push : (s : Arithmetic) (m : Sparse) (e : Entry) → IsMatrix s m → IsInside m.shape e → All (λ d. IsBefore d e) m.entries → IsValue s e.value → e.value ≢ s.zero → IsMatrix s (with_entry m e)
matrix_push s m e is inside after value not_zero = record {
  ascending = AllPairs-push IsBefore m.entries e is.ascending after;
  inside = All-push (IsInside m.shape) m.entries e is.inside inside;
  values = All-push (λ d. IsValue s d.value) m.entries e is.values value;
  not_zero = All-push (λ d. d.value ≢ s.zero) m.entries e is.not_zero not_zero;
}

module _ (columns starts rows values : List ℕ) (are : AreColumns columns starts rows values) (i j v : ℕ) where
  abbrev e : Entry
  e = record { row = i; column = j; value = v }

  -- a piece before the last is that of the longer lists
  kept_piece : (columns' starts' : List ℕ) (k : ℕ) → k < length columns → get_or columns' k 0 ≡ get_or columns k 0 → get_or starts' k 0 ≡ get_or starts k 0 → get_or starts' (k + 1) 0 ≡ get_or starts (k + 1) 0
      → piece columns' starts' (rows ++ i ∷ []) (values ++ v ∷ []) k ≡ piece columns starts rows values k
  kept_piece columns' starts' k l p q r =
      let a = are.rising k l in
      let b = start_within columns starts rows values are (k + 1) (omega arith) in
      let f : part starts' (rows ++ i ∷ []) k ≡ part starts rows k = ap (slice_range (rows ++ i ∷ []) (get_or starts' k 0)) r ∙ ap (λ x. slice_range (rows ++ i ∷ []) x (get_or starts (k + 1) 0)) q ∙ range_front (get_or starts k 0) (get_or starts (k + 1) 0) rows (i ∷ []) (omega arith) b in
      let s = are.same_length in
      let g : part starts' (values ++ v ∷ []) k ≡ part starts values k = ap (slice_range (values ++ v ∷ []) (get_or starts' k 0)) r ∙ ap (λ x. slice_range (values ++ v ∷ []) x (get_or starts (k + 1) 0)) q ∙ range_front (get_or starts k 0) (get_or starts (k + 1) 0) values (v ∷ []) (omega arith) (omega arith) in
      λ z. entries_in (p z) (f z) (g z)

  -- ---- in the last column
  module _ (m : ℕ) (count : length columns ≡ suc m) (here : get_or columns m 0 ≡ j) where
    abbrev ended : List ℕ
    ended = set starts (suc m) (length rows + 1)

    -- the lists, with the end of the last column moved
    pub same_are : AreColumns columns ended (rows ++ i ∷ []) (values ++ v ∷ [])
    same_are =
        let longer = are.one_more_start (omega arith) in
        let long = length-set starts (suc m) (length rows + 1) in
        let rows_long = length_push rows i in
        let values_long = length_push values v in
        let s = are.same_length in
        let final : get_or ended (suc m) 0 ≡ length rows + 1 = get_or-set_same starts (suc m) (length rows + 1) 0 (omega arith) in
        record {
          ascending = are.ascending;
          no_starts = λ n. absurd (omega arith);
          one_more_start = λ _. omega arith;
          first = get_or-set_other starts (suc m) 0 (length rows + 1) 0 (omega arith) ∙ are.first;
          rising = λ n l. ⊎_elim
              (λ (k : n < m).
              let a = get_or-set_other starts (suc m) n (length rows + 1) 0 (omega arith) in
              let b = get_or-set_other starts (suc m) (n + 1) (length rows + 1) 0 (omega arith) in
              let r = are.rising n l in
              rw (a, b) r)
              (λ (k : m ≤ n).
              let same : n ≡ m = omega arith in
              let a = get_or-set_other starts (suc m) n (length rows + 1) 0 (omega arith) in
              let w = start_within columns starts rows values are n (omega arith) in
              let next : n + 1 ≡ suc m = omega arith in
              let b : get_or ended (n + 1) 0 ≡ length rows + 1 = ap (λ x. get_or ended x 0) next ∙ final in
              omega arith)
              (cases_lt n m);
          last = ap (λ x. get_or ended x 0) count ∙ final ∙ sym rows_long;
          same_length = omega arith;
        }

    -- they have the entry more
    pub same_entries : all_entries columns ended (rows ++ i ∷ []) (values ++ v ∷ []) ≡ all_entries columns starts rows values ++ e ∷ []
    unfolding pieces
    same_entries =
        let f = piece columns starts rows values in
        let g = piece columns ended (rows ++ i ∷ []) (values ++ v ∷ []) in
        let longer = are.one_more_start (omega arith) in
        let final : get_or ended (suc m) 0 ≡ length rows + 1 = get_or-set_same starts (suc m) (length rows + 1) 0 (omega arith) in
        let next : m + 1 ≡ suc m = omega arith in
        let final' : get_or ended (m + 1) 0 ≡ length rows + 1 = ap (λ x. get_or ended x 0) next ∙ final in
        let was : get_or starts (m + 1) 0 ≡ length rows = ap (λ x. get_or starts x 0) (next ∙ sym count) ∙ are.last in
        let begins : get_or ended m 0 ≡ get_or starts m 0 = get_or-set_other starts (suc m) m (length rows + 1) 0 (omega arith) in
        let w = start_within columns starts rows values are m (omega arith) in
        let sl = are.same_length in
        let front : pieces g m ≡ pieces f m = pieces_same g f m (λ k l. kept_piece columns ended k (omega arith) refl (get_or-set_other starts (suc m) k (length rows + 1) 0 (omega arith)) (get_or-set_other starts (suc m) (k + 1) (length rows + 1) 0 (omega arith))) in
        let rp : part ended (rows ++ i ∷ []) m ≡ part starts rows m ++ i ∷ [] = ap (λ a. slice_range (rows ++ i ∷ []) a (get_or ended (m + 1) 0)) begins ∙ range-push rows i (get_or starts m 0) (get_or starts (m + 1) 0) (get_or ended (m + 1) 0) w (sym was) (omega arith) in
        let vp : part ended (values ++ v ∷ []) m ≡ part starts values m ++ v ∷ [] = ap (λ a. slice_range (values ++ v ∷ []) a (get_or ended (m + 1) 0)) begins ∙ range-push values v (get_or starts m 0) (get_or starts (m + 1) 0) (get_or ended (m + 1) 0) (omega arith) (omega arith) (omega arith) in
        let back : g m ≡ f m ++ e ∷ [] =
        (λ z. entries_in (get_or columns m 0) (rp z) (vp z)) ∙ entries_in-push (get_or columns m 0) (part starts rows m) (part starts values m) i v (same_parts columns starts rows values are m (omega arith))
        ∙ ap (λ (c : ℕ). f m ++ record { row = i; column = c; value = v } ∷ []) here in
        ap (pieces g) count ∙ ap (λ xs. xs ++ g m) front ∙ ap (λ xs. pieces f m ++ xs) back ∙ sym (append_assoc (pieces f m) (f m) (e ∷ [])) ∙ ap (λ n. pieces f n ++ e ∷ []) (sym count)

  -- ---- in a column of its own; `opened` has the starts, and a 0 where there were none
  module _ (opened : List ℕ) (long : length opened ≡ length columns + 1) (as_before : (k : ℕ) → get_or opened k 0 ≡ get_or starts k 0) (later : All (λ c. c < j) columns) where
    abbrev started : List ℕ
    started = opened ++ (length rows + 1) ∷ []

    old_start : (k : ℕ) → k ≤ length columns → get_or started k 0 ≡ get_or starts k 0
    old_start k l = get_or_append_left opened ((length rows + 1) ∷ []) 0 k (omega arith) ∙ as_before k

    new_start : get_or started (length columns + 1) 0 ≡ length rows + 1
    new_start = get_or_push opened (length rows + 1) 0 (length columns + 1) long

    -- the lists, with a column more
    pub new_are : AreColumns (columns ++ j ∷ []) started (rows ++ i ∷ []) (values ++ v ∷ [])
    new_are =
        let columns_long = length_push columns j in
        let starts_long = length_push opened (length rows + 1) in
        let rows_long = length_push rows i in
        let values_long = length_push values v in
        let s = are.same_length in
        record {
          ascending = all_pairs_push (λ c d. c < d) columns j are.ascending later;
          no_starts = λ n. absurd (omega arith);
          one_more_start = λ _. omega arith;
          first = old_start 0 (omega arith) ∙ are.first;
          rising = λ n l. ⊎_elim
              (λ (k : n < length columns).
              let a = old_start n (omega arith) in
              let b = old_start (n + 1) (omega arith) in
              let r = are.rising n k in
              rw (a, b) r)
              (λ (k : length columns ≤ n).
              let same : n ≡ length columns = omega arith in
              let a = old_start n (omega arith) in
              let w = start_within columns starts rows values are n (omega arith) in
              let b : get_or started (n + 1) 0 ≡ length rows + 1 = ap (λ x. get_or started (x + 1) 0) same ∙ new_start in
              omega arith)
              (cases_lt n (length columns));
          last = ap (λ x. get_or started x 0) columns_long ∙ new_start ∙ sym rows_long;
          same_length = omega arith;
        }

    -- they have the entry more
    pub new_entries : all_entries (columns ++ j ∷ []) started (rows ++ i ∷ []) (values ++ v ∷ []) ≡ all_entries columns starts rows values ++ e ∷ []
    unfolding pieces entries_in
    new_entries =
        let f = piece columns starts rows values in
        let g = piece (columns ++ j ∷ []) started (rows ++ i ∷ []) (values ++ v ∷ []) in
        let n = length columns in
        let count : length (columns ++ j ∷ []) ≡ suc n = length_push columns j ∙ omega arith in
        let front : pieces g n ≡ pieces f n = pieces_same g f n (λ k l. kept_piece (columns ++ j ∷ []) started k l (get_or_append_left columns (j ∷ []) 0 k l) (old_start k (omega arith)) (old_start (k + 1) (omega arith))) in
        let begins : get_or started n 0 ≡ length rows = old_start n (omega arith) ∙ are.last in
        let sl = are.same_length in
        let rp : part started (rows ++ i ∷ []) n ≡ i ∷ [] =
        (λ z. slice_range (rows ++ i ∷ []) (begins z) (new_start z)) ∙ range-push rows i (length rows) (length rows) (length rows + 1) (omega arith) refl refl ∙ ap (λ xs. xs ++ i ∷ []) (no_range rows (length rows)) in
        let vp : part started (values ++ v ∷ []) n ≡ v ∷ [] =
        (λ z. slice_range (values ++ v ∷ []) (begins z) (new_start z)) ∙ range-push values v (length rows) (length rows) (length rows + 1) (omega arith) sl refl ∙ ap (λ xs. xs ++ v ∷ []) (no_range values (length rows)) in
        let back : g n ≡ e ∷ [] = (λ z. entries_in (get_or_push columns j 0 n refl z) (rp z) (vp z)) in
        ap (pieces g) count ∙ ap (λ xs. xs ++ g n) front ∙ ap (λ xs. pieces f n ++ xs) back

  -- the entries are in no column after the last one's
  pub after_columns : All (λ d. IsBefore d e) (all_entries columns starts rows values) → (m : ℕ) → length columns ≡ suc m → get_or columns m 0 ≤ j
  unfolding pieces
  after_columns h m count =
      let f = piece columns starts rows values in
      let h' : All (λ d. IsBefore d e) (pieces f m ++ f m) = subst (λ n. All (λ d. IsBefore d e) (pieces f n)) count h in
      first_column (f m) (get_or columns m 0) e (some_entry columns starts rows values are m (omega arith)) (own_columns columns starts rows values are m) (All-back (λ d. IsBefore d e) (pieces f m) (f m) h')

  -- all columns come before that of the entry
  pub all_columns_before : All (λ d. IsBefore d e) (all_entries columns starts rows values) → ((m : ℕ) → length columns ≡ suc m → get_or columns m 0 ≢ j) → All (λ c. c < j) columns
  all_columns_before h other k d l =
      let m = length columns - 1 in
      let count : length columns ≡ suc m = omega arith in
      let at_most = after_columns h m count in
      let ne = other m count in
      ⊎_elim
      (λ (b : k < m). let up : get_or columns k d < get_or columns m d = are.ascending k m d b (omega arith) in let same = get_or_default columns m d 0 (omega arith) in omega arith)
      (λ (b : m ≤ k). let same : k ≡ m = omega arith in let there : get_or columns k d ≡ get_or columns m 0 = get_or_default columns k d 0 l ∙ ap (λ x. get_or columns x 0) same in omega arith)
      (cases_lt k m)

-- the block with one entry more
module _ (s : Arithmetic) (shape : Extent) (columns starts rows values : List ℕ) (is : IsBlock s shape columns starts rows values) (entry : Entry) (inside : IsInside shape entry) (after : All (λ d. IsBefore d entry) (all_entries columns starts rows values)) (value : IsValue s entry.value) (not_zero : entry.value ≢ s.zero) where
  abbrev old : Sparse
  old = block_of shape columns starts rows values

  -- the matrix with the entry
  pub new_matrix : IsMatrix s (with_entry old entry)
  new_matrix = matrix_push s old entry is.matrix inside after value not_zero

  -- an entry more in the last column
  pub same_block : (0 < length columns) × (get_or columns (length columns - 1) 0 ≡ entry.column)
      → IsBlock s shape columns (set starts (length columns) (length rows + 1)) (rows ++ entry.row ∷ []) (values ++ entry.value ∷ [])
      × (block_of shape columns (set starts (length columns) (length rows + 1)) (rows ++ entry.row ∷ []) (values ++ entry.value ∷ []) ≡ with_entry old entry)
  same_block ends =
      let m = length columns - 1 in
      let count : length columns ≡ suc m = let l = ends.0 in omega arith in
      let ls = same_are columns starts rows values is.lists entry.row entry.column entry.value m count ends.1 in
      let es = same_entries columns starts rows values is.lists entry.row entry.column entry.value m count ends.1 in
      let here : block_of shape columns (set starts (suc m) (length rows + 1)) (rows ++ entry.row ∷ []) (values ++ entry.value ∷ []) ≡ with_entry old entry = λ z. record { shape = shape; entries = es z } in
      subst (λ n. IsBlock s shape columns (set starts n (length rows + 1)) (rows ++ entry.row ∷ []) (values ++ entry.value ∷ [])
      × (block_of shape columns (set starts n (length rows + 1)) (rows ++ entry.row ∷ []) (values ++ entry.value ∷ []) ≡ with_entry old entry)) (sym count)
      (record { lists = ls; matrix = subst (IsMatrix s) (sym here) new_matrix }, here)

  -- an entry more in a column of its own
  pub new_block : ((0 < length columns) × (get_or columns (length columns - 1) 0 ≡ entry.column) → ⊥) → (opened : List ℕ) → length opened ≡ length columns + 1 → ((k : ℕ) → get_or opened k 0 ≡ get_or starts k 0)
      → IsBlock s shape (columns ++ entry.column ∷ []) (opened ++ (length rows + 1) ∷ []) (rows ++ entry.row ∷ []) (values ++ entry.value ∷ [])
      × (block_of shape (columns ++ entry.column ∷ []) (opened ++ (length rows + 1) ∷ []) (rows ++ entry.row ∷ []) (values ++ entry.value ∷ []) ≡ with_entry old entry)
  new_block other opened long as_before =
      let later = all_columns_before columns starts rows values is.lists entry.row entry.column entry.value after (λ m count e. let l : length columns - 1 ≡ m = omega arith in other (omega arith, ap (λ x. get_or columns x 0) l ∙ e)) in
      let ls = new_are columns starts rows values is.lists entry.row entry.column entry.value opened long as_before later in
      let es = new_entries columns starts rows values is.lists entry.row entry.column entry.value opened long as_before later in
      let here : block_of shape (columns ++ entry.column ∷ []) (opened ++ (length rows + 1) ∷ []) (rows ++ entry.row ∷ []) (values ++ entry.value ∷ []) ≡ with_entry old entry = λ z. record { shape = shape; entries = es z } in
      (record { lists = ls; matrix = subst (IsMatrix s) (sym here) new_matrix }, here)

same_starts : (starts : List ℕ) (k : ℕ) → get_or (opened starts) k 0 ≡ get_or starts k 0
same_starts [] zero = refl
same_starts [] (suc k) = refl
same_starts (a ∷ rest) k = refl

-- the starts, with the first, are one more than the columns
pub length-opened : (starts : List ℕ) (n : ℕ) → (n ≡ 0 → length starts ≡ 0) → (0 < n → length starts ≡ n + 1) → length (opened starts) ≡ n + 1
length-opened [] zero h k = refl
length-opened [] (suc n) h k = let e = k (omega arith) in absurd (omega arith)
length-opened (a ∷ rest) zero h k = let e = h refl in absurd (omega arith)
length-opened (a ∷ rest) (suc n) h k = k (omega arith)

-- the same, at the value and the lists that the code has
module _ (s : Arithmetic) (shape : Extent) (columns starts rows values : List ℕ) (is : IsBlock s shape columns starts rows values) (m : Sparse) (view : block_of shape columns starts rows values ≡ m) (entry : Entry) (inside : IsInside m.shape entry) (after : All (λ d. IsBefore d entry) m.entries) (value : IsValue s entry.value) (not_zero : entry.value ≢ s.zero) (rs vs : List ℕ) (rows_are : rs ≡ rows ++ entry.row ∷ []) (values_are : vs ≡ values ++ entry.value ∷ []) where
  after' : All (λ d. IsBefore d entry) (all_entries columns starts rows values)
  after' = subst (λ (x : Sparse). All (λ d. IsBefore d entry) x.entries) (sym view) after

  inside' : IsInside shape entry
  inside' = subst (λ (x : Sparse). IsInside x.shape entry) (sym view) inside

  -- an entry more in the last column
  pub pushed_same : (0 < length columns) × (get_or columns (length columns - 1) 0 ≡ entry.column) → (last len : ℕ) → last ≡ length columns → len ≡ length rows → IsBlock s shape columns (set starts last (len + 1)) rs vs × (block_of shape columns (set starts last (len + 1)) rs vs ≡ with_entry m entry)
  pushed_same ends last len p q =
      let b = same_block s shape columns starts rows values is entry inside' after' value not_zero ends in
      rw (rows_are, values_are, p, q) (b.0, b.1 ∙ ap (λ x. with_entry x entry) view)

  -- an entry more in a column of its own
  pub pushed_new : ((0 < length columns) × (get_or columns (length columns - 1) 0 ≡ entry.column) → ⊥)
      → (cs ss : List ℕ) (len : ℕ) → len ≡ length rows → cs ≡ columns ++ entry.column ∷ [] → ss ≡ opened starts ++ (len + 1) ∷ []
      → IsBlock s shape cs ss rs vs × (block_of shape cs ss rs vs ≡ with_entry m entry)
  pushed_new other cs ss len q columns_are starts_are =
      let b = new_block s shape columns starts rows values is entry inside' after' value not_zero other (opened starts) (length-opened starts (length columns) is.lists.no_starts is.lists.one_more_start) (same_starts starts) in
      rw (rows_are, values_are, columns_are, starts_are, q) (b.0, b.1 ∙ ap (λ x. with_entry x entry) view)
