-- The columns of a block from one index up to another, moved.
use Rattle.std.proofs.Common.{◌≡◌, ◌≢◌, ℕ, zero, suc, ◌+◌, ◌-◌, ◌<◌, ◌≤◌, true, false, inl, inr, Bool, List, [], ◌∷◌, ◌++◌, length, map, filter, take, drop, get_or, sym, refl, ap, ◌∙◌, subst, arith, ⊎_elim, append-nil}
use Rattle.std.specs.Prelude.{All, AllPairs, slice_range}
use Rattle.std.proofs.lemmas.Bool.{cases_Bool, cases_eq, cases_lt}
use Rattle.std.proofs.lemmas.Bool.Decides.{nat_tests}
use Rattle.std.proofs.lemmas.List.{nil_from_length, get_or-map, length-map, map-append, drop-map, drop-take, drop-drop, take_all}
use Rattle.std.proofs.lemmas.List.Elements.{All-head, All-tail, All-map, All-filter, All-weaker, All-get_or, filter-append, filter_passes}
use Rattle.std.proofs.lemmas.List.Kept.{AllPairs-filter}
use Rattle.std.proofs.lemmas.Simd.{map-map}
use Rattle.cb_semirings.specs.Arithmetic.{Arithmetic, IsValue}
use Rattle.cb_matrix.specs.declared.Entry.{Entry}
use Rattle.cb_matrix.specs.Sparse.{Sparse, Extent, IsMatrix, IsBefore, IsInside}
use Rattle.cb_dcsc.specs.Compressed.{AreColumns, IsBlock, all_entries, block_of, entries_in, opened, part, piece, pieces}
use Rattle.cb_dcsc.specs.Columns.{with_entries, is_in_columns, moved_to, moved_columns}
use Rattle.cb_dcsc.proofs.Appended.{matrix_append}
use Rattle.cb_dcsc.proofs.ColumnEntries.{pieces-all, pieces_same}
use Rattle.cb_dcsc.proofs.Held.{own_columns, up_to, columns_are, start_within}
use Rattle.cb_dcsc.proofs.NumbersOfColumns.{columns_all}
use Rattle.cb_dcsc.proofs.LaterColumns.{appended}
use Rattle.cb_dcsc.proofs.Ranges.{range_of_range, map-range, get_or-range, length-range}

-- ---- which entries are in the columns
first_of : (cols : ℕ × ℕ) (e : Entry) → is_in_columns cols e ≡ true → cols.0 ≤ e.column
first_of cols e h = grind (arith, nat_tests)

end_of : (cols : ℕ × ℕ) (e : Entry) → is_in_columns cols e ≡ true → e.column < cols.1
end_of cols e h = grind (arith, nat_tests)

is_in : (cols : ℕ × ℕ) (e : Entry) → cols.0 ≤ e.column → e.column < cols.1 → is_in_columns cols e ≡ true
is_in cols e a b = grind (arith, nat_tests)

is_below : (cols : ℕ × ℕ) (e : Entry) → e.column < cols.0 → is_in_columns cols e ≡ false
is_below cols e l = ⊎_elim (λ t. let k = first_of cols e t in absurd (omega arith)) (λ f. f) (cases_Bool (is_in_columns cols e))

is_past : (cols : ℕ × ℕ) (e : Entry) → cols.1 ≤ e.column → is_in_columns cols e ≡ false
is_past cols e l = ⊎_elim (λ t. let k = end_of cols e t in absurd (omega arith)) (λ f. f) (cases_Bool (is_in_columns cols e))

none_pass : (p : Entry → Bool) (es : List Entry) → All (λ e. p e ≡ false) es → filter p es ≡ []
none_pass p [] h = refl
none_pass p (e ∷ es) h = let f = All-head (λ e. p e ≡ false) e es h in rw f (none_pass p es (All-tail (λ e. p e ≡ false) e es h))

all_pass : (p : Entry → Bool) (es : List Entry) → All (λ e. p e ≡ true) es → filter p es ≡ es
all_pass p [] h = refl
all_pass p (e ∷ es) h = let t = All-head (λ e. p e ≡ true) e es h in rw t (ap (λ xs. e ∷ xs) (all_pass p es (All-tail (λ e. p e ≡ true) e es h)))

-- ---- what is moved
blank : Entry
blank = record { row = 0; column = 0; value = 0 }

-- entries of these columns stay in order
moved_in_order : (cols corner : ℕ × ℕ) (es : List Entry) → AllPairs IsBefore es → AllPairs IsBefore (moved_columns cols corner es)
moved_in_order cols corner es up i j d l m =
    let mv = moved_to corner cols.0 in
    let xs = filter (is_in_columns cols) es in
    let long = length-map xs mv in
    let inside : j < length xs = omega arith in
    let here : i < length xs = omega arith in
    let x : Entry = get_or xs i blank in
    let y : Entry = get_or xs j blank in
    let first = first_of cols x (filter_passes (is_in_columns cols) es i blank here) in
    let less = AllPairs-filter IsBefore (is_in_columns cols) es up i j blank l inside in
    let moved : IsBefore (mv x) (mv y) = ⊎_elim (λ (k : x.column < y.column). inl (omega arith)) (λ (k : (x.column ≡ y.column) × (x.row < y.row)). let p = k.0 in let q = k.1 in inr (ap (λ n. n - cols.0 + corner.1) p, omega arith)) less in
    rw (get_or-map mv xs i blank d here, get_or-map mv xs j blank d inside) moved

-- what holds of each of them, once it is moved
moved_all : (P Q : Entry → Type 0) (cols corner : ℕ × ℕ) (es : List Entry) → ((e : Entry) → cols.0 ≤ e.column → e.column < cols.1 → Q e → P (moved_to corner cols.0 e)) → All Q es → All P (moved_columns cols corner es)
moved_all P Q cols corner es f h =
    let xs = filter (is_in_columns cols) es in
    All-map P (moved_to corner cols.0) xs
    (λ k d l.
    let t = filter_passes (is_in_columns cols) es k d l in
    f (get_or xs k d) (first_of cols (get_or xs k d) t) (end_of cols (get_or xs k d) t) (All-filter (is_in_columns cols) Q es h k d l))

-- they make a matrix with entries in front of the corner
pub moved_matrix : (s : Arithmetic) (m other : Sparse) (cols corner : ℕ × ℕ) → IsMatrix s m → IsMatrix s other → corner.0 + other.shape.rows ≤ m.shape.rows → corner.1 + (cols.1 - cols.0) ≤ m.shape.cols
    → All (λ e. e.column < corner.1) m.entries → IsMatrix s (with_entries m (moved_columns cols corner other.entries))
moved_matrix s m other cols corner is its rows columns before =
    let es = other.entries in
    matrix_append s m (moved_columns cols corner es) is (record {
      ascending = moved_in_order cols corner es its.ascending;
      inside = moved_all (IsInside m.shape) (IsInside other.shape) cols corner es (λ e a b k. let row = k.0 in (omega arith, omega arith)) its.inside;
      values = moved_all (λ e. IsValue s e.value) (λ e. IsValue s e.value) cols corner es (λ e a b k. k) its.values;
      not_zero = moved_all (λ e. e.value ≢ s.zero) (λ e. e.value ≢ s.zero) cols corner es (λ e a b k. k) its.not_zero;
    })
    (All-weaker (λ e. e.column < corner.1) (λ d. All (IsBefore d) (moved_columns cols corner es))
    (λ d l. moved_all (IsBefore d) (λ e. e ≡ e) cols corner es (λ e a b k. inl (omega arith)) (λ k d l. refl)) m.entries before)

-- the entries of a moved column
moved_column : (corner : ℕ × ℕ) (first j : ℕ) (is vs : List ℕ) → entries_in (j - first + corner.1) (map (λ i. i - 0 + corner.0) is) vs ≡ map (moved_to corner first) (entries_in j is vs)
unfolding entries_in
moved_column corner first j [] vs = refl
moved_column corner first j (i ∷ is) [] = refl
moved_column corner first j (i ∷ is) (v ∷ vs) =
    let row : i - 0 + corner.0 ≡ i + corner.0 = omega arith in
    let rest = moved_column corner first j is vs in
    λ t. record { row = row t; column = j - first + corner.1; value = v } ∷ rest t

-- one column after another
map-pieces : (f : Entry → Entry) (g : ℕ → List Entry) (n : ℕ) → pieces (λ k. map f (g k)) n ≡ map f (pieces g n)
unfolding pieces
map-pieces f g zero = refl
map-pieces f g (suc n) = ap (λ es. es ++ map f (g n)) (map-pieces f g n) ∙ sym (map-append f (pieces g n) (g n))

-- where the columns start, in order
pub starts_rise : (ct st rt vt : List ℕ) → AreColumns ct st rt vt → (i j : ℕ) → i ≤ j → j ≤ length ct → get_or st i 0 ≤ get_or st j 0
starts_rise ct st rt vt are i j l m =
    let h = up_to ct st rt vt are i (j - i) (omega arith) in
    let e : i + (j - i) ≡ j = omega arith in
    rw e at h

-- ---- the lists of the columns from index a up to index b
module _ (ct st rt vt : List ℕ) (are : AreColumns ct st rt vt) (a b : ℕ) (some : a < b) (within : b ≤ length ct) (cols corner : ℕ × ℕ) where
  abbrev its : ℕ → List Entry
  its k = piece ct st rt vt k

  abbrev start : ℕ
  start = get_or st a 0

  abbrev stop : ℕ
  stop = get_or st b 0

  abbrev moved_c : List ℕ
  moved_c = map (λ c. c - cols.0 + corner.1) (slice_range ct a b)

  abbrev moved_s : List ℕ
  moved_s = map (λ e. e - get_or st a 0) (slice_range st a (b + 1))

  abbrev moved_r : List ℕ
  moved_r = map (λ i. i - 0 + corner.0) (slice_range rt (get_or st a 0) (get_or st b 0))

  abbrev moved_v : List ℕ
  moved_v = slice_range vt (get_or st a 0) (get_or st b 0)

  column_at : (k d : ℕ) → k < b - a → get_or moved_c k d ≡ get_or ct (a + k) 0 - cols.0 + corner.1
  column_at k d l =
      let long = length-range ct a b within in
      let here : k < length (slice_range ct a b) = omega arith in
      get_or-map (λ c. c - cols.0 + corner.1) (slice_range ct a b) k 0 d here ∙ ap (λ c. c - cols.0 + corner.1) (get_or-range ct a b k 0 l)

  count_starts : length st ≡ length ct + 1
  count_starts = are.one_more_start (omega arith)

  start_at : (k : ℕ) → k ≤ b - a → get_or moved_s k 0 ≡ get_or st (a + k) 0 - get_or st a 0
  start_at k l =
      let count = count_starts in
      let long = length-range st a (b + 1) (omega arith) in
      let here : k < length (slice_range st a (b + 1)) = omega arith in
      get_or-map (λ e. e - get_or st a 0) (slice_range st a (b + 1)) k 0 0 here ∙ ap (λ e. e - get_or st a 0) (get_or-range st a (b + 1) k 0 (omega arith))

  stop_within : get_or st b 0 ≤ length rt
  stop_within = start_within ct st rt vt are b within

  -- a part of the range, within the range
  part_at : (xs : List ℕ) (k : ℕ) → k < b - a → slice_range (slice_range xs (get_or st a 0) (get_or st b 0)) (get_or moved_s k 0) (get_or moved_s (k + 1) 0) ≡ part st xs (a + k)
  part_at xs k l =
      let x = get_or st (a + k) 0 in
      let y = get_or st (a + k + 1) 0 in
      let same : a + (k + 1) ≡ a + k + 1 = omega arith in
      let p = start_at k (omega arith) in
      let q : get_or moved_s (k + 1) 0 ≡ y - get_or st a 0 = start_at (k + 1) (omega arith) ∙ ap (λ i. get_or st i 0 - get_or st a 0) same in
      let low = starts_rise ct st rt vt are a (a + k) (omega arith) (omega arith) in
      let up = are.rising (a + k) (omega arith) in
      let high = starts_rise ct st rt vt are (a + k + 1) b (omega arith) within in
      let begin : get_or st a 0 + (x - get_or st a 0) ≡ x = omega arith in
      let end : get_or st a 0 + (y - get_or st a 0) ≡ y = omega arith in
      (λ t. slice_range (slice_range xs (get_or st a 0) (get_or st b 0)) (p t) (q t))
      ∙ range_of_range xs (get_or st a 0) (get_or st b 0) (x - get_or st a 0) (y - get_or st a 0) (omega arith) (omega arith)
      ∙ (λ t. slice_range xs (begin t) (end t))

  -- are those of the moved columns
  piece_at : (k : ℕ) → k < b - a → piece moved_c moved_s moved_r moved_v k ≡ map (moved_to corner cols.0) (its (a + k))
  piece_at k l =
      let column = column_at k 0 l in
      let rows : part moved_s moved_r k ≡ map (λ i. i - 0 + corner.0) (part st rt (a + k)) =
      map-range (λ i. i - 0 + corner.0) (slice_range rt (get_or st a 0) (get_or st b 0)) (get_or moved_s k 0) (get_or moved_s (k + 1) 0) ∙ ap (map (λ i. i - 0 + corner.0)) (part_at rt k l) in
      let values = part_at vt k l in
      (λ t. entries_in (column t) (rows t) (values t)) ∙ moved_column corner cols.0 (get_or ct (a + k) 0) (part st rt (a + k)) (part st vt (a + k))

  pub count_columns : length moved_c ≡ b - a
  count_columns = length-map (slice_range ct a b) (λ c. c - cols.0 + corner.1) ∙ length-range ct a b within

  module _ (below : (k : ℕ) → k < a → get_or ct k 0 < cols.0) (from : (k : ℕ) → a ≤ k → k < length ct → cols.0 ≤ get_or ct k 0)
      (before : (k : ℕ) → k < b → get_or ct k 0 < cols.1) (past : (k : ℕ) → b ≤ k → k < length ct → cols.1 ≤ get_or ct k 0) where
    -- are lists of columns
    pub moved_lists : AreColumns moved_c moved_s moved_r moved_v
    moved_lists =
        let count = count_starts in
        let columns = count_columns in
        let starts : length moved_s ≡ b + 1 - a = length-map (slice_range st a (b + 1)) (λ e. e - get_or st a 0) ∙ length-range st a (b + 1) (omega arith) in
        let high = stop_within in
        let low = starts_rise ct st rt vt are a b (omega arith) within in
        let rows : length moved_r ≡ get_or st b 0 - get_or st a 0 = length-map (slice_range rt (get_or st a 0) (get_or st b 0)) (λ i. i - 0 + corner.0) ∙ length-range rt (get_or st a 0) (get_or st b 0) high in
        let same = are.same_length in
        let values : length moved_v ≡ get_or st b 0 - get_or st a 0 = length-range vt (get_or st a 0) (get_or st b 0) (omega arith) in
        record {
          ascending = λ i j d l m.
              let less : get_or ct (a + i) 0 < get_or ct (a + j) 0 = are.ascending (a + i) (a + j) 0 (omega arith) (omega arith) in
              let first = from (a + i) (omega arith) (omega arith) in
              rw (column_at i d (omega arith), column_at j d (omega arith)) (omega arith);
          no_starts = λ z. absurd (omega arith);
          one_more_start = λ _. omega arith;
          first = let e : a + 0 ≡ a = omega arith in start_at 0 (omega arith) ∙ ap (λ i. get_or st i 0 - get_or st a 0) e ∙ (omega arith);
          rising = λ k l.
              let up = are.rising (a + k) (omega arith) in
              let more = starts_rise ct st rt vt are a (a + k) (omega arith) (omega arith) in
              let e : a + (k + 1) ≡ a + k + 1 = omega arith in
              let p = start_at k (omega arith) in
              let q : get_or moved_s (k + 1) 0 ≡ get_or st (a + k + 1) 0 - get_or st a 0 = start_at (k + 1) (omega arith) ∙ ap (λ i. get_or st i 0 - get_or st a 0) e in
              omega (arith, p, q);
          last = let e : a + (b - a) ≡ b = omega arith in ap (λ k. get_or moved_s k 0) columns ∙ start_at (b - a) (omega arith) ∙ ap (λ i. get_or st i 0 - get_or st a 0) e ∙ sym rows;
          same_length = values ∙ sym rows;
        }

    none_first : (n : ℕ) → n ≤ a → filter (is_in_columns cols) (pieces its n) ≡ []
    none_first n l =
        none_pass (is_in_columns cols) (pieces its n)
        (pieces-all (λ e. is_in_columns cols e ≡ false) its n (λ k m.
        All-weaker (λ e. e.column ≡ get_or ct k 0) (λ e. is_in_columns cols e ≡ false) (λ e p. let low = below k (omega arith) in is_below cols e (omega arith)) (its k) (own_columns ct st rt vt are k)))

    all_middle : (k : ℕ) → a + k ≤ b → filter (is_in_columns cols) (pieces its (a + k)) ≡ pieces (λ i. its (a + i)) k
    unfolding pieces
    all_middle zero l = none_first (a + 0) (omega arith)
    all_middle (suc k) l =
        let next : a + suc k ≡ suc (a + k) = omega arith in
        let own = all_pass (is_in_columns cols) (its (a + k)) (All-weaker (λ e. e.column ≡ get_or ct (a + k) 0) (λ e. is_in_columns cols e ≡ true)
        (λ e p. let low = from (a + k) (omega arith) (omega arith) in let high = before (a + k) (omega arith) in is_in cols e (omega arith) (omega arith)) (its (a + k)) (own_columns ct st rt vt are (a + k))) in
        ap (λ n. filter (is_in_columns cols) (pieces its n)) next
        ∙ filter-append (is_in_columns cols) (pieces its (a + k)) (its (a + k))
        ∙ (λ t. all_middle k (omega arith) t ++ own t)

    none_last : (k : ℕ) → b + k ≤ length ct → filter (is_in_columns cols) (pieces its (b + k)) ≡ filter (is_in_columns cols) (pieces its b)
    unfolding pieces
    none_last zero l = let e : b + 0 ≡ b = omega arith in ap (λ n. filter (is_in_columns cols) (pieces its n)) e
    none_last (suc k) l =
        let next : b + suc k ≡ suc (b + k) = omega arith in
        let none = none_pass (is_in_columns cols) (its (b + k)) (All-weaker (λ e. e.column ≡ get_or ct (b + k) 0) (λ e. is_in_columns cols e ≡ false)
        (λ e p. let high = past (b + k) (omega arith) (omega arith) in is_past cols e (omega arith)) (its (b + k)) (own_columns ct st rt vt are (b + k))) in
        ap (λ n. filter (is_in_columns cols) (pieces its n)) next
        ∙ filter-append (is_in_columns cols) (pieces its (b + k)) (its (b + k))
        ∙ (λ t. none_last k (omega arith) t ++ none t)
        ∙ append-nil (filter (is_in_columns cols) (pieces its b))

    -- and these are the entries in the columns, moved
    pub moved_entries_are : all_entries moved_c moved_s moved_r moved_v ≡ moved_columns cols corner (all_entries ct st rt vt)
    moved_entries_are =
        let mv = moved_to corner cols.0 in
        let k = b - a in
        let to : a + k ≡ b = omega arith in
        let all : b + (length ct - b) ≡ length ct = omega arith in
        let kept : filter (is_in_columns cols) (all_entries ct st rt vt) ≡ pieces (λ i. its (a + i)) k =
        ap (λ n. filter (is_in_columns cols) (pieces its n)) (sym all) ∙ none_last (length ct - b) (omega arith) ∙ ap (λ n. filter (is_in_columns cols) (pieces its n)) (sym to) ∙ all_middle k (omega arith) in
        ap (pieces (piece moved_c moved_s moved_r moved_v)) count_columns
        ∙ pieces_same (piece moved_c moved_s moved_r moved_v) (λ i. map mv (its (a + i))) k piece_at
        ∙ map-pieces mv (λ i. its (a + i)) k
        ∙ ap (map mv) (sym kept)

  -- the starts after the first
  pub later_starts : (n : ℕ) → map (λ e. e + n) (drop 1 moved_s) ≡ map (λ e. e - get_or st a 0 + n) (slice_range st (a + 1) (b + 1))
  later_starts n =
      let f : ℕ → ℕ = λ e. e - get_or st a 0 in
      let more : b + 1 - a ≡ 1 + (b - a) = omega arith in
      let size : b - a ≡ b + 1 - (a + 1) = omega arith in
      ap (map (λ e. e + n)) (drop-map f 1 (slice_range st a (b + 1)))
      ∙ map-map (λ e. e + n) f (drop 1 (slice_range st a (b + 1)))
      ∙ ap (λ xs. map (λ e. f e + n) xs) (ap (λ k. drop 1 (take k (drop a st))) more ∙ drop-take 1 (b - a) (drop a st) ∙ ap (take (b - a)) (drop-drop 1 a st) ∙ ap (λ k. take k (drop (a + 1) st)) size)

opened_some : (xs : List ℕ) → 0 < length xs → opened xs ≡ xs
opened_some [] h = absurd (omega arith)
opened_some (x ∷ xs) h = refl

zero_first : (xs : List ℕ) → 0 < length xs → get_or xs 0 0 ≡ 0 → 0 ∷ drop 1 xs ≡ xs
zero_first [] l e = absurd (omega arith)
zero_first (x ∷ xs) l e = ap (λ y. y ∷ xs) (sym e)

no_entries : (columns starts rows values : List ℕ) → columns ≡ [] → all_entries columns starts rows values ≡ []
unfolding pieces
no_entries columns starts rows values e = ap (λ cs. pieces (piece columns starts rows values) (length cs)) e

-- the same, behind the lists of a block whose columns are all before the corner
pub columns_appended : (s : Arithmetic) (shape : Extent) (cs ss rs vs : List ℕ) → IsBlock s shape cs ss rs vs → (m : Sparse) → block_of shape cs ss rs vs ≡ m
    → (outer : Extent) (ct st rt vt : List ℕ) → IsBlock s outer ct st rt vt → (other : Sparse) → block_of outer ct st rt vt ≡ other
    → (cols corner : ℕ × ℕ) → corner.0 + other.shape.rows ≤ m.shape.rows → corner.1 + (cols.1 - cols.0) ≤ m.shape.cols → All (λ e. e.column < corner.1) m.entries
    → (a b : ℕ) → a < b → b ≤ length ct → ((k : ℕ) → k < a → get_or ct k 0 < cols.0) → ((k : ℕ) → a ≤ k → k < length ct → cols.0 ≤ get_or ct k 0)
    → ((k : ℕ) → k < b → get_or ct k 0 < cols.1) → ((k : ℕ) → b ≤ k → k < length ct → cols.1 ≤ get_or ct k 0)
    → (C S R V : List ℕ) → C ≡ cs ++ map (λ c. c - cols.0 + corner.1) (slice_range ct a b) → S ≡ opened ss ++ map (λ e. e - get_or st a 0 + length rs) (slice_range st (a + 1) (b + 1))
    → R ≡ rs ++ map (λ i. i - 0 + corner.0) (slice_range rt (get_or st a 0) (get_or st b 0)) → V ≡ vs ++ slice_range vt (get_or st a 0) (get_or st b 0)
    → IsBlock s shape C S R V × (block_of shape C S R V ≡ with_entries m (moved_columns cols corner other.entries))
columns_appended s shape cs ss rs vs is m view outer ct st rt vt its other view' cols corner rows columns ahead a b some within below from before past C S R V p q r t =
    let are = its.lists in
    let mc = map (λ c. c - cols.0 + corner.1) (slice_range ct a b) in
    let ms = map (λ e. e - get_or st a 0) (slice_range st a (b + 1)) in
    let mr = map (λ i. i - 0 + corner.0) (slice_range rt (get_or st a 0) (get_or st b 0)) in
    let mv = slice_range vt (get_or st a 0) (get_or st b 0) in
    let lists : AreColumns mc ms mr mv = moved_lists ct st rt vt are a b some within cols corner below from before past in
    let es = moved_columns cols corner other.entries in
    let entries : all_entries mc ms mr mv ≡ es = moved_entries_are ct st rt vt are a b some within cols corner below from before past ∙ ap (λ (x : Sparse). moved_columns cols corner x.entries) view' in
    let whole : IsMatrix s (with_entries m es) = moved_matrix s m other cols corner (subst (IsMatrix s) view is.matrix) (subst (IsMatrix s) view' its.matrix) rows columns ahead in
    let whole' : IsMatrix s (with_entries m (all_entries mc ms mr mv)) = subst (λ (xs : List Entry). IsMatrix s (with_entries m xs)) (sym entries) whole in
    let count : length mc ≡ b - a = count_columns ct st rt vt are a b some within cols corner in
    let more : 0 < length mc = omega (arith, count, some) in
    let starts = lists.one_more_start more in
    let tail = later_starts ct st rt vt are a b some within cols corner (length rs) in
    ⊎_elim
    (λ (z : length cs ≡ 0).
    let last = is.lists.last in
    let same = is.lists.same_length in
    let no_cs : cs ≡ [] = nil_from_length cs z in
    let no_ss : ss ≡ [] = nil_from_length ss (is.lists.no_starts z) in
    let none : length rs ≡ 0 = sym last ∙ ap (λ xs. get_or xs (length cs) 0) no_ss in
    let no_rs : rs ≡ [] = nil_from_length rs none in
    let no_vs : vs ≡ [] = nil_from_length vs (same ∙ none) in
    let no_es : m.entries ≡ [] = sym (ap (λ (x : Sparse). x.entries) view) ∙ no_entries cs ss rs vs no_cs in
    let cs_is : C ≡ mc = p ∙ ap (λ xs. xs ++ mc) no_cs in
    let rs_is : R ≡ mr = r ∙ ap (λ xs. xs ++ mr) no_rs in
    let vs_is : V ≡ mv = t ∙ ap (λ xs. xs ++ mv) no_vs in
    let nothing : (e : ℕ) → e + length rs ≡ e = λ e. omega (arith, none) in
    let ss_is : S ≡ ms =
    q ∙ ap (λ xs. opened xs ++ map (λ e. e - get_or st a 0 + length rs) (slice_range st (a + 1) (b + 1))) no_ss ∙ ap (λ xs. 0 ∷ xs) (sym tail)
    ∙ (λ i. 0 ∷ map (λ e. nothing e i) (drop 1 ms)) ∙ ap (λ xs. 0 ∷ xs) (map_same (drop 1 ms)) ∙ zero_first ms (omega (arith, starts)) lists.first in
    let shapes : m.shape ≡ shape = ap (λ (x : Sparse). x.shape) (sym view) in
    let all : with_entries m (all_entries mc ms mr mv) ≡ block_of shape mc ms mr mv = λ i. record { shape = shapes i; entries = no_es i ++ all_entries mc ms mr mv } in
    let result : IsBlock s shape mc ms mr mv × (block_of shape mc ms mr mv ≡ with_entries m es) =
    (record { lists = lists; matrix = subst (IsMatrix s) all whole' }, sym all ∙ ap (with_entries m) entries) in
    rw (cs_is, ss_is, rs_is, vs_is) result)
    (λ (n : length cs ≡ 0 → ⊥).
    let ne : length cs ≢ 0 = n in
    let has : 0 < length cs = omega arith in
    let longer = is.lists.one_more_start has in
    let named = columns_are cs ss rs vs m.entries is.lists (ap (λ (x : Sparse). x.entries) view) in
    let low : All (λ c. c < corner.1) cs = subst (All (λ c. c < corner.1)) (sym named) (columns_all (λ c. c < corner.1) m.entries ahead) in
    let last : get_or cs (length cs - 1) 0 < corner.1 = All-get_or (λ c. c < corner.1) cs (length cs - 1) 0 (omega arith) low in
    let first = column_at ct st rt vt are a b some within cols corner 0 0 (omega arith) in
    let new : (0 < length cs) × (get_or cs (length cs - 1) 0 ≡ get_or mc 0 0) → ⊥ = λ e. let same = e.1 in omega (arith, last, first, same) in
    let front : opened ss ≡ take (length ss - 0) ss = opened_some ss (omega (arith, longer)) ∙ sym (take_all (length ss - 0) ss (omega arith)) in
    let starts_are : S ≡ take (length ss - 0) ss ++ map (λ e. e + length rs) (drop 1 ms) = q ∙ (λ i. front i ++ sym tail i) in
    let all = appended s shape cs ss rs vs is m view mc ms mr mv lists has more whole' 0 (inr (refl, new)) C S R V p starts_are r t in
    (all.0, all.1 ∙ ap (with_entries m) entries))
    (cases_eq (length cs) 0)
  where
    map_same : (xs : List ℕ) → map (λ e. e) xs ≡ xs
    map_same [] = refl
    map_same (x ∷ xs) = ap (λ ys. x ∷ ys) (map_same xs)

-- nothing is in no columns
pub no_columns : (s : Arithmetic) (shape : Extent) (ct st rt vt : List ℕ) → IsBlock s shape ct st rt vt → (m other : Sparse) → block_of shape ct st rt vt ≡ other → (cols corner : ℕ × ℕ) (a b : ℕ) → b ≤ a → a ≤ length ct
    → ((k : ℕ) → k < a → get_or ct k 0 < cols.0) → ((k : ℕ) → b ≤ k → k < length ct → cols.1 ≤ get_or ct k 0) → m ≡ with_entries m (moved_columns cols corner other.entries)
no_columns s shape ct st rt vt is m other view cols corner a b l within below past =
    let its : ℕ → List Entry = λ k. piece ct st rt vt k in
    let none : filter (is_in_columns cols) (pieces its (length ct)) ≡ [] =
    none_pass (is_in_columns cols) (pieces its (length ct))
    (pieces-all (λ e. is_in_columns cols e ≡ false) its (length ct) (λ k inside.
    All-weaker (λ e. e.column ≡ get_or ct k 0) (λ e. is_in_columns cols e ≡ false)
    (λ e p. ⊎_elim (λ (h : k < a). let low = below k h in is_below cols e (omega arith)) (λ (h : a ≤ k). let high = past k (omega arith) inside in is_past cols e (omega arith)) (cases_lt k a))
    (its k) (own_columns ct st rt vt is.lists k))) in
    let all : moved_columns cols corner other.entries ≡ [] = ap (λ (x : Sparse). moved_columns cols corner x.entries) (sym view) ∙ ap (map (moved_to corner cols.0)) none in
    λ i. record { shape = m.shape; entries = (sym (append-nil m.entries) ∙ ap (λ es. m.entries ++ es) (sym all)) i }
