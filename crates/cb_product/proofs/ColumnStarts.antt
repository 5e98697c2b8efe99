-- Where the entries of each column start, in a list of entries by column and then by row.
use Rattle.std.proofs.Common.{◌≡◌, ◌≢◌, ℕ, ◌+◌, ◌-◌, ◌<◌, ◌≤◌, true, false, cond, List, [], ◌∷◌, ◌++◌, length, take, drop, get_or, replicate, sym, refl, ap, ◌∙◌, ⊎_elim, arith, subst, length-take, length-drop, length-append, inl, inr, ◌⊎◌}
use Rattle.std.specs.Prelude.{All, AllPairs, Contains, slice_range, ◌==◌}
use Rattle.std.proofs.lemmas.Bool.{cases_lt, eqb-true, eqb-false}
use Rattle.std.proofs.lemmas.List.{length-replicate, append-nil, get_or-take, get_or-drop, get_or_default, get_or_append_left, get_or-append_right, get_or-replicate, take_all, take-append-drop, drop-drop}
use Rattle.std.proofs.lemmas.List.Elements.{All-nil, All-cons, All-weaker, Contains-get_or, Contains-append_right, filter-append, filter_passes}
use Rattle.cb_matrix.specs.declared.Entry.{Entry}
use Rattle.cb_matrix.specs.Sparse.{Sparse, IsBefore}
use Rattle.cb_dcsc.specs.Columns.{in_column}
use Rattle.cb_dcsc.proofs.ColumnEntries.{in_column-all, in_column-none}
use Rattle.cb_product.specs.ColumnStarts.{AreColumnStarts}

-- the entries before a place are those in columns before j
pub record IsStart (es : List Entry) (j place : ℕ) : Type 0 where
  pub within : place ≤ length es
  pub before : (k : ℕ) (d : Entry) → k < place → (get_or es k d).column < j
  pub after : (k : ℕ) (d : Entry) → place ≤ k → k < length es → j ≤ (get_or es k d).column

-- ---- slices
range_entry : (es : List Entry) (a b k : ℕ) (d : Entry) → a + k < b → get_or (slice_range es a b) k d ≡ get_or es (a + k) d
range_entry es a b k d l = get_or-take (b - a) (drop a es) k d (omega arith) ∙ get_or-drop a es k d

range_long : (es : List Entry) (a b : ℕ) → b ≤ length es → length (slice_range es a b) ≡ b - a
range_long es a b l = simp (length-take, length-drop) (omega arith)

front_long : (es : List Entry) (a : ℕ) → a ≤ length es → length (take a es) ≡ a
front_long es a l = simp length-take (omega arith)

split : (es : List Entry) (a b : ℕ) → a ≤ b → es ≡ take a es ++ (slice_range es a b ++ drop b es)
split es a b l =
    let e : a + (b - a) ≡ b = omega arith in
    sym (take-append-drop a es)
    ∙ ap (λ xs. take a es ++ xs) (sym (take-append-drop (b - a) (drop a es)) ∙ ap (λ xs. slice_range es a b ++ xs) (drop-drop (b - a) a es ∙ ap (λ n. drop n es) e))

-- ---- from a column's start up to the next
-- the next column starts no earlier
pub starts_rise : (es : List Entry) (j a b : ℕ) → IsStart es j a → IsStart es (j + 1) b → a ≤ b
starts_rise es j a b p q =
    ⊎_elim
    (λ (l : b < a).
    let d : Entry = record { row = 0; column = 0; value = 0 } in
    let w = p.within in
    let x = p.before b d l in
    let y = q.after b d (omega arith) (omega arith) in
    absurd (omega arith))
    (λ (l : a ≤ b). l)
    (cases_lt b a)

-- the entries from a column's start up to the next start are the column's entries
pub column_from_starts : (es : List Entry) (j a b : ℕ) → IsStart es j a → IsStart es (j + 1) b → slice_range es a b ≡ in_column j es
column_from_starts es j a b p q =
    let order = starts_rise es j a b p q in
    let w = q.within in
    let front = front_long es a (omega arith) in
    let long = range_long es a b w in
    let rest : length (drop b es) ≡ length es - b = length-drop b es in
    let before : in_column j (take a es) ≡ [] = in_column-none j (take a es) (λ k d l.
    let e = ap (λ (x : Entry). x.column) (get_or-take a es k d (omega arith)) in
    let x = p.before k d (omega arith) in
    omega arith) in
    let here : in_column j (slice_range es a b) ≡ slice_range es a b = in_column-all j (slice_range es a b) (λ k d l.
    let e = ap (λ (x : Entry). x.column) (range_entry es a b k d (omega arith)) in
    let x = p.after (a + k) d (omega arith) (omega arith) in
    let y = q.before (a + k) d (omega arith) in
    omega arith) in
    let after : in_column j (drop b es) ≡ [] = in_column-none j (drop b es) (λ k d l.
    let e = ap (λ (x : Entry). x.column) (get_or-drop b es k d) in
    let x = q.after (b + k) d (omega arith) (omega arith) in
    omega arith) in
    sym (
    ap (in_column j) (split es a b order)
    ∙ filter-append (λ e. e.column == j) (take a es) (slice_range es a b ++ drop b es)
    ∙ ap (λ xs. xs ++ in_column j (slice_range es a b ++ drop b es)) before
    ∙ filter-append (λ e. e.column == j) (slice_range es a b) (drop b es)
    ∙ ap (λ xs. in_column j (slice_range es a b) ++ xs) after
    ∙ append-nil (in_column j (slice_range es a b))
    ∙ here)

-- ---- where a column that has entries starts
-- an entry in column j is among the entries of column j
among : (j : ℕ) (es : List Entry) → All (λ x. x.column ≡ j → Contains (in_column j es) x) es
among j [] = All-nil (λ x. x.column ≡ j → Contains (in_column j []) x)
among j (e ∷ es) =
    let rest = among j es in
    elim (e.column == j) as (λ b. (e.column == j) ≡ b → All (λ x. x.column ≡ j → Contains (cond b (e ∷ in_column j es) (in_column j es)) x) (e ∷ es)) [
      | true ↦ λ t. All-cons (λ x. x.column ≡ j → Contains (e ∷ in_column j es) x) e es (λ _. Contains-get_or (e ∷ in_column j es) 0 e (omega arith))
          (All-weaker (λ x. x.column ≡ j → Contains (in_column j es) x) (λ x. x.column ≡ j → Contains (e ∷ in_column j es) x) (λ x h same. Contains-append_right (e ∷ []) (in_column j es) x (h same)) es rest)
      | false ↦ λ f. All-cons (λ x. x.column ≡ j → Contains (in_column j es) x) e es (λ same. absurd (eqb-false e.column j f same)) rest
    ] refl

not_before_itself : (x : Entry) → IsBefore x x → ⊥
not_before_itself x h = ⊎_elim (λ l. absurd (omega arith)) (λ l. let less = l.1 in absurd (omega arith)) h

module _ (es : List Entry) (up : AllPairs IsBefore es) (j a b : ℕ) (some : a < b) (within : b ≤ length es) (are : slice_range es a b ≡ in_column j es) where
  own : (d : Entry) → (get_or es a d).column ≡ j
  own d =
      let long = range_long es a b within in
      let passes : ((get_or (slice_range es a b) 0 d).column == j) ≡ true = subst (All (λ (x : Entry). (x.column == j) ≡ true)) (sym are) (filter_passes (λ (x : Entry). x.column == j) es) 0 d (omega arith) in
      let e : a + 0 ≡ a = omega arith in
      ap (λ (x : Entry). x.column) (sym (range_entry es a b 0 d (omega arith) ∙ ap (λ k. get_or es k d) e)) ∙ eqb-true _ j passes

  none_earlier : (k : ℕ) (d : Entry) → k < a → (get_or es k d).column ≢ j
  none_earlier k d l same =
      let x = get_or es k d in
      let held : Contains (slice_range es a b) x = subst (λ xs. Contains xs x) (sym are) (among j es k d (omega arith) same) in
      let long = range_long es a b within in
      let short = held.1 in
      let there : get_or es (a + held.0) x ≡ x = sym (range_entry es a b held.0 x (omega arith)) ∙ held.2 in
      let here : get_or es k x ≡ x = get_or_default es k x d (omega arith) in
      let later : IsBefore (get_or es k x) (get_or es (a + held.0) x) = up k (a + held.0) x (omega arith) (omega arith) in
      not_before_itself x (subst (λ y. IsBefore x y) there (subst (λ y. IsBefore y (get_or es (a + held.0) x)) here later))

  -- a nonempty column starts at its first entry
  pub column_start : IsStart es j a
  column_start = record {
    within = omega arith;
    before = λ k d l.
        let here = own d in
        let step : IsBefore (get_or es k d) (get_or es a d) = up k a d l (omega arith) in
        ⊎_elim (λ (less : (get_or es k d).column < (get_or es a d).column). omega arith) (λ same. absurd (none_earlier k d l (same.0 ∙ here))) step;
    after = λ k d l m.
        let here = own d in
        ⊎_elim
        (λ (later : a < k).
        let step : IsBefore (get_or es a d) (get_or es k d) = up a k d later m in
        ⊎_elim (λ (less : (get_or es a d).column < (get_or es k d).column). omega arith) (λ same. let e = same.0 in omega arith) step)
        (λ (first : k ≤ a).
        let e : k ≡ a = omega arith in
        let f = ap (λ n. (get_or es n d).column) e in
        omega arith)
        (cases_lt a k);
  }

-- ---- the list of starts
-- The list has the starts of all columns before the n-th with entries.
pub record AreStartsSoFar (m : Sparse) (columns : List ℕ) (n : ℕ) (starts : List ℕ) : Type 0 where
  pub inside : length starts ≤ m.shape.cols
  pub passed : (k : ℕ) → k < n → get_or columns k 0 < length starts
  pub ahead : (k : ℕ) → n ≤ k → k < length columns → length starts ≤ get_or columns k 0
  pub told : (j : ℕ) → j < length starts → IsStart m.entries j (get_or starts j 0)

-- before the first column with entries the list is empty
pub starts_none : (m : Sparse) (columns starts : List ℕ) → starts ≡ [] → AreStartsSoFar m columns 0 starts
starts_none m columns starts e =
    let none = ap length e in
    record {
      inside = omega arith;
      passed = λ k l. absurd (omega arith);
      ahead = λ k l b. omega arith;
      told = λ j l. absurd (omega arith);
    }

-- a list that is extended to n elements
module _ (old new : List ℕ) (n count value : ℕ) (old_long : count ≡ length old) (longer : length old ≤ n) (is : new ≡ take n old ++ replicate (n - count) value) where
  is_front : new ≡ old ++ replicate (n - count) value
  is_front = is ∙ ap (λ xs. xs ++ replicate (n - count) value) (take_all n old longer)

  new_long : length new ≡ n
  new_long =
      let e = ap length is_front in
      let f = length-append old (replicate (n - count) value) in
      let g = length-replicate (n - count) value in
      omega arith

  old_number : (j : ℕ) → j < length old → get_or new j 0 ≡ get_or old j 0
  old_number j l = ap (λ xs. get_or xs j 0) is_front ∙ get_or_append_left old (replicate (n - count) value) 0 j l

  new_number : (j : ℕ) → length old ≤ j → j < n → get_or new j 0 ≡ value
  new_number j l b =
      ap (λ xs. get_or xs j 0) is_front
      ∙ get_or-append_right old (replicate (n - count) value) (length old) j 0 refl l
      ∙ get_or-replicate (n - count) (j - length old) value 0 (omega arith)

module _ (m : Sparse) (up : AllPairs IsBefore m.entries) (columns : List ℕ) (rise : AllPairs (λ c d. c < d) columns) (low : All (λ c. c < m.shape.cols) columns) (all : All (λ e. Contains columns e.column) m.entries) where
  -- an entry is in a column before the end of the list, or in the n-th column with entries or a later one
  column_of : (n : ℕ) (starts : List ℕ) → AreStartsSoFar m columns n starts → (k : ℕ) (d : Entry) → k < length m.entries
      → ((get_or m.entries k d).column < length starts) ⊎ ((i : ℕ) × (n ≤ i) × (i < length columns) × ((get_or m.entries k d).column ≡ get_or columns i 0))
  column_of n starts are k d l =
      let held = all k d l in
      let i = held.0 in
      let e : (get_or m.entries k d).column ≡ get_or columns i 0 = sym held.2 ∙ get_or_default columns i (get_or m.entries k d).column 0 held.1 in
      ⊎_elim
      (λ (p : i < n). let f = are.passed i p in inl (omega arith))
      (λ (p : n ≤ i). inr (i, p, held.1, e))
      (cases_lt i n)

  -- extended by the n-th column's start, up to that column, the list has one more column with entries
  pub starts_more : (n place end count : ℕ) (old new : List ℕ) → AreStartsSoFar m columns n old → n < length columns
      → place < end → end ≤ length m.entries → slice_range m.entries place end ≡ in_column (get_or columns n 0) m.entries
      → count ≡ length old → new ≡ take (get_or columns n 0 + 1) old ++ replicate (get_or columns n 0 + 1 - count) place → AreStartsSoFar m columns (n + 1) new
  starts_more n place end count old new are l some within entries old_long is =
      let j = get_or columns n 0 in
      let ahead = are.ahead n (omega arith) l in
      let long = new_long old new (j + 1) count place old_long (omega arith) is in
      let lowest : j < m.shape.cols = low n 0 l in
      let start = column_start m.entries up j place end some within entries in
      record {
        inside = omega arith;
        passed = λ k b. ⊎_elim
            (λ (p : k < n). let f = are.passed k p in omega arith)
            (λ (p : n ≤ k). let e : k ≡ n = omega arith in let f = ap (λ x. get_or columns x 0) e in omega arith)
            (cases_lt k n);
        ahead = λ k b c. let f : j < get_or columns k 0 = rise n k 0 (omega arith) c in omega arith;
        told = λ i b. ⊎_elim
            (λ (p : i < length old).
            subst (IsStart m.entries i) (sym (old_number old new (j + 1) count place old_long (omega arith) is i p)) (are.told i p))
            (λ (p : length old ≤ i).
            let between : IsStart m.entries i place = record {
              within = start.within;
              before = λ k d q.
                  let here = start.before k d q in
                  let w = start.within in
                  ⊎_elim
                  (λ (x : (get_or m.entries k d).column < length old). omega arith)
                  (λ x. ⊎_elim
                  (λ (y : n < x.0). let f : j < get_or columns x.0 0 = rise n x.0 0 y x.2 in let e = x.3 in absurd (omega arith))
                  (λ (y : x.0 ≤ n). let z = x.1 in let same : x.0 ≡ n = omega arith in let f = ap (λ o. get_or columns o 0) same in let e = x.3 in absurd (omega arith))
                  (cases_lt n x.0))
                  (column_of n old are k d (omega arith));
              after = λ k d q r. let here = start.after k d q r in omega arith;
            } in
            subst (IsStart m.entries i) (sym (new_number old new (j + 1) count place old_long (omega arith) is i p (omega arith))) between)
            (cases_lt i (length old));
      }

  -- extended by the number of entries, past the last column, the list has the starts of all columns
  pub starts_all : (n count : ℕ) (old new : List ℕ) → AreStartsSoFar m columns n old → length columns ≤ n
      → count ≡ length old → new ≡ take (m.shape.cols + 1) old ++ replicate (m.shape.cols + 1 - count) (length m.entries) → AreColumnStarts m new
  starts_all n count old new are l old_long is =
      let inside = are.inside in
      let all_entries = length m.entries in
      let long = new_long old new (m.shape.cols + 1) count all_entries old_long (omega arith) is in
      let told : (j : ℕ) → j < m.shape.cols + 1 → IsStart m.entries j (get_or new j 0) = λ j b. ⊎_elim
      (λ (p : j < length old). subst (IsStart m.entries j) (sym (old_number old new (m.shape.cols + 1) count all_entries old_long (omega arith) is j p)) (are.told j p))
      (λ (p : length old ≤ j).
      let behind : IsStart m.entries j all_entries = record {
        within = omega arith;
        before = λ k d q. ⊎_elim
            (λ (x : (get_or m.entries k d).column < length old). omega arith)
            (λ x. let y = x.1 in let z = x.2 in absurd (omega arith))
            (column_of n old are k d q);
        after = λ k d q r. absurd (omega arith);
      } in
      subst (IsStart m.entries j) (sym (new_number old new (m.shape.cols + 1) count all_entries old_long (omega arith) is j p b)) behind)
      (cases_lt j (length old)) in
      record {
        count = long;
        rising = λ j b. starts_rise m.entries j (get_or new j 0) (get_or new (j + 1) 0) (told j (omega arith)) (told (j + 1) (omega arith));
        within = λ j b. (told (j + 1) (omega arith)).within;
        entries = λ j b. column_from_starts m.entries j (get_or new j 0) (get_or new (j + 1) 0) (told j (omega arith)) (told (j + 1) (omega arith));
      }
