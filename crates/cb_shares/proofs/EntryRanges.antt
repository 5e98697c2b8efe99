-- Where the entries of a range of columns are among all entries.
use Rattle.std.proofs.Common.{◌≡◌, ◌≢◌, ℕ, zero, suc, ◌+◌, ◌-◌, ◌<◌, ◌≤◌, true, false, Bool, cond, List, [], ◌∷◌, ◌++◌, length, take, drop, get_or, filter, refl, sym, ap, subst, ◌∙◌, ⊎_elim, append-nil, arith, length-drop}
use Rattle.std.specs.Prelude.{◌==◌, All, AllPairs, Contains, max, slice_range}
use Rattle.std.proofs.lemmas.Bool.{cases_eq, cases_lt, eq-eqb, eqb-true}
use Rattle.std.proofs.lemmas.List.{get_or-take, get_or-drop, get_or_default, length-take, length-take-le}
use Rattle.std.proofs.lemmas.List.Edits.{length-between, get_or-between, split_between}
use Rattle.std.proofs.lemmas.List.Elements.{All-head, All-tail, All-weaker, filter-append, filter_passes}
use Rattle.cb_matrix.specs.declared.Entry.{Entry}
use Rattle.cb_matrix.specs.Sparse.{Sparse, IsBefore}
use Rattle.cb_dcsc.specs.Columns.{in_column}
use Rattle.cb_shares.specs.Shares.{panel}
use Rattle.cb_shares.specs.Sums.{some_entries}
use Rattle.cb_shares.proofs.ColumnPlaces.{rising}
use Rattle.cb_shares.proofs.Neighbours.{in_range, none_kept, not_in, not_next}
use Rattle.cb_shares.proofs.Ranges.{range_has}

-- an element that passes is among those that are kept
kept : {X : Type 0} (p : X → Bool) (xs : List X) (k : ℕ) (d : X) → k < length xs → p (get_or xs k d) ≡ true → Contains (filter p xs) (get_or xs k d)
kept p [] k d l h = absurd (omega arith)
kept p (x ∷ xs) zero d l h = subst (λ ys. Contains ys x) (λ i. cond (sym h i) (x ∷ filter p xs) (filter p xs)) (0, omega arith, refl)
kept p (x ∷ xs) (suc k) d l h =
    let r = kept p xs k d (omega arith) h in
    let rl = r.1 in
    elim (p x) as (λ b. Contains (cond b (x ∷ filter p xs) (filter p xs)) (get_or xs k d)) [ true ↦ (suc r.0, omega arith, r.2) | false ↦ r ]

-- all are kept where all pass
all_pass : {X : Type 0} (p : X → Bool) (xs : List X) → All (λ x. p x ≡ true) xs → filter p xs ≡ xs
all_pass p [] h = refl
all_pass p (x ∷ xs) h = let here = All-head (λ x. p x ≡ true) x xs h in (λ i. cond (here i) (x ∷ filter p xs) (filter p xs)) ∙ ap (λ ys. x ∷ ys) (all_pass p xs (All-tail (λ x. p x ≡ true) x xs h))

-- ---- where the entries of a column start
module _ (es : List Entry) (up : AllPairs IsBefore es) (c start end : ℕ) (l : start < end) (h : end ≤ length es) (same : slice_range es start end ≡ in_column c es) where
  at_start : (d : Entry) → (get_or es start d).column ≡ c
  at_start d =
      let long = length-between es start end h in
      let first = get_or-between es start end 0 d (omega arith) in
      let all : All (λ (e : Entry). (e.column == c) ≡ true) (slice_range es start end) = subst (All (λ (e : Entry). (e.column == c) ≡ true)) (sym same) (filter_passes (λ (e : Entry). e.column == c) es) in
      let place : start + 0 ≡ start = omega arith in
      ap (λ k. (get_or es k d).column) (sym place) ∙ ap (λ (e : Entry). e.column) (sym first) ∙ eqb-true _ c (all 0 d (omega arith))

  -- entries in front of it are in columns before it
  pub before_start : (k : ℕ) (d : Entry) → k < start → (get_or es k d).column < c
  before_start k d m =
      let e : Entry = get_or es k d in
      let there = at_start d in
      ⊎_elim
      (λ (x : e.column < (get_or es start d).column). omega arith)
      (λ (x : (e.column ≡ (get_or es start d).column) × (e.row < (get_or es start d).row)).
      let long = length-between es start end h in
      let has : Contains (in_column c es) e = kept (λ (e : Entry). e.column == c) es k d (omega arith) (eq-eqb e.column c (x.0 ∙ there)) in
      let again : Contains (slice_range es start end) e = subst (λ ys. Contains ys e) (sym same) has in
      let j = again.0 in
      let jl = again.1 in
      let place = get_or-between es start end j e (omega arith) in
      let is : get_or es (start + j) e ≡ e = sym place ∙ again.2 in
      let own : get_or es k e ≡ e = get_or_default es k e d (omega arith) in
      let later : IsBefore (get_or es k e) (get_or es (start + j) e) = up k (start + j) e (omega arith) (omega arith) in
      let itself : IsBefore e e = subst (λ (y : Entry). IsBefore e y) is (subst (λ (y : Entry). IsBefore y (get_or es (start + j) e)) own later) in
      ⊎_elim (λ (y : e.column < e.column). absurd (omega arith)) (λ (y : (e.column ≡ e.column) × (e.row < e.row)). let y1 = y.1 in absurd (omega arith)) itself)
      (up k start d m (omega arith))

  -- those from there on are not
  pub from_start : (k : ℕ) (d : Entry) → start ≤ k → k < length es → c ≤ (get_or es k d).column
  from_start k d m n =
      let there = at_start d in
      ⊎_elim
      (λ (e : start ≡ k). let same_place : (get_or es start d).column ≡ (get_or es k d).column = ap (λ x. (get_or es x d).column) e in omega arith)
      (λ (e : start ≡ k → ⊥).
      let ne : start ≢ k = e in
      ⊎_elim
      (λ (x : (get_or es start d).column < (get_or es k d).column). omega arith)
      (λ (x : ((get_or es start d).column ≡ (get_or es k d).column) × ((get_or es start d).row < (get_or es k d).row)). let x0 = x.0 in omega arith)
      (up start k d (omega arith) n))
      (cases_eq start k)

-- ---- the entries before a column
module _ (es : List Entry) (columns : List ℕ) (ascending : AllPairs (λ c d. c < d) columns) (all : All (λ (e : Entry). Contains columns e.column) es) (column place : ℕ) (below : (k : ℕ) → k < place → get_or columns k 0 < column) where
  -- an entry in a column before the one at a place is before the bound
  early : (k : ℕ) (d : Entry) → k < length es → (place < length columns → (get_or es k d).column < get_or columns place 0) → (get_or es k d).column < column
  early k d l before =
      let has = all k d l in
      let j = has.0 in
      let jl = has.1 in
      let is : get_or columns j (get_or es k d).column ≡ (get_or es k d).column = has.2 in
      let zeroed : get_or columns j (get_or es k d).column ≡ get_or columns j 0 = get_or_default columns j _ 0 jl in
      ⊎_elim
      (λ (m : j < place). let b = below j m in omega arith)
      (λ (m : place ≤ j). let more = rising columns ascending place j m jl in let b = before (omega arith) in absurd (omega arith))
      (cases_lt j place)

  -- if a column with entries is at the place
  pub entries_before : (start end : ℕ) → AllPairs IsBefore es → start < end → end ≤ length es → slice_range es start end ≡ in_column (get_or columns place 0) es → All (λ (e : Entry). e.column < column) (take start es)
  entries_before start end up l h same k d m =
      let long : length (take start es) ≡ start = length-take-le start es (omega arith) in
      let at : get_or (take start es) k d ≡ get_or es k d = get_or-take start es k d (omega arith) in
      subst (λ (e : Entry). e.column < column) (sym at) (early k d (omega arith) (λ _. before_start es up (get_or columns place 0) start end l h same k d (omega arith)))

  pub entries_from : (start end : ℕ) → AllPairs IsBefore es → start < end → end ≤ length es → slice_range es start end ≡ in_column (get_or columns place 0) es → column ≤ get_or columns place 0 → All (λ (e : Entry). column ≤ e.column) (drop start es)
  entries_from start end up l h same high k d m =
      let long = length-drop start es in
      let at : get_or (drop start es) k d ≡ get_or es (start + k) d = get_or-drop start es k d in
      let more = from_start es up (get_or columns place 0) start end l h same (start + k) d (omega arith) (omega arith) in
      let same_column : (get_or (drop start es) k d).column ≡ (get_or es (start + k) d).column = ap (λ (e : Entry). e.column) at in
      omega arith

  -- if none is
  pub all_before : (count : ℕ) → length columns ≤ place → All (λ (e : Entry). e.column < column) (take count es)
  all_before count past k d m =
      let long = length-take count es in
      let at : get_or (take count es) k d ≡ get_or es k d = get_or-take count es k d (omega arith) in
      subst (λ (e : Entry). e.column < column) (sym at) (early k d (omega arith) (λ n. absurd (omega arith)))

-- none are past the last
pub none_after : (es : List Entry) (column count : ℕ) → count ≡ length es → All (λ (e : Entry). column ≤ e.column) (drop count es)
none_after es column count h k d m = let long = length-drop count es in absurd (omega arith)

-- ---- from one column up to another
module _ (m : Sparse) (first end from last to : ℕ) (f : from ≤ length m.entries) (t : last ≤ length m.entries) (is : to ≡ max last from)
    (low : All (λ (e : Entry). e.column < first) (take from m.entries)) (high : All (λ (e : Entry). first ≤ e.column) (drop from m.entries))
    (inside : All (λ (e : Entry). e.column < end) (take last m.entries)) (after : All (λ (e : Entry). end ≤ e.column) (drop last m.entries)) where
  abbrev es : List Entry
  es = m.entries

  some_in : All (λ e. in_range first end e ≡ true) (slice_range es from to)
  some_in k d l =
      let within : to ≤ length es = omega arith in
      let long = length-between es from to within in
      let at : get_or (slice_range es from to) k d ≡ get_or es (from + k) d = get_or-between es from to k d (omega arith) in
      let long_back = length-drop from es in
      let long_front : length (take last es) ≡ last = length-take-le last es t in
      let h = high k d (omega arith) in
      let i = inside (from + k) d (omega arith) in
      let at_back : (get_or (drop from es) k d).column ≡ (get_or es (from + k) d).column = ap (λ (e : Entry). e.column) (get_or-drop from es k d) in
      let at_front : (get_or (take last es) (from + k) d).column ≡ (get_or es (from + k) d).column = ap (λ (e : Entry). e.column) (get_or-take last es (from + k) d (omega arith)) in
      subst (λ e. in_range first end e ≡ true) (sym at) (range_has first end (get_or es (from + k) d).column (omega arith) (omega arith))

  none_back : All (λ e. in_range first end e ≡ false) (drop to es)
  none_back k d l =
      let long = length-drop to es in
      let long_last = length-drop last es in
      let at : get_or (drop to es) k d ≡ get_or es (to + k) d = get_or-drop to es k d in
      let place : last + ((to - last) + k) ≡ to + k = omega arith in
      let a = after ((to - last) + k) d (omega arith) in
      let at_last : (get_or (drop last es) ((to - last) + k) d).column ≡ (get_or es (to + k) d).column = ap (λ (e : Entry). e.column) (get_or-drop last es ((to - last) + k) d) ∙ ap (λ n. (get_or es n d).column) place in
      subst (λ e. in_range first end e ≡ false) (sym at) (not_in first end (get_or es (to + k) d) (omega arith))

  -- the entries in these columns are those between
  pub range_entries : some_entries from to m ≡ panel m first end
  range_entries =
      let p : Entry → Bool = in_range first end in
      let some : List Entry = slice_range es from to in
      let none_front = none_kept p (take from es) (All-weaker (λ (e : Entry). e.column < first) (λ e. p e ≡ false) (λ e l. not_next first end e l) (take from es) low) in
      let none_rest = none_kept p (drop to es) none_back in
      let split : filter p es ≡ filter p (take from es) ++ (filter p some ++ filter p (drop to es)) =
      ap (filter p) (split_between es from to (omega arith)) ∙ filter-append p (take from es) (some ++ drop to es) ∙ ap (λ ys. filter p (take from es) ++ ys) (filter-append p some (drop to es)) in
      let kept_only : filter p es ≡ some = split ∙ (λ i. none_front i ++ (all_pass p some some_in i ++ none_rest i)) ∙ append-nil some in
      λ i. record { shape = m.shape; entries = sym kept_only i }
