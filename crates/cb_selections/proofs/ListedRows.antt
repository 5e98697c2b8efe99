-- Rows that are listed.
use Rattle.std.proofs.Common.{◌≡◌, ◌≢◌, ℕ, ◌+◌, ◌<◌, ◌≤◌, cond, List, [], ◌∷◌, ◌++◌, length, take, get_or, set, replicate, sym, refl, ap, subst, ◌∙◌, ⊎_elim, arith, length-take}
use Rattle.std.specs.Prelude.{All, AllPairs, Contains, ◌==◌, nat_lt}
use Rattle.std.proofs.lemmas.Bool.{cases_lt, cases_eq, cond-true, cond-false, eq-eqb, ne_eqb, lt-ltb, le-ltb}
use Rattle.std.proofs.lemmas.List.{take_more, take_all, get_or-take, length-take-le, length_push, get_or_default, get_or_past, get_or-set_same, get_or-set_other, length-set, length-replicate, get_or-replicate, take-set}
use Rattle.std.proofs.lemmas.Grind.{take-set_at}
use Rattle.std.proofs.lemmas.List.Elements.{All-nil, All-push, All-weaker, All-get_or, All-from_get_or, All-contains, Contains-get_or}
use Rattle.cb_semirings.specs.Arithmetic.{Arithmetic, IsValue, IsSemiring}
use Rattle.cb_matrix.specs.Sparse.{Sparse, IsMatrix, at}
use Rattle.cb_matrix.proofs.Equal.{matrix_is}
use Rattle.cb_matrix.proofs.Made.{at-outside, same_matrix_of}
use Rattle.cb_matrix.proofs.Pairs.{AllPairs-nil, AllPairs-push}
use Rattle.cb_matrix.specs.Values.{matrix_of}
use Rattle.cb_dcsc.specs.Columns.{in_column, rows_of, values_of, row_value}
use Rattle.cb_product.specs.InColumns.{AreInColumns}
use Rattle.cb_product.specs.SparseColumn.{IsSparseColumn}
use Rattle.cb_product.proofs.ColumnsMade.{absent_value}
use Rattle.cb_product.proofs.OwnColumn.{own_sparse}
use Rattle.cb_product.proofs.ProductColumns.{own_column}
use Rattle.cb_product.proofs.RowValues.{absent_above, row_value-push, row_value-none}
use Rattle.cb_selections.specs.ListedRows.{HoldPlaces, ArePlaces, IsListed}
use Rattle.cb_selections.specs.Extracted.{rows_by}

-- ---- a table of places
-- the table has the places of the first n listed numbers, of each the last one, and numbers past the end of the list for all others
pub record ArePlacesTo (bound n : ℕ) (listed places : List ℕ) : Type 0 where
  pub count : length places ≡ bound
  pub own : AllPairs (λ i j. i < j) listed → (i : ℕ) → i < n → get_or places (get_or listed i 0) 0 ≡ i
  pub held : (r : ℕ) → r < bound → get_or places r 0 < length listed → (get_or places r 0 < n) × (get_or listed (get_or places r 0) 0 ≡ r)

-- none yet
pub places_none : (bound past : ℕ) (listed : List ℕ) → length listed ≤ past → ArePlacesTo bound 0 listed (replicate bound past)
places_none bound past listed high = record {
  count = length-replicate bound past;
  own = λ up i b. absurd (omega arith);
  held = λ r l b. let e : get_or (replicate bound past) r 0 ≡ past = get_or-replicate bound r past 0 l in absurd (omega arith);
}

-- one more
pub places_more : (bound n : ℕ) (listed places : List ℕ) → All (λ i. i < bound) listed → n < length listed → ArePlacesTo bound n listed places → ArePlacesTo bound (n + 1) listed (set places (get_or listed n 0) n)
places_more bound n listed places inside l h =
    let row = get_or listed n 0 in
    let low : row < bound = All-get_or (λ i. i < bound) listed n 0 l inside in
    let count = h.count in
    let here : get_or (set places row n) row 0 ≡ n = get_or-set_same places row n 0 (omega arith) in
    record {
      count = length-set places row n ∙ h.count;
      own = λ up i b. ⊎_elim
          (λ (before : i < n).
          let less : get_or listed i 0 < row = up i n 0 before l in
          let other : get_or listed i 0 ≢ row = omega arith in
          get_or-set_other places row (get_or listed i 0) n 0 other ∙ h.own up i before)
          (λ (last : n ≤ i).
          let same : i ≡ n = omega arith in
          ap (λ k. get_or (set places row n) (get_or listed k 0) 0) same ∙ here ∙ sym same)
          (cases_lt i n);
      held = λ r m b. ⊎_elim
          (λ (same : r ≡ row).
          let e : get_or (set places row n) r 0 ≡ n = ap (λ k. get_or (set places row n) k 0) same ∙ here in
          (omega arith, ap (λ k. get_or listed k 0) e ∙ sym same))
          (λ (n' : r ≡ row → ⊥).
          let other : r ≢ row = n' in
          let e : get_or (set places row n) r 0 ≡ get_or places r 0 = get_or-set_other places row r n 0 other in
          let old = h.held r m (omega arith) in
          let before = old.0 in
          (omega arith, ap (λ k. get_or listed k 0) e ∙ old.1))
          (cases_eq r row);
    }

-- with all, it has a place of each listed number
pub places_held : (bound n : ℕ) (listed places : List ℕ) → ArePlacesTo bound n listed places → HoldPlaces bound listed places
places_held bound n listed places h = record { count = h.count; held = λ r m b. (h.held r m b).1 }

-- and the place of each, if they ascend
pub places_all : (bound n : ℕ) (listed places : List ℕ) → length listed ≤ n → ArePlacesTo bound n listed places → AllPairs (λ i j. i < j) listed → ArePlaces bound listed places
places_all bound n listed places l h up = record { count = h.count; own = λ i b. h.own up i (omega arith); held = λ r m b. (h.held r m b).1 }

-- a number without a place isn't listed
pub not_listed : (bound number : ℕ) (listed places : List ℕ) → ArePlaces bound listed places → length listed ≤ get_or places number 0 → All (λ r. r ≢ number) listed
not_listed bound number listed places are past =
    All-from_get_or (λ r. r ≢ number) listed 0 (λ i l e.
    let place : get_or places number 0 ≡ i = ap (λ r. get_or places r 0) (sym e) ∙ are.own i l in
    omega arith)

-- ---- the entries of a column in listed rows
-- those among the first k entries
pub record IsListedTo (listed rows values : List ℕ) (k : ℕ) (ks ws : List ℕ) : Type 0 where
  pub same_length : length ws ≡ length ks
  pub ascending : AllPairs (λ i j. i < j) ks
  pub inside : All (λ i. i < length listed) ks
  pub held : All (Contains values) ws
  pub next : k < length rows → All (λ i. get_or listed i 0 < get_or rows k 0) ks
  pub value : (z i : ℕ) → i < length listed → row_value z ks ws i ≡ row_value z (take k rows) (take k values) (get_or listed i 0)

module _ (listed : List ℕ) (listed_up : AllPairs (λ i j. i < j) listed) (rows values : List ℕ) (long : length values ≡ length rows) (up : AllPairs (λ i j. i < j) rows) where
  -- none yet
  pub listed_none : (ks ws : List ℕ) → ks ≡ [] → ws ≡ [] → IsListedTo listed rows values 0 ks ws
  listed_none ks ws p q = rw (p, q) (record {
    same_length = refl;
    ascending = AllPairs-nil (λ i j. i < j);
    inside = All-nil (λ i. i < length listed);
    held = All-nil (Contains values);
    next = λ l. All-nil (λ i. get_or listed i 0 < get_or rows 0 0);
    value = λ z i l. row_value-none z [] [] i refl ∙ sym (row_value-none z [] [] (get_or listed i 0) refl);
  })

  -- the same, of equal lists
  pub listed_same : (k : ℕ) (rs vs ks ws : List ℕ) → ks ≡ rs → ws ≡ vs → IsListedTo listed rows values k rs vs → IsListedTo listed rows values k ks ws
  listed_same k rs vs ks ws p q h = subst (λ xs. IsListedTo listed rows values k xs ws) (sym p) (subst (λ xs. IsListedTo listed rows values k rs xs) (sym q) h)

  -- a listed number has one place
  same_place : (i j : ℕ) → i < length listed → j < length listed → get_or listed i 0 ≡ get_or listed j 0 → i ≡ j
  same_place i j l m e = ⊎_elim
      (λ (b : i < j). let less : get_or listed i 0 < get_or listed j 0 = listed_up i j 0 b m in absurd (omega arith))
      (λ (b : j ≤ i). ⊎_elim
      (λ (same : i ≡ j). same)
      (λ (n : i ≡ j → ⊥). let ne : i ≢ j = n in let less : get_or listed j 0 < get_or listed i 0 = listed_up j i 0 (omega arith) l in absurd (omega arith))
      (cases_eq i j))
      (cases_lt i j)

  module _ (k : ℕ) (l : k < length rows) where
    abbrev row : ℕ
    row = get_or rows k 0

    abbrev old : ℕ
    old = get_or values k 0

    front_below : All (λ x. x < row) (take k rows)
    front_below = All-from_get_or (λ x. x < row) (take k rows) 0 (λ j m.
        let count = length-take-le k rows (omega arith) in
        let b : j < k = omega arith in
        subst (λ x. x < row) (sym (get_or-take k rows j 0 b)) (up j k 0 b l))

    -- one more entry of the column
    front : (z i : ℕ) → row_value z (take (k + 1) rows) (take (k + 1) values) i ≡ cond (row == i) old (row_value z (take k rows) (take k values) i)
    front z i =
        let l' : k < length values = omega arith in
        let same : length (take k values) ≡ length (take k rows) = simp length-take (omega arith) in
        (λ t. row_value z (take_more rows k 0 l t) (take_more values k 0 l' t) i) ∙ row_value-push z (take k rows) (take k values) row old i same front_below

    later : (ks : List ℕ) → All (λ i. get_or listed i 0 < row) ks → k + 1 < length rows → All (λ i. get_or listed i 0 < get_or rows (k + 1) 0) ks
    later ks h m =
        let more : row < get_or rows (k + 1) 0 = up k (k + 1) 0 (omega arith) m in
        All-weaker (λ i. get_or listed i 0 < row) (λ i. get_or listed i 0 < get_or rows (k + 1) 0) (λ i b. omega arith) ks h

    -- the next one is in a listed row
    pub listed_kept : (ks ws : List ℕ) (place : ℕ) → place < length listed → get_or listed place 0 ≡ row → IsListedTo listed rows values k ks ws → IsListedTo listed rows values (k + 1) (ks ++ place ∷ []) (ws ++ old ∷ [])
    listed_kept ks ws place within here h =
        let before : All (λ i. i < place) ks = All-from_get_or (λ i. i < place) ks 0 (λ n m.
        let i = get_or ks n 0 in
        let b : i < length listed = All-get_or (λ i. i < length listed) ks n 0 m h.inside in
        let less : get_or listed i 0 < row = All-get_or (λ i. get_or listed i 0 < row) ks n 0 m (h.next l) in
        ⊎_elim
        (λ (q : i < place). q)
        (λ (q : place ≤ i). ⊎_elim
        (λ (e : i ≡ place). let w = ap (λ x. get_or listed x 0) e in absurd (omega arith))
        (λ (e : i ≡ place → ⊥). let ne : i ≢ place = e in let w : get_or listed place 0 < get_or listed i 0 = listed_up place i 0 (omega arith) b in absurd (omega arith))
        (cases_eq i place))
        (cases_lt i place)) in
        let l' : k < length values = omega arith in
        record {
          same_length = length_push ws old ∙ ap (λ n. n + 1) h.same_length ∙ sym (length_push ks place);
          ascending = AllPairs-push (λ i j. i < j) ks place h.ascending before;
          inside = All-push (λ i. i < length listed) ks place h.inside within;
          held = All-push (Contains values) ws old h.held (Contains-get_or values k 0 l');
          next = λ m. All-push (λ i. get_or listed i 0 < get_or rows (k + 1) 0) ks place (later ks (h.next l) m) (let more : row < get_or rows (k + 1) 0 = up k (k + 1) 0 (omega arith) m in omega arith);
          value = λ z i b. row_value-push z ks ws place old i h.same_length before ∙ ⊎_elim
              (λ (e : place ≡ i).
              let same : row ≡ get_or listed i 0 = sym here ∙ ap (λ x. get_or listed x 0) e in
              cond-true _ _ _ (eq-eqb place i e) ∙ sym (front z (get_or listed i 0) ∙ cond-true _ _ _ (eq-eqb row (get_or listed i 0) same)))
              (λ (n : place ≡ i → ⊥).
              let other : row ≡ get_or listed i 0 → ⊥ = λ e. n (same_place place i within b (here ∙ e)) in
              cond-false _ _ _ (ne_eqb place i n) ∙ h.value z i b ∙ sym (front z (get_or listed i 0) ∙ cond-false _ _ _ (ne_eqb row (get_or listed i 0) other)))
              (cases_eq place i);
        }

    -- or is not
    pub listed_dropped : (ks ws : List ℕ) → All (λ r. r ≢ row) listed → IsListedTo listed rows values k ks ws → IsListedTo listed rows values (k + 1) ks ws
    listed_dropped ks ws none h = record {
      same_length = h.same_length;
      ascending = h.ascending;
      inside = h.inside;
      held = h.held;
      next = later ks (h.next l);
      value = λ z i b. h.value z i b ∙ sym (front z (get_or listed i 0) ∙ cond-false _ _ _ (ne_eqb row (get_or listed i 0) (λ e. All-get_or (λ r. r ≢ row) listed i 0 b none (sym e))));
    }

    -- its place is written behind the others in any case, and stays there if it is in a listed row
    pub listed_written : (xs ws : List ℕ) (bound count next : ℕ) (places : List ℕ) → ArePlaces bound listed places → row < bound → count < length xs → count < length ws
        → next ≡ count + cond (nat_lt (get_or places row 0) (length listed)) 1 0 → IsListedTo listed rows values k (take count xs) (take count ws)
        → IsListedTo listed rows values (k + 1) (take next (set xs count (get_or places row 0))) (take next (set ws count old))
    listed_written xs ws bound count next places are low x w is_next h =
        let place = get_or places row 0 in
        ⊎_elim
        (λ (b : place < length listed).
        let more : next ≡ count + 1 = is_next ∙ ap (λ n. count + n) (cond-true _ _ _ (lt-ltb place (length listed) b)) in
        listed_same (k + 1) (take count xs ++ place ∷ []) (take count ws ++ old ∷ []) _ _ (take-set_at xs count next place more x) (take-set_at ws count next old more w)
        (listed_kept (take count xs) (take count ws) place b (are.held row low b) h))
        (λ (b : length listed ≤ place).
        let same : next ≡ count = is_next ∙ ap (λ n. count + n) (cond-false _ _ _ (le-ltb place (length listed) b)) ∙ (omega arith) in
        listed_same (k + 1) (take count xs) (take count ws) _ _ (ap (λ n. take n (set xs count place)) same ∙ take-set xs count place) (ap (λ n. take n (set ws count old)) same ∙ take-set ws count old)
        (listed_dropped (take count xs) (take count ws) (not_listed bound row listed places are b) h))
        (cases_lt place (length listed))

  -- all
  pub listed_all : (k : ℕ) (ks ws : List ℕ) → length rows ≤ k → IsListedTo listed rows values k ks ws → IsListed listed rows values ks ws
  listed_all k ks ws l h = record {
    same_length = h.same_length;
    ascending = h.ascending;
    inside = h.inside;
    held = h.held;
    value = λ z i b.
        let l' : length values ≤ k = omega arith in
        h.value z i b ∙ (λ t. row_value z (take_all k rows l t) (take_all k values l' t) (get_or listed i 0));
  }

-- ---- all columns
module _ (s : Arithmetic) (a : Sparse) (is : IsMatrix s a) (listed : List ℕ) where
  -- the value at a place of the listed rows; past the last of them there are none
  abbrev pub value_for : ℕ → ℕ → ℕ
  value_for i j = at s a (get_or listed i a.shape.rows) j

  outside : (i j : ℕ) → length listed ≤ i → value_for i j ≡ s.zero
  outside i j l = ap (λ r. at s a r j) (get_or_past listed i a.shape.rows l) ∙ at-outside s.zero a.shape a.entries a.shape.rows j is.inside (λ b _. omega arith)

  -- a column without entries is without values
  pub listed_absent : (cs : List ℕ) → AreInColumns cs a.entries → (i j : ℕ) → All (λ c. c ≢ j) cs → value_for i j ≡ s.zero
  listed_absent cs stand i j others = absent_value s.zero a.entries cs (get_or listed i a.shape.rows) j stand others

  module _ (c : ℕ) (rows values ks ws : List ℕ) (rows_are : rows ≡ rows_of (in_column c a.entries)) (values_are : values ≡ values_of (in_column c a.entries)) (kept : IsListed listed rows values ks ws) where
    -- a column has the values that are for it
    pub listed_has : (i : ℕ) → row_value s.zero ks ws i ≡ value_for i c
    listed_has i = ⊎_elim
        (λ (b : i < length listed). kept.value s.zero i b ∙ own_column s a c rows values rows_are values_are (get_or listed i 0) ∙ ap (λ r. at s a r c) (get_or_default listed i 0 a.shape.rows b))
        (λ (b : length listed ≤ i). absent_above s.zero (length listed) ks ws i kept.inside b ∙ sym (outside i c b))
        (cases_lt i (length listed))

    -- and is one
    pub listed_column : IsSparseColumn s ks ws
    listed_column =
        let own = own_sparse s a is c rows values rows_are values_are in
        record {
          same_length = kept.same_length;
          ascending = kept.ascending;
          are_values = All-weaker (Contains values) (IsValue s) (λ w h. All-contains (IsValue s) values w own.are_values h) ws kept.held;
          not_zero = All-weaker (Contains values) (λ w. w ≢ s.zero) (λ w h. All-contains (λ w. w ≢ s.zero) values w own.not_zero h) ws kept.held;
        }

  -- the columns of all listed rows are the matrix of these rows
  pub listed_are : matrix_of s (record { rows = length listed; cols = a.shape.cols }) value_for ≡ rows_by s listed a
  listed_are = same_matrix_of s (record { rows = length listed; cols = a.shape.cols }) value_for (λ i j. at s a (get_or listed i 0) j) (λ i j l _. ap (λ r. at s a r j) (get_or_default listed i a.shape.rows 0 l))

  -- the numbers of all rows, in order, list the whole matrix
  pub all_listed : IsSemiring s → length listed ≡ a.shape.rows → ((i : ℕ) → i < length listed → get_or listed i 0 ≡ i) → a ≡ rows_by s listed a
  all_listed laws count own =
      matrix_is s laws a (record { rows = length listed; cols = a.shape.cols }) (λ i j. at s a (get_or listed i 0) j) is (λ z. record { rows = sym count z; cols = a.shape.cols }) (λ i j l _. ap (λ r. at s a r j) (sym (own i l)))
