-- Rows that are marked, or whose marks are removed, one after another; and sums to which only products in unmarked rows are added.
use Rattle.std.proofs.Common.{◌≡◌, ◌≢◌, ℕ, ◌+◌, ◌<◌, ◌≤◌, Bool, true, false, cond, Option, List, length, drop, get_or, set, sym, refl, ap, ◌∙◌, ⊎_elim, arith}
use Rattle.std.specs.Prelude.{All, AllPairs, IfSome}
use Rattle.std.proofs.lemmas.Bool.{cases_Bool, cases_eq, cases_lt, eq-eqb, ne_eqb, cond-true, cond-false}
use Rattle.std.proofs.lemmas.List.{get_or_default, get_or-set_same, get_or-set_other, get_or_past}
use Rattle.std.proofs.lemmas.List.Elements.{All-get_or, All-drop}
use Rattle.cb_semirings.specs.Arithmetic.{Arithmetic, IsValue, IsSemiring}
use Rattle.cb_matrix.specs.Sparse.{Sparse, IsMatrix}
use Rattle.cb_matrix.proofs.Totals.{add_zero}
use Rattle.cb_dcsc.specs.Columns.{rows_of, values_of}
use Rattle.cb_dcsc.proofs.Lookup.{all_rows_inside}
use Rattle.cb_product.specs.declared.terms.Term.{Term}
use Rattle.cb_product.specs.InColumns.{is_among}
use Rattle.cb_product.specs.Marks.{mark_of}
use Rattle.cb_product.specs.SparseColumn.{one_value, scaled}
use Rattle.cb_product.specs.Terms.{IsTerm, term_value, terms_value, terms_at}
use Rattle.cb_product.proofs.OnlyColumns.{among_holds, not_among}
use Rattle.cb_product.proofs.RowValues.{one_value-value, nth_product}
use Rattle.cb_product.proofs.TermSums.{matrix_values, terms_past, term_value-value, terms_value-value, terms_value-rest, terms_value-end}
use Rattle.cb_product.proofs.Outside.{left_outside, left_outside-value, left_outside-end, left_outside-kept, left_outside-skipped}

-- the marks of the rows before the n-th are `bit`, and those of others are unchanged
pub record AreSetSoFar (rows : List ℕ) (bit n : ℕ) (old new : List ℕ) : Type 0 where
  pub long : length new ≡ length old
  pub taken : (k : ℕ) → k < n → k < length rows → mark_of new (get_or rows k 0) ≡ bit
  pub others : (i : ℕ) → ((k : ℕ) → k < n → k < length rows → get_or rows k 0 ≢ i) → mark_of new i ≡ mark_of old i

-- before the first row
pub set_start : (rows : List ℕ) (bit : ℕ) (words : List ℕ) → AreSetSoFar rows bit 0 words words
set_start rows bit words = record { long = refl; taken = λ k b l. absurd (omega arith); others = λ i h. refl }

-- with one more row
pub set_more : (rows : List ℕ) (bit n : ℕ) (old words new : List ℕ) → n < length rows → length new ≡ length words → mark_of new (get_or rows n 0) ≡ bit
    → ((i : ℕ) → i ≢ get_or rows n 0 → mark_of new i ≡ mark_of words i) → AreSetSoFar rows bit n old words → AreSetSoFar rows bit (n + 1) old new
set_more rows bit n old words new l long here stay so_far = record {
  long = long ∙ so_far.long;
  taken = λ k b lk. ⊎_elim
      (λ (e : get_or rows k 0 ≡ get_or rows n 0). ap (mark_of new) e ∙ here)
      (λ (e : get_or rows k 0 ≡ get_or rows n 0 → ⊥).
      let other : k ≢ n = λ q. e (ap (λ m. get_or rows m 0) q) in
      stay (get_or rows k 0) e ∙ so_far.taken k (omega arith) lk)
      (cases_eq (get_or rows k 0) (get_or rows n 0));
  others = λ i h. stay i (λ e. h n (omega arith) l (sym e)) ∙ so_far.others i (λ k b lk. h k (omega arith) lk);
}

-- with all rows
pub set_all : (rows : List ℕ) (bit n : ℕ) (old new : List ℕ) → length rows ≤ n → AreSetSoFar rows bit n old new → (i : ℕ) → mark_of new i ≡ cond (is_among rows i) bit (mark_of old i)
set_all rows bit n old new l so_far i = ⊎_elim
    (λ (t : is_among rows i ≡ true).
    let there = among_holds rows i t in
    let inside = there.1 in
    let row : get_or rows there.0 0 ≡ i = get_or_default rows there.0 0 i inside ∙ there.2 in
    rw t (ap (mark_of new) (sym row) ∙ so_far.taken there.0 (omega arith) inside))
    (λ (f : is_among rows i ≡ false).
    let none = not_among rows i f in
    rw f (so_far.others i (λ k b lk. none k 0 lk)))
    (cases_Bool (is_among rows i))

module _ (s : Arithmetic) (laws : IsSemiring s) where
  -- a value is added to the sum of a row
  set_adds : (sums : List ℕ) (row x i : ℕ) → row < length sums → i < length sums → All (IsValue s) sums → get_or (set sums row (s.add (get_or sums row 0) x)) i s.zero ≡ s.add (get_or sums i s.zero) (one_value s.zero (row, x) i)
  set_adds sums row x i l li vs = ⊎_elim
      (λ (e : row ≡ i).
      let one : one_value s.zero (row, x) i ≡ x = cond-true _ _ _ (eq-eqb row i e) in
      let y = s.add (get_or sums row 0) x in
      let here : get_or (set sums row y) i s.zero ≡ y = ap (λ k. get_or (set sums row y) k s.zero) (sym e) ∙ get_or-set_same sums row y s.zero l in
      let was : get_or sums row 0 ≡ get_or sums i s.zero = get_or_default sums row 0 s.zero l ∙ ap (λ k. get_or sums k s.zero) e in
      here ∙ ap (λ z. s.add z x) was ∙ ap (s.add (get_or sums i s.zero)) (sym one))
      (λ (ne : row ≡ i → ⊥).
      let none : one_value s.zero (row, x) i ≡ s.zero = cond-false _ _ _ (ne_eqb row i ne) in
      get_or-set_other sums row i _ s.zero (λ e. ne (sym e)) ∙ sym (ap (s.add (get_or sums i s.zero)) none ∙ add_zero s laws _ (All-get_or (IsValue s) sums i s.zero li vs)))
      (cases_eq row i)

  -- ---- a column, times a factor, is added entry by entry, except for rows that p excludes
  module _ (rows values : List ℕ) (scale : Option ℕ) (same : length values ≡ length rows) (all : All (IsValue s) values) (is_scale : IfSome scale (IsValue s)) (up : AllPairs (λ i j. i < j) rows) (p : ℕ → Bool) where
    abbrev rest : ℕ → ℕ → ℕ
    rest n i = left_outside s rows values scale p n i

    -- with one more entry
    pub outside_added : (n : ℕ) (sums : List ℕ) (T : ℕ → ℕ) → n < length rows → p (get_or rows n 0) ≡ false → All (IsValue s) sums → get_or rows n 0 < length sums
        → ((i : ℕ) → i < length sums → s.add (get_or sums i s.zero) (rest n i) ≡ T i)
        → (i : ℕ) → i < length sums → s.add (get_or (set sums (get_or rows n 0) (s.add (get_or sums (get_or rows n 0) 0) (scaled s (get_or values n 0) scale))) i s.zero) (rest (n + 1) i) ≡ T i
    outside_added n sums T l free vs lr so_far i li =
        let row = get_or rows n 0 in
        let x = scaled s (get_or values n 0) scale in
        let is_x : IsValue s x = nth_product s laws rows values scale same all is_scale n l in
        ap (λ y. s.add y (rest (n + 1) i)) (set_adds sums row x i lr li vs)
        ∙ laws.add_assoc (get_or sums i s.zero) (one_value s.zero (row, x) i) (rest (n + 1) i) (All-get_or (IsValue s) sums i s.zero li vs) (one_value-value s laws (row, x) i is_x) (left_outside-value s laws rows values scale same all is_scale p (n + 1) i)
        ∙ ap (s.add (get_or sums i s.zero)) (sym (left_outside-kept s laws rows values scale same all is_scale p up n l free i))
        ∙ so_far i li

    -- with an entry in an excluded row
    pub outside_skipped : (n : ℕ) (sums : List ℕ) (T : ℕ → ℕ) → n < length rows → p (get_or rows n 0) ≡ true
        → ((i : ℕ) → i < length sums → s.add (get_or sums i s.zero) (rest n i) ≡ T i)
        → (i : ℕ) → i < length sums → s.add (get_or sums i s.zero) (rest (n + 1) i) ≡ T i
    outside_skipped n sums T l taken so_far i li = ap (s.add (get_or sums i s.zero)) (sym (left_outside-skipped s laws rows values scale same all is_scale p up n l taken i)) ∙ so_far i li

    -- with all entries, the column is added
    pub outside_all_added : (n : ℕ) (sums : List ℕ) (T : ℕ → ℕ) → length rows ≤ n → All (IsValue s) sums → ((i : ℕ) → i < length sums → s.add (get_or sums i s.zero) (rest n i) ≡ T i) → (i : ℕ) → i < length sums → get_or sums i s.zero ≡ T i
    outside_all_added n sums T l vs so_far i li =
        sym (add_zero s laws (get_or sums i s.zero) (All-get_or (IsValue s) sums i s.zero li vs)) ∙ ap (s.add (get_or sums i s.zero)) (sym (left_outside-end s laws rows values scale same all is_scale p n i l)) ∙ so_far i li

  -- ---- terms are added one after another, except for rows that p excludes
  module _ (rows values : List ℕ) (all_values : All (IsValue s) values) (ts : List Term) (is : All (IsTerm s rows) ts) (p : ℕ → Bool) where
    -- the value of the terms from the n-th on
    abbrev pub terms_outside : ℕ → ℕ → ℕ
    terms_outside n i = cond (p i) s.zero (terms_value s rows values i (drop n ts))

    terms_outside-value : (n i : ℕ) → IsValue s (terms_outside n i)
    terms_outside-value n i = elim (p i) as (λ b. IsValue s (cond b s.zero (terms_value s rows values i (drop n ts)))) [
      | true ↦ laws.zero_value
      | false ↦ terms_value-value s laws rows values all_values i (drop n ts) (All-drop (IsTerm s rows) n ts is)
    ]

    term_outside-value : (i : ℕ) (t : Term) → IsValue s t.scale → IsValue s (cond (p i) s.zero (term_value s rows values i t))
    term_outside-value i t v = elim (p i) as (λ b. IsValue s (cond b s.zero (term_value s rows values i t))) [ true ↦ laws.zero_value | false ↦ term_value-value s laws rows values all_values i t v ]

    terms_outside-rest : (n i : ℕ) (d : Term) → n < length ts → terms_outside n i ≡ s.add (cond (p i) s.zero (term_value s rows values i (get_or ts n d))) (terms_outside (n + 1) i)
    terms_outside-rest n i d l =
        elim (p i) as (λ b. cond b s.zero (terms_value s rows values i (drop n ts)) ≡ s.add (cond b s.zero (term_value s rows values i (get_or ts n d))) (cond b s.zero (terms_value s rows values i (drop (n + 1) ts)))) [
          | true ↦ sym (laws.zero_add s.zero laws.zero_value)
          | false ↦ terms_value-rest s laws rows values all_values i n ts d l
        ]

    -- with one more term
    pub term_outside_added : (n : ℕ) (d : Term) (old new : List ℕ) (T : ℕ → ℕ) → n < length ts → All (IsValue s) old → length new ≡ length old
        → ((i : ℕ) → i < length old → get_or new i s.zero ≡ s.add (get_or old i s.zero) (cond (p i) s.zero (term_value s rows values i (get_or ts n d))))
        → ((i : ℕ) → i < length old → s.add (get_or old i s.zero) (terms_outside n i) ≡ T i)
        → (i : ℕ) → i < length old → s.add (get_or new i s.zero) (terms_outside (n + 1) i) ≡ T i
    term_outside_added n d old new T l vs long step so_far i li =
        let t = get_or ts n d in
        let term : IsTerm s rows t = All-get_or (IsTerm s rows) ts n d l is in
        ap (λ y. s.add y (terms_outside (n + 1) i)) (step i li)
        ∙ laws.add_assoc (get_or old i s.zero) _ (terms_outside (n + 1) i) (All-get_or (IsValue s) old i s.zero li vs) (term_outside-value i t term.scale) (terms_outside-value (n + 1) i)
        ∙ ap (s.add (get_or old i s.zero)) (sym (terms_outside-rest n i d l)) ∙ so_far i li

    -- with all terms
    pub terms_outside_added : (n : ℕ) (sums : List ℕ) (T : ℕ → ℕ) → length ts ≤ n → All (IsValue s) sums → ((i : ℕ) → i < length sums → s.add (get_or sums i s.zero) (terms_outside n i) ≡ T i) → (i : ℕ) → i < length sums → get_or sums i s.zero ≡ T i
    terms_outside_added n sums T l vs so_far i li =
        let none : terms_outside n i ≡ s.zero = ap (cond (p i) s.zero) (terms_value-end s laws rows values all_values i n ts l) ∙ elim (p i) as (λ b. cond b s.zero s.zero ≡ s.zero) [ true ↦ refl | false ↦ refl ] in
        sym (add_zero s laws (get_or sums i s.zero) (All-get_or (IsValue s) sums i s.zero li vs)) ∙ ap (s.add (get_or sums i s.zero)) (sym none) ∙ so_far i li

-- ---- terms of a matrix added to zeros, except for rows that p excludes
module _ (s : Arithmetic) (laws : IsSemiring s) (a : Sparse) (is : IsMatrix s a) (ts : List Term) (terms : All (IsTerm s (rows_of a.entries)) ts) (p : ℕ → Bool) where
  -- they are the sums at each row
  pub dense_outside : (zeros sums : List ℕ) → All (λ x. x ≡ s.zero) zeros → length zeros ≡ a.shape.rows → length sums ≡ length zeros
      → ((i : ℕ) → i < length zeros → get_or sums i s.zero ≡ s.add (get_or zeros i s.zero) (cond (p i) s.zero (terms_at s a i ts)))
      → (i : ℕ) → get_or sums i s.zero ≡ cond (p i) s.zero (terms_at s a i ts)
  dense_outside zeros sums none long sums_long added i = ⊎_elim
      (λ (l : i < a.shape.rows).
      let m : i < length zeros = omega arith in
      let value : IsValue s (cond (p i) s.zero (terms_at s a i ts)) = elim (p i) as (λ b. IsValue s (cond b s.zero (terms_at s a i ts))) [ true ↦ laws.zero_value | false ↦ terms_value-value s laws (rows_of a.entries) (values_of a.entries) (matrix_values s laws a is) i ts terms ] in
      added i m ∙ ap (λ x. s.add x (cond (p i) s.zero (terms_at s a i ts))) (All-get_or (λ x. x ≡ s.zero) zeros i s.zero m none) ∙ laws.zero_add _ value)
      (λ (l : a.shape.rows ≤ i).
      let past : terms_at s a i ts ≡ s.zero = terms_past s laws (rows_of a.entries) (values_of a.entries) a.shape.rows i (all_rows_inside s a (rows_of a.entries) is refl) l ts terms in
      get_or_past sums i s.zero (omega arith) ∙ sym (ap (cond (p i) s.zero) past ∙ elim (p i) as (λ b. cond b s.zero s.zero ≡ s.zero) [ true ↦ refl | false ↦ refl ]))
      (cases_lt i a.shape.rows)
