-- The terms of entries that follow one another.
use Rattle.std.proofs.Common.{◌≡◌, ℕ, zero, suc, ◌+◌, ◌-◌, ◌<◌, ◌≤◌, List, [], ◌∷◌, ◌++◌, length, take, drop, get_or, sym, refl, ap, ◌∙◌, ⊎_elim, arith, append-nil, length-append}
use Rattle.std.specs.Prelude.{All, slice_range}
use Rattle.std.proofs.lemmas.Bool.{cases_lt}
use Rattle.std.proofs.lemmas.List.{get_or_default, drop_more, take_all, get_or_push, get_or_append_left, length_push}
use Rattle.std.proofs.lemmas.List.Elements.{All-append, All-drop, All-get_or, All-nil, All-push, All-take, All-weaker}
use Rattle.cb_semirings.specs.Arithmetic.{Arithmetic, IsSemiring, IsValue}
use Rattle.cb_matrix.specs.Sparse.{Sparse, IsMatrix, at}
use Rattle.cb_matrix.specs.Values.{total}
use Rattle.cb_matrix.proofs.Totals.{total-one}
use Rattle.cb_dcsc.specs.Columns.{in_column, rows_of, values_of}
use Rattle.cb_dcsc.proofs.Ranges.{no_range, range_back, range_both, range_front}
use Rattle.cb_product.specs.declared.panel.Panel.{Panel}
use Rattle.cb_product.specs.declared.terms.Term.{Term}
use Rattle.cb_product.specs.Gathered.{entry_product, AreGathered, Holds, HasTermsAt}
use Rattle.cb_product.specs.Terms.{AreTermsOf, IsTerm, column_sum, term_value, terms_at}
use Rattle.cb_product.proofs.TermSums.{matrix_values, new_term, no_column, rows_there, scaled_column, term_value-value, terms_value-append, values_there}

-- ---- ranges of a list
module _ {X : Type 0} (xs : List X) where
  -- the first element of a range, and the others
  range_more : (a b : ℕ) (d : X) → a < length xs → a < b → slice_range xs a b ≡ get_or xs a d ∷ slice_range xs (a + 1) b
  range_more a b d l m =
      let n : b - a ≡ suc (b - (a + 1)) = omega arith in
      ap (take (b - a)) (drop_more xs a d l) ∙ ap (λ n. take n (get_or xs a d ∷ drop (a + 1) xs)) n

-- ---- terms of a matrix for entries
module _ (s : Arithmetic) (laws : IsSemiring s) (a : Sparse) (is : IsMatrix s a) (rows values : List ℕ) (same : length values ≡ length rows) where
  abbrev ks : List ℕ
  ks = rows_of a.entries

  abbrev place : Panel → ℕ → ℕ
  place p n = get_or p.places.items n 0

  -- without entries
  pub gathered_none : (p : Panel) → p.terms.items ≡ [] → p.places.items ≡ [] → p.first ≡ 0 → AreGathered s a rows values p
  gathered_none p terms places first =
      let none : length p.places.items ≡ 0 = ap length places in
      record {
        terms = rw terms (All-nil (IsTerm s ks));
        within = rw places (All-nil (λ n. n ≤ length p.terms.items));
        rising = λ n l. absurd (omega arith);
        inside = omega arith;
        products = λ n i l. absurd (omega arith);
      }

  -- before the first entry
  pub gathered_start : (p : Panel) → p.terms.items ≡ [] → p.places.items ≡ 0 ∷ [] → p.first ≤ length rows → AreGathered s a rows values p
  gathered_start p terms places l =
      let one : length p.places.items ≡ 1 = ap length places in
      record {
        terms = rw terms (All-nil (IsTerm s ks));
        within = rw places (All-push (λ n. n ≤ length p.terms.items) [] 0 (All-nil (λ n. n ≤ length p.terms.items)) (omega arith));
        rising = λ n m. absurd (omega arith);
        inside = omega arith;
        products = λ n i m. absurd (omega arith);
      }

  -- with one more entry, which has these terms
  pub gathered_more : (old new : Panel) (extra : List Term) (n : ℕ) → new.first ≡ old.first → new.terms.items ≡ old.terms.items ++ extra → new.places.items ≡ old.places.items ++ length new.terms.items ∷ [] → length old.places.items ≡ n + 1
      → place old n ≡ length old.terms.items → old.first + n < length rows → All (IsTerm s ks) extra → ((i : ℕ) → terms_at s a i extra ≡ entry_product s a rows values (old.first + n) i) → AreGathered s a rows values old → AreGathered s a rows values new
  gathered_more old new extra n first terms places count last inside are adds h =
      let long : length new.terms.items ≡ length old.terms.items + length extra = ap length terms ∙ length-append old.terms.items extra in
      let longer : length new.places.items ≡ n + 2 = ap length places ∙ length_push old.places.items (length new.terms.items) ∙ omega (arith, count) in
      let before : (m : ℕ) → m ≤ n → place new m ≡ place old m = λ m l. ap (λ ps. get_or ps m 0) places ∙ get_or_append_left old.places.items (length new.terms.items ∷ []) 0 m (omega arith) in
      let end : place new (n + 1) ≡ length new.terms.items = ap (λ ps. get_or ps (n + 1) 0) places ∙ get_or_push old.places.items (length new.terms.items) 0 (n + 1) count in
      record {
        terms = rw terms (All-append (IsTerm s ks) old.terms.items extra h.terms are);
        within = rw places (All-push (λ p. p ≤ length new.terms.items) old.places.items (length new.terms.items) (All-weaker (λ p. p ≤ length old.terms.items) (λ p. p ≤ length new.terms.items) (λ p l. omega arith) old.places.items h.within) (omega arith));
        rising = λ m l. ⊎_elim
            (λ (k : m < n). let u = before m (omega arith) in let v = before (m + 1) (omega arith) in let w = h.rising m (omega arith) in omega arith)
            (λ (k : n ≤ m). let e : m ≡ n = omega arith in let u = before n (omega arith) in let here : place new n ≤ place new (n + 1) = omega arith in rw e here)
            (cases_lt m n);
        inside = omega arith;
        products = λ m i l. ⊎_elim
            (λ (k : m < n).
            let u = before m (omega arith) in
            let v = before (m + 1) (omega arith) in
            let order = h.rising m (omega arith) in
            let fits : place old (m + 1) ≤ length old.terms.items = All-get_or (λ p. p ≤ length old.terms.items) old.places.items (m + 1) 0 (omega arith) h.within in
            (λ t. terms_at s a i (slice_range (terms t) (u t) (v t)))
            ∙ ap (terms_at s a i) (range_front (place old m) (place old (m + 1)) old.terms.items extra order fits)
            ∙ h.products m i (omega arith)
            ∙ ap (λ f. entry_product s a rows values (f + m) i) (sym first))
            (λ (k : n ≤ m).
            let e : m ≡ n = omega arith in
            let u = before n (omega arith) ∙ last in
            ap (λ j. terms_at s a i (slice_range new.terms.items (place new j) (place new (j + 1)))) e
            ∙ (λ t. terms_at s a i (slice_range (terms t) (u t) (end t)))
            ∙ ap (terms_at s a i) (range_back (length old.terms.items) (length new.terms.items) old.terms.items extra refl (omega (arith, long)))
            ∙ adds i
            ∙ (λ t. entry_product s a rows values (sym first t + sym e t) i))
            (cases_lt m n);
      }

  -- with one more entry, which names a column by where its entries start and end
  module _ (are_values : All (IsValue s) values) (old new : Panel) (n m from to : ℕ) (here : old.first + n ≡ m) (inside : m < length rows) (there : slice_range a.entries from to ≡ in_column (get_or rows m 0) a.entries)
      (first : new.first ≡ old.first) (places : new.places.items ≡ old.places.items ++ length new.terms.items ∷ []) (count : length old.places.items ≡ n + 1) (last : place old n ≡ length old.terms.items) (h : AreGathered s a rows values old) where
    value : IsValue s (get_or values m 0)
    value = All-get_or (IsValue s) values m 0 (omega arith) are_values

    -- if its column has entries
    pub gathered_term : (t : Term) → new.terms.items ≡ old.terms.items ++ t ∷ [] → t.row ≡ get_or ks from 0 → t.at ≡ from → t.end ≡ to → t.scale ≡ get_or values m 0 → from < to → to ≤ length a.entries → AreGathered s a rows values new
    gathered_term t terms row at_is end_is scale l within =
        let k = get_or rows m 0 in
        let v : IsValue s t.scale = rw scale value in
        let is_term : IsTerm s ks t = new_term s laws a is k from to there t at_is end_is row l within v in
        gathered_more old new (t ∷ []) n first terms places count last (omega arith) (All-push (IsTerm s ks) [] t (All-nil (IsTerm s ks)) is_term)
        (λ i.
        total-one s laws (term_value s ks (values_of a.entries) i t) (term_value-value s laws ks (values_of a.entries) (matrix_values s laws a is) i t v)
        ∙ scaled_column s laws a is k from to there t at_is end_is i
        ∙ ap (s.mul (at s a i k)) scale
        ∙ ap (λ j. entry_product s a rows values j i) (sym here))
        h

    -- if its column has none
    pub gathered_absent : new.terms.items ≡ old.terms.items → to ≤ from → AreGathered s a rows values new
    unfolding total
    gathered_absent terms l =
        gathered_more old new [] n first (terms ∙ sym (append-nil old.terms.items)) places count last (omega arith) (All-nil (IsTerm s ks))
        (λ i. sym (no_column s laws a is (get_or rows m 0) from to there l i (get_or values m 0) value) ∙ ap (λ j. entry_product s a rows values j i) (sym here))
        h

  module _ (p : Panel) (h : AreGathered s a rows values p) where
    fits : (n : ℕ) → n < length p.places.items → place p n ≤ length p.terms.items
    fits n l = All-get_or (λ q. q ≤ length p.terms.items) p.places.items n 0 l h.within

    all_terms : (b c : ℕ) → All (IsTerm s ks) (slice_range p.terms.items b c)
    all_terms b c = All-take (IsTerm s ks) (c - b) (drop b p.terms.items) (All-drop (IsTerm s ks) b p.terms.items h.terms)

    -- places rise
    rises : (d n : ℕ) → n + d < length p.places.items → place p n ≤ place p (n + d)
    rises zero n l = let e : n + 0 ≡ n = omega arith in rw e (omega arith)
    rises (suc d) n l =
        let e : n + suc d ≡ n + 1 + d = omega arith in
        let here = h.rising n (omega arith) in
        let rest = rises d (n + 1) (omega arith) in
        let both : place p n ≤ place p (n + 1 + d) = omega arith in
        rw e both

    -- the terms of entries add what the entries do
    sums : (d n i : ℕ) → n + d < length p.places.items → terms_at s a i (slice_range p.terms.items (place p n) (place p (n + d))) ≡ column_sum s a i (slice_range rows (p.first + n) (p.first + (n + d))) (slice_range values (p.first + n) (p.first + (n + d)))
    unfolding column_sum total
    sums zero n i l =
        let e : n + 0 ≡ n = omega arith in
        ap (λ m. terms_at s a i (slice_range p.terms.items (place p n) (place p m))) e
        ∙ ap (terms_at s a i) (no_range p.terms.items (place p n))
        ∙ sym (ap (λ m. column_sum s a i (slice_range rows (p.first + n) (p.first + m)) (slice_range values (p.first + n) (p.first + m))) e ∙ ap (λ rs. column_sum s a i rs (slice_range values (p.first + n) (p.first + n))) (no_range rows (p.first + n)))
    sums (suc d) n i l =
        let inside = h.inside in
        let e : n + suc d ≡ n + 1 + d = omega arith in
        let f : p.first + (n + 1) ≡ p.first + n + 1 = omega arith in
        let c = p.first + (n + 1 + d) in
        let at_hand = slice_range p.terms.items (place p n) (place p (n + 1)) in
        let rest = slice_range p.terms.items (place p (n + 1)) (place p (n + 1 + d)) in
        let here = h.rising n (omega arith) in
        let later = rises d (n + 1) (omega arith) in
        let split = range_more rows (p.first + n) c 0 (omega arith) (omega arith) in
        let split_values = range_more values (p.first + n) c 0 (omega arith) (omega arith) in
        let counted : s.add (entry_product s a rows values (p.first + n) i) (column_sum s a i (slice_range rows (p.first + n + 1) c) (slice_range values (p.first + n + 1) c)) ≡ column_sum s a i (slice_range rows (p.first + n) c) (slice_range values (p.first + n) c) = sym (λ t. column_sum s a i (split t) (split_values t)) in
        ap (λ m. terms_at s a i (slice_range p.terms.items (place p n) (place p m))) e
        ∙ ap (terms_at s a i) (sym (range_both p.terms.items (place p n) (place p (n + 1)) (place p (n + 1 + d)) here later))
        ∙ terms_value-append s laws ks (values_of a.entries) (matrix_values s laws a is) i at_hand rest (all_terms (place p n) (place p (n + 1))) (all_terms (place p (n + 1)) (place p (n + 1 + d)))
        ∙ (λ t. s.add (h.products n i (omega arith) t) (sums d (n + 1) i (omega arith) t))
        ∙ ap (λ b. s.add (entry_product s a rows values (p.first + n) i) (column_sum s a i (slice_range rows b c) (slice_range values b c))) f
        ∙ counted
        ∙ ap (λ m. column_sum s a i (slice_range rows (p.first + n) (p.first + m)) (slice_range values (p.first + n) (p.first + m))) (sym e)

    -- so do those between two places
    pub has_terms : (from until : ℕ) → from ≤ until → Holds p from until → HasTermsAt s a rows values from until p (place p (from - p.first), place p (until - p.first))
    has_terms from until l holds =
        let first = holds.first in
        let last = holds.last in
        let e : from - p.first + (until - from) ≡ until - p.first = omega arith in
        let f : p.first + (from - p.first) ≡ from = omega arith in
        let g : p.first + (until - p.first) ≡ until = omega arith in
        record {
          order = rw (sym e) (rises (until - from) (from - p.first) (omega arith));
          within = fits (until - p.first) (omega arith);
          sums = λ i.
              ap (λ m. terms_at s a i (slice_range p.terms.items (place p (from - p.first)) (place p m))) (sym e)
              ∙ sums (until - from) (from - p.first) i (omega arith)
              ∙ ap (λ m. column_sum s a i (slice_range rows (p.first + (from - p.first)) (p.first + m)) (slice_range values (p.first + (from - p.first)) (p.first + m))) e
              ∙ (λ t. column_sum s a i (slice_range rows (f t) (g t)) (slice_range values (f t) (g t)));
        }

    -- as read from the places
    pub found : (from until : ℕ) → from ≤ until → Holds p from until → (begin end : ℕ) → begin ≡ get_or p.places.items (from - p.first) begin → end ≡ get_or p.places.items (until - p.first) end → HasTermsAt s a rows values from until p (begin, end)
    found from until l holds begin end begins ends =
        let first = holds.first in
        let last = holds.last in
        let same : begin ≡ place p (from - p.first) = begins ∙ get_or_default p.places.items (from - p.first) begin 0 (omega arith) in
        let same_end : end ≡ place p (until - p.first) = ends ∙ get_or_default p.places.items (until - p.first) end 0 (omega arith) in
        rw (same, same_end) (has_terms from until l holds)

    -- no entry has no terms
    pub no_terms : (from : ℕ) → HasTermsAt s a rows values from from p (0, 0)
    unfolding column_sum total
    no_terms from = record {
      order = omega arith;
      within = omega arith;
      sums = λ i. ap (terms_at s a i) (no_range p.terms.items 0) ∙ sym (ap (λ rs. column_sum s a i rs (slice_range values from from)) (no_range rows from));
    }

-- those of all entries
pub of_all : (s : Arithmetic) (a : Sparse) (rows values : List ℕ) → length values ≡ length rows → (end : ℕ) → end ≡ length rows → (p : Panel) (r : ℕ × ℕ) → HasTermsAt s a rows values 0 end p r → (i : ℕ) → terms_at s a i (slice_range p.terms.items r.0 r.1) ≡ column_sum s a i rows values
of_all s a rows values same end is p r has i = has.sums i ∙ (λ t. column_sum s a i (take_all (end - 0) rows (omega arith) t) (take_all (end - 0) values (omega arith) t))

-- ---- terms of a matrix for a column of another
module _ (s : Arithmetic) (laws : IsSemiring s) (a b : Sparse) (is : IsMatrix s b) (p : Panel) where
  pub of_column : (j from until : ℕ) (r : ℕ × ℕ) → slice_range b.entries from until ≡ in_column j b.entries → HasTermsAt s a (rows_of b.entries) (values_of b.entries) from until p r → AreTermsOf s a b j (slice_range p.terms.items r.0 r.1)
  of_column j from until r there has i = has.sums i ∙ (λ t. column_sum s a i (rows_there s laws b is j from until there t) (values_there s laws b is j from until there t))

  pub are_terms : AreGathered s a (rows_of b.entries) (values_of b.entries) p → (begin end : ℕ) → All (IsTerm s (rows_of a.entries)) (slice_range p.terms.items begin end)
  are_terms h begin end = All-take (IsTerm s (rows_of a.entries)) (end - begin) (drop begin p.terms.items) (All-drop (IsTerm s (rows_of a.entries)) begin p.terms.items h.terms)
