-- The terms of a column, and their sum.
use Rattle.std.proofs.Common.{◌≡◌, ℕ, ◌+◌, ◌-◌, ◌<◌, ◌≤◌, List, [], ◌∷◌, ◌++◌, length, map, take, drop, get_or, sym, refl, ap, ◌∙◌, arith}
use Rattle.std.specs.Prelude.{All, slice_range}
use Rattle.std.proofs.lemmas.List.{take-map, drop-map, drop_more, drop_all, length-map, map-append}
use Rattle.std.proofs.lemmas.List.Elements.{All-head, All-tail, All-map, All-get_or, All-drop, All-take, All-weaker}
use Rattle.cb_semirings.specs.Arithmetic.{Arithmetic, IsValue, IsSemiring}
use Rattle.cb_matrix.specs.declared.Entry.{Entry}
use Rattle.cb_matrix.specs.Sparse.{Sparse, IsMatrix, at}
use Rattle.cb_matrix.specs.Values.{total}
use Rattle.cb_matrix.proofs.Totals.{add_zero, total-append, value_at-value}
use Rattle.cb_matrix.proofs.Permuted.{sum_value}
use Rattle.cb_dcsc.specs.Columns.{in_column, rows_of, values_of, row_value}
use Rattle.cb_dcsc.proofs.Lookup.{column_value, column_ascends}
use Rattle.cb_product.specs.declared.terms.Term.{Term}
use Rattle.cb_product.specs.Terms.{term_value, terms_value, IsTerm, column_sum}
use Rattle.cb_product.proofs.RowValues.{row_value-value, absent_above}

range-map : {X Y : Type 0} (f : X → Y) (a b : ℕ) (xs : List X) → slice_range (map f xs) a b ≡ map f (slice_range xs a b)
range-map f a b xs = ap (take (b - a)) (drop-map f a xs) ∙ take-map f (b - a) (drop a xs)

-- ---- terms over any rows and values
module _ (s : Arithmetic) (laws : IsSemiring s) (rows values : List ℕ) (all_values : All (IsValue s) values) where
  -- a term's value at a row is a value of the semiring
  pub term_value-value : (i : ℕ) (t : Term) → IsValue s t.scale → IsValue s (term_value s rows values i t)
  term_value-value i t v = laws.mul_value _ _ (row_value-value s laws (slice_range rows t.at t.end) (slice_range values t.at t.end) i (All-take (IsValue s) (t.end - t.at) (drop t.at values) (All-drop (IsValue s) t.at values all_values))) v

  all_terms : (i : ℕ) (ts : List Term) → All (IsTerm s rows) ts → All (λ t. IsValue s (term_value s rows values i t)) ts
  all_terms i ts k = All-weaker (IsTerm s rows) (λ t. IsValue s (term_value s rows values i t)) (λ t is. term_value-value i t is.scale) ts k

  -- and so is the sum of terms
  pub terms_value-value : (i : ℕ) (ts : List Term) → All (IsTerm s rows) ts → IsValue s (terms_value s rows values i ts)
  terms_value-value i ts is = sum_value s laws (term_value s rows values i) ts (all_terms i ts is)

  -- of two lists, one after the other
  pub terms_value-append : (i : ℕ) (ts us : List Term) → All (IsTerm s rows) ts → All (IsTerm s rows) us → terms_value s rows values i (ts ++ us) ≡ s.add (terms_value s rows values i ts) (terms_value s rows values i us)
  terms_value-append i ts us is js =
      ap (total s) (map-append (term_value s rows values i) ts us)
      ∙ total-append s laws (map (term_value s rows values i) ts) (map (term_value s rows values i) us) (All-map (IsValue s) (term_value s rows values i) ts (all_terms i ts is)) (All-map (IsValue s) (term_value s rows values i) us (all_terms i us js))

  -- the first term, and the others
  pub terms_value-rest : (i n : ℕ) (ts : List Term) (d : Term) → n < length ts → terms_value s rows values i (drop n ts) ≡ s.add (term_value s rows values i (get_or ts n d)) (terms_value s rows values i (drop (n + 1) ts))
  unfolding total
  terms_value-rest i n ts d l = ap (terms_value s rows values i) (drop_more ts n d l)

  -- past the last term the sum is zero
  pub terms_value-end : (i n : ℕ) (ts : List Term) → length ts ≤ n → terms_value s rows values i (drop n ts) ≡ s.zero
  unfolding total
  terms_value-end i n ts l = ap (terms_value s rows values i) (drop_all n ts l)

  -- one term alone
  pub terms_value-one : (i : ℕ) (ts : List Term) (d : Term) → length ts ≡ 1 → IsValue s (get_or ts 0 d).scale → terms_value s rows values i ts ≡ term_value s rows values i (get_or ts 0 d)
  terms_value-one i ts d e v =
      terms_value-rest i 0 ts d (omega (arith, e))
      ∙ ap (s.add (term_value s rows values i (get_or ts 0 d))) (terms_value-end i 1 ts (omega (arith, e)))
      ∙ add_zero s laws (term_value s rows values i (get_or ts 0 d)) (term_value-value i (get_or ts 0 d) v)

  -- ---- terms added to dense sums
  -- with one more term
  pub term_added : (ts : List Term) (n : ℕ) (d : Term) (old new : List ℕ) (T : ℕ → ℕ) → n < length ts → All (IsTerm s rows) ts → All (IsValue s) old → length new ≡ length old
      → ((i : ℕ) → i < length old → get_or new i s.zero ≡ s.add (get_or old i s.zero) (term_value s rows values i (get_or ts n d)))
      → ((i : ℕ) → i < length old → s.add (get_or old i s.zero) (terms_value s rows values i (drop n ts)) ≡ T i)
      → (i : ℕ) → i < length old → s.add (get_or new i s.zero) (terms_value s rows values i (drop (n + 1) ts)) ≡ T i
  term_added ts n d old new T l is vs long step so_far i li =
      let t = get_or ts n d in
      let term : IsTerm s rows t = All-get_or (IsTerm s rows) ts n d l is in
      let rest = terms_value s rows values i (drop (n + 1) ts) in
      ap (λ y. s.add y rest) (step i li)
      ∙ laws.add_assoc (get_or old i s.zero) (term_value s rows values i t) rest (All-get_or (IsValue s) old i s.zero li vs) (term_value-value i t term.scale) (terms_value-value i (drop (n + 1) ts) (All-drop (IsTerm s rows) (n + 1) ts is))
      ∙ ap (s.add (get_or old i s.zero)) (sym (terms_value-rest i n ts d l)) ∙ so_far i li

  -- with all terms
  pub terms_added : (ts : List Term) (n : ℕ) (sums : List ℕ) (T : ℕ → ℕ) → length ts ≤ n → All (IsValue s) sums → ((i : ℕ) → i < length sums → s.add (get_or sums i s.zero) (terms_value s rows values i (drop n ts)) ≡ T i) → (i : ℕ) → i < length sums → get_or sums i s.zero ≡ T i
  terms_added ts n sums T l vs so_far i li =
      sym (add_zero s laws (get_or sums i s.zero) (All-get_or (IsValue s) sums i s.zero li vs)) ∙ ap (s.add (get_or sums i s.zero)) (sym (terms_value-end i n ts l)) ∙ so_far i li

-- ---- rows past all rows
module _ (s : Arithmetic) (laws : IsSemiring s) (rows values : List ℕ) (bound i : ℕ) (inside : All (λ r. r < bound) rows) (past : bound ≤ i) where
  -- terms have zero at a row past all rows of the left block
  pub terms_past : (ts : List Term) → All (IsTerm s rows) ts → terms_value s rows values i ts ≡ s.zero
  unfolding total
  terms_past [] is = refl
  terms_past (t ∷ ts) is =
      let here = All-head (IsTerm s rows) t ts is in
      let none : term_value s rows values i t ≡ s.zero = ap (λ x. s.mul x t.scale) (absent_above s.zero bound (slice_range rows t.at t.end) (slice_range values t.at t.end) i (All-take (λ r. r < bound) (t.end - t.at) (drop t.at rows) (All-drop (λ r. r < bound) t.at rows inside)) past) ∙ laws.zero_mul t.scale here.scale in
      (λ k. s.add (none k) (terms_past ts (All-tail (IsTerm s rows) t ts is) k)) ∙ laws.zero_add s.zero laws.zero_value

-- ---- terms of a matrix
module _ (s : Arithmetic) (laws : IsSemiring s) (a : Sparse) (is : IsMatrix s a) where
  abbrev ks : List ℕ
  ks = rows_of a.entries

  abbrev vs : List ℕ
  vs = values_of a.entries

  -- it has as many values as rows
  pub lengths : length vs ≡ length ks
  lengths = length-map a.entries (λ (e : Entry). e.value) ∙ sym (length-map a.entries (λ (e : Entry). e.row))

  -- all of its values are values of the semiring
  pub matrix_values : All (IsValue s) vs
  matrix_values = All-map (IsValue s) (λ (e : Entry). e.value) a.entries is.values

  pub column_sum-value : (i : ℕ) (rows values : List ℕ) → All (IsValue s) values → IsValue s (column_sum s a i rows values)
  unfolding column_sum
  column_sum-value i [] values h = laws.zero_value
  column_sum-value i (k ∷ rows) [] h = laws.zero_value
  column_sum-value i (k ∷ rows) (v ∷ values) h = laws.add_value _ _ (laws.mul_value _ v (value_at-value s laws a.entries i k is.values) (All-head (IsValue s) v values h)) (column_sum-value i rows values (All-tail (IsValue s) v values h))

  module _ (k from to : ℕ) (there : slice_range a.entries from to ≡ in_column k a.entries) where
    -- the rows and values of a column between two places
    pub rows_there : slice_range ks from to ≡ rows_of (in_column k a.entries)
    rows_there = range-map (λ (e : Entry). e.row) from to a.entries ∙ ap rows_of there

    pub values_there : slice_range vs from to ≡ values_of (in_column k a.entries)
    values_there = range-map (λ (e : Entry). e.value) from to a.entries ∙ ap values_of there

    module _ (t : Term) (at_is : t.at ≡ from) (end_is : t.end ≡ to) where
      -- a term that is this column has its values, times the factor
      pub scaled_column : (i : ℕ) → term_value s ks vs i t ≡ s.mul (at s a i k) t.scale
      scaled_column i =
          (λ e. s.mul (row_value s.zero (slice_range ks (at_is e) (end_is e)) (slice_range vs (at_is e) (end_is e)) i) t.scale)
          ∙ ap (λ x. s.mul x t.scale) (ap (λ rs. row_value s.zero rs (slice_range vs from to) i) rows_there ∙ ap (λ ws. row_value s.zero (rows_of (in_column k a.entries)) ws i) values_there ∙ column_value s.zero a.entries i k)

      -- and it is a term
      pub new_term : t.row ≡ get_or ks from 0 → from < to → to ≤ length a.entries → IsValue s t.scale → IsTerm s ks t
      new_term e l m v = record {
        some = omega arith;
        row = e ∙ ap (λ n. get_or ks n 0) (sym at_is);
        within = let n = length-map a.entries (λ (e : Entry). e.row) in omega arith;
        ascending = rw (at_is, end_is, rows_there) (column_ascends k a.entries is.ascending);
        scale = v;
      }

    -- without entries it adds nothing
    pub no_column : to ≤ from → (i scale : ℕ) → IsValue s scale → s.mul (at s a i k) scale ≡ s.zero
    unfolding row_value
    no_column l i scale v =
        let n : to - from ≡ 0 = omega arith in
        let none : [] ≡ in_column k a.entries = ap (λ m. take m (drop from a.entries)) (sym n) ∙ there in
        ap (λ x. s.mul x scale) (sym (column_value s.zero a.entries i k) ∙ ap (λ es. row_value s.zero (rows_of es) (values_of es) i) (sym none)) ∙ laws.zero_mul scale v
