-- The value of a column at a row, entry by entry.
use Rattle.std.proofs.Common.{◌≡◌, ℕ, ◌+◌, ◌<◌, ◌≤◌, true, false, cond, inl, inr, ◌⊎◌, Option, Some, None, List, [], ◌∷◌, ◌++◌, length, drop, get_or, sym, refl, ap, ◌∙◌, ⊎_elim, arith, subst}
use Rattle.std.specs.Prelude.{All, AllPairs, IfSome, ◌==◌}
use Rattle.std.proofs.lemmas.Bool.{cases_eq, eq-eqb, ne_eqb, cond-false}
use Rattle.std.proofs.lemmas.List.{drop_more, drop_all}
use Rattle.std.proofs.lemmas.List.Elements.{All-head, All-tail, All-drop, All-get_or}
use Rattle.cb_semirings.specs.Arithmetic.{Arithmetic, IsValue, IsSemiring}
use Rattle.cb_matrix.proofs.Totals.{add_zero, add_mul-zero}
use Rattle.cb_matrix.proofs.Pairs.{AllPairs-head, AllPairs-drop}
use Rattle.cb_dcsc.specs.Columns.{row_value}
use Rattle.cb_dcsc.proofs.Lookup.{row_value-absent}
use Rattle.cb_product.specs.SparseColumn.{one_value, rest_value, scaled}

-- the value is zero at a row past all rows
pub absent_above : (z bound : ℕ) (rs vs : List ℕ) (i : ℕ) → All (λ r. r < bound) rs → bound ≤ i → row_value z rs vs i ≡ z
absent_above z bound rs vs i h l = row_value-absent z rs vs i (λ k m e. let b : get_or rs k 0 < bound = All-get_or (λ r. r < bound) rs k 0 m h in absurd (omega arith))

-- and at a row before all rows
pub row_value-above : (z : ℕ) (rs vs : List ℕ) (i : ℕ) → All (λ r. i < r) rs → row_value z rs vs i ≡ z
unfolding row_value
row_value-above z [] vs i h = refl
row_value-above z (r ∷ rs) [] i h = refl
row_value-above z (r ∷ rs) (v ∷ vs) i h =
    let less = All-head (λ r. i < r) r rs h in
    cond-false _ _ _ (ne_eqb r i (omega arith)) ∙ row_value-above z rs vs i (All-tail (λ r. i < r) r rs h)

-- the value with one more entry, at a row past all others
pub row_value-push : (z : ℕ) (rs vs : List ℕ) (r v i : ℕ) → length vs ≡ length rs → All (λ k. k < r) rs → row_value z (rs ++ r ∷ []) (vs ++ v ∷ []) i ≡ cond (r == i) v (row_value z rs vs i)
unfolding row_value
row_value-push z [] [] r v i e h = refl
row_value-push z [] (y ∷ vs) r v i e h = absurd (omega arith)
row_value-push z (x ∷ rs) [] r v i e h = absurd (omega arith)
row_value-push z (x ∷ rs) (y ∷ vs) r v i e h =
    let less = All-head (λ k. k < r) x rs h in
    let rest = row_value-push z rs vs r v i (omega arith) (All-tail (λ k. k < r) x rs h) in
    ⊎_elim
    (λ (p : x ≡ i).
    let there = eq-eqb x i p in
    let away = ne_eqb r i (omega arith) in
    rw (there, away) refl)
    (λ (n : x ≡ i → ⊥). let away = ne_eqb x i n in rw away rest)
    (cases_eq x i)

-- the value is zero without rows
pub row_value-none : (z : ℕ) (rs vs : List ℕ) (i : ℕ) → rs ≡ [] → row_value z rs vs i ≡ z
unfolding row_value
row_value-none z rs vs i e = ap (λ r. row_value z r vs i) e

-- the rows after the n-th are later
pub rest_after : (rows : List ℕ) (n d : ℕ) → AllPairs (λ i j. i < j) rows → n < length rows → All (λ i. get_or rows n d < i) (drop (n + 1) rows)
rest_after rows n d up l = AllPairs-head (λ i j. i < j) (get_or rows n d) (drop (n + 1) rows) (subst (AllPairs (λ i j. i < j)) (drop_more rows n d l) (AllPairs-drop (λ i j. i < j) n rows up))

module _ (s : Arithmetic) (laws : IsSemiring s) where
  -- the value at a row is a value of the semiring if those of the entries are
  pub row_value-value : (rs vs : List ℕ) (i : ℕ) → All (IsValue s) vs → IsValue s (row_value s.zero rs vs i)
  unfolding row_value
  row_value-value [] vs i h = laws.zero_value
  row_value-value (r ∷ rs) [] i h = laws.zero_value
  row_value-value (r ∷ rs) (v ∷ vs) i h =
      elim (r == i) as (λ b. IsValue s (cond b v (row_value s.zero rs vs i))) [
        | true ↦ All-head (IsValue s) v vs h
        | false ↦ row_value-value rs vs i (All-tail (IsValue s) v vs h)
      ]

  -- and so is that of one entry
  pub one_value-value : (t : ℕ × ℕ) (i : ℕ) → IsValue s t.1 → IsValue s (one_value s.zero t i)
  one_value-value t i v = elim (t.0 == i) as (λ b. IsValue s (cond b t.1 s.zero)) [ true ↦ v | false ↦ laws.zero_value ]

  -- a value times a factor is a value
  pub scaled-value : (v : ℕ) (c : Option ℕ) → IsValue s v → IfSome c (IsValue s) → IsValue s (scaled s v c)
  scaled-value v None h k = h
  scaled-value v (Some c) h k = laws.mul_value v c h k

  -- zero times a factor is zero
  pub scaled-zero : (c : Option ℕ) → IfSome c (IsValue s) → scaled s s.zero c ≡ s.zero
  scaled-zero None k = refl
  scaled-zero (Some c) k = laws.zero_mul c k

  -- a sum times a factor, if one summand is zero
  pub scaled-add : (v w : ℕ) (c : Option ℕ) → IsValue s v → IsValue s w → IfSome c (IsValue s) → (v ≡ s.zero) ⊎ (w ≡ s.zero) → scaled s (s.add v w) c ≡ s.add (scaled s v c) (scaled s w c)
  scaled-add v w None hv hw k one = refl
  scaled-add v w (Some c) hv hw k one = add_mul-zero s laws v w c hv hw k one

  -- the value of one entry, times a factor
  pub one_value-scaled : (r v i : ℕ) (c : Option ℕ) → IfSome c (IsValue s) → scaled s (one_value s.zero (r, v) i) c ≡ one_value s.zero (r, scaled s v c) i
  one_value-scaled r v i c h = elim (r == i) as (λ b. scaled s (cond b v s.zero) c ≡ cond b (scaled s v c) s.zero) [ true ↦ refl | false ↦ scaled-zero c h ]

  -- the sum of the values of two entries at the same row
  pub one_value-add : (r v w i : ℕ) → s.add (one_value s.zero (r, v) i) (one_value s.zero (r, w) i) ≡ one_value s.zero (r, s.add v w) i
  one_value-add r v w i = elim (r == i) as (λ b. s.add (cond b v s.zero) (cond b w s.zero) ≡ cond b (s.add v w) s.zero) [ true ↦ refl | false ↦ laws.zero_add s.zero laws.zero_value ]

  -- the entries of a column from the n-th on, times a factor
  module _ (rows values : List ℕ) (scale : Option ℕ) (same : length values ≡ length rows) (all : All (IsValue s) values) (is_scale : IfSome scale (IsValue s)) where
    -- their value at a row is a value of the semiring
    pub rest_value-value : (n i : ℕ) → IsValue s (rest_value s.zero rows values n i)
    rest_value-value n i = row_value-value (drop n rows) (drop n values) i (All-drop (IsValue s) n values all)

    -- and so it is times the factor
    pub scaled_value : (n i : ℕ) → IsValue s (scaled s (rest_value s.zero rows values n i) scale)
    scaled_value n i = scaled-value _ scale (rest_value-value n i) is_scale

    -- the n-th entry's value is a value of the semiring
    pub nth_value : (n : ℕ) → n < length rows → IsValue s (get_or values n 0)
    nth_value n l = All-get_or (IsValue s) values n 0 (omega arith) all

    -- and so it is times the factor
    pub nth_product : (n : ℕ) → n < length rows → IsValue s (scaled s (get_or values n 0) scale)
    nth_product n l = scaled-value _ scale (nth_value n l) is_scale

    -- their value is that of the n-th entry plus that of the entries after it
    pub rest_split : (n i : ℕ) → AllPairs (λ i j. i < j) rows → n < length rows → rest_value s.zero rows values n i ≡ s.add (one_value s.zero (get_or rows n 0, get_or values n 0) i) (rest_value s.zero rows values (n + 1) i)
    unfolding row_value
    rest_split n i up l =
        let r = get_or rows n 0 in
        let v = get_or values n 0 in
        ap (λ rs. row_value s.zero rs (drop n values) i) (drop_more rows n 0 l)
        ∙ ap (λ vs. row_value s.zero (r ∷ drop (n + 1) rows) vs i) (drop_more values n 0 (omega arith))
        ∙ ⊎_elim
        (λ (e : r ≡ i).
        let t = eq-eqb r i e in
        let none : rest_value s.zero rows values (n + 1) i ≡ s.zero = row_value-above s.zero (drop (n + 1) rows) (drop (n + 1) values) i (rw (← e) (rest_after rows n 0 up l)) in
        rw (t, none) (sym (add_zero s laws v (nth_value n l))))
        (λ (e : r ≡ i → ⊥).
        let t = ne_eqb r i e in
        rw t (sym (laws.zero_add (rest_value s.zero rows values (n + 1) i) (rest_value-value (n + 1) i))))
        (cases_eq r i)

    -- one of the two is zero
    one_there : (n i : ℕ) → AllPairs (λ i j. i < j) rows → n < length rows → (one_value s.zero (get_or rows n 0, get_or values n 0) i ≡ s.zero) ⊎ (rest_value s.zero rows values (n + 1) i ≡ s.zero)
    one_there n i up l =
        ⊎_elim
        (λ (e : get_or rows n 0 ≡ i). inr (row_value-above s.zero (drop (n + 1) rows) (drop (n + 1) values) i (rw (← e) (rest_after rows n 0 up l))))
        (λ (e : get_or rows n 0 ≡ i → ⊥). inl (cond-false _ _ _ (ne_eqb (get_or rows n 0) i e)))
        (cases_eq (get_or rows n 0) i)

    -- the same, times the factor
    pub scaled_split : (n i : ℕ) → AllPairs (λ i j. i < j) rows → n < length rows → scaled s (rest_value s.zero rows values n i) scale ≡ s.add (one_value s.zero (get_or rows n 0, scaled s (get_or values n 0) scale) i) (scaled s (rest_value s.zero rows values (n + 1) i) scale)
    scaled_split n i up l =
        ap (λ x. scaled s x scale) (rest_split n i up l)
        ∙ scaled-add _ _ scale (one_value-value (get_or rows n 0, get_or values n 0) i (nth_value n l)) (rest_value-value (n + 1) i) is_scale (one_there n i up l)
        ∙ ap (λ x. s.add x (scaled s (rest_value s.zero rows values (n + 1) i) scale)) (one_value-scaled (get_or rows n 0) (get_or values n 0) i scale is_scale)

    -- past the last entry the value is zero
    pub scaled_end : (n i : ℕ) → length rows ≤ n → scaled s (rest_value s.zero rows values n i) scale ≡ s.zero
    scaled_end n i l = ap (λ x. scaled s x scale) (row_value-none s.zero (drop n rows) (drop n values) i (drop_all n rows l)) ∙ scaled-zero scale is_scale
