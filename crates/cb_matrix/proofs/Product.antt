-- The products of each two entries that meet make the product.
use Rattle.std.proofs.Common.{◌≡◌, ◌≢◌, ℕ, ◌+◌, ◌<◌, true, false, cond, inl, inr, ◌⊎◌, ⊎_elim, List, [], ◌∷◌, ◌++◌, length, map, filter, take, get_or, sym, refl, ap, ◌∙◌, arith, append_assoc}
use Rattle.std.specs.Prelude.{All, AllPairs, ◌==◌}
use Rattle.std.specs.List.{range_with_len}
use Rattle.std.proofs.lemmas.Bool.{cases_Bool, cases_eq, eq-eqb, ne_eqb, cond-true, cond-false, and_left, and_right, and_from}
use Rattle.std.proofs.lemmas.List.{append-nil, take_more, map-append}
use Rattle.std.proofs.lemmas.List.Elements.{All-head, All-tail, All-cons, All-nil, All-append, All-weaker, filter-append}
use Rattle.cb_semirings.specs.Arithmetic.{Arithmetic, IsValue, IsSemiring}
use Rattle.cb_matrix.specs.declared.Entry.{Entry}
use Rattle.cb_matrix.specs.Sparse.{Sparse, IsMatrix, is_at, at, value_at, IsBefore, IsInside}
use Rattle.cb_matrix.specs.Values.{total, values_at, collected, product, product_shape}
use Rattle.cb_matrix.specs.Products.{product_of, products_with, products}
use Rattle.cb_matrix.proofs.Places.{IsPlaceBefore, is_at-own, is_at-parts, value_at-before, AllPairs-head, AllPairs-tail}
use Rattle.cb_matrix.proofs.Made.{NoneAt, value_at-none}
pub use Rattle.cb_matrix.proofs.Made.{same_matrix_of}
use Rattle.cb_matrix.proofs.Totals.{add_zero, add_mul-zero, total-append, values_at-values, values_at-append}
pub use Rattle.cb_matrix.proofs.Totals.{value_at-value, each_value, total-nil, total-zero, total-single, total-add, total-same, one_more}

module _ (s : Arithmetic) (laws : IsSemiring s) where
  abbrev Val : Entry → Type 0
  Val e = IsValue s e.value

  -- ---- one entry with those that it meets
  products_with-all : (P : Entry → Type 0) (d : Entry) (es : List Entry) → All (λ e. P (product_of s d e)) es → All P (products_with s d es)
  products_with-all P d [] h = All-nil P
  products_with-all P d (e ∷ es) h =
      let rest = products_with-all P d es (All-tail (λ e. P (product_of s d e)) e es h) in
      elim (d.column == e.row) as (λ b. All P (map (product_of s d) (cond b (e ∷ filter (λ e. d.column == e.row) es) (filter (λ e. d.column == e.row) es)))) [
        | true ↦ All-cons P (product_of s d e) (products_with s d es) (All-head (λ e. P (product_of s d e)) e es h) rest
        | false ↦ rest
      ]

  none_given : (es : List Entry) (i j : ℕ) → NoneAt i j es → values_at es i j ≡ []
  none_given [] i j h = refl
  none_given (e ∷ es) i j h = rw (All-head (λ e. is_at i j e ≡ false) e es h) (none_given es i j (All-tail (λ e. is_at i j e ≡ false) e es h))

  -- at other rows nothing
  with_other_row : (d : Entry) (es : List Entry) (i j : ℕ) → d.row ≢ i → total s (values_at (products_with s d es) i j) ≡ s.zero
  with_other_row d es i j ne =
      ap (total s) (none_given (products_with s d es) i j (products_with-all (λ e. is_at i j e ≡ false) d es (λ k _ _. and_left (d.row == i) _ (ne_eqb d.row i ne)))) ∙ total-nil s laws

  with_own_row : (d : Entry) (es : List Entry) (j : ℕ) → IsValue s d.value → All Val es → AllPairs IsBefore es → total s (values_at (products_with s d es) d.row j) ≡ s.mul d.value (value_at s.zero es d.column j)
  unfolding value_at
  with_own_row d [] j v vs up = total-nil s laws ∙ sym (laws.mul_zero d.value v)
  with_own_row d (e ∷ es) j v vs up =
      let rest = with_own_row d es j v (All-tail Val e es vs) (AllPairs-tail IsBefore e es up) in
      let own : (d.row == d.row) ≡ true = eq-eqb d.row d.row refl in
      ⊎_elim
      (λ (meets : d.column ≡ e.row).
      let met : (d.column == e.row) ≡ true = eq-eqb d.column e.row meets in
      let begins : products_with s d (e ∷ es) ≡ product_of s d e ∷ products_with s d es = rw met refl in
      ⊎_elim
      (λ (here : e.column ≡ j).
      let at_place : is_at d.row j (product_of s d e) ≡ true = and_from (d.row == d.row) (e.column == j) own (eq-eqb e.column j here) in
      let none : value_at s.zero es d.column j ≡ s.zero =
      value_at-before s.zero es d.column j (All-weaker (IsBefore e) (IsPlaceBefore d.column j) (λ g k. ⊎_elim (λ m. inl (omega arith)) (λ m. inr (omega arith, omega arith)) k) es (AllPairs-head IsBefore e es up)) in
      ap (λ xs. total s (values_at xs d.row j)) begins
      ∙ one_more s laws (product_of s d e) (products_with s d es) d.row j true at_place
      ∙ ap (s.add (s.mul d.value e.value)) (rest ∙ ap (s.mul d.value) none ∙ laws.mul_zero d.value v)
      ∙ add_zero s laws (s.mul d.value e.value) (laws.mul_value d.value e.value v (All-head Val e es vs))
      ∙ ap (s.mul d.value) (sym (cond-true _ e.value (value_at s.zero es d.column j) (is_at-own e d.column j meets (sym here)))))
      (λ (away : e.column ≡ j → ⊥).
      let off : is_at d.row j (product_of s d e) ≡ false = and_right (d.row == d.row) (e.column == j) (ne_eqb e.column j away) in
      let not_there : is_at d.column j e ≡ false = and_right (e.row == d.column) (e.column == j) (ne_eqb e.column j away) in
      ap (λ xs. total s (values_at xs d.row j)) begins
      ∙ one_more s laws (product_of s d e) (products_with s d es) d.row j false off
      ∙ rest ∙ ap (s.mul d.value) (sym (cond-false _ e.value (value_at s.zero es d.column j) not_there)))
      (cases_eq e.column j))
      (λ (apart : d.column ≡ e.row → ⊥).
      let missed : (d.column == e.row) ≡ false = ne_eqb d.column e.row apart in
      let not_there : is_at d.column j e ≡ false = and_left (e.row == d.column) (e.column == j) (ne_eqb e.row d.column (λ p. apart (sym p))) in
      let skips : products_with s d (e ∷ es) ≡ products_with s d es = rw missed refl in
      ap (λ xs. total s (values_at xs d.row j)) skips
      ∙ rest ∙ ap (s.mul d.value) (sym (cond-false _ e.value (value_at s.zero es d.column j) not_there)))
      (cases_eq d.column e.row)

  -- ---- all entries
  module _ (es : List Entry) (vs : All Val es) (up : AllPairs IsBefore es) (n j : ℕ) where
    abbrev there : ℕ → ℕ
    there k = value_at s.zero es k j

    there_value : (k : ℕ) → IsValue s (there k)
    there_value k = value_at-value s laws es k j vs

    -- what one entry gives of the sum
    abbrev part : Entry → ℕ → ℕ → ℕ
    part d i k = s.mul (cond (is_at i k d) d.value s.zero) (there k)

    part_value : (d : Entry) (i k : ℕ) → IsValue s d.value → IsValue s (cond (is_at i k d) d.value s.zero)
    part_value d i k v = elim (is_at i k d) as (λ b. IsValue s (cond b d.value s.zero)) [ true ↦ v | false ↦ laws.zero_value ]

    part_total : (d : Entry) (i : ℕ) → IsValue s d.value → d.column < n → total s (map (part d i) (range_with_len 0 n)) ≡ total s (values_at (products_with s d es) i j)
    part_total d i v l =
        ⊎_elim
        (λ (own : d.row ≡ i).
        total-single s laws (part d i) 0 n d.column (λ k. laws.mul_value _ (there k) (part_value d i k v) (there_value k)) (omega arith) (omega arith)
        (λ k ne. ap (λ x. s.mul x (there k)) (cond-false _ d.value s.zero (and_right (d.row == i) (d.column == k) (ne_eqb d.column k (λ p. ne (sym p))))) ∙ laws.zero_mul (there k) (there_value k))
        ∙ ap (λ x. s.mul x (there d.column)) (cond-true _ d.value s.zero (is_at-own d i d.column (sym own) refl))
        ∙ sym (ap (λ r. total s (values_at (products_with s d es) r j)) (sym own) ∙ with_own_row d es j v vs up))
        (λ (other : d.row ≡ i → ⊥).
        total-zero s laws (part d i) 0 n (λ k _. ap (λ x. s.mul x (there k)) (cond-false _ d.value s.zero (and_left (d.row == i) (d.column == k) (ne_eqb d.row i other))) ∙ laws.zero_mul (there k) (there_value k))
        ∙ sym (with_other_row d es i j other))
        (cases_eq d.row i)

    -- of the first entry and the others at most one has a value at a place
    one_there : (d : Entry) (ds : List Entry) (i k : ℕ) → AllPairs IsBefore (d ∷ ds) → (cond (is_at i k d) d.value s.zero ≡ s.zero) ⊎ (value_at s.zero ds i k ≡ s.zero)
    one_there d ds i k dp =
        ⊎_elim
        (λ (t : is_at i k d ≡ true).
        let p = is_at-parts d i k t in
        inr (value_at-before s.zero ds i k (All-weaker (IsBefore d) (IsPlaceBefore i k) (λ g b. ⊎_elim (λ m. inl (omega arith)) (λ m. inr (omega arith, omega arith)) b) ds (AllPairs-head IsBefore d ds dp))))
        (λ (f : is_at i k d ≡ false). inl (cond-false _ d.value s.zero f))
        (cases_Bool (is_at i k d))

    -- a value is that of the first entry, or that of the others
    value_split : (d : Entry) (ds : List Entry) (i k : ℕ) → All Val (d ∷ ds) → AllPairs IsBefore (d ∷ ds) → value_at s.zero (d ∷ ds) i k ≡ s.add (cond (is_at i k d) d.value s.zero) (value_at s.zero ds i k)
    unfolding value_at
    value_split d ds i k dv dp =
        ⊎_elim
        (λ (t : is_at i k d ≡ true).
        let p = is_at-parts d i k t in
        let none : value_at s.zero ds i k ≡ s.zero = value_at-before s.zero ds i k (All-weaker (IsBefore d) (IsPlaceBefore i k) (λ g b. ⊎_elim (λ m. inl (omega arith)) (λ m. inr (omega arith, omega arith)) b) ds (AllPairs-head IsBefore d ds dp)) in
        rw (t, none) (sym (add_zero s laws d.value (All-head Val d ds dv))))
        (λ (f : is_at i k d ≡ false). rw f (sym (laws.zero_add (value_at s.zero ds i k) (value_at-value s laws ds i k (All-tail Val d ds dv)))))
        (cases_Bool (is_at i k d))

    products-value : (ds : List Entry) → All Val ds → All Val (products s ds es)
    products-value [] h = All-nil Val
    products-value (d ∷ ds) h = All-append Val (products_with s d es) (products s ds es) (products_with-all Val d es (λ k e l. laws.mul_value d.value _ (All-head Val d ds h) (vs k e l))) (products-value ds (All-tail Val d ds h))

    pub product_total : (ds : List Entry) (i : ℕ) → All Val ds → AllPairs IsBefore ds → All (λ d. d.column < n) ds
        → total s (values_at (products s ds es) i j) ≡ total s (map (λ k. s.mul (value_at s.zero ds i k) (there k)) (range_with_len 0 n))
    product_total [] i dv dp dc =
        total-nil s laws ∙ sym (total-zero s laws (λ k. s.mul (value_at s.zero [] i k) (there k)) 0 n (λ k _. ap (λ x. s.mul x (there k)) (value_at-none s.zero [] i k (All-nil (λ e. is_at i k e ≡ false))) ∙ laws.zero_mul (there k) (there_value k)))
    product_total (d ∷ ds) i dv dp dc =
        let v : IsValue s d.value = All-head Val d ds dv in
        let front = products_with-all Val d es (λ k e l. laws.mul_value d.value _ v (vs k e l)) in
        let rest = product_total ds i (All-tail Val d ds dv) (AllPairs-tail IsBefore d ds dp) (All-tail (λ d. d.column < n) d ds dc) in
        let tail_value : (k : ℕ) → IsValue s (value_at s.zero ds i k) = λ k. value_at-value s laws ds i k (All-tail Val d ds dv) in
        ap (total s) (values_at-append (products_with s d es) (products s ds es) i j)
        ∙ total-append s laws (values_at (products_with s d es) i j) (values_at (products s ds es) i j) (values_at-values s laws (products_with s d es) i j front) (values_at-values s laws (products s ds es) i j (products-value ds (All-tail Val d ds dv)))
        ∙ ap (λ x. s.add x (total s (values_at (products s ds es) i j))) (sym (part_total d i v (All-head (λ d. d.column < n) d ds dc)))
        ∙ ap (s.add (total s (map (part d i) (range_with_len 0 n)))) rest
        ∙ sym (total-add s laws (part d i) (λ k. s.mul (value_at s.zero ds i k) (there k)) (λ k. laws.mul_value _ (there k) (part_value d i k v) (there_value k)) (λ k. laws.mul_value _ (there k) (tail_value k) (there_value k)) (range_with_len 0 n))
        ∙ sym (total-same s laws (λ k. s.mul (value_at s.zero (d ∷ ds) i k) (there k)) (λ k. s.add (part d i k) (s.mul (value_at s.zero ds i k) (there k)))
        (λ k. ap (λ x. s.mul x (there k)) (value_split d ds i k dv dp) ∙ add_mul-zero s laws _ (value_at s.zero ds i k) (there k) (part_value d i k v) (tail_value k) (there_value k) (one_there d ds i k dp)) (range_with_len 0 n))

  pub products_all : (P : Entry → Type 0) (ds es : List Entry) → All (λ d. All (λ e. P (product_of s d e)) es) ds → All P (products s ds es)
  products_all P [] es h = All-nil P
  products_all P (d ∷ ds) es h = All-append P (products_with s d es) (products s ds es) (products_with-all P d es (All-head (λ d. All (λ e. P (product_of s d e)) es) d ds h)) (products_all P ds es (All-tail (λ d. All (λ e. P (product_of s d e)) es) d ds h))

  -- products of values are values
  pub products_values : (a b : Sparse) → IsMatrix s a → IsMatrix s b → All Val (products s a.entries b.entries)
  products_values a b p q = products_all Val a.entries b.entries (λ k d l m e h. laws.mul_value _ _ (p.values k d l) (q.values m e h))

  -- products are inside the shape of the product
  pub products_inside : (a b : Sparse) → IsMatrix s a → IsMatrix s b → All (IsInside (product_shape a b)) (products s a.entries b.entries)
  products_inside a b p q = products_all (IsInside (product_shape a b)) a.entries b.entries (λ k d l m e h. ((p.inside k d l).0, (q.inside m e h).1))

  -- the matrix collected from the products is the product
  pub products_product : (a b : Sparse) → IsMatrix s a → IsMatrix s b → collected s (product_shape a b) (products s a.entries b.entries) ≡ product s a b
  products_product a b p q =
      same_matrix_of s (product_shape a b) (λ i j. total s (values_at (products s a.entries b.entries) i j)) (λ i j. total s (map (λ k. s.mul (at s a i k) (at s b k j)) (range_with_len 0 a.shape.cols)))
      (λ i j _ _. product_total b.entries q.values q.ascending a.shape.cols j a.entries i p.values p.ascending (λ k d l. (p.inside k d l).1))

-- one entry more
pub products_with_more : (s : Arithmetic) (d : Entry) (es : List Entry) (k : ℕ) (x : Entry) → k < length es → products_with s d (take (k + 1) es) ≡ products_with s d (take k es) ++ map (product_of s d) (cond (d.column == (get_or es k x).row) (get_or es k x ∷ []) [])
products_with_more s d es k x l =
    ap (products_with s d) (take_more es k x l)
    ∙ ap (map (product_of s d)) (filter-append (λ e. d.column == e.row) (take k es) (get_or es k x ∷ []))
    ∙ map-append (product_of s d) (filter (λ e. d.column == e.row) (take k es)) (cond (d.column == (get_or es k x).row) (get_or es k x ∷ []) [])

-- a loop that appends the products of d with each entry that it meets
module _ (s : Arithmetic) (d : Entry) (es : List Entry) (k : ℕ) (x : Entry) (old before : List Entry) (within : k < length es) (so_far : old ≡ before ++ products_with s d (take k es)) where
  -- an entry that is met gives one product more
  pub products_met : d.column ≡ (get_or es k x).row → old ++ product_of s d (get_or es k x) ∷ [] ≡ before ++ products_with s d (take (k + 1) es)
  products_met h =
      let met : (d.column == (get_or es k x).row) ≡ true = eq-eqb d.column (get_or es k x).row h in
      ap (λ xs. xs ++ product_of s d (get_or es k x) ∷ []) so_far
      ∙ append_assoc before (products_with s d (take k es)) (product_of s d (get_or es k x) ∷ [])
      ∙ ap (λ xs. before ++ xs) (sym (products_with_more s d es k x within ∙ ap (λ b. products_with s d (take k es) ++ map (product_of s d) (cond b (get_or es k x ∷ []) [])) met))

  -- an entry that is not met gives none
  pub products_missed : d.column ≢ (get_or es k x).row → old ≡ before ++ products_with s d (take (k + 1) es)
  products_missed h =
      let missed : (d.column == (get_or es k x).row) ≡ false = ne_eqb d.column (get_or es k x).row h in
      so_far ∙ ap (λ xs. before ++ xs) (sym (products_with_more s d es k x within ∙ ap (λ b. products_with s d (take k es) ++ map (product_of s d) (cond b (get_or es k x ∷ []) [])) missed ∙ append-nil (products_with s d (take k es))))
