-- Sums of rows in a list of one number for each row, to which entries are added one after another.
use Rattle.std.proofs.Common.{◌≡◌, ℕ, ◌+◌, ◌<◌, ◌≤◌, true, false, cond, List, [], ◌∷◌, length, map, drop, get_or, set, sym, refl, ap, subst, ◌∙◌, ⊎_elim, arith}
use Rattle.std.specs.Prelude.{All, AllPairs, ◌==◌, ◌&&◌}
use Rattle.std.specs.List.{range_with_len}
use Rattle.std.proofs.lemmas.Bool.{cases_eq, eq-eqb, ne_eqb, cond-true, cond-false}
use Rattle.std.proofs.lemmas.List.{drop_more, drop_all, get_or_default, get_or-set_same, get_or-set_other}
use Rattle.std.proofs.lemmas.List.Elements.{All-head, All-tail, All-get_or, All-drop, All-weaker}
use Rattle.cb_semirings.specs.Arithmetic.{Arithmetic, IsValue, IsSemiring}
use Rattle.cb_matrix.specs.declared.Entry.{Entry}
use Rattle.cb_matrix.specs.Sparse.{Sparse, Extent, IsMatrix, IsBefore, IsInside, is_at, value_at}
use Rattle.cb_matrix.specs.Values.{total, matrix_of}
use Rattle.cb_matrix.specs.Operations.{row_sums}
use Rattle.cb_matrix.proofs.Made.{same_matrix_of}
use Rattle.cb_matrix.proofs.Pairs.{AllPairs-head, AllPairs-tail}
use Rattle.cb_matrix.proofs.Places.{is_at-parts, value_at-before, IsPlaceBefore}
use Rattle.cb_matrix.proofs.Totals.{add_zero, total-zero, total-same, total-add, total-single, value_at-value}
use Rattle.cb_reshape.specs.Sums.{row_total, AddsRowSums}

abbrev pub no_entry : Entry
no_entry = record { row = 0; column = 0; value = 0 }

-- what an entry adds to the sum of row i
abbrev pub added_at : Arithmetic → ℕ → Entry → ℕ
added_at s i e = cond (e.row == i) e.value s.zero

-- what some entries add to the sum of row i
abbrev pub row_sum : Arithmetic → List Entry → ℕ → ℕ
row_sum s es i = total s (map (added_at s i) es)

module _ (s : Arithmetic) (laws : IsSemiring s) where
  abbrev AreValues : List Entry → Type 0
  AreValues es = All (λ (e : Entry). IsValue s e.value) es

  -- what an entry adds is a value of the semiring
  added_value : (i : ℕ) (e : Entry) → IsValue s e.value → IsValue s (added_at s i e)
  added_value i e h = elim (e.row == i) as (λ b. IsValue s (cond b e.value s.zero)) [ true ↦ h | false ↦ laws.zero_value ]

  -- and so is what some entries add
  pub row_sum_value : (es : List Entry) (i : ℕ) → AreValues es → IsValue s (row_sum s es i)
  unfolding total
  row_sum_value [] i h = laws.zero_value
  row_sum_value (e ∷ es) i h =
      laws.add_value (added_at s i e) (row_sum s es i) (added_value i e (All-head (λ (e : Entry). IsValue s e.value) e es h)) (row_sum_value es i (All-tail (λ (e : Entry). IsValue s e.value) e es h))

  -- the values of one entry's row, and no others, are its own
  one_row_total : (e : Entry) (i n : ℕ) → e.column < n → IsValue s e.value → total s (map (λ k. cond (is_at i k e) e.value s.zero) (range_with_len 0 n)) ≡ added_at s i e
  one_row_total e i n low h =
      elim (e.row == i) as (λ b. total s (map (λ k. cond (b && (e.column == k)) e.value s.zero) (range_with_len 0 n)) ≡ cond b e.value s.zero) [
        | true ↦
            let here : ℕ → ℕ = λ k. cond (e.column == k) e.value s.zero in
            let here_value : (k : ℕ) → IsValue s (here k) = λ k. elim (e.column == k) as (λ b. IsValue s (cond b e.value s.zero)) [ true ↦ h | false ↦ laws.zero_value ] in
            let own : here e.column ≡ e.value = cond-true _ _ _ (eq-eqb e.column e.column refl) in
            total-single s laws here 0 n e.column here_value (omega arith) (omega arith) (λ k ne. let f : (e.column == k) ≡ false = ne_eqb e.column k (λ p. ne (sym p)) in rw f refl) ∙ own
        | false ↦ total-zero s laws (λ k. s.zero) 0 n (λ k l. refl)
      ]

  -- the values of a row are those of the first entry and of the others
  first_and_rest : (e : Entry) (es : List Entry) (i k : ℕ) → All (IsBefore e) es → AreValues (e ∷ es) → value_at s.zero (e ∷ es) i k ≡ s.add (cond (is_at i k e) e.value s.zero) (value_at s.zero es i k)
  unfolding value_at
  first_and_rest e es i k later h =
      elim (is_at i k e) as (λ b. is_at i k e ≡ b → cond b e.value (value_at s.zero es i k) ≡ s.add (cond b e.value s.zero) (value_at s.zero es i k)) [
        | true ↦ λ t.
            let here = is_at-parts e i k t in
            let after : All (IsPlaceBefore i k) es = All-weaker (IsBefore e) (IsPlaceBefore i k) (λ x b. rw (here.0, here.1) b) es later in
            sym (ap (s.add e.value) (value_at-before s.zero es i k after) ∙ add_zero s laws e.value (All-head (λ (e : Entry). IsValue s e.value) e es h))
        | false ↦ λ _. sym (laws.zero_add (value_at s.zero es i k) (value_at-value s laws es i k (All-tail (λ (e : Entry). IsValue s e.value) e es h)))
      ] refl

  -- the sum of a row over all columns is what the entries add to it
  all_columns : (es : List Entry) (i n : ℕ) → AllPairs IsBefore es → All (λ (e : Entry). e.column < n) es → AreValues es → total s (map (λ k. value_at s.zero es i k) (range_with_len 0 n)) ≡ row_sum s es i
  unfolding total value_at
  all_columns [] i n up below h = total-zero s laws (λ k. s.zero) 0 n (λ k l. refl)
  all_columns (e ∷ es) i n up below h =
      let rest = All-tail (λ (e : Entry). IsValue s e.value) e es h in
      let first = All-head (λ (e : Entry). IsValue s e.value) e es h in
      let later = AllPairs-head IsBefore e es up in
      let here : ℕ → ℕ = λ k. cond (is_at i k e) e.value s.zero in
      let here_value : (k : ℕ) → IsValue s (here k) = λ k. elim (is_at i k e) as (λ b. IsValue s (cond b e.value s.zero)) [ true ↦ first | false ↦ laws.zero_value ] in
      total-same s laws (λ k. value_at s.zero (e ∷ es) i k) (λ k. s.add (here k) (value_at s.zero es i k)) (λ k. first_and_rest e es i k later h) (range_with_len 0 n)
      ∙ total-add s laws here (λ k. value_at s.zero es i k) here_value (λ k. value_at-value s laws es i k rest) (range_with_len 0 n)
      ∙ ap (λ x. s.add x (total s (map (λ k. value_at s.zero es i k) (range_with_len 0 n)))) (one_row_total e i n (All-head (λ (e : Entry). e.column < n) e es below) first)
      ∙ ap (s.add (added_at s i e)) (all_columns es i n (AllPairs-tail IsBefore e es up) (All-tail (λ (e : Entry). e.column < n) e es below) rest)

  pub row_sum_is : (a : Sparse) (i : ℕ) → IsMatrix s a → row_sum s a.entries i ≡ row_total s a i
  row_sum_is a i is =
      let below = All-weaker (IsInside a.shape) (λ (e : Entry). e.column < a.shape.cols) (λ e h. h.1) a.entries is.inside in
      sym (all_columns a.entries i a.shape.cols is.ascending below is.values)

  -- ---- entries are added one after another
  module _ (es : List Entry) (values_are : AreValues es) (n : ℕ) (T : ℕ → ℕ) where
    -- one more entry, by its row and its value
    pub entry_added : (sums : List ℕ) (row value : ℕ) → n < length es → row ≡ (get_or es n no_entry).row → value ≡ (get_or es n no_entry).value → All (IsValue s) sums → row < length sums
        → ((i : ℕ) → i < length sums → s.add (get_or sums i s.zero) (row_sum s (drop n es) i) ≡ T i)
        → (i : ℕ) → i < length sums → s.add (get_or (set sums row (s.add (get_or sums row 0) value)) i s.zero) (row_sum s (drop (n + 1) es) i) ≡ T i
    unfolding total
    entry_added sums row value l is_row is_value vs lr so_far i li =
        let e = get_or es n no_entry in
        let x = s.add (get_or sums row 0) value in
        let ve : IsValue s e.value = All-get_or (λ (e : Entry). IsValue s e.value) es n no_entry l values_are in
        let rest = row_sum_value (drop (n + 1) es) i (All-drop (λ (e : Entry). IsValue s e.value) (n + 1) es values_are) in
        let split : row_sum s (drop n es) i ≡ s.add (added_at s i e) (row_sum s (drop (n + 1) es) i) = ap (λ xs. row_sum s xs i) (drop_more es n no_entry l) in
        ⊎_elim
        (λ (same : row ≡ i).
        let one : added_at s i e ≡ value = cond-true _ _ _ (eq-eqb e.row i (sym is_row ∙ same)) ∙ sym is_value in
        let here : get_or (set sums row x) i s.zero ≡ x = ap (λ k. get_or (set sums row x) k s.zero) (sym same) ∙ get_or-set_same sums row x s.zero lr in
        let was : get_or sums row 0 ≡ get_or sums i s.zero = get_or_default sums row 0 s.zero lr ∙ ap (λ k. get_or sums k s.zero) same in
        ap (λ y. s.add y (row_sum s (drop (n + 1) es) i)) (here ∙ ap (λ y. s.add y value) was)
        ∙ laws.add_assoc (get_or sums i s.zero) value (row_sum s (drop (n + 1) es) i) (All-get_or (IsValue s) sums i s.zero li vs) (subst (IsValue s) (sym is_value) ve) rest
        ∙ ap (s.add (get_or sums i s.zero)) (ap (λ y. s.add y (row_sum s (drop (n + 1) es) i)) (sym one) ∙ sym split) ∙ so_far i li)
        (λ (ne : row ≡ i → ⊥).
        let none : added_at s i e ≡ s.zero = cond-false _ _ _ (ne_eqb e.row i (λ p. ne (is_row ∙ p))) in
        let whole : row_sum s (drop n es) i ≡ row_sum s (drop (n + 1) es) i = split ∙ ap (λ y. s.add y (row_sum s (drop (n + 1) es) i)) none ∙ laws.zero_add (row_sum s (drop (n + 1) es) i) rest in
        ap (λ y. s.add y (row_sum s (drop (n + 1) es) i)) (get_or-set_other sums row i x s.zero (λ e. ne (sym e))) ∙ ap (s.add (get_or sums i s.zero)) (sym whole) ∙ so_far i li)
        (cases_eq row i)

    -- past the last entry the sums are complete
    pub all_added : (sums : List ℕ) → length es ≤ n → All (IsValue s) sums → ((i : ℕ) → i < length sums → s.add (get_or sums i s.zero) (row_sum s (drop n es) i) ≡ T i) → (i : ℕ) → i < length sums → get_or sums i s.zero ≡ T i
    unfolding total
    all_added sums l vs so_far i li =
        sym (add_zero s laws (get_or sums i s.zero) (All-get_or (IsValue s) sums i s.zero li vs)) ∙ ap (λ xs. s.add (get_or sums i s.zero) (row_sum s xs i)) (sym (drop_all n es l)) ∙ so_far i li

-- the sums of all rows, added to zeros, are the row sums
pub row_sums_are : (s : Arithmetic) → IsSemiring s → (a m : Sparse) (shape : Extent) (zeros sums : List ℕ) → IsMatrix s a → shape ≡ record { rows = a.shape.rows; cols = 1 } → All (λ x. x ≡ s.zero) zeros → length zeros ≡ a.shape.rows
    → AddsRowSums s a zeros sums → m ≡ matrix_of s shape (λ i _. get_or sums i s.zero) → m ≡ row_sums s a
row_sums_are s laws a m shape zeros sums is is_shape none long added stored =
    stored ∙ ap (λ (x : Extent). matrix_of s x (λ i _. get_or sums i s.zero)) is_shape
    ∙ same_matrix_of s (record { rows = a.shape.rows; cols = 1 }) (λ i _. get_or sums i s.zero) (λ i _. row_total s a i)
    (λ i j l k. added i l
    ∙ ap (λ x. s.add x (row_total s a i)) (All-get_or (λ x. x ≡ s.zero) zeros i s.zero (omega (arith, long, l)) none)
    ∙ laws.zero_add (row_total s a i) (subst (IsValue s) (row_sum_is s laws a i is) (row_sum_value s laws a.entries i is.values)))
