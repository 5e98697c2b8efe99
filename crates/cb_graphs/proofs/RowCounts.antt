-- How many entries a row has, as a count over all columns and over all entries.
use Rattle.std.proofs.Common.{◌≡◌, ◌≢◌, ℕ, ◌+◌, ◌<◌, ◌≤◌, true, false, cond, List, [], ◌∷◌, length, take, get_or, set, sym, refl, ap, ◌∙◌, ⊎_elim, arith}
use Rattle.std.specs.Prelude.{All, AllPairs, not, ◌&&◌, ◌==◌, count_by}
use Rattle.std.specs.List.{sum_by, range_with_len}
use Rattle.std.proofs.lemmas.Bool.{cases_eq, eq-eqb, ne_eqb, eqb-true}
use Rattle.std.proofs.lemmas.List.{get_or-set_same, get_or-set_other}
use Rattle.std.proofs.lemmas.List.Elements.{All-nil, All-cons, All-head, All-tail, All-weaker, All-from_get_or}
use Rattle.std.proofs.lemmas.List.Sums.{sum_by-cons, count_by_more_yes, count_by_more_no}
use Rattle.cb_semirings.specs.Arithmetic.{Arithmetic}
use Rattle.cb_semirings.specs.Tables.{plus_times}
use Rattle.cb_matrix.specs.declared.Entry.{Entry}
use Rattle.cb_matrix.specs.Sparse.{Sparse, Extent, IsMatrix, IsBefore, IsInside, value_at}
use Rattle.cb_matrix.specs.Values.{matrix_of}
use Rattle.cb_matrix.proofs.Made.{same_matrix_of}
use Rattle.cb_matrix.proofs.Pairs.{AllPairs-nil, AllPairs-cons, AllPairs-head, AllPairs-tail}
use Rattle.cb_matrix.proofs.Places.{value_at-before, IsPlaceBefore}
use Rattle.cb_dcsc.specs.Columns.{rows_of}
use Rattle.cb_graphs.specs.Degrees.{row_degree, row_degrees}
use Rattle.cb_graphs.proofs.Counting.{one, sum_same, sum_zero, sum_listed}

-- ---- counting
-- with one more row, its count is one more
module _ (bound : ℕ) (rows counts : List ℕ) (m : ℕ) (long : length counts ≡ bound) (so_far : (i : ℕ) → i < bound → get_or counts i 0 ≡ count_by (λ r. r == i) (take m rows)) (l : m < length rows) (low : get_or rows m 0 < bound) where
  abbrev row : ℕ
  row = get_or rows m 0

  pub counted_more : (i : ℕ) → i < bound → get_or (set counts row (get_or counts row 0 + 1)) i 0 ≡ count_by (λ r. r == i) (take (m + 1) rows)
  counted_more i b =
      ⊎_elim
      (λ (e : row ≡ i).
      let at : get_or (set counts row (get_or counts row 0 + 1)) row 0 ≡ get_or counts row 0 + 1 = get_or-set_same counts row (get_or counts row 0 + 1) 0 (omega arith) in
      let was = so_far row low in
      let more = count_by_more_yes (λ r. r == row) rows m 0 l (eq-eqb row row refl) in
      ap (λ x. get_or (set counts row (get_or counts row 0 + 1)) x 0) (sym e) ∙ at ∙ ap (λ x. x + 1) was ∙ sym more ∙ ap (λ x. count_by (λ r. r == x) (take (m + 1) rows)) e)
      (λ (e : row ≡ i → ⊥).
      let other : i ≢ row = λ q. e (sym q) in
      get_or-set_other counts row i (get_or counts row 0 + 1) 0 other ∙ so_far i b ∙ sym (count_by_more_no (λ r. r == i) rows m 0 l (ne_eqb row i e)))
      (cases_eq row i)

-- ---- the entries of a row
-- one number of a range is a given one
one_number : (c n : ℕ) → c < n → sum_by (λ j. one (c == j)) (range_with_len 0 n) ≡ 1
one_number c n l =
    let whole = sum_listed (λ j. one (c == j)) 0 n (c ∷ []) (AllPairs-cons (λ i j. i < j) c [] (All-nil (λ j. c < j)) (AllPairs-nil (λ i j. i < j))) (All-cons (λ x. 0 ≤ x) c [] (omega arith) (All-nil (λ x. 0 ≤ x))) (All-cons (λ x. x < 0 + n) c [] (omega arith) (All-nil (λ x. x < 0 + n)))
    (λ v some _. ⊎_elim (λ (e : c ≡ v). (0, omega arith, e)) (λ (ne : c ≡ v → ⊥). absurd (some (ap one (ne_eqb c v ne)))) (cases_eq c v)) in
    omega (arith, whole, sum_by-cons (λ j. one (c == j)) c [], ap one (eq-eqb c c refl))

-- two terms that are added up apart
sum_both : (f g : ℕ → ℕ) (xs : List ℕ) → sum_by (λ x. f x + g x) xs ≡ sum_by f xs + sum_by g xs
sum_both f g [] = refl
sum_both f g (x ∷ xs) = omega (arith, sum_by-cons (λ x. f x + g x) x xs, sum_by-cons f x xs, sum_by-cons g x xs, sum_both f g xs)

module _ (z i n : ℕ) where
  -- what the place in column j adds
  abbrev adds : List Entry → ℕ → ℕ
  adds es j = one (not (value_at z es i j == z))

  -- the first entry, if it is in the row, and the others
  own_and_rest : (e : Entry) (es : List Entry) → All (IsBefore e) es → e.value ≢ z → e.row ≡ i → (j : ℕ) → one (not (cond (e.column == j) e.value (value_at z es i j) == z)) ≡ one (e.column == j) + adds es j
  own_and_rest e es later some here j =
      elim (e.column == j) as (λ b. (e.column == j) ≡ b → one (not (cond b e.value (value_at z es i j) == z)) ≡ one b + adds es j) [
        | true ↦ λ t.
            let column : e.column ≡ j = eqb-true e.column j t in
            let after : All (IsPlaceBefore i j) es = All-weaker (IsBefore e) (IsPlaceBefore i j) (λ x b. rw (← here, ← column) b) es later in
            let none : adds es j ≡ 0 = ap (λ b. one (not b)) (eq-eqb (value_at z es i j) z (value_at-before z es i j after)) in
            ap (λ b. one (not b)) (ne_eqb e.value z some) ∙ omega (arith, none)
        | false ↦ λ _. omega arith
      ] refl

  -- how many places of the row have an entry
  pub places_of_row : (es : List Entry) → AllPairs IsBefore es → All (λ (e : Entry). e.column < n) es → All (λ (e : Entry). e.value ≢ z) es
      → sum_by (adds es) (range_with_len 0 n) ≡ count_by (λ r. r == i) (rows_of es)
  unfolding value_at
  places_of_row [] up below some = sum_zero (adds []) (range_with_len 0 n) (All-from_get_or (λ j. adds [] j ≡ 0) (range_with_len 0 n) 0 (λ k l. ap (λ b. one (not b)) (eq-eqb z z refl)))
  places_of_row (e ∷ es) up below some =
      let rest = places_of_row es (AllPairs-tail IsBefore e es up) (All-tail (λ (e : Entry). e.column < n) e es below) (All-tail (λ (e : Entry). e.value ≢ z) e es some) in
      let more = sum_by-cons (λ r. one (r == i)) e.row (rows_of es) in
      let all = range_with_len 0 n in
      elim (e.row == i) as (λ b. (e.row == i) ≡ b → count_by (λ r. r == i) (e.row ∷ rows_of es) ≡ one b + count_by (λ r. r == i) (rows_of es)
      → sum_by (λ j. one (not (cond (b && (e.column == j)) e.value (value_at z es i j) == z))) all ≡ count_by (λ r. r == i) (e.row ∷ rows_of es)) [
        | true ↦ λ t k.
            let later = AllPairs-head IsBefore e es up in
            let here = eqb-true e.row i t in
            let own = one_number e.column n (All-head (λ (e : Entry). e.column < n) e es below) in
            let split : sum_by (λ j. one (not (cond (e.column == j) e.value (value_at z es i j) == z))) all ≡ sum_by (λ j. one (e.column == j)) all + sum_by (adds es) all =
            sum_same (λ j. one (not (cond (e.column == j) e.value (value_at z es i j) == z))) (λ j. one (e.column == j) + adds es j) all (All-from_get_or (λ j. one (not (cond (e.column == j) e.value (value_at z es i j) == z)) ≡ one (e.column == j) + adds es j) all 0 (λ q l. own_and_rest e es later (All-head (λ (e : Entry). e.value ≢ z) e es some) here (get_or all q 0)))
            ∙ sum_both (λ j. one (e.column == j)) (adds es) all in
            omega (arith, split, own, rest, k)
        | false ↦ λ f k. rest ∙ omega (arith, k)
      ] refl more

-- the count of each row is its degree
pub counts_are : (s : Arithmetic) (a m : Sparse) (shape : Extent) (counts : List ℕ) → IsMatrix s a → shape ≡ record { rows = a.shape.rows; cols = 1 }
    → ((i : ℕ) → i < a.shape.rows → get_or counts i 0 ≡ count_by (λ r. r == i) (rows_of a.entries)) → m ≡ matrix_of plus_times shape (λ i _. get_or counts i 0) → m ≡ row_degrees s a
counts_are s a m shape counts is is_shape counted made =
    made ∙ ap (λ (x : Extent). matrix_of plus_times x (λ i _. get_or counts i 0)) is_shape
    ∙ same_matrix_of plus_times (record { rows = a.shape.rows; cols = 1 }) (λ i _. get_or counts i 0) (λ i _. row_degree s a i) (λ i _ l _.
    counted i l ∙ sym (places_of_row s.zero i a.shape.cols a.entries is.ascending (All-weaker (IsInside a.shape) (λ (e : Entry). e.column < a.shape.cols) (λ e h. h.1) a.entries is.inside) is.not_zero))
