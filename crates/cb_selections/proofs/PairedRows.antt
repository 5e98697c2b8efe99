-- The rows of a column of a Kronecker product.
use Rattle.std.proofs.Common.{◌≡◌, ◌≢◌, ℕ, ◌+◌, ◌*◌, ◌/◌, ◌%◌, ◌<◌, ◌≤◌, List, [], ◌∷◌, ◌++◌, length, get_or, sym, refl, ap, ◌∙◌, ⊎_elim, arith, subst}
use Rattle.std.specs.Prelude.{All}
use Rattle.std.proofs.lemmas.Bool.{cases_lt}
use Rattle.std.proofs.lemmas.Nat.{div-mul-add, mod-mul-add, le-div}
use Rattle.std.proofs.lemmas.List.{get_or_default}
use Rattle.std.proofs.lemmas.List.Elements.{All-get_or}
use Rattle.cb_semirings.specs.Arithmetic.{Arithmetic, IsValue, IsSemiring}
use Rattle.cb_dcsc.specs.Columns.{row_value}
use Rattle.cb_dcsc.proofs.Lookup.{row_value-found, row_value-absent}
use Rattle.cb_product.specs.SparseColumn.{IsSparseColumn}
use Rattle.cb_product.proofs.RowValues.{absent_above, row_value-value}
use Rattle.cb_operations.specs.SelectionAnswers.{pair_value}
use Rattle.cb_selections.proofs.ListMade.{IsListTo, list_none, list_past, list_kept, list_dropped}
use Rattle.cb_selections.proofs.NumberPairs.{pairs_none, pairs_next, pairs_all, pair_none, pair_next, pair_all}

-- if one of the two is zero, so is the product
pub pair_left : (s : Arithmetic) → IsSemiring s → (h : ℕ) (f g : ℕ → ℕ) (i : ℕ) → IsValue s (g (i % h)) → f (i / h) ≡ s.zero → pair_value s h f g i ≡ s.zero
pair_left s laws h f g i value e = ap (λ x. s.mul x (g (i % h))) e ∙ laws.zero_mul (g (i % h)) value

pub pair_right : (s : Arithmetic) → IsSemiring s → (h : ℕ) (f g : ℕ → ℕ) (i : ℕ) → IsValue s (f (i / h)) → g (i % h) ≡ s.zero → pair_value s h f g i ≡ s.zero
pair_right s laws h f g i value e = ap (s.mul (f (i / h))) e ∙ laws.mul_zero (f (i / h)) value

-- at a * h + b it is that of a and b
pub pair_at : (s : Arithmetic) (h : ℕ) (f g : ℕ → ℕ) (a b : ℕ) → b < h → pair_value s h f g (a * h + b) ≡ s.mul (f a) (g b)
pair_at s h f g a b l = λ t. s.mul (f (div-mul-add a h b l t)) (g (mod-mul-add a h b l t))

module _ (s : Arithmetic) (laws : IsSemiring s) (ls lvs rs rvs : List ℕ) (left : IsSparseColumn s ls lvs) (right : IsSparseColumn s rs rvs) (h bound : ℕ) (low : All (λ i. i < h) rs) (left_low : All (λ i. i < bound) ls) where
  abbrev f : ℕ → ℕ
  f = row_value s.zero ls lvs

  abbrev g : ℕ → ℕ
  g = row_value s.zero rs rvs

  -- the products of the two columns
  abbrev pub pairs_of : ℕ → ℕ
  pairs_of i = pair_value s h (row_value s.zero ls lvs) (row_value s.zero rs rvs) i

  f_value : (i : ℕ) → IsValue s (f i)
  f_value i = row_value-value s laws ls lvs i left.are_values

  g_value : (i : ℕ) → IsValue s (g i)
  g_value i = row_value-value s laws rs rvs i right.are_values

  outer : (i : ℕ) → All (λ c. c ≢ i / h) ls → pairs_of i ≡ s.zero
  outer i others = pair_left s laws h f g i (g_value (i % h)) (row_value-absent s.zero ls lvs (i / h) (λ k l. others k 0 l))

  inner : (i : ℕ) → All (λ d. d ≢ i % h) rs → pairs_of i ≡ s.zero
  inner i others = pair_right s laws h f g i (f_value (i / h)) (row_value-absent s.zero rs rvs (i % h) (λ k l. others k 0 l))

  -- none yet
  pub rows_none : (ks ws : List ℕ) → ks ≡ [] → ws ≡ [] → IsListTo s pairs_of (get_or ls 0 bound * h) ks ws
  rows_none ks ws p q = pairs_none (λ r. IsListTo s pairs_of r ks ws) (λ i. pairs_of i ≡ s.zero) (list_past s pairs_of ks ws) ls rs bound h left.ascending right.ascending left_low low outer inner (list_none s pairs_of ks ws p q)

  past_all : (k : ℕ) → bound * h ≤ k → pairs_of k ≡ s.zero
  past_all k b =
      ⊎_elim
      (λ (p : 0 < h). pair_left s laws h f g k (g_value (k % h)) (absent_above s.zero bound ls lvs (k / h) left_low (le-div bound k h p b)))
      (λ (z : h ≤ 0). pair_right s laws h f g k (f_value (k / h)) (row_value-absent s.zero rs rvs (k % h) (λ j l _. let b : get_or rs j 0 < h = All-get_or (λ i. i < h) rs j 0 l low in absurd (omega arith))))
      (cases_lt 0 h)

  -- all
  pub rows_all : (ks ws : List ℕ) (n : ℕ) → length ls ≤ n → IsListTo s pairs_of (get_or ls n bound * h) ks ws → (i : ℕ) → row_value s.zero ks ws i ≡ pairs_of i
  rows_all ks ws n l so_far i =
      let all = pairs_all (λ r. IsListTo s pairs_of r ks ws) (λ i. pairs_of i ≡ s.zero) (list_past s pairs_of ks ws) ls rs bound h left.ascending right.ascending left_low low outer inner n l so_far in
      let more : IsListTo s pairs_of (bound * h + (i + 1)) ks ws = list_past s pairs_of ks ws (bound * h) (bound * h + (i + 1)) (omega arith) (λ k b _. past_all k b) all in
      more.done i (omega arith)

  module _ (n : ℕ) (l : n < length ls) where
    a : ℕ
    a = get_or ls n 0

    -- the n-th row of the first is begun
    pub row_none : (ks ws : List ℕ) → IsListTo s pairs_of (get_or ls n bound * h) ks ws → IsListTo s pairs_of (get_or ls n 0 * h + get_or rs 0 h) ks ws
    row_none ks ws so_far =
        pair_none (λ r. IsListTo s pairs_of r ks ws) (λ i. pairs_of i ≡ s.zero) (list_past s pairs_of ks ws) ls rs bound h left.ascending right.ascending left_low low outer inner (get_or ls n 0)
        (subst (λ x. IsListTo s pairs_of (x * h) ks ws) (get_or_default ls n bound 0 l) so_far)

    -- it is done
    pub row_all : (ks ws : List ℕ) (m : ℕ) → length rs ≤ m → IsListTo s pairs_of (get_or ls n 0 * h + get_or rs m h) ks ws → IsListTo s pairs_of (get_or ls (n + 1) bound * h) ks ws
    row_all ks ws m k so_far =
        pairs_next (λ r. IsListTo s pairs_of r ks ws) (λ i. pairs_of i ≡ s.zero) (list_past s pairs_of ks ws) ls rs bound h left.ascending right.ascending left_low low outer inner n l
        (pair_all (λ r. IsListTo s pairs_of r ks ws) (λ i. pairs_of i ≡ s.zero) (list_past s pairs_of ks ws) ls rs bound h left.ascending right.ascending left_low low outer inner (get_or ls n 0) m k so_far)

    module _ (m : ℕ) (k : m < length rs) where
      abbrev place : ℕ
      place = get_or ls n 0 * h + get_or rs m 0

      -- the value of the n-th of the first with the m-th of the second
      place_value : pairs_of place ≡ s.mul (get_or lvs n 0) (get_or rvs m 0)
      place_value =
          pair_at s h f g (get_or ls n 0) (get_or rs m 0) (All-get_or (λ i. i < h) rs m 0 k low)
          ∙ (λ t. s.mul (row_value-found s.zero ls lvs n (get_or ls n 0) left.same_length left.ascending l refl t) (row_value-found s.zero rs rvs m (get_or rs m 0) right.same_length right.ascending k refl t))

      begun : (ks ws : List ℕ) → IsListTo s pairs_of (get_or ls n 0 * h + get_or rs m h) ks ws → IsListTo s pairs_of place ks ws
      begun ks ws so_far = subst (λ x. IsListTo s pairs_of (get_or ls n 0 * h + x) ks ws) (get_or_default rs m h 0 k) so_far

      next : (ks ws : List ℕ) → IsListTo s pairs_of (place + 1) ks ws → IsListTo s pairs_of (get_or ls n 0 * h + get_or rs (m + 1) h) ks ws
      next ks ws so_far = pair_next (λ r. IsListTo s pairs_of r ks ws) (λ i. pairs_of i ≡ s.zero) (list_past s pairs_of ks ws) ls rs bound h left.ascending right.ascending left_low low outer inner (get_or ls n 0) m k so_far

      -- it is kept
      pub pair_kept : (ks ws : List ℕ) (v : ℕ) → v ≡ s.mul (get_or lvs n 0) (get_or rvs m 0) → v ≢ s.zero → IsListTo s pairs_of (get_or ls n 0 * h + get_or rs m h) ks ws
          → IsListTo s pairs_of (get_or ls n 0 * h + get_or rs (m + 1) h) (ks ++ place ∷ []) (ws ++ v ∷ [])
      pair_kept ks ws v v_is some so_far =
          let long = left.same_length in
          let long' = right.same_length in
          let value : IsValue s v = subst (IsValue s) (sym v_is) (laws.mul_value (get_or lvs n 0) (get_or rvs m 0) (All-get_or (IsValue s) lvs n 0 (omega arith) left.are_values) (All-get_or (IsValue s) rvs m 0 (omega arith) right.are_values)) in
          next (ks ++ place ∷ []) (ws ++ v ∷ []) (list_kept s pairs_of laws ks ws place v value (v_is ∙ sym place_value) some (begun ks ws so_far))

      -- or is zero
      pub pair_dropped : (ks ws : List ℕ) (v : ℕ) → v ≡ s.mul (get_or lvs n 0) (get_or rvs m 0) → v ≡ s.zero → IsListTo s pairs_of (get_or ls n 0 * h + get_or rs m h) ks ws → IsListTo s pairs_of (get_or ls n 0 * h + get_or rs (m + 1) h) ks ws
      pair_dropped ks ws v v_is none so_far = next ks ws (list_dropped s pairs_of ks ws place (place_value ∙ sym v_is ∙ none) (begun ks ws so_far))
