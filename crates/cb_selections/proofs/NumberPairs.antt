-- A walk over numbers a * h + b, where a is one of some numbers and b, below h, one of others; both ascend.
use Rattle.std.proofs.Common.{◌≡◌, ◌≢◌, ℕ, ◌+◌, ◌-◌, ◌*◌, ◌/◌, ◌%◌, ◌<◌, ◌≤◌, List, length, get_or, ap, ◌∙◌, ⊎_elim, arith, subst}
use Rattle.std.specs.Prelude.{All, AllPairs}
use Rattle.std.proofs.Math.Nat.{mul-le-mul_right}
use Rattle.std.proofs.lemmas.Bool.{cases_lt}
use Rattle.std.proofs.lemmas.Nat.{mod-mul-add, div_below, le-div}
use Rattle.std.proofs.lemmas.List.{get_or_default, get_or_past}
use Rattle.std.proofs.lemmas.List.Elements.{All-get_or}
use Rattle.cb_product.proofs.ColumnsMade.{before_first, between, below_next}

-- what is below a multiple is below one of a number other than zero
positive : (i m h : ℕ) → i < m * h → 0 < h
positive i m h l = ⊎_elim (λ (p : 0 < h). p) (λ (z : h ≤ 0). let e : h ≡ 0 = omega arith in let none : i < m * 0 = rw e at l in absurd (omega arith)) (cases_lt 0 h)

-- the number is below the bound of all, or one of them
at_most : (ds : List ℕ) (h m : ℕ) → All (λ d. d < h) ds → get_or ds m h ≤ h
at_most ds h m below = ⊎_elim
    (λ (l : m < length ds). let e = get_or_default ds m h 0 l in let b : get_or ds m 0 < h = All-get_or (λ d. d < h) ds m 0 l below in omega arith)
    (λ (l : length ds ≤ m). let e = get_or_past ds m h l in omega arith)
    (cases_lt m (length ds))

module _ (P quiet : ℕ → Type 0) (past : (c d : ℕ) → c ≤ d → ((i : ℕ) → c ≤ i → i < d → quiet i) → P c → P d) (cs ds : List ℕ) (bound h : ℕ) (cs_up : AllPairs (λ c d. c < d) cs) (ds_up : AllPairs (λ c d. c < d) ds) (cs_below : All (λ c. c < bound) cs) (ds_below : All (λ d. d < h) ds) (outer : (i : ℕ) → All (λ c. c ≢ i / h) cs → quiet i) (inner : (i : ℕ) → All (λ d. d ≢ i % h) ds → quiet i) where
  -- up to the first a
  pub pairs_none : P 0 → P (get_or cs 0 bound * h)
  pairs_none p = past 0 (get_or cs 0 bound * h) (omega arith) (λ i _ l. outer i (before_first cs bound (i / h) cs_up (div_below i h (get_or cs 0 bound) (positive i (get_or cs 0 bound) h l) l))) p

  -- from one a up to the next
  pub pairs_next : (n : ℕ) → n < length cs → P ((get_or cs n 0 + 1) * h) → P (get_or cs (n + 1) bound * h)
  pairs_next n l p =
      let next = below_next cs bound n cs_up cs_below l in
      let more : get_or cs n 0 + 1 ≤ get_or cs (n + 1) bound = omega arith in
      past ((get_or cs n 0 + 1) * h) (get_or cs (n + 1) bound * h) (mul-le-mul_right h more)
      (λ i low high.
      let some = positive i (get_or cs (n + 1) bound) h high in
      let above : get_or cs n 0 + 1 ≤ i / h = le-div (get_or cs n 0 + 1) i h some low in
      outer i (between cs bound n (i / h) cs_up l (omega arith) (div_below i h (get_or cs (n + 1) bound) some high)))
      p

  -- past the last a
  pub pairs_all : (n : ℕ) → length cs ≤ n → P (get_or cs n bound * h) → P (bound * h)
  pairs_all n l p = subst (λ c. P (c * h)) (get_or_past cs n bound l) p

  remainder : (a i x : ℕ) → a * h ≤ i → i < a * h + x → x ≤ h → (i - a * h < x) × (i % h ≡ i - a * h)
  remainder a i x low high most =
      let less : i - a * h < x = omega arith in
      let whole : i ≡ a * h + (i - a * h) = omega arith in
      (less, ap (λ k. k % h) whole ∙ mod-mul-add a h (i - a * h) (omega arith))

  -- of one a: up to the first b
  pub pair_none : (a : ℕ) → P (a * h) → P (a * h + get_or ds 0 h)
  pair_none a p =
      past (a * h) (a * h + get_or ds 0 h) (omega arith)
      (λ i low high.
      let r = remainder a i (get_or ds 0 h) low high (at_most ds h 0 ds_below) in
      let less = r.0 in let e = r.1 in
      inner i (before_first ds h (i % h) ds_up (omega arith)))
      p

  -- from one b up to the next
  pub pair_next : (a m : ℕ) → m < length ds → P (a * h + get_or ds m 0 + 1) → P (a * h + get_or ds (m + 1) h)
  pair_next a m l p =
      let next = below_next ds h m ds_up ds_below l in
      past (a * h + get_or ds m 0 + 1) (a * h + get_or ds (m + 1) h) (omega arith)
      (λ i low high.
      let r = remainder a i (get_or ds (m + 1) h) (omega arith) high (at_most ds h (m + 1) ds_below) in
      let less = r.0 in let e = r.1 in
      inner i (between ds h m (i % h) ds_up l (omega arith) (omega arith)))
      p

  -- past the last b
  pub pair_all : (a m : ℕ) → length ds ≤ m → P (a * h + get_or ds m h) → P ((a + 1) * h)
  pair_all a m l p = let e : a * h + h ≡ (a + 1) * h = omega arith in subst P (ap (λ x. a * h + x) (get_or_past ds m h l) ∙ e) p
