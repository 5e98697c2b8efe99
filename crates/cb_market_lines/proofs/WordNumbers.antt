-- A word's number and its bytes.
use Rattle.std.proofs.Common.{◌≡◌, ℕ, ◌<◌, ◌^◌, Some, None, List, [], ◌∷◌, arith, true, false, Bool, sym, ap, ◌∙◌, refl, ⊎_elim, nat_lt}
use Rattle.std.specs.Prelude.{◌==◌, ◌||◌}
use Rattle.std.proofs.lemmas.Bool.Decides.{nat_tests}
use Rattle.std.proofs.lemmas.Bool.{cases_Bool}
use Rattle.cb_market_lines.specs.declared.words.Number.{Number}
use Rattle.cb_market_lines.specs.declared.words.Number.TheVariants.{NotWhole, TooLarge, Whole}
use Rattle.cb_market_lines.specs.Lines.{is_digit, is_number, is_value_word, is_negative, magnitude, number}
use Rattle.cb_market_lines.specs.Cursor.{if_small, number_of}
use Rattle.cb_market_lines.specs.Checks.{small_in, value_in}
use Rattle.cb_semirings.specs.Arithmetic.{Arithmetic}

-- by cases: digits or not, below 2^64 or not
by_cases : (w : List ℕ) (P : Bool → Number → Type 0) → (is_value_word w ≡ false → P false NotWhole) → (is_value_word w ≡ true → nat_lt (magnitude w) (2 ^ 64) ≡ true → P true (Whole (magnitude w))) → (is_value_word w ≡ true → nat_lt (magnitude w) (2 ^ 64) ≡ false → P true TooLarge) → P (is_value_word w) (number_of w)
by_cases w P a b c =
    ⊎_elim
    (λ (e : is_value_word w ≡ true). ⊎_elim (λ (f : nat_lt (magnitude w) (2 ^ 64) ≡ true). rw (e, f) (b e f)) (λ (f : nat_lt (magnitude w) (2 ^ 64) ≡ false). rw (e, f) (c e f)) (cases_Bool (nat_lt (magnitude w) (2 ^ 64))))
    (λ (e : is_value_word w ≡ false). rw e (a e)) (cases_Bool (is_value_word w))

not_small : (w : List ℕ) (n : Number) → n ≡ number_of w → ((x : ℕ) → n ≡ Whole x → ⊥) → is_value_word w ≡ true → nat_lt (magnitude w) (2 ^ 64) ≡ false
not_small w n e f g = by_cases w (λ b m. b ≡ true → ((x : ℕ) → m ≡ Whole x → ⊥) → nat_lt (magnitude w) (2 ^ 64) ≡ false) (λ _ h _. cc) (λ _ _ _ k. absurd (k (magnitude w) refl)) (λ _ h _ _. h) g (λ x h. f x (e ∙ h))

pub whole : (w : List ℕ) (n : Number) (x : ℕ) → n ≡ number_of w → n ≡ Whole x → (is_value_word w ≡ true) × (nat_lt (magnitude w) (2 ^ 64) ≡ true) × (x ≡ magnitude w)
whole w n x e f = by_cases w (λ b m. m ≡ Whole x → (b ≡ true) × (nat_lt (magnitude w) (2 ^ 64) ≡ true) × (x ≡ magnitude w)) (λ _ g. cc) (λ _ h g. (refl, h, cc)) (λ _ _ g. cc) (sym e ∙ f)

-- a number has no sign
sign_no_digit : (c : ℕ) → ((c == 43) || (c == 45)) ≡ true → is_digit c ≡ false
sign_no_digit c e = grind (arith, nat_tests)

pub signed_number : (c : ℕ) (w : List ℕ) → ((c == 43) || (c == 45)) ≡ true → is_number (c ∷ w) ≡ false
signed_number c w e = rw (sign_no_digit c e) refl

pub plain_number : (c : ℕ) (w : List ℕ) → ((c == 43) || (c == 45)) ≡ false → is_number (c ∷ w) ≡ is_value_word (c ∷ w)
plain_number c w e = rw e refl

-- a number's magnitude, as a word of a value
pub number_magnitude : (w : List ℕ) → is_number w ≡ true → (magnitude w ≡ number w) × (is_value_word w ≡ true)
number_magnitude [] e = cc
number_magnitude (c ∷ w) e =
    ⊎_elim (λ (f : ((c == 43) || (c == 45)) ≡ true). cc (sym e ∙ signed_number c w f)) (λ (f : ((c == 43) || (c == 45)) ≡ false). let g = sym (plain_number c w f) ∙ e in let h : magnitude (c ∷ w) ≡ number (c ∷ w) = rw f refl in (h, g)) (cases_Bool ((c == 43) || (c == 45)))

-- the number of a word below 2^64
pub whole_some : (w : List ℕ) (n : Number) (x : ℕ) → n ≡ number_of w → n ≡ Whole x → is_number w ≡ true → Some x ≡ if_small (number w)
whole_some w n x e f g =
    let h = whole w n x e f in
    let m = (number_magnitude w g).0 in
    rw (← m, h.1, h.2) refl

-- or not
pub whole_none : (w : List ℕ) (n : Number) → n ≡ number_of w → ((x : ℕ) → n ≡ Whole x → ⊥) → is_number w ≡ true → None ≡ if_small (number w)
whole_none w n e f g =
    let m = number_magnitude w g in
    rw (← m.0, not_small w n e f m.1) refl

-- the value of a word, by its number
pub value_whole : (s : Arithmetic) (w : List ℕ) (n : Number) (x : ℕ) → n ≡ number_of w → n ≡ Whole x → s.accept (is_negative w) x ≡ value_in s w
value_whole s w n x e f = let h = whole w n x e f in rw (h.1, ← h.2) refl

-- a word whose number has more than 64 bits has no value in the semiring
pub value_none : (s : Arithmetic) (w : List ℕ) (n : Number) → n ≡ number_of w → ((x : ℕ) → n ≡ Whole x → ⊥) → is_value_word w ≡ true → None ≡ value_in s w
value_none s w n e f g = rw (not_small w n e f g) refl

-- the same within a limit alone
pub limited_whole : (w : List ℕ) (n : Number) (x limit : ℕ) → n ≡ number_of w → n ≡ Whole x → is_number w ≡ true → small_in limit x ≡ small_in limit (number w)
limited_whole w n x limit e f g = ap (small_in limit) ((whole w n x e f).2 ∙ (number_magnitude w g).0)

over_limit : (limit n : ℕ) → limit < 2 ^ 64 → nat_lt n (2 ^ 64) ≡ false → small_in limit n ≡ None
over_limit limit n h e = grind (arith, nat_tests)

-- a number that doesn't fit 64 bits is past every limit below 2^64
pub limited_none : (w : List ℕ) (n : Number) (limit : ℕ) → limit < 2 ^ 64 → n ≡ number_of w → ((x : ℕ) → n ≡ Whole x → ⊥) → is_number w ≡ true → None ≡ small_in limit (number w)
limited_none w n limit l e f g =
    let m = number_magnitude w g in
    sym (over_limit limit (number w) l (rw m.0 at (not_small w n e f m.1)))
