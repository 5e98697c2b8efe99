-- Numbers at the front of a text whose first bytes are masked.
use Rattle.std.proofs.Common.{◌≡◌, ℕ, ◌+◌, ◌-◌, ◌*◌, ◌/◌, ◌%◌, ◌≤◌, ◌<◌, ◌^◌, zero, suc, List, [], ◌∷◌, map, not, arith, Bool, true, false, cond, length, take, drop, get_or, replicate, refl, sym, ap, ap₂, ◌∙◌, subst, ⊎_elim, inl, inr, Fits, w8}
use native.Mathlib.Numerals.{one-add}
use native.Mathlib.Nat.{eq-zero-or-pos, pow-succ', zero-div, div-div-eq-div-mul}
use lib.Count.{count_trailing_zeros}
use lib.Lanes.{mask_l, zip2, top, Each1, number_l}
use lib.Dec.{eqb→eq}
use lib.ListN.{length-take}
use Rattle.std.specs.Prelude.{eqb, bit_xor}
use Rattle.std.specs.List.{prefix_len}
use Rattle.std.specs.Float.Numeral.{digits_len}
use Rattle.std.specs.Str.Parse.{digits_value, digits_value_after}
use Rattle.std.proofs.lemmas.Bool.{cases_Bool, agree_below, agree_below_at}
use Rattle.std.proofs.lemmas.List.{take_rest, length-map}
use Rattle.std.proofs.lemmas.Simd.{zip2_splat, zip2_splat_left, map-map, mask_l-mod, trailing_mask_l}
use Rattle.core.specs.Dec2flt.Digits.{IsEightDigits}
use Rattle.core.specs.Int.Digits.{number_from_digits}
use Rattle.core.specs.Slice.Scan.{little_endian}
use Rattle.core.proofs.dec2flt.DigitsLemmas.{every_below, digit_range, is_digit as digit_is}
use Rattle.core.proofs.dec2flt.Eight.{eight_at, word_at, lanes_are, shifted_is}
use Rattle.cb_market_lines.specs.Lines.{is_digit, is_number, number, number_from}
use Rattle.cb_market_lines.specs.Cursor.{front_digits, after_digits, nondigits_of, IsMask, IsShortNumber}
use Rattle.cb_market_lines.proofs.FrontWords.{number_front, after_digits-le}
use Rattle.cb_market_lines.proofs.NumberLines.{first_and_rest}

abbrev is_nondigit : ℕ → Bool
is_nondigit c = not (is_digit c)

-- ---- the mask of 32 bytes

map_agree : (f g : ℕ → Bool) → agree_below f g 256 ≡ true → (xs : List ℕ) → Each1 (Fits w8) xs → map f xs ≡ map g xs
map_agree f g all [] fits = refl
map_agree f g all (x ∷ xs) fits = ap₂ (λ b l. b ∷ l) (agree_below_at f g 256 x all (fits.0).fits) (map_agree f g all xs fits.1)

-- a lane's top bit is set where its byte isn't a digit
pub nondigits_are : (h s : ℕ → ℕ → ℕ) (xs : List ℕ) → length xs ≡ 32 → Each1 (Fits w8) xs → agree_below (λ x. top 7 (h 9 (s x 48))) is_nondigit 256 ≡ true → mask_l (map (top 7) (zip2 h (replicate 32 9) (zip2 s xs (replicate 32 48)))) % 2 ^ 64 ≡ nondigits_of xs
nondigits_are h s xs long fits all =
    let inner : zip2 s xs (replicate 32 48) ≡ map (λ x. s x 48) xs = zip2_splat s xs 32 48 long in
    let outer : zip2 h (replicate 32 9) (map (λ x. s x 48) xs) ≡ map (λ y. h 9 y) (map (λ x. s x 48) xs) = zip2_splat_left h 9 32 (map (λ x. s x 48) xs) (length-map xs (λ x. s x 48) ∙ long) in
    let lanes : map (top 7) (zip2 h (replicate 32 9) (zip2 s xs (replicate 32 48))) ≡ map (λ x. top 7 (h 9 (s x 48))) xs =
    ap (λ l. map (top 7) (zip2 h (replicate 32 9) l)) inner ∙ ap (map (top 7)) (outer ∙ map-map (λ y. h 9 y) (λ x. s x 48) xs) ∙ map-map (top 7) (λ x. h 9 (s x 48)) xs in
    ap (λ l. mask_l l % 2 ^ 64) (lanes ∙ map_agree (λ x. top 7 (h 9 (s x 48))) is_nondigit all xs fits) ∙ mask_l-mod (map is_nondigit xs) 64 (omega (arith, length-map xs is_nondigit, long))

half : (b : Bool) (n : ℕ) → (cond b 1 0 + 2 * n) / 2 ≡ n
half true n = omega arith
half false n = omega arith

-- a shift drops the first bytes
nondigits_drop : (n : ℕ) (xs : List ℕ) → nondigits_of xs / 2 ^ n ≡ nondigits_of (drop n xs)
nondigits_drop zero xs = omega arith
nondigits_drop (suc n) [] = zero-div _
nondigits_drop (suc n) (c ∷ xs) = rw (pow-succ', ← div-div-eq-div-mul, half (is_nondigit c) (nondigits_of xs)) (nondigits_drop n xs)

take_none : (n : ℕ) → take {A = ℕ} n [] ≡ []
take_none zero = refl
take_none (suc n) = refl

drop_of_take : (n k : ℕ) (xs : List ℕ) → drop n (take k xs) ≡ take (k - n) (drop n xs)
drop_of_take zero k xs = let e : k - 0 ≡ k = omega arith in rw e refl
drop_of_take (suc n) zero xs = let e : 0 - suc n ≡ 0 = omega arith in rw e refl
drop_of_take (suc n) (suc k) [] = sym (take_none (suc k - suc n))
drop_of_take (suc n) (suc k) (x ∷ xs) = let e : suc k - suc n ≡ k - n = omega arith in rw e (drop_of_take n k xs)

-- the mask after these bytes and one more
mask_after : (text after rest : List ℕ) (count nondigits : ℕ) → after ≡ drop count text → rest ≡ drop 1 after → IsMask text nondigits → IsMask rest (nondigits / 2 ^ count / 2)
mask_after text after rest count nondigits e f m =
    let k = m.masked in
    let shifted : nondigits / 2 ^ count ≡ nondigits_of (take (k - count) after) = ap (λ n. n / 2 ^ count) m.bits ∙ nondigits_drop count (take k text) ∙ ap nondigits_of (drop_of_take count k text ∙ ap (take (k - count)) (sym e)) in
    record {
      masked = k - count - 1;
      few = omega (arith, m.few);
      bits = ap (λ n. n / 2) shifted ∙ nondigits_drop 1 (take (k - count) after) ∙ ap nondigits_of (drop_of_take 1 (k - count) after ∙ ap (take (k - count - 1)) (sym f));
    }

-- ---- how many digits are at the front

-- digits that end before a cut are those of the whole text
cut_later : (xs : List ℕ) (n : ℕ) → length (front_digits (take n xs)) < n → front_digits (take n xs) ≡ front_digits xs
cut_later xs zero h = absurd (omega arith)
cut_later [] (suc n) h = refl
cut_later (c ∷ xs) (suc n) h = ⊎_elim (λ e. rw e (ap (λ l. c ∷ l) (cut_later xs n (let k = rw e at h in omega (arith, k))))) (λ e. rw e refl) (cases_Bool (is_digit c))

cut_after : (xs : List ℕ) (n : ℕ) → length (front_digits xs) ≤ n → front_digits (take n xs) ≡ front_digits xs
cut_after [] zero h = refl
cut_after [] (suc n) h = refl
cut_after (c ∷ xs) zero h = ⊎_elim (λ (e : is_digit c ≡ true). let k = rw e at h in absurd (omega (arith, k))) (λ (e : is_digit c ≡ false). rw e refl) (cases_Bool (is_digit c))
cut_after (c ∷ xs) (suc n) h = ⊎_elim (λ (e : is_digit c ≡ true). let k = rw e at h in rw e (ap (λ l. c ∷ l) (cut_after xs n (omega (arith, k))))) (λ (e : is_digit c ≡ false). rw e refl) (cases_Bool (is_digit c))

prefix_is : (xs : List ℕ) → prefix_len (λ c. not (is_nondigit c)) xs ≡ length (front_digits xs)
prefix_is [] = refl
prefix_is (c ∷ xs) = ⊎_elim (λ (e : is_digit c ≡ true). rw (e, one-add (prefix_len (λ c. not (is_nondigit c)) xs)) (ap suc (prefix_is xs))) (λ (e : is_digit c ≡ false). rw e refl) (cases_Bool (is_digit c))

-- where a byte is no digit, the digits end before it
ends_inside : (xs : List ℕ) → 0 < nondigits_of xs → length (front_digits xs) < length xs
ends_inside [] h = absurd (omega arith)
ends_inside (c ∷ xs) h = ⊎_elim (λ (e : is_digit c ≡ true). let k = rw e at h in let r = ends_inside xs (omega (arith, k)) in rw e (omega (arith, r))) (λ (e : is_digit c ≡ false). rw e (omega arith)) (cases_Bool (is_digit c))

-- the lowest bit ends the digits at the front
pub count_is : (text : List ℕ) (nondigits count : ℕ) → IsMask text nondigits → count ≡ count_trailing_zeros 64 nondigits → count ≤ 8 → count ≡ length (front_digits text)
unfolding count_trailing_zeros
count_is text nondigits count m is small =
    let bytes = take m.masked text in
    elim (eq-zero-or-pos nondigits) [
      | inl z ↦ let none : count_trailing_zeros 64 nondigits ≡ 64 = ap (count_trailing_zeros 64) z in absurd (omega (arith, none, is))
      | inr some ↦
          let long = length-take m.masked text in
          let pos : 0 < nondigits_of bytes = subst (λ n. 0 < n) m.bits some in
          let run = is ∙ ap (count_trailing_zeros 64) m.bits ∙ trailing_mask_l is_nondigit 64 bytes (omega (arith, long, m.few)) pos ∙ prefix_is bytes in
          run ∙ ap length (cut_later text m.masked (omega (arith, long, ends_inside bytes pos)))
    ]

-- ---- the number of a word of eight bytes

len_is : (xs : List ℕ) → digits_len xs ≡ length (front_digits xs)
len_is [] = refl
len_is (c ∷ xs) = ⊎_elim (λ (e : is_digit c ≡ true). rw (e, one-add (digits_len xs)) (ap suc (len_is xs))) (λ (e : is_digit c ≡ false). rw e refl) (cases_Bool (is_digit c))

front_taken : (xs : List ℕ) → take (length (front_digits xs)) xs ≡ front_digits xs
front_taken [] = refl
front_taken (c ∷ xs) = ⊎_elim (λ (e : is_digit c ≡ true). rw e (ap (λ l. c ∷ l) (front_taken xs))) (λ (e : is_digit c ≡ false). rw e refl) (cases_Bool (is_digit c))

value_is : (xs : List ℕ) (n : ℕ) → digits_value_after 10 n (front_digits xs) ≡ number_from n (front_digits xs)
value_is [] n = refl
value_is (c ∷ xs) n = ⊎_elim (λ (e : is_digit c ≡ true). let r = digit_range c e in let d = digit_is c r.0 r.1 in rw e (ap (λ v. digits_value_after 10 (n * 10 + v) (front_digits xs)) d.1 ∙ value_is xs (n * 10 + (c - 48)))) (λ e. rw e refl) (cases_Bool (is_digit c))

abbrev shift_agrees : ℕ → Bool
shift_agrees k = eqb (2 ^ (64 - 8 * k)) (256 ^ (8 - k))

pub word_number : (text : List ℕ) (count word value : ℕ) → ((k : ℕ) → Fits w8 (get_or text k 0)) → 8 ≤ length text → 0 < count → count ≤ 8 → word ≡ little_endian text 0
    → ((ds : List ℕ) → IsEightDigits ds → bit_xor word 0x3030_3030_3030_3030 * 2 ^ (64 - 8 * count) % 2 ^ 64 ≡ number_l 256 ds → value ≡ number_from_digits 10 ds)
    → count ≡ length (front_digits text) → value ≡ number (front_digits text)
word_number text count word value fits room some few is worth counted =
    let xs = take 8 (drop 0 text) in
    let eight = eight_at text 0 (λ k. (fits k).fits) (omega arith) in
    let w = is ∙ word_at text 0 (omega arith) in
    let same : 2 ^ (64 - 8 * count) ≡ 256 ^ (8 - count) = eqb→eq _ _ (every_below shift_agrees 9 tt count (omega arith)) in
    let whole : front_digits xs ≡ front_digits text = cut_after text 8 (omega (arith, counted)) in
    let long : count ≡ length (front_digits xs) = counted ∙ ap length (sym whole) in
    let run : digits_len xs ≡ count = len_is xs ∙ sym long in
    let s = shifted_is xs count (bit_xor word 0x3030_3030_3030_3030 * 2 ^ (64 - 8 * count) % 2 ^ 64) eight (omega (arith, run)) few (ap₂ (λ a b. a * b % 2 ^ 64) (lanes_are xs _ eight w) same) in
    let front : take count xs ≡ front_digits text = ap (λ n. take n xs) long ∙ front_taken xs ∙ whole in
    worth s.0 s.1 s.2 ∙ s.3 ∙ ap (digits_value 10) front ∙ value_is text 0

-- ---- the number and what comes after it

front_dropped : (xs : List ℕ) → drop (length (front_digits xs)) xs ≡ after_digits xs
front_dropped [] = refl
front_dropped (c ∷ xs) = ⊎_elim (λ (e : is_digit c ≡ true). rw e (front_dropped xs)) (λ (e : is_digit c ≡ false). rw e refl) (cases_Bool (is_digit c))

fewer_after : (xs : List ℕ) → 0 < length (front_digits xs) → length (after_digits xs) < length xs
fewer_after [] some = absurd (omega arith)
fewer_after (c ∷ xs) some = ⊎_elim (λ (e : is_digit c ≡ true). rw e (omega (arith, after_digits-le xs))) (λ (e : is_digit c ≡ false). absurd (let k = rw e at some in omega (arith, k))) (cases_Bool (is_digit c))

digits_begin : (text : List ℕ) → 0 < length (front_digits text) → is_number (front_digits text) ≡ true
digits_begin text some = number_front text (fewer_after text some)

pub short_number_is : (text after : List ℕ) (nondigits count end value : ℕ) → IsMask text nondigits → count ≡ length (front_digits text) → 0 < count → after ≡ drop count text → 0 < length after → get_or after 0 0 ≡ end → value ≡ number (front_digits text)
    → IsShortNumber text end value (take (length after - 1) (drop 1 after)) (nondigits / 2 ^ count / 2)
short_number_is text after nondigits count end value m counted some back more e is = record {
  before = record {
    front = (digits_begin text (omega (arith, counted)), sym is);
    after = sym (front_dropped text) ∙ ap (λ n. drop n text) (sym counted) ∙ sym back ∙ first_and_rest after end more e ∙ ap (λ l. end ∷ l) (sym (take_rest after 1));
  };
  mask = mask_after text after (take (length after - 1) (drop 1 after)) count nondigits back (take_rest after 1) m;
}
