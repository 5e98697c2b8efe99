-- The number of the word at the front.
use Rattle.std.proofs.Common.{◌≡◌, ℕ, ◌≤◌, ◌<◌, Option, List, [], ◌∷◌, arith, true, false, length, sym, ap, ◌∙◌, refl, ⊎_elim}
use Rattle.std.specs.Prelude.{◌==◌, ◌||◌, ◌⊎◌}
use Rattle.std.proofs.lemmas.Bool.Decides.{nat_tests}
use Rattle.std.proofs.lemmas.Bool.{cases_Bool}
use Rattle.cb_market_lines.specs.declared.words.Number.TheVariants.{NotWhole}
use Rattle.cb_market_lines.specs.Lines.{is_digit, all_digits, is_number, is_value_word, magnitude, number}
use Rattle.cb_market_lines.specs.Cursor.{is_word_end, front_word, after_word, front_digits, after_digits, after_sign, number_of, whole_number, if_small}

-- no word ends at a digit
pub digit_no_end : (c : ℕ) (rest : List ℕ) → is_digit c ≡ true → is_word_end (c ∷ rest) ≡ false
digit_no_end c [] e = grind (arith, nat_tests)
digit_no_end c (d ∷ rest) e = grind (arith, nat_tests)

sign_no_end : (c : ℕ) (rest : List ℕ) → ((c == 43) || (c == 45)) ≡ true → is_word_end (c ∷ rest) ≡ false
sign_no_end c [] e = grind (arith, nat_tests)
sign_no_end c (d ∷ rest) e = grind (arith, nat_tests)

-- a word from its digits on
pub after_digits_word : (rest : List ℕ) → after_word (after_digits rest) ≡ after_word rest
after_digits_word [] = refl
after_digits_word (c ∷ rest) = ⊎_elim (λ e. let f : after_digits (c ∷ rest) ≡ after_digits rest = rw e refl in let g : after_word (c ∷ rest) ≡ after_word rest = rw (digit_no_end c rest e) refl in ap after_word f ∙ after_digits_word rest ∙ sym g) (λ e. rw e refl) (cases_Bool (is_digit c))

pub after_digits-le : (rest : List ℕ) → length (after_digits rest) ≤ length rest
after_digits-le [] = omega arith
after_digits-le (c ∷ rest) = ⊎_elim (λ e. rw e (omega (arith, after_digits-le rest))) (λ e. rw e (omega arith)) (cases_Bool (is_digit c))

-- digits alone, if a word ends after them
pub front_digits_word : (rest : List ℕ) → is_word_end (after_digits rest) ≡ true → front_word rest ≡ front_digits rest
front_digits_word [] h = refl
front_digits_word (c ∷ rest) h = ⊎_elim
    (λ e. let f : front_digits (c ∷ rest) ≡ c ∷ front_digits rest = rw e refl in let g : front_word (c ∷ rest) ≡ c ∷ front_word rest = rw (digit_no_end c rest e) refl in g ∙ ap (λ l. c ∷ l) (front_digits_word rest (rw e at h)) ∙ sym f)
    (λ e. let k : is_word_end (c ∷ rest) ≡ true = rw e at h in let f : front_digits (c ∷ rest) ≡ [] = rw e refl in let g : front_word (c ∷ rest) ≡ [] = rw k refl in g ∙ sym f) (cases_Bool (is_digit c))

front_digits_all : (rest : List ℕ) → all_digits (front_digits rest) ≡ true
front_digits_all [] = refl
front_digits_all (c ∷ rest) = ⊎_elim (λ e. rw e (rw e (front_digits_all rest))) (λ e. rw e refl) (cases_Bool (is_digit c))

-- some digits
pub number_front : (rest : List ℕ) → length (after_digits rest) < length rest → is_number (front_digits rest) ≡ true
number_front [] h = absurd (omega arith)
number_front (c ∷ rest) h = ⊎_elim (λ e. rw e (rw e (front_digits_all rest))) (λ e. absurd (omega (arith, rw e at h))) (cases_Bool (is_digit c))

-- a byte that isn't a digit, after any digits
front_not_digits : (rest : List ℕ) → is_word_end (after_digits rest) ≡ false → all_digits (front_word rest) ≡ false
front_not_digits [] h = h
front_not_digits (c ∷ rest) h = ⊎_elim
    (λ e. let g : front_word (c ∷ rest) ≡ c ∷ front_word rest = rw (digit_no_end c rest e) refl in rw g (rw e (front_not_digits rest (rw e at h))))
    (λ e. let k : is_word_end (c ∷ rest) ≡ false = rw e at h in let g : front_word (c ∷ rest) ≡ c ∷ front_word rest = rw k refl in rw g (rw e refl)) (cases_Bool (is_digit c))

not_number : (word : List ℕ) → all_digits word ≡ false → is_number word ≡ false
not_number [] h = refl
not_number (c ∷ word) h = h

-- no digit at all
no_digit : (c : ℕ) (rest : List ℕ) → length (c ∷ rest) ≤ length (after_digits (c ∷ rest)) → is_digit c ≡ false
no_digit c rest h = ⊎_elim (λ e. absurd (omega (arith, rw e at h, after_digits-le rest))) (λ e. e) (cases_Bool (is_digit c))

no_digits_word : (rest : List ℕ) → length rest ≤ length (after_digits rest) → is_number (front_word rest) ≡ false
no_digits_word [] h = refl
no_digits_word (c ∷ rest) h = ⊎_elim (λ e. rw e refl) (λ e. rw e (rw (no_digit c rest h) refl)) (cases_Bool (is_word_end (c ∷ rest)))

-- signs
sign_here : (c : ℕ) (rest : List ℕ) → ((c == 43) || (c == 45)) ≡ true → (is_value_word (front_word (c ∷ rest)) ≡ is_number (front_word rest)) × (magnitude (front_word (c ∷ rest)) ≡ number (front_word rest))
sign_here c rest e = let g : front_word (c ∷ rest) ≡ c ∷ front_word rest = rw (sign_no_end c rest e) refl in rw g (rw e (refl, refl))

no_sign : (c : ℕ) (rest : List ℕ) → ((c == 43) || (c == 45)) ≡ false → (is_value_word (front_word (c ∷ rest)) ≡ is_number (front_word (c ∷ rest))) × (magnitude (front_word (c ∷ rest)) ≡ number (front_word (c ∷ rest)))
no_sign c rest e = ⊎_elim (λ f. rw f (refl, refl)) (λ f. rw f (rw e (refl, refl))) (cases_Bool (is_word_end (c ∷ rest)))

signed : (rest : List ℕ) → (is_value_word (front_word rest) ≡ is_number (front_word (after_sign rest))) × (magnitude (front_word rest) ≡ number (front_word (after_sign rest)))
signed [] = (refl, refl)
signed (c ∷ rest) = ⊎_elim (λ e. rw e (sign_here c rest e)) (λ e. rw e (no_sign c rest e)) (cases_Bool ((c == 43) || (c == 45)))

pub after_sign_word : (rest : List ℕ) → after_word (after_sign rest) ≡ after_word rest
after_sign_word [] = refl
after_sign_word (c ∷ rest) = ⊎_elim (λ e. rw e (rw (sign_no_end c rest e) refl)) (λ e. rw e refl) (cases_Bool ((c == 43) || (c == 45)))

-- the number of the word at the front
pub whole_is : (rest digits : List ℕ) → digits ≡ after_digits (after_sign rest) → length digits < length (after_sign rest) → is_word_end digits ≡ true → number_of (front_word rest) ≡ whole_number (if_small (number (front_digits (after_sign rest))))
whole_is rest digits e h k =
    let s = signed rest in
    let f = front_digits_word (after_sign rest) (rw e at k) in
    let g = number_front (after_sign rest) (rw e at h) in
    rw (s.0, s.1, f, g) refl

pub not_whole_end : (rest digits : List ℕ) → digits ≡ after_digits (after_sign rest) → is_word_end digits ≡ false → number_of (front_word rest) ≡ NotWhole
not_whole_end rest digits e k =
    let s = signed rest in
    rw (s.0, not_number (front_word (after_sign rest)) (front_not_digits (after_sign rest) (rw e at k))) refl

pub not_whole_none : (rest digits : List ℕ) → digits ≡ after_digits (after_sign rest) → length (after_sign rest) ≤ length digits → number_of (front_word rest) ≡ NotWhole
not_whole_none rest digits e k =
    let s = signed rest in
    rw (s.0, no_digits_word (after_sign rest) (rw e at k)) refl

-- a word that has ended
pub ended : (rest : List ℕ) → is_word_end rest ≡ true → after_word rest ≡ rest
ended [] e = refl
ended (c ∷ rest) e = rw e refl

-- what `number` returns, and where it stops
pub number_whole : (old sign digits : List ℕ) (n : Option ℕ) → sign ≡ after_sign old → digits ≡ after_digits sign → length digits < length sign → is_word_end digits ≡ true → n ≡ if_small (number (front_digits sign)) → whole_number n ≡ number_of (front_word old)
number_whole old sign digits n e f h k g =
    ap whole_number (g ∙ ap (λ l. if_small (number (front_digits l))) e) ∙ sym (whole_is old digits (f ∙ ap after_digits e) (rw e at h) k)

-- past a sign and digits, the text after the word is the same
pub number_rest : (old sign digits : List ℕ) → sign ≡ after_sign old → digits ≡ after_digits sign → after_word digits ≡ after_word old
number_rest old sign digits e f = ap after_word (f ∙ ap after_digits e) ∙ after_digits_word (after_sign old) ∙ after_sign_word old

-- if the word ends after its digits, the rest is the text after the word
pub number_ended : (old sign digits : List ℕ) → sign ≡ after_sign old → digits ≡ after_digits sign → is_word_end digits ≡ true → digits ≡ after_word old
number_ended old sign digits e f k = sym (ended digits k) ∙ number_rest old sign digits e f

-- a word without digits, or with more after them, isn't a whole number
pub number_none : (old sign digits : List ℕ) → sign ≡ after_sign old → digits ≡ after_digits sign → (length sign ≤ length digits) ⊎ (is_word_end digits ≡ false) → NotWhole ≡ number_of (front_word old)
number_none old sign digits e f h =
    let g = f ∙ ap after_digits e in
    ⊎_elim (λ k. sym (not_whole_none old digits g (rw e at k))) (λ k. sym (not_whole_end old digits g k)) h
