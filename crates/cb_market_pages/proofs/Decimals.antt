-- Decimal numbers, read again.
use Rattle.std.proofs.Common.{◌≡◌, ℕ, ◌+◌, ◌-◌, ◌*◌, ◌%◌, ◌<◌, ◌^◌, true, false, List, [], ◌∷◌, ◌++◌, arith, ap, ◌∙◌, refl, decimal, map, append_assoc}
use Rattle.cb_market_pages.specs.Text.{number_line}
use Rattle.std.specs.Prelude.{◌==◌}
use Rattle.std.proofs.lemmas.Bool.Decides.{nat_tests}
use Rattle.std.proofs.lemmas.Bool.{and_from, and_parts}
use Rattle.std.proofs.lemmas.Fmt.{decimal_by_steps}
use Rattle.cb_market_lines.specs.Lines.{is_blank, is_digit, all_digits, is_number, number, number_from, words, begins_blank}
use Rattle.cb_market_lines.specs.Cursor.{is_line_end, line_at, after_line}

number_from-push : (ds : List ℕ) (n c : ℕ) → number_from n (ds ++ c ∷ []) ≡ number_from n ds * 10 + (c - 48)
number_from-push [] n c = refl
number_from-push (d ∷ ds) n c = number_from-push ds (n * 10 + (d - 48)) c

all_digits-push : (ds : List ℕ) (c : ℕ) → all_digits ds ≡ true → is_digit c ≡ true → all_digits (ds ++ c ∷ []) ≡ true
all_digits-push [] c h e = rw e refl
all_digits-push (d ∷ ds) c h e = let p = and_parts (is_digit d) (all_digits ds) h in and_from (is_digit d) (all_digits (ds ++ c ∷ [])) p.0 (all_digits-push ds c p.1 e)

digit_is : (n : ℕ) → n < 10 → is_digit (48 + n) ≡ true
digit_is n h = grind (arith, nat_tests)

number_push : (ds : List ℕ) (c : ℕ) → is_number ds ≡ true → is_digit c ≡ true → is_number (ds ++ c ∷ []) ≡ true
number_push [] c h e = cc
number_push (d ∷ ds) c h e = all_digits-push (d ∷ ds) c h e

-- a number is read as it was written
pub number_decimal : (n : ℕ) → n < 2 ^ 64 → (is_number (decimal n) ≡ true) × (number (decimal n) ≡ n)
number_decimal n h = decimal_by_steps (λ n ds. (is_number ds ≡ true) × (number ds ≡ n))
    (λ n l. (rw (digit_is n l) refl, omega arith))
    (λ n ds l p. (number_push ds (48 + n % 10) p.0 (digit_is (n % 10) (omega arith)), rw (number_from-push ds 0 (48 + n % 10), p.1) (omega arith)))
    n h

-- digits, and a blank or a line's end after them
digit_not_blank : (c : ℕ) → is_digit c ≡ true → is_blank c ≡ false
digit_not_blank c e = grind (arith, nat_tests)

digit_in_line : (c : ℕ) (rest : List ℕ) → is_digit c ≡ true → is_line_end (c ∷ rest) ≡ false
digit_in_line c [] e = grind (arith, nat_tests)
digit_in_line c (d ∷ rest) e = grind (arith, nat_tests)

pub line_at_digits : (ds rest : List ℕ) → all_digits ds ≡ true → line_at (ds ++ rest) ≡ ds ++ line_at rest
line_at_digits [] rest h = refl
line_at_digits (d ∷ ds) rest h =
    let p = and_parts (is_digit d) (all_digits ds) h in
    rw (digit_in_line d (ds ++ rest) p.0) (ap (λ l. d ∷ l) (line_at_digits ds rest p.1))

digit_no_feed : (c : ℕ) → is_digit c ≡ true → (c == 10) ≡ false
digit_no_feed c e = grind (arith, nat_tests)

pub after_line_digits : (ds rest : List ℕ) → all_digits ds ≡ true → after_line (ds ++ rest) ≡ after_line rest
after_line_digits [] rest h = refl
after_line_digits (d ∷ ds) rest h =
    let p = and_parts (is_digit d) (all_digits ds) h in
    rw (digit_no_feed d p.0) (after_line_digits ds rest p.1)

words_one : (c : ℕ) (line : List ℕ) → is_blank c ≡ false → begins_blank line ≡ true → words (c ∷ line) ≡ (c ∷ []) ∷ words line
unfolding words
words_one c line e f = rw (e, f) refl

words_longer : (c : ℕ) (line word : List ℕ) (others : List (List ℕ)) → is_blank c ≡ false → begins_blank line ≡ false → words line ≡ word ∷ others → words (c ∷ line) ≡ (c ∷ word) ∷ others
unfolding words
words_longer c line word others e f h = rw (e, f, h) refl

-- a number is a word of its line
pub words_digits : (ds line : List ℕ) → is_number ds ≡ true → begins_blank line ≡ true → words (ds ++ line) ≡ ds ∷ words line
words_digits [] line h e = cc
words_digits (d ∷ []) line h e = let p = and_parts (is_digit d) true h in words_one d line (digit_not_blank d p.0) e
words_digits (d ∷ c ∷ ds) line h e =
    let p = and_parts (is_digit d) (all_digits (c ∷ ds)) h in
    let q = and_parts (is_digit c) (all_digits ds) p.1 in
    words_longer d ((c ∷ ds) ++ line) (c ∷ ds) (words line) (digit_not_blank d p.0) (digit_not_blank c q.0) (words_digits (c ∷ ds) line p.1 e)

-- numbers that fit 64 bits
abbrev pub AllSmall : List ℕ → Type 0
AllSmall [] = Unit {0}
AllSmall (n ∷ ns) = (n < 2 ^ 64) × AllSmall ns

number_digits : (ds : List ℕ) → is_number ds ≡ true → all_digits ds ≡ true
number_digits [] h = refl
number_digits (d ∷ ds) h = h

feed_ends : (rest : List ℕ) → line_at (10 ∷ rest) ≡ []
feed_ends [] = refl
feed_ends (c ∷ rest) = refl

space_goes_on : (rest : List ℕ) → line_at (32 ∷ rest) ≡ 32 ∷ line_at rest
space_goes_on [] = refl
space_goes_on (c ∷ rest) = refl

words_space : (line : List ℕ) → words (32 ∷ line) ≡ words line
unfolding words
words_space line = refl

words_none : words [] ≡ []
unfolding words
words_none = refl

last_words : (n : ℕ) (rest : List ℕ) → n < 2 ^ 64 → words (line_at (decimal n ++ 10 ∷ rest)) ≡ decimal n ∷ []
last_words n rest h =
    let p = number_decimal n h in
    rw (line_at_digits (decimal n) (10 ∷ rest) (number_digits (decimal n) p.0), feed_ends rest) (words_digits (decimal n) [] p.0 refl ∙ ap (λ ws. decimal n ∷ ws) words_none)

more_words : (n : ℕ) (rest : List ℕ) → n < 2 ^ 64 → words (line_at (decimal n ++ 32 ∷ rest)) ≡ decimal n ∷ words (line_at rest)
more_words n rest h =
    let p = number_decimal n h in
    rw (line_at_digits (decimal n) (32 ∷ rest) (number_digits (decimal n) p.0), space_goes_on rest) (words_digits (decimal n) (32 ∷ line_at rest) p.0 refl ∙ ap (λ ws. decimal n ∷ ws) (words_space (line_at rest)))

-- a line of numbers, read again
pub numbers_words : (n : ℕ) (ns rest : List ℕ) → AllSmall (n ∷ ns) → words (line_at (number_line (n ∷ ns) ++ rest)) ≡ map decimal (n ∷ ns)
numbers_words n [] rest h = rw (append_assoc (decimal n) (10 ∷ []) rest) (last_words n rest h.0)
numbers_words n (m ∷ ns) rest h =
    rw (append_assoc (decimal n) (32 ∷ number_line (m ∷ ns)) rest) (more_words n (number_line (m ∷ ns) ++ rest) h.0 ∙ ap (λ ws. decimal n ∷ ws) (numbers_words m ns rest h.1))

-- after a line of numbers comes the text that follows it
pub numbers_after : (n : ℕ) (ns rest : List ℕ) → AllSmall (n ∷ ns) → after_line (number_line (n ∷ ns) ++ rest) ≡ rest
numbers_after n [] rest h =
    rw (append_assoc (decimal n) (10 ∷ []) rest) (after_line_digits (decimal n) (10 ∷ rest) (number_digits (decimal n) (number_decimal n h.0).0))
numbers_after n (m ∷ ns) rest h =
    rw (append_assoc (decimal n) (32 ∷ number_line (m ∷ ns)) rest) (after_line_digits (decimal n) (32 ∷ (number_line (m ∷ ns) ++ rest)) (number_digits (decimal n) (number_decimal n h.0).0) ∙ numbers_after m ns rest h.1)
