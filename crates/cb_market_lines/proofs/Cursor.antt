-- A cursor's steps, as steps over lines and words.
use Rattle.std.proofs.Common.{◌≡◌, ℕ, zero, suc, not, ◌+◌, ◌-◌, ◌≤◌, ◌<◌, List, [], ◌∷◌, ◌++◌, arith, cond, true, false, Bool, length, take, sym, ap, ◌∙◌, refl, length-append, ⊎_elim}
use Rattle.std.specs.Prelude.{◌==◌, ◌||◌, ◌&&◌}
use Rattle.std.proofs.lemmas.Bool.Decides.{nat_tests}
use Rattle.std.proofs.lemmas.List.{take_at}
use Rattle.std.proofs.lemmas.Bool.{cases_Bool, or_parts}
use Rattle.cb_market_lines.specs.Lines.{lines, cut_lines, without_return, words, is_blank, begins_blank, is_comment, is_skipped, kept_from}
use Rattle.cb_market_lines.specs.Cursor.{is_line_end, line_at, after_line, is_word_end, front_word, after_word, after_blanks, number_of}
use Rattle.cb_market_lines.specs.declared.words.Number.{Number}

-- the bytes before the first line feed
abbrev to_feed : List ℕ → List ℕ
to_feed [] = []
to_feed (c ∷ rest) = cond (c == 10) [] (c ∷ to_feed rest)

-- one byte more of a line, or the end of one
cut_feed : (c : ℕ) (rest : List ℕ) → (c == 10) ≡ true → cut_lines (c ∷ rest) ≡ to_feed (c ∷ rest) ∷ cut_lines (after_line (c ∷ rest))
unfolding cut_lines
cut_feed c rest e = rw e refl

cut_more : (c : ℕ) (rest first : List ℕ) (others : List (List ℕ)) → (c == 10) ≡ false → cut_lines rest ≡ first ∷ others → cut_lines (c ∷ rest) ≡ (c ∷ first) ∷ others
unfolding cut_lines
cut_more c rest first others e h = rw (e, h) refl

cut_last : (c : ℕ) → (c == 10) ≡ false → cut_lines (c ∷ []) ≡ to_feed (c ∷ []) ∷ cut_lines (after_line (c ∷ []))
unfolding cut_lines
cut_last c e = rw e refl

cut_step_more : (c d : ℕ) (rest : List ℕ) → (c == 10) ≡ false → cut_lines (d ∷ rest) ≡ to_feed (d ∷ rest) ∷ cut_lines (after_line (d ∷ rest)) → cut_lines (c ∷ d ∷ rest) ≡ to_feed (c ∷ d ∷ rest) ∷ cut_lines (after_line (c ∷ d ∷ rest))
cut_step_more c d rest e h = rw e (cut_more c (d ∷ rest) (to_feed (d ∷ rest)) (cut_lines (after_line (d ∷ rest))) e h)

cut_step : (c : ℕ) (rest : List ℕ) → cut_lines (c ∷ rest) ≡ to_feed (c ∷ rest) ∷ cut_lines (after_line (c ∷ rest))
cut_step c [] = ⊎_elim (cut_feed c []) (cut_last c) (cases_Bool (c == 10))
cut_step c (d ∷ rest) = ⊎_elim (cut_feed c (d ∷ rest)) (λ e. cut_step_more c d rest e (cut_step d rest)) (cases_Bool (c == 10))

return_one : (c : ℕ) → without_return (to_feed (c ∷ [])) ≡ line_at (c ∷ [])
unfolding without_return
return_one c = grind arith

return_feed : (c d : ℕ) (rest : List ℕ) → (c == 10) ≡ true → without_return (to_feed (c ∷ d ∷ rest)) ≡ line_at (c ∷ d ∷ rest)
unfolding without_return
return_feed c d rest e = rw e refl

-- a line ends at a line feed
pub line_end_feed : (d : ℕ) (rest : List ℕ) → (d == 10) ≡ true → is_line_end (d ∷ rest) ≡ true
line_end_feed d [] e = rw e refl
line_end_feed d (c ∷ rest) e = rw e refl

return_before : (c d : ℕ) (rest : List ℕ) → (c == 10) ≡ false → (d == 10) ≡ true → without_return (to_feed (c ∷ d ∷ rest)) ≡ line_at (c ∷ d ∷ rest)
unfolding without_return
return_before c d rest e f =
    rw (e, f, line_end_feed d rest f) (elim (c == 13) as (λ b. cond b [] (c ∷ []) ≡ cond (b && true) [] (c ∷ [])) [ true ↦ refl | false ↦ refl ])

return_more : (c d : ℕ) (rest : List ℕ) → (c == 10) ≡ false → (d == 10) ≡ false → without_return (to_feed (d ∷ rest)) ≡ line_at (d ∷ rest) → without_return (to_feed (c ∷ d ∷ rest)) ≡ line_at (c ∷ d ∷ rest)
unfolding without_return
return_more c d rest e f h =
    rw (e, f) (elim (c == 13) as (λ b. c ∷ without_return (d ∷ to_feed rest) ≡ cond (b && false) [] (c ∷ line_at (d ∷ rest))) [ true ↦ ap (λ l. c ∷ l) (rw f at h) | false ↦ ap (λ l. c ∷ l) (rw f at h) ])

pub line_is : (rest : List ℕ) → without_return (to_feed rest) ≡ line_at rest
unfolding without_return
line_is [] = refl
line_is (c ∷ []) = return_one c
line_is (c ∷ d ∷ rest) =
    ⊎_elim (return_feed c d rest) (λ e. ⊎_elim (return_before c d rest e) (λ f. return_more c d rest e f (line_is (d ∷ rest))) (cases_Bool (d == 10))) (cases_Bool (c == 10))

-- the lines of a text: what is left of its first, and those after it
pub lines_step : (c : ℕ) (rest : List ℕ) → lines (c ∷ rest) ≡ line_at (c ∷ rest) ∷ lines (after_line (c ∷ rest))
unfolding lines
lines_step c rest = rw (cut_step c rest, line_is (c ∷ rest)) refl

-- words

or_true : (b : Bool) → true ≡ b || true
or_true true = refl
or_true false = refl

or_false : (b : Bool) → b ≡ b || false
or_false true = refl
or_false false = refl

blank_more : (c : ℕ) (rest : List ℕ) → is_blank c ≡ true → is_line_end (c ∷ rest) ≡ false
blank_more c [] e = grind (arith, nat_tests)
blank_more c (d ∷ rest) e = grind (arith, nat_tests)

blank_no_feed : (c : ℕ) → is_blank c ≡ true → (c == 10) ≡ false
blank_no_feed c e = grind (arith, nat_tests)

-- a blank at the front of a line changes none of its words
pub words_blank : (c : ℕ) (rest : List ℕ) → is_blank c ≡ true → words (line_at (c ∷ rest)) ≡ words (line_at rest)
unfolding words
words_blank c rest e = rw (blank_more c rest e) (rw e refl)

pub words_after_blanks : (rest : List ℕ) → words (line_at (after_blanks rest)) ≡ words (line_at rest)
words_after_blanks [] = refl
words_after_blanks (c ∷ rest) = ⊎_elim (λ e. rw e (words_after_blanks rest ∙ sym (words_blank c rest e))) (λ e. rw e refl) (cases_Bool (is_blank c))

pub line_after_blanks : (rest : List ℕ) → after_line (after_blanks rest) ≡ after_line rest
line_after_blanks [] = refl
line_after_blanks (c ∷ rest) = ⊎_elim (λ e. let f : after_blanks (c ∷ rest) ≡ after_blanks rest = rw e refl in let g : after_line (c ∷ rest) ≡ after_line rest = rw (blank_no_feed c e) refl in ap after_line f ∙ line_after_blanks rest ∙ sym g) (λ e. rw e refl) (cases_Bool (is_blank c))

-- the line here has no word
pub line_end_here : (rest : List ℕ) → is_line_end rest ≡ true → line_at rest ≡ []
line_end_here [] e = refl
line_end_here (c ∷ rest) e = rw e refl

-- at the end of a line no word of it is left
pub no_word : (rest : List ℕ) → is_line_end rest ≡ true → words (line_at rest) ≡ []
unfolding words
no_word rest e = rw (line_end_here rest e) refl

-- where a word ends, the rest of the line is empty or begins with a blank
pub begins_line : (rest : List ℕ) → begins_blank (line_at rest) ≡ is_word_end rest
begins_line [] = refl
begins_line (c ∷ rest) = elim (is_line_end (c ∷ rest)) as (λ b. begins_blank (cond b [] (c ∷ line_at rest)) ≡ is_blank c || b) [ true ↦ or_true (is_blank c) | false ↦ or_false (is_blank c) ]

parts_of_end : (c : ℕ) (rest : List ℕ) → is_word_end (c ∷ rest) ≡ false → (is_blank c ≡ false) × (is_line_end (c ∷ rest) ≡ false)
parts_of_end c rest e = or_parts (is_blank c) (is_line_end (c ∷ rest)) e

word_single : (c : ℕ) (line : List ℕ) → is_blank c ≡ false → begins_blank line ≡ true → words (c ∷ line) ≡ (c ∷ []) ∷ words line
unfolding words
word_single c line e f = rw (e, f) refl

word_longer : (c : ℕ) (line word : List ℕ) (others : List (List ℕ)) → is_blank c ≡ false → begins_blank line ≡ false → words line ≡ word ∷ others → words (c ∷ line) ≡ (c ∷ word) ∷ others
unfolding words
word_longer c line word others e f h = rw (e, f, h) refl

front_end : (rest : List ℕ) → is_word_end rest ≡ true → (front_word rest ≡ []) × (after_word rest ≡ rest)
front_end [] e = (refl, refl)
front_end (c ∷ rest) e = (rw e refl, rw e refl)

-- the first word of a line
words_front_end : (c : ℕ) (rest : List ℕ) → is_word_end (c ∷ rest) ≡ false → is_word_end rest ≡ true → words (line_at (c ∷ rest)) ≡ front_word (c ∷ rest) ∷ words (line_at (after_word (c ∷ rest)))
words_front_end c rest e f =
    let p = parts_of_end c rest e in
    let q = front_end rest f in
    rw (e, p.1, q.0, q.1) (word_single c (line_at rest) p.0 (begins_line rest ∙ f))

words_front_more : (c d : ℕ) (rest : List ℕ) → is_word_end (c ∷ d ∷ rest) ≡ false → is_word_end (d ∷ rest) ≡ false → words (line_at (d ∷ rest)) ≡ front_word (d ∷ rest) ∷ words (line_at (after_word (d ∷ rest))) → words (line_at (c ∷ d ∷ rest)) ≡ front_word (c ∷ d ∷ rest) ∷ words (line_at (after_word (c ∷ d ∷ rest)))
words_front_more c d rest e f h =
    let p = parts_of_end c (d ∷ rest) e in
    rw (e, p.1) (word_longer c (line_at (d ∷ rest)) (front_word (d ∷ rest)) (words (line_at (after_word (d ∷ rest)))) p.0 (begins_line (d ∷ rest) ∙ f) h)

-- the first word of a line
pub words_front : (c : ℕ) (rest : List ℕ) → is_word_end (c ∷ rest) ≡ false → words (line_at (c ∷ rest)) ≡ front_word (c ∷ rest) ∷ words (line_at (after_word (c ∷ rest)))
words_front c [] e = words_front_end c [] e refl
words_front c (d ∷ rest) e = ⊎_elim (words_front_end c (d ∷ rest) e) (λ f. words_front_more c d rest e f (words_front d rest f)) (cases_Bool (is_word_end (d ∷ rest)))

-- a word lies within a line
word_no_feed : (c : ℕ) (rest : List ℕ) → is_word_end (c ∷ rest) ≡ false → (c == 10) ≡ false
word_no_feed c [] e = grind (arith, nat_tests)
word_no_feed c (d ∷ rest) e = grind (arith, nat_tests)

-- past a word, the text after the line is the same
pub line_after_word : (rest : List ℕ) → after_line (after_word rest) ≡ after_line rest
line_after_word [] = refl
line_after_word (c ∷ rest) = ⊎_elim (λ e. rw e refl) (λ e. let f : after_word (c ∷ rest) ≡ after_word rest = rw e refl in let g : after_line (c ∷ rest) ≡ after_line rest = rw (word_no_feed c rest e) refl in ap after_line f ∙ line_after_word rest ∙ sym g) (cases_Bool (is_word_end (c ∷ rest)))

pub word_split : (rest : List ℕ) → front_word rest ++ after_word rest ≡ rest
word_split [] = refl
word_split (c ∷ rest) = ⊎_elim (λ e. rw e refl) (λ e. rw e (ap (λ l. c ∷ l) (word_split rest))) (cases_Bool (is_word_end (c ∷ rest)))

pub after_word-le : (rest : List ℕ) → length (after_word rest) ≤ length rest
after_word-le rest = omega (arith, ap length (word_split rest), length-append (front_word rest) (after_word rest))

-- the slice of a word
pub word_taken : (rest : List ℕ) → take (length rest - length (after_word rest)) rest ≡ front_word rest
word_taken rest =
    let n = length rest - length (after_word rest) in
    let e : length (front_word rest) ≡ n = omega (arith, ap length (word_split rest), length-append (front_word rest) (after_word rest)) in
    ap (take n) (sym (word_split rest)) ∙ take_at (front_word rest) (after_word rest) n e

end_after_blanks : (rest : List ℕ) → is_line_end (after_blanks rest) ≡ false → is_word_end (after_blanks rest) ≡ false
end_after_blanks [] h = h
end_after_blanks (c ∷ rest) h = ⊎_elim (λ e. rw e (end_after_blanks rest (rw e at h))) (λ e. rw e (rw e (rw e at h))) (cases_Bool (is_blank c))

-- where no word ends, the first word of the line is the one at the front, followed by the others
pub words_first : (rest : List ℕ) → is_word_end rest ≡ false → words (line_at rest) ≡ front_word rest ∷ words (line_at (after_word rest))
words_first [] h = cc
words_first (c ∷ rest) h = words_front c rest h

-- what `word` returns, and where it stops
pub word_none : (old start : List ℕ) → start ≡ after_blanks old → is_line_end start ≡ true → words (line_at old) ≡ []
word_none old start e h = sym (words_after_blanks old) ∙ ap (λ l. words (line_at l)) (sym e) ∙ no_word start h

-- past the blanks, the text after the line is the same
pub word_none_after : (old start : List ℕ) → start ≡ after_blanks old → after_line start ≡ after_line old
word_none_after old start e = ap after_line e ∙ line_after_blanks old

-- if the line continues after the blanks, its first word is the bytes from there to the end of the word
pub word_found : (old start new : List ℕ) → start ≡ after_blanks old → is_line_end start ≡ false → new ≡ after_word start → words (line_at old) ≡ take (length start - length new) start ∷ words (line_at new)
word_found old start new e h f =
    let k : is_word_end start ≡ false = rw e (end_after_blanks old (rw e at h)) in
    sym (words_after_blanks old) ∙ ap (λ l. words (line_at l)) (sym e) ∙ words_first start k ∙ ap (λ l. l ∷ words (line_at (after_word start))) (sym (word_taken start)) ∙ ap (λ l. take (length start - length l) start ∷ words (line_at l)) (sym f)

-- past the blanks and a word, the text after the line is the same
pub word_after : (old start new : List ℕ) → start ≡ after_blanks old → new ≡ after_word start → after_line new ≡ after_line old
word_after old start new e f = ap after_line f ∙ line_after_word start ∙ word_none_after old start e

-- the text after a word is no longer than the text before it
pub word_fits : (start new : List ℕ) → new ≡ after_word start → length new ≤ length start
word_fits start new f = rw f (after_word-le start)

-- the number of the word at the front is that of the bytes that were skipped
pub word_number : (start new : List ℕ) (m : Number) → new ≡ after_word start → m ≡ number_of (front_word start) → m ≡ number_of (take (length start - length new) start)
word_number start new m f h = h ∙ ap number_of (sym (word_taken start)) ∙ ap (λ l. number_of (take (length start - length l) start)) (sym f)

-- lines that are kept

kept_more : (n : ℕ) (c : ℕ) (rest : List ℕ) (b : Bool) → is_skipped (words (line_at (c ∷ rest))) ≡ b → kept_from n (c ∷ rest) ≡ cond (not b) ((n, words (line_at (c ∷ rest))) ∷ kept_from (n + 1) (after_line (c ∷ rest))) (kept_from (n + 1) (after_line (c ∷ rest)))
unfolding kept_from
kept_more n c rest b e = rw (lines_step c rest, e) refl

pub kept_skipped : (n : ℕ) (rest : List ℕ) → 0 < length rest → is_skipped (words (line_at rest)) ≡ true → kept_from n rest ≡ kept_from (n + 1) (after_line rest)
kept_skipped n [] h e = absurd (omega arith)
kept_skipped n (c ∷ rest) h e = kept_more n c rest true e

-- a line that isn't skipped is kept, with its number, before those after it
pub kept_here : (n : ℕ) (rest : List ℕ) → 0 < length rest → is_skipped (words (line_at rest)) ≡ false → kept_from n rest ≡ (n, words (line_at rest)) ∷ kept_from (n + 1) (after_line rest)
kept_here n [] h e = absurd (omega arith)
kept_here n (c ∷ rest) h e = kept_more n c rest false e

-- no line of an empty text is kept
pub kept_none : (n : ℕ) → kept_from n [] ≡ []
unfolding kept_from lines cut_lines
kept_none n = refl

-- an empty text has no lines
pub no_lines : length (lines []) ≡ 0
unfolding lines cut_lines
no_lines = refl

-- any other text has one line more than the text after its first line
pub lines_more : (rest : List ℕ) → 0 < length rest → length (lines rest) ≡ 1 + length (lines (after_line rest))
lines_more [] h = absurd (omega arith)
lines_more (c ∷ rest) h = rw (lines_step c rest) (omega arith)

after_line-le : (rest : List ℕ) → length (after_line rest) ≤ length rest
after_line-le [] = omega arith
after_line-le (c ∷ rest) = ⊎_elim (λ e. rw e (omega arith)) (λ e. rw e (omega (arith, after_line-le rest))) (cases_Bool (c == 10))

-- the text after a line is shorter than the text, unless that is empty
pub after_line-lt : (rest : List ℕ) → 0 < length rest → length (after_line rest) < length rest
after_line-lt [] h = absurd (omega arith)
after_line-lt (c ∷ rest) h = ⊎_elim (λ e. rw e (omega arith)) (λ e. rw e (omega (arith, after_line-le rest))) (cases_Bool (c == 10))

lines-le_by : (n : ℕ) (rest : List ℕ) → length rest ≤ n → length (lines rest) ≤ length rest
lines-le_by n [] h = omega (arith, no_lines)
lines-le_by zero (c ∷ rest) h = absurd (omega arith)
lines-le_by (suc n) (c ∷ rest) h =
    let k : 0 < length (c ∷ rest) = omega arith in
    let m : length (after_line (c ∷ rest)) ≤ n = omega (arith, after_line-lt (c ∷ rest) k) in
    omega (arith, lines_more (c ∷ rest) k, lines-le_by n (after_line (c ∷ rest)) m, after_line-lt (c ∷ rest) k)

-- a text has no more lines than bytes
pub lines-le : (rest : List ℕ) → length (lines rest) ≤ length rest
lines-le rest = lines-le_by (length rest) rest (omega arith)

-- a line whose first word isn't a comment is kept, with its number and words
pub kept_word : (n m : ℕ) (old new w : List ℕ) → 0 < length old → m ≡ n → words (line_at old) ≡ w ∷ words (line_at new) → is_comment w ≡ false → after_line new ≡ after_line old → kept_from n old ≡ (m, w ∷ words (line_at new)) ∷ kept_from (m + 1) (after_line new)
kept_word n m old new w h e f g k =
    rw (e, k, ← f) (kept_here n old h (rw f g))

-- if a line is skipped, the kept lines are those of the text after it
pub kept_passed : (n m : ℕ) (old mid new : List ℕ) → 0 < length old → m ≡ n + 1 → after_line mid ≡ after_line old → new ≡ after_line mid → is_skipped (words (line_at old)) ≡ true → kept_from m new ≡ kept_from n old
kept_passed n m old mid new h e f g k = rw (e, g, f) (sym (kept_skipped n old h k))
