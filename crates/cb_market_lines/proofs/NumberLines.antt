-- Lines of numbers with single blanks between them and a line feed at the end.
use Rattle.std.proofs.Common.{◌≡◌, ℕ, ◌+◌, ◌-◌, ◌<◌, ◌≤◌, ◌^◌, List, [], ◌∷◌, arith, true, false, length, take, drop, get_or, sym, ap, ◌∙◌, refl, ⊎_elim}
use Rattle.std.specs.Prelude.{◌==◌, nat_lt}
use Rattle.std.proofs.lemmas.Bool.Decides.{nat_tests}
use Rattle.std.proofs.lemmas.List.{take_rest}
use Rattle.std.proofs.lemmas.Bool.{cases_Bool}
use Rattle.cb_market_lines.specs.Lines.{lines, words, is_digit, is_number, is_comment, is_skipped, is_negative, magnitude, number, number_from, kept_from}
use Rattle.cb_market_lines.specs.Cursor.{line_at, after_line, is_word_end, after_word, front_digits, after_digits, Writes, IsNumberBefore, IsLine, IsPlainPlace, IsPlainLine}
use Rattle.std.specs.Prelude.{Result, Ok, Err, IfOk, IfErr, None, Some}
use Rattle.cb_semirings.specs.Arithmetic.{Arithmetic}
use Rattle.cb_matrix.specs.declared.Entry.{Entry}
use Rattle.cb_matrix.specs.Sparse.{Extent}
use Rattle.cb_market_lines.specs.declared.Kind.{Kind}
use Rattle.cb_market_lines.specs.declared.header.Header.{Header}
use Rattle.cb_market_lines.specs.declared.header.Field.{Field}
use Rattle.cb_market_lines.specs.declared.header.Symmetry.{Symmetry}
use Rattle.cb_market_lines.specs.Checks.{entry_fault, entry_of, integers, patterns, place_fault, PlaceWrites, numbers_fault, numbers_entry, NumbersWrite}
use Rattle.cb_market_lines.specs.Faults.{IsEntryOf, IsNextEntry}
use Rattle.cb_market_lines.proofs.WordNumbers.{number_magnitude}
use Rattle.cb_market_lines.proofs.FrontWords.{digit_no_end, after_digits_word, front_digits_word, number_front, ended}
use Rattle.cb_market_lines.proofs.Cursor.{words_first, words_blank, line_after_word, no_word, line_end_feed, kept_here, lines_more, after_line-lt}

-- the digits have ended before this byte
digits_end : (text rest : List ℕ) → 0 < length rest → is_digit (get_or rest 0 0) ≡ false → after_digits rest ≡ after_digits text → after_digits text ≡ rest
digits_end text [] some d h = absurd (omega arith)
digits_end text (c ∷ after) some d h = let k : after_digits (c ∷ after) ≡ c ∷ after = rw d refl in sym h ∙ k

pub first_and_rest : (rest : List ℕ) (c : ℕ) → 0 < length rest → get_or rest 0 0 ≡ c → rest ≡ c ∷ drop 1 rest
first_and_rest [] c some e = absurd (omega arith)
first_and_rest (d ∷ after) c some e = ap (λ x. x ∷ after) e

no_digits_front : (rest : List ℕ) → 0 < length rest → is_digit (get_or rest 0 0) ≡ false → front_digits rest ≡ []
no_digits_front [] some d = refl
no_digits_front (c ∷ rest) some d = rw d refl

-- at the end of the digits, the number so far is the whole number
pub number_ends : (text rest : List ℕ) (c value : ℕ) → 0 < length rest → is_digit (get_or rest 0 0) ≡ false → get_or rest 0 0 ≡ c → after_digits rest ≡ after_digits text → length rest < length text → number_from value (front_digits rest) ≡ number (front_digits text)
    → IsNumberBefore text c value (take (length rest - 1) (drop 1 rest))
number_ends text rest c value some d e h less is =
    let k = digits_end text rest some d h in
    record {
      front = (number_front text (omega (arith, ap length k)), sym is ∙ ap (number_from value) (no_digits_front rest some d));
      after = k ∙ first_and_rest rest c some e ∙ ap (λ l. c ∷ l) (sym (take_rest rest 1));
    }

-- no word ends at a digit
digits_begin : (text : List ℕ) → is_number (front_digits text) ≡ true → (is_word_end text ≡ false) × (0 < length text)
digits_begin [] e = cc
digits_begin (c ∷ text) e = ⊎_elim (λ d. (digit_no_end c text d, omega arith)) (λ d. cc (rw d at e)) (cases_Bool (is_digit c))

number_word : (text rest : List ℕ) (c value : ℕ) → is_word_end (c ∷ rest) ≡ true → IsNumberBefore text c value rest → (words (line_at text) ≡ front_digits text ∷ words (line_at (c ∷ rest))) × (after_line text ≡ after_line (c ∷ rest))
number_word text rest c value e h =
    let begins = digits_begin text h.front.0 in
    let front = front_digits_word text (ap is_word_end h.after ∙ e) in
    let after = sym (after_digits_word text) ∙ ap after_word h.after ∙ ended (c ∷ rest) e in
    (words_first text begins.0 ∙ ap (λ w. w ∷ words (line_at (after_word text))) front ∙ ap (λ l. front_digits text ∷ words (line_at l)) after, sym (line_after_word text) ∙ ap after_line after)

number_blank : (text rest : List ℕ) (value : ℕ) → IsNumberBefore text 32 value rest → (words (line_at text) ≡ front_digits text ∷ words (line_at rest)) × (after_line text ≡ after_line rest)
number_blank text rest value h =
    let p = number_word text rest 32 value refl h in
    (p.0 ∙ ap (λ l. front_digits text ∷ l) (words_blank 32 rest refl), p.1)

feed_ends : (rest : List ℕ) → is_word_end (10 ∷ rest) ≡ true
feed_ends rest = line_end_feed 10 rest refl

number_feed : (text rest : List ℕ) (value : ℕ) → IsNumberBefore text 10 value rest → (words (line_at text) ≡ front_digits text ∷ []) × (after_line text ≡ rest)
number_feed text rest value h =
    let p = number_word text rest 10 value (feed_ends rest) h in
    (p.0 ∙ ap (λ l. front_digits text ∷ l) (no_word (10 ∷ rest) (line_end_feed 10 rest refl)), p.1)

-- two consecutive numbers
pub place_is : (text second : List ℕ) (row column : ℕ) (rest : List ℕ) → IsNumberBefore text 32 row second → IsNumberBefore second 10 column rest → IsPlainPlace text row column rest
place_is text second row column rest a b =
    let p = number_blank text second row a in
    let q = number_feed second rest column b in
    record {
      row_word = front_digits text;
      column_word = front_digits second;
      line = record {
        some = (digits_begin text a.front.0).1;
        words_are = p.0 ∙ ap (λ l. front_digits text ∷ l) q.0;
        after = p.1 ∙ q.1;
      };
      row_is = a.front;
      column_is = b.front;
    }

-- three consecutive numbers
pub plain_is : (text second third : List ℕ) (row column value : ℕ) (rest : List ℕ) → IsNumberBefore text 32 row second → IsNumberBefore second 32 column third → IsNumberBefore third 10 value rest → IsPlainLine text row column value rest
plain_is text second third row column value rest a b c =
    let p = number_blank text second row a in
    let q = number_blank second third column b in
    let r = number_feed third rest value c in
    record {
      row_word = front_digits text;
      column_word = front_digits second;
      value_word = front_digits third;
      line = record {
        some = (digits_begin text a.front.0).1;
        words_are = p.0 ∙ ap (λ l. front_digits text ∷ l) (q.0 ∙ ap (λ l. front_digits second ∷ l) r.0);
        after = p.1 ∙ q.1 ∙ r.1;
      };
      row_is = a.front;
      column_is = b.front;
      value_is = c.front;
    }

no_comment : (w : List ℕ) → is_number w ≡ true → is_comment w ≡ false
no_comment [] e = cc
no_comment (c ∷ w) e = ⊎_elim (λ (a : (c == 37) ≡ true). let d : is_digit c ≡ false = grind (arith, nat_tests) in cc (rw d at e)) (λ (a : (c == 37) ≡ false). a) (cases_Bool (c == 37))

-- a line that begins with a number isn't skipped
line_kept : (n : ℕ) (text w : List ℕ) (ws : List (List ℕ)) (rest : List ℕ) → IsLine text (w ∷ ws) rest → is_number w ≡ true → kept_from n text ≡ (n, w ∷ ws) ∷ kept_from (n + 1) rest
line_kept n text w ws rest h e =
    let k = kept_here n text h.some (ap is_skipped h.words_are ∙ no_comment w e) in
    k ∙ ap (λ l. (n, l) ∷ kept_from (n + 1) (after_line text)) h.words_are ∙ ap (λ l. (n, w ∷ ws) ∷ kept_from (n + 1) l) h.after

-- one line less is left
pub line_fewer : (text : List ℕ) (ws : List (List ℕ)) (rest : List ℕ) → IsLine text ws rest → length (lines text) ≡ 1 + length (lines rest)
line_fewer text ws rest h = lines_more text h.some ∙ ap (λ l. 1 + length (lines l)) h.after

-- the entry of a line, or its fault
pub entry_found : (s : Arithmetic) (header : Header) (shape : Extent) (ws : List (List ℕ)) (found : Result Entry Kind) → IfOk found (λ e. (entry_fault s header shape ws ≡ None) × (e ≡ entry_of s header ws)) → IfErr found (λ k. entry_fault s header shape ws ≡ Some k) → IsEntryOf s header shape ws found
entry_found s header shape ws (Ok e) a b = a
entry_found s header shape ws (Err k) a b = b

-- the header of a field
pub field_header : (header : Header) (field : Field) → header.field ≡ field → record { field = field; symmetry = header.symmetry } ≡ header
field_header header field e = ap (λ (f : Field). let h : Header = record { field = f; symmetry = header.symmetry } in h) (sym e)

-- digits have no sign
no_minus : (w : List ℕ) → is_number w ≡ true → is_negative w ≡ false
no_minus [] e = refl
no_minus (c ∷ w) e = ⊎_elim (λ (a : (c == 45) ≡ true). let d : is_digit c ≡ false = grind (arith, nat_tests) in cc (rw d at e)) (λ (a : (c == 45) ≡ false). a) (cases_Bool (c == 45))

module _ (s : Arithmetic) (symmetry : Symmetry) (shape : Extent) where
  -- words have the fault of the numbers that they write
  numbers_faulty : (first second third : List ℕ) (row column value : ℕ) → Writes first row → Writes second column → Writes third value → value < 2 ^ 64 → entry_fault s (integers symmetry) shape (first ∷ second ∷ third ∷ []) ≡ numbers_fault s symmetry shape row column value
  numbers_faulty first second third row column value a b c small =
      let m = number_magnitude third c.0 in
      let is : magnitude third ≡ value = m.0 ∙ c.1 in
      let fits : nat_lt value (2 ^ 64) ≡ true = grind (arith, nat_tests) in
      rw (a.0, b.0, m.1, a.1, b.1, is, no_minus third c.0, fits) refl

  -- and write their entry
  numbers_written : (first second third : List ℕ) (row column value : ℕ) → Writes first row → Writes second column → Writes third value → value < 2 ^ 64 → entry_of s (integers symmetry) (first ∷ second ∷ third ∷ []) ≡ numbers_entry s row column value
  numbers_written first second third row column value a b c small =
      let is : magnitude third ≡ value = (number_magnitude third c.0).0 ∙ c.1 in
      let fits : nat_lt value (2 ^ 64) ≡ true = grind (arith, nat_tests) in
      rw (a.1, b.1, is, no_minus third c.0, fits) refl

  -- the entry of a plain line, or its fault
  pub plain_found : (text : List ℕ) (row column value : ℕ) (rest : List ℕ) (h : IsPlainLine text row column value rest) (found : Result Entry Kind) → value < 2 ^ 64
      → IfOk found (NumbersWrite s symmetry shape row column value) → IfErr found (λ k. numbers_fault s symmetry shape row column value ≡ Some k) → IsEntryOf s (integers symmetry) shape (h.row_word ∷ h.column_word ∷ h.value_word ∷ []) found
  plain_found text row column value rest h (Ok e) small ok fault =
      (numbers_faulty h.row_word h.column_word h.value_word row column value h.row_is h.column_is h.value_is small ∙ ok.0, ok.1 ∙ sym (numbers_written h.row_word h.column_word h.value_word row column value h.row_is h.column_is h.value_is small))
  plain_found text row column value rest h (Err k) small ok fault = numbers_faulty h.row_word h.column_word h.value_word row column value h.row_is h.column_is h.value_is small ∙ fault

  -- two words have the fault of the place that they write
  place_faulty : (first second : List ℕ) (row column : ℕ) → Writes first row → Writes second column → entry_fault s (patterns symmetry) shape (first ∷ second ∷ []) ≡ place_fault symmetry shape row column
  place_faulty first second row column a b = rw (a.0, b.0, a.1, b.1) refl

  -- the entry of a plain line without a value, or its fault
  pub place_found : (text : List ℕ) (row column : ℕ) (rest : List ℕ) (h : IsPlainPlace text row column rest) (found : Result Entry Kind)
      → IfOk found (PlaceWrites s symmetry shape row column) → IfErr found (λ k. place_fault symmetry shape row column ≡ Some k) → IsEntryOf s (patterns symmetry) shape (h.row_word ∷ h.column_word ∷ []) found
  place_found text row column rest h (Ok e) ok fault = (place_faulty h.row_word h.column_word row column h.row_is h.column_is ∙ ok.0, rw (h.row_is.1, h.column_is.1) ok.1)
  place_found text row column rest h (Err k) ok fault = place_faulty h.row_word h.column_word row column h.row_is h.column_is ∙ fault

-- the next entry, if its line begins with a number
pub line_next : (s : Arithmetic) (header : Header) (shape : Extent) (n : ℕ) (text w : List ℕ) (ws : List (List ℕ)) (rest : List ℕ) (found : Result Entry Kind) → IsLine text (w ∷ ws) rest → is_number w ≡ true → IsEntryOf s header shape (w ∷ ws) found → IsNextEntry s header shape n text n found rest
line_next s header shape n text w ws rest found h e k = record {
  line_words = w ∷ ws;
  kept = line_kept n text w ws rest h e;
  found_is = k;
  count = omega (arith, line_fewer text (w ∷ ws) rest h);
  later = omega arith;
  shorter = omega (arith, ap length h.after, after_line-lt text h.some);
}

-- the next entry, if its line is read word by word
pub next_by_words : (s : Arithmetic) (header : Header) (shape : Extent) (n k m : ℕ) (text start mid rest w : List ℕ) (found : Result Entry Kind) → k ≡ n → start ≡ text → kept_from k start ≡ (m, w ∷ words (line_at mid)) ∷ kept_from (m + 1) (after_line mid) → m + 1 + length (lines (after_line mid)) ≡ k + length (lines start) → k ≤ m → length (after_line mid) < length start → IsEntryOf s header shape (w ∷ words (line_at mid)) found → rest ≡ after_line mid → IsNextEntry s header shape n text m found rest
next_by_words s header shape n k m text start mid rest w found e f kept count later shorter is r = record {
  line_words = w ∷ words (line_at mid);
  kept = ap (λ i. kept_from i text) (sym e) ∙ ap (kept_from k) (sym f) ∙ kept ∙ ap (λ l. (m, w ∷ words (line_at mid)) ∷ kept_from (m + 1) l) (sym r);
  found_is = is;
  count = omega (arith, ap (λ l. length (lines l)) r, ap (λ l. length (lines l)) f, count, e);
  later = omega (arith, later, e);
  shorter = omega (arith, shorter, ap length r, ap length f);
}
