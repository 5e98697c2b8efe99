-- The faults and the matrix of a whole text.
use Rattle.std.proofs.Common.{◌≡◌, ℕ, suc, ◌+◌, ◌-◌, ◌<◌, ◌^◌, Bool, cond, true, false, nat_lt, Option, Some, None, List, [], ◌∷◌, arith, length, sym, ap, ◌∙◌, refl, inl, ⊎_elim, subst}
use Rattle.std.specs.Prelude.{codes, bytes_eq, IfSome, is_some, unwrap_or}
use Rattle.std.proofs.lemmas.Bool.{cases_Bool, and_parts}
use Rattle.std.proofs.lemmas.Bool.Decides.{nat_tests}
use borrow.Author.Tests.{ltb-true}
use Rattle.cb_semirings.specs.Arithmetic.{Arithmetic, IsValue, ReadsNumbers}
use Rattle.cb_matrix.specs.Sparse.{Extent, Sparse, IsInside}
use Rattle.cb_market_lines.specs.declared.Kind.{Kind}
use Rattle.cb_market_lines.specs.declared.Kind.TheVariants.{BadHeader}
use Rattle.cb_market_lines.specs.declared.ReadFault.{ReadFault}
use Rattle.cb_market_lines.specs.declared.header.Header.{Header}
use Rattle.cb_market_lines.specs.declared.header.Field.{Field}
use Rattle.cb_market_lines.specs.declared.header.Field.TheVariants.{Integer, Pattern}
use Rattle.cb_market_lines.specs.Lines.{kept_from, kept_lines, lines, words, begins_blank, cut_lines, is_negative, magnitude, number}
use Rattle.cb_market_lines.specs.Cursor.{line_at, after_line}
use Rattle.cb_market_lines.specs.Checks.{is_read, entry_fault, entry_checks, entry_of, header_fault, header_of, size_of, size_fault, value_of, value_in, word, first_failed, is_within}
use Rattle.cb_market_lines.specs.Faults.{entries_fault, IsAnswer, at_line, body_fault, body_matrix, first_fault, matrix_in}
use Rattle.cb_market_lines.proofs.Cursor.{lines_step}

-- checks that pass
pub passes : (b : Bool) (kind : Kind) (rest : Option Kind) → cond b rest (Some kind) ≡ None → (b ≡ true) × (rest ≡ None)
passes true kind rest e = (refl, e)
passes false kind rest e = cc

abbrev pub AllPass : List (Bool × Kind) → Type 0
AllPass [] = Unit {0}
AllPass (check ∷ checks) = (check.0 ≡ true) × AllPass checks

-- if no check fails first, all pass
pub all_pass : (checks : List (Bool × Kind)) → first_failed checks ≡ None → AllPass checks
all_pass [] e = tt
all_pass (check ∷ checks) e = let p = passes check.0 check.1 (first_failed checks) e in (p.0, all_pass checks p.1)

-- if neither a line nor the text after it has a first fault, both have none
pub at_line_none : (n : ℕ) (fault : Option Kind) (rest : Option ReadFault) → at_line n fault rest ≡ None → (fault ≡ None) × (rest ≡ None)
at_line_none n None rest e = (refl, e)
at_line_none n (Some kind) rest e = cc

-- values
some_value : (s : Arithmetic) (o : Option ℕ) → IfSome o (IsValue s) → is_some o ≡ true → IsValue s (unwrap_or o s.zero)
some_value s (Some v) h e = h
some_value s None h e = cc

value_accepted : (s : Arithmetic) (numbers : ReadsNumbers s) (w : List ℕ) → IfSome (value_in s w) (IsValue s)
value_accepted s numbers w = ⊎_elim
    (λ (e : nat_lt (magnitude w) (2 ^ 64) ≡ true). rw e (numbers.accept_value (is_negative w) (magnitude w) (ltb-true (magnitude w) (2 ^ 64) e)))
    (λ (e : nat_lt (magnitude w) (2 ^ 64) ≡ false). rw e tt) (cases_Bool (nat_lt (magnitude w) (2 ^ 64)))

value_known : (s : Arithmetic) (numbers : ReadsNumbers s) (field : Field) (w : List ℕ) → is_some (value_of s field w) ≡ true → IsValue s (unwrap_or (value_of s field w) s.zero)
value_known s numbers Integer w e = some_value s (value_in s w) (value_accepted s numbers w) e
value_known s numbers Pattern w e = numbers.pattern_value

-- a line without a fault has an entry whose value is one of the semiring
pub entry_value : (s : Arithmetic) (numbers : ReadsNumbers s) (header : Header) (shape : Extent) (ws : List (List ℕ)) → entry_fault s header shape ws ≡ None → IsValue s (entry_of s header ws).value
entry_value s numbers header shape ws e =
    let p = all_pass (entry_checks s header shape ws) e in
    value_known s numbers header.field (word 2 ws) p.1.1.1.1.1.0

-- places
pub within_parts : (limit n : ℕ) → is_within limit n ≡ true → (n ≡ (n - 1) + 1) × (n - 1 < limit)
within_parts limit n e = (grind (arith, nat_tests), grind (arith, nat_tests))

pub entry_inside : (s : Arithmetic) (header : Header) (shape : Extent) (ws : List (List ℕ)) → entry_fault s header shape ws ≡ None → IsInside shape (entry_of s header ws)
entry_inside s header shape ws e =
    let p = all_pass (entry_checks s header shape ws) e in
    let within = and_parts (is_within shape.rows (number (word 0 ws))) (is_within shape.cols (number (word 1 ws))) p.1.1.0 in
    ((within_parts shape.rows (number (word 0 ws)) within.0).1, (within_parts shape.cols (number (word 1 ws)) within.1).1)

-- the header of a text
pub header_ok : (s : Arithmetic) (line b o f w y : List ℕ) (h : Header) → begins_blank line ≡ false → words line ≡ b ∷ o ∷ f ∷ w ∷ y ∷ [] → bytes_eq b (codes "%%MatrixMarket") ≡ true → is_read s ([] ∷ o ∷ f ∷ w ∷ y ∷ []) ≡ true → h ≡ header_of ([] ∷ o ∷ f ∷ w ∷ y ∷ []) → (header_fault s (begins_blank line) (words line) ≡ None) × (h ≡ header_of (words line))
header_ok s line b o f w y h starts e banner known is = (rw (starts, e) (rw banner (rw known refl)), rw e is)

-- after a size line without a fault, the first fault of the body is that of its entries
pub body_is : (s : Arithmetic) (header : Header) (n : ℕ) (ls : List (ℕ × List (List ℕ))) (l : ℕ × List (List ℕ)) (more : List (ℕ × List (List ℕ))) → ls ≡ l ∷ more → size_fault header l.1 ≡ None → body_fault s header n ls ≡ entries_fault s header (size_of l.1).shape n (size_of l.1).count more
body_is s header n ls l more e h = ap (body_fault s header n) e ∙ ap (λ b. at_line l.0 b (entries_fault s header (size_of l.1).shape n (size_of l.1).count more)) h

-- the whole of a text
pub first_step : (s : Arithmetic) (text : List ℕ) → 0 < length text → first_fault s text ≡ at_line 1 (header_fault s (begins_blank (line_at text)) (words (line_at text))) (body_fault s (header_of (words (line_at text))) (2 + length (lines (after_line text))) (kept_from 2 (after_line text)))
unfolding first_fault kept_from
first_step s [] h = absurd (omega arith)
first_step s (c ∷ text) h =
    let e : suc (length (lines (after_line (c ∷ text)))) + 1 ≡ 2 + length (lines (after_line (c ∷ text))) = omega arith in
    rw (lines_step c text) (ap (λ n. at_line 1 (header_fault s (begins_blank (line_at (c ∷ text))) (words (line_at (c ∷ text)))) (body_fault s (header_of (words (line_at (c ∷ text)))) n (kept_lines 2 (lines (after_line (c ∷ text)))))) e)

-- the matrix of a text is that of its body, by the header on its first line
pub matrix_step : (s : Arithmetic) (text : List ℕ) → 0 < length text → matrix_in s text ≡ body_matrix s (header_of (words (line_at text))) (kept_from 2 (after_line text))
unfolding matrix_in kept_from
matrix_step s [] h = absurd (omega arith)
matrix_step s (c ∷ text) h = rw (lines_step c text) refl

pub no_text : (s : Arithmetic) → first_fault s [] ≡ Some (record { line = 1; kind = BadHeader })
unfolding first_fault lines cut_lines
no_text s = refl

-- what `read` returns
pub read_empty : (s : Arithmetic) (text : List ℕ) → length text ≡ 0 → IsAnswer (first_fault s text) (record { line = 1; kind = BadHeader })
read_empty s [] e = inl (no_text s)
read_empty s (c ∷ text) e = absurd (omega arith)

-- a fault of the first line is the answer for the whole text
pub read_header : (s : Arithmetic) (text start : List ℕ) (k : Kind) → 0 < length text → start ≡ text → header_fault s (begins_blank (line_at start)) (words (line_at start)) ≡ Some k → IsAnswer (first_fault s text) (record { line = 1; kind = k })
read_header s text start k h e f = inl (rw (first_step s text h) (rw (rw e at f) refl))

-- the first fault of a text is that of its body
pub body_first : (s : Arithmetic) (text start rest : List ℕ) (header : Header) (n : ℕ) → 0 < length text → start ≡ text → n ≡ 2 → rest ≡ after_line start → header_fault s (begins_blank (line_at start)) (words (line_at start)) ≡ None → header ≡ header_of (words (line_at start)) → first_fault s text ≡ body_fault s header (n + length (lines rest)) (kept_from n rest)
body_first s text start rest header n h e f g k l = rw (first_step s text h) (rw (rw e at k) (rw (f, g, l, e) refl))

-- if the first line has none, an answer for the body is one for the text
pub read_fault : (s : Arithmetic) (text start rest : List ℕ) (header : Header) (n : ℕ) (fault : ReadFault) → 0 < length text → start ≡ text → n ≡ 2 → rest ≡ after_line start → header_fault s (begins_blank (line_at start)) (words (line_at start)) ≡ None → header ≡ header_of (words (line_at start)) → IsAnswer (body_fault s header (n + length (lines rest)) (kept_from n rest)) fault → IsAnswer (first_fault s text) fault
read_fault s text start rest header n fault h e f g k l a = subst (λ (o : Option ReadFault). IsAnswer o fault) (sym (body_first s text start rest header n h e f g k l)) a

-- a text has no fault, and this matrix
pub record IsText (s : Arithmetic) (text : List ℕ) (m : Sparse) : Type 0 where
  pub no_fault : first_fault s text ≡ None
  pub matrix : m ≡ matrix_in s text

-- the matrix of a text is that of its body
pub matrix_first : (s : Arithmetic) (text start rest : List ℕ) (header : Header) (n : ℕ) → 0 < length text → start ≡ text → n ≡ 2 → rest ≡ after_line start → header ≡ header_of (words (line_at start)) → matrix_in s text ≡ body_matrix s header (kept_from n rest)
matrix_first s text start rest header n h e f g l = rw (matrix_step s text h) (rw (f, g, l, e) refl)

-- if neither the first line nor the body has a fault, the text has the matrix of its body
pub read_ok : (s : Arithmetic) (text start rest : List ℕ) (header : Header) (n : ℕ) (m : Sparse) → 0 < length text → start ≡ text → n ≡ 2 → rest ≡ after_line start → header_fault s (begins_blank (line_at start)) (words (line_at start)) ≡ None → header ≡ header_of (words (line_at start)) → body_fault s header (n + length (lines rest)) (kept_from n rest) ≡ None → m ≡ body_matrix s header (kept_from n rest) → IsText s text m
read_ok s text start rest header n m h e f g k l a b = record {
  no_fault = body_first s text start rest header n h e f g k l ∙ a;
  matrix = b ∙ sym (matrix_first s text start rest header n h e f g l);
}
