-- The two statements about a text agree.
use Rattle.std.proofs.Common.{◌≡◌, ℕ, suc, ◌+◌, ◌-◌, ◌≤◌, ◌<◌, Bool, true, false, not, Option, Some, None, List, [], ◌∷◌, ◌++◌, arith, length, sym, ap, ◌∙◌, refl, nat_le, zero, map, filter, subst, inr, ⊎_elim}
use Rattle.std.specs.Prelude.{◌==◌, ◌&&◌, is_some, unwrap_or, codes, flat_map, bytes_eq, IfSome}
use Rattle.std.specs.List.{enumerate_from}
use Rattle.std.specs.Char.{to_ascii_lowercase}
use Rattle.std.proofs.lemmas.Bool.{and_parts, eqb-true, eq-eqb, cases_Bool}
use Rattle.std.proofs.lemmas.Bool.Decides.{nat_tests}
use Rattle.std.proofs.lemmas.Slice.Eq.{bytes_eq-Decides}
use Rattle.cb_semirings.specs.Arithmetic.{Arithmetic}
use Rattle.cb_matrix.specs.declared.Entry.{Entry}
use Rattle.cb_matrix.specs.Sparse.{Sparse, Extent}
use Rattle.cb_matrix.specs.Values.{collected}
use Rattle.cb_market_lines.specs.declared.Kind.TheVariants.{Memory}
use Rattle.cb_market_lines.specs.declared.ReadFault.{ReadFault}
use Rattle.cb_market_lines.specs.declared.header.Header.{Header}
use Rattle.cb_market_lines.specs.declared.header.Field.{Field}
use Rattle.cb_market_lines.specs.declared.header.Field.TheVariants.{Integer, Pattern}
use Rattle.cb_market_lines.specs.declared.header.Symmetry.{Symmetry}
use Rattle.cb_market_lines.specs.declared.header.Symmetry.TheVariants.{General, Symmetric, SkewSymmetric}
use Rattle.cb_market_lines.specs.declared.size.Size.{Size}
use Rattle.cb_market_lines.specs.Lines.{is_number, number, lines, words, kept, kept_lines, is_skipped, begins_blank}
use Rattle.cb_market_lines.specs.Checks.{header_checks, header_fault, header_of, is_name, field_in, symmetry_in, is_supported, size_checks, size_fault, size_of, is_shape, entry_fault, entry_checks, entry_of, word, words_wanted, has_value, value_of, is_above, is_on_diagonal, is_within, given_by}
use Rattle.cb_market_lines.specs.Faults.{first_fault, lines_fault, body_fault, matrix_in, lines_matrix, body_matrix, entries_fault, given, at_line, IsAnswer}
use Rattle.cb_market_lines.specs.Reads.{IsName, field_name, symmetry_name, IsHeader, IsShape, IsSize, IsPlace, IsEntry, AreEntries, Reads, IsFaultOrMatrix}
use Rattle.cb_market_lines.proofs.Bodies.{all_pass, at_line_none, within_parts, IsText}

-- names
name_says : (w name : List ℕ) → map to_ascii_lowercase name ≡ name → is_name w name ≡ true → IsName w name
name_says w name l e = (bytes_eq-Decides (map to_ascii_lowercase w) (map to_ascii_lowercase name)).0 e ∙ l

name_said : (w name : List ℕ) → map to_ascii_lowercase name ≡ name → IsName w name → is_name w name ≡ true
name_said w name l h = (bytes_eq-Decides (map to_ascii_lowercase w) (map to_ascii_lowercase name)).1 (h ∙ sym l)

-- a word that is one name is not another
name_other : (w name other : List ℕ) → bytes_eq name (map to_ascii_lowercase other) ≡ false → IsName w name → is_name w other ≡ false
name_other w name other e h = ap (λ l. bytes_eq l (map to_ascii_lowercase other)) h ∙ e

field_says : (w : List ℕ) → is_some (field_in w) ≡ true → IsName w (field_name (unwrap_or (field_in w) Integer))
field_says w = ⊎_elim
    (λ (a : is_name w (codes "integer") ≡ true). rw a (λ _. name_says w (codes "integer") refl a))
    (λ (a : is_name w (codes "integer") ≡ false). rw a (⊎_elim
    (λ (b : is_name w (codes "pattern") ≡ true). rw b (λ _. name_says w (codes "pattern") refl b))
    (λ (b : is_name w (codes "pattern") ≡ false). rw b (λ e. cc))
    (cases_Bool (is_name w (codes "pattern")))))
    (cases_Bool (is_name w (codes "integer")))

field_said : (w : List ℕ) (field : Field) → IsName w (field_name field) → field_in w ≡ Some field
field_said w Integer h = rw (name_said w (codes "integer") refl h) refl
field_said w Pattern h = rw (name_other w (codes "pattern") (codes "integer") refl h, name_said w (codes "pattern") refl h) refl

symmetry_says : (w : List ℕ) → is_some (symmetry_in w) ≡ true → IsName w (symmetry_name (unwrap_or (symmetry_in w) General))
symmetry_says w = ⊎_elim
    (λ (a : is_name w (codes "general") ≡ true). rw a (λ _. name_says w (codes "general") refl a))
    (λ (a : is_name w (codes "general") ≡ false). rw a (⊎_elim
    (λ (b : is_name w (codes "symmetric") ≡ true). rw b (λ _. name_says w (codes "symmetric") refl b))
    (λ (b : is_name w (codes "symmetric") ≡ false). rw b (⊎_elim
    (λ (d : is_name w (codes "skew-symmetric") ≡ true). rw d (λ _. name_says w (codes "skew-symmetric") refl d))
    (λ (d : is_name w (codes "skew-symmetric") ≡ false). rw d (λ e. cc))
    (cases_Bool (is_name w (codes "skew-symmetric")))))
    (cases_Bool (is_name w (codes "symmetric")))))
    (cases_Bool (is_name w (codes "general")))

symmetry_said : (w : List ℕ) (symmetry : Symmetry) → IsName w (symmetry_name symmetry) → symmetry_in w ≡ Some symmetry
symmetry_said w General h = rw (name_said w (codes "general") refl h) refl
symmetry_said w Symmetric h = rw (name_other w (codes "symmetric") (codes "general") refl h, name_said w (codes "symmetric") refl h) refl
symmetry_said w SkewSymmetric h = rw (name_other w (codes "skew-symmetric") (codes "general") refl h, name_other w (codes "skew-symmetric") (codes "symmetric") refl h, name_said w (codes "skew-symmetric") refl h) refl

not_true : (b : Bool) → not b ≡ true → b ≡ false
not_true false e = refl
not_true true e = cc

-- the header line
header_says : (s : Arithmetic) (line : List ℕ) → header_fault s (begins_blank line) (words line) ≡ None → IsHeader s line (header_of (words line))
header_says s line e =
    let ws = words line in
    let p = all_pass (header_checks s (begins_blank line) ws) e in
    let a = and_parts (not (begins_blank line) && (length ws == 5)) (bytes_eq (word 0 ws) (codes "%%MatrixMarket")) p.0 in
    let b = and_parts (not (begins_blank line)) (length ws == 5) a.0 in
    let f = and_parts (is_name (word 1 ws) (codes "matrix") && is_name (word 2 ws) (codes "coordinate") && is_some (field_in (word 3 ws)) && is_some (symmetry_in (word 4 ws))) (is_supported s (header_of ws).field (header_of ws).symmetry) p.1.0 in
    let h = and_parts (is_name (word 1 ws) (codes "matrix") && is_name (word 2 ws) (codes "coordinate") && is_some (field_in (word 3 ws))) (is_some (symmetry_in (word 4 ws))) f.0 in
    let k = and_parts (is_name (word 1 ws) (codes "matrix") && is_name (word 2 ws) (codes "coordinate")) (is_some (field_in (word 3 ws))) h.0 in
    let m = and_parts (is_name (word 1 ws) (codes "matrix")) (is_name (word 2 ws) (codes "coordinate")) k.0 in
    record {
      starts = not_true (begins_blank line) b.0;
      five_words = eqb-true (length ws) 5 b.1;
      banner = (bytes_eq-Decides (word 0 ws) (codes "%%MatrixMarket")).0 a.1;
      matrix = name_says (word 1 ws) (codes "matrix") refl m.0;
      coordinate = name_says (word 2 ws) (codes "coordinate") refl m.1;
      field = field_says (word 3 ws) k.1;
      symmetry = symmetry_says (word 4 ws) h.1;
      supported = f.1;
    }

header_said : (s : Arithmetic) (line : List ℕ) (header : Header) → IsHeader s line header → (header_fault s (begins_blank line) (words line) ≡ None) × (header_of (words line) ≡ header)
header_said s line header h =
    let ws = words line in
    let n : (length ws == 5) ≡ true = eq-eqb (length ws) 5 h.five_words in
    let b : bytes_eq (word 0 ws) (codes "%%MatrixMarket") ≡ true = (bytes_eq-Decides (word 0 ws) (codes "%%MatrixMarket")).1 h.banner in
    let m : is_name (word 1 ws) (codes "matrix") ≡ true = name_said (word 1 ws) (codes "matrix") refl h.matrix in
    let c : is_name (word 2 ws) (codes "coordinate") ≡ true = name_said (word 2 ws) (codes "coordinate") refl h.coordinate in
    let f : field_in (word 3 ws) ≡ Some header.field = field_said (word 3 ws) header.field h.field in
    let y : symmetry_in (word 4 ws) ≡ Some header.symmetry = symmetry_said (word 4 ws) header.symmetry h.symmetry in
    (rw (h.starts, n, b, m, c, f, y, h.supported) refl, rw (f, y) refl)

-- the size line
shape_says : (symmetry : Symmetry) (shape : Extent) → is_shape symmetry shape ≡ true → IsShape symmetry shape
shape_says General shape e = tt
shape_says Symmetric shape e = eqb-true shape.rows shape.cols e
shape_says SkewSymmetric shape e = eqb-true shape.rows shape.cols e

shape_said : (symmetry : Symmetry) (shape : Extent) → IsShape symmetry shape → is_shape symmetry shape ≡ true
shape_said General shape e = refl
shape_said Symmetric shape e = eq-eqb shape.rows shape.cols e
shape_said SkewSymmetric shape e = eq-eqb shape.rows shape.cols e

le_says : (n limit : ℕ) → nat_le n limit ≡ true → n ≤ limit
le_says n limit e = grind (arith, nat_tests)

le_said : (n limit : ℕ) → n ≤ limit → nat_le n limit ≡ true
le_said n limit e = grind (arith, nat_tests)

size_says : (header : Header) (ws : List (List ℕ)) → size_fault header ws ≡ None → IsSize header.symmetry ws (size_of ws)
size_says header ws e =
    let p = all_pass (size_checks header ws) e in
    let a = and_parts ((length ws == 3) && is_number (word 0 ws) && is_number (word 1 ws)) (is_number (word 2 ws)) p.0 in
    let b = and_parts ((length ws == 3) && is_number (word 0 ws)) (is_number (word 1 ws)) a.0 in
    let d = and_parts (length ws == 3) (is_number (word 0 ws)) b.0 in
    let f = and_parts (nat_le (number (word 0 ws)) 2147483647 && nat_le (number (word 1 ws)) 2147483647) (nat_le (number (word 2 ws)) 2147483647) p.1.0 in
    let g = and_parts (nat_le (number (word 0 ws)) 2147483647) (nat_le (number (word 1 ws)) 2147483647) f.0 in
    record {
      three_words = eqb-true (length ws) 3 d.0;
      numbers = (d.1, b.1, a.1);
      rows = refl;
      cols = refl;
      count = refl;
      limit = (le_says _ _ g.0, le_says _ _ g.1, le_says _ _ f.1);
      shape = shape_says header.symmetry (size_of ws).shape p.1.1.0;
    }

size_said : (header : Header) (ws : List (List ℕ)) (size : Size) → IsSize header.symmetry ws size → (size_fault header ws ≡ None) × (size_of ws ≡ size)
size_said header ws size h =
    let n : (length ws == 3) ≡ true = eq-eqb (length ws) 3 h.three_words in
    let i : nat_le size.shape.rows 2147483647 ≡ true = le_said _ _ h.limit.0 in
    let j : nat_le size.shape.cols 2147483647 ≡ true = le_said _ _ h.limit.1 in
    let k : nat_le size.count 2147483647 ≡ true = le_said _ _ h.limit.2 in
    let q : is_shape header.symmetry size.shape ≡ true = shape_said header.symmetry size.shape h.shape in
    (rw (n, h.numbers.0, h.numbers.1, h.numbers.2, h.rows, h.cols, h.count) (rw (i, j, k, q) refl), rw (h.rows, h.cols, h.count) refl)

-- an entry
within_from : (limit n r : ℕ) → n ≡ r + 1 → r < limit → is_within limit n ≡ true
within_from limit n r e h = grind (arith, nat_tests)

some_is : (o : Option ℕ) (z : ℕ) → is_some o ≡ true → o ≡ Some (unwrap_or o z)
some_is (Some v) z e = refl
some_is None z e = cc

place_says : (symmetry : Symmetry) (r c : ℕ) → is_above symmetry (r + 1) (c + 1) ≡ false → is_on_diagonal symmetry (r + 1) (c + 1) ≡ false → IsPlace symmetry r c
place_says General r c a d = tt
place_says Symmetric r c a d = grind (arith, nat_tests)
place_says SkewSymmetric r c a d = grind (arith, nat_tests)

place_said : (symmetry : Symmetry) (r c : ℕ) → IsPlace symmetry r c → (is_above symmetry (r + 1) (c + 1) ≡ false) × (is_on_diagonal symmetry (r + 1) (c + 1) ≡ false)
place_said General r c h = (refl, refl)
place_said Symmetric r c h = (grind (arith, nat_tests), refl)
place_said SkewSymmetric r c h = (grind (arith, nat_tests), grind (arith, nat_tests))

entry_says : (s : Arithmetic) (header : Header) (shape : Extent) (ws : List (List ℕ)) → entry_fault s header shape ws ≡ None → IsEntry s header shape ws (entry_of s header ws)
entry_says s header shape ws e =
    let p = all_pass (entry_checks s header shape ws) e in
    let numbers = and_parts (is_number (word 0 ws) && is_number (word 1 ws)) (has_value header.field (word 2 ws)) p.1.0 in
    let both = and_parts (is_number (word 0 ws)) (is_number (word 1 ws)) numbers.0 in
    let within = and_parts (is_within shape.rows (number (word 0 ws))) (is_within shape.cols (number (word 1 ws))) p.1.1.0 in
    let row = within_parts shape.rows (number (word 0 ws)) within.0 in
    let column = within_parts shape.cols (number (word 1 ws)) within.1 in
    let above : is_above header.symmetry ((number (word 0 ws) - 1) + 1) ((number (word 1 ws) - 1) + 1) ≡ false = ap (λ k. is_above header.symmetry k ((number (word 1 ws) - 1) + 1)) (sym row.0) ∙ ap (is_above header.symmetry (number (word 0 ws))) (sym column.0) ∙ not_true _ p.1.1.1.0 in
    let diagonal : is_on_diagonal header.symmetry ((number (word 0 ws) - 1) + 1) ((number (word 1 ws) - 1) + 1) ≡ false = ap (λ k. is_on_diagonal header.symmetry k ((number (word 1 ws) - 1) + 1)) (sym row.0) ∙ ap (is_on_diagonal header.symmetry (number (word 0 ws))) (sym column.0) ∙ not_true _ p.1.1.1.1.0 in
    record {
      count = eqb-true (length ws) (words_wanted header.field) p.0;
      numbers = (both.0, both.1);
      value_word = numbers.1;
      row = row.0;
      column = column.0;
      inside = (row.1, column.1);
      place = place_says header.symmetry (number (word 0 ws) - 1) (number (word 1 ws) - 1) above diagonal;
      value = some_is (value_of s header.field (word 2 ws)) s.zero p.1.1.1.1.1.0;
    }

entry_said : (s : Arithmetic) (header : Header) (shape : Extent) (ws : List (List ℕ)) (e : Entry) → IsEntry s header shape ws e → (entry_fault s header shape ws ≡ None) × (entry_of s header ws ≡ e)
entry_said s header shape ws e h =
    let w : (length ws == words_wanted header.field) ≡ true = eq-eqb (length ws) (words_wanted header.field) h.count in
    let i : is_within shape.rows (number (word 0 ws)) ≡ true = within_from shape.rows (number (word 0 ws)) e.row h.row h.inside.0 in
    let j : is_within shape.cols (number (word 1 ws)) ≡ true = within_from shape.cols (number (word 1 ws)) e.column h.column h.inside.1 in
    let p = place_said header.symmetry e.row e.column h.place in
    let b : is_above header.symmetry (number (word 0 ws)) (number (word 1 ws)) ≡ false = ap (λ k. is_above header.symmetry k (number (word 1 ws))) h.row ∙ ap (is_above header.symmetry (e.row + 1)) h.column ∙ p.0 in
    let d : is_on_diagonal header.symmetry (number (word 0 ws)) (number (word 1 ws)) ≡ false = ap (λ k. is_on_diagonal header.symmetry k (number (word 1 ws))) h.row ∙ ap (is_on_diagonal header.symmetry (e.row + 1)) h.column ∙ p.1 in
    let r : (e.row + 1) - 1 ≡ e.row = omega arith in
    let c : (e.column + 1) - 1 ≡ e.column = omega arith in
    (rw (w, h.numbers.0, h.numbers.1, h.value_word, i, j, b, d, h.value) refl, rw (h.row, h.column, h.value, r, c) refl)

-- the words of some lines, without their numbers
abbrev pub words_of : List (ℕ × List (List ℕ)) → List (List (List ℕ))
words_of ls = map (λ l. l.1) ls

-- the entries that lines write
abbrev entries_of : Arithmetic → Header → List (ℕ × List (List ℕ)) → List Entry
entries_of s header ls = map (λ l. entry_of s header l.1) ls

entries_say : (s : Arithmetic) (header : Header) (shape : Extent) (n count : ℕ) (ls : List (ℕ × List (List ℕ))) → entries_fault s header shape n count ls ≡ None → (length (entries_of s header ls) ≡ count) × AreEntries s header shape (words_of ls) (entries_of s header ls)
unfolding entries_fault
entries_say s header shape n zero [] e = (refl, tt)
entries_say s header shape n (suc count) [] e = cc
entries_say s header shape n zero (l ∷ ls) e = cc
entries_say s header shape n (suc count) (l ∷ ls) e =
    let p = at_line_none l.0 (entry_fault s header shape l.1) (entries_fault s header shape n count ls) e in
    let q = entries_say s header shape n count ls p.1 in
    (ap suc q.0, (entry_says s header shape l.1 p.0, q.1))

entries_said : (s : Arithmetic) (header : Header) (shape : Extent) (n : ℕ) (ls : List (ℕ × List (List ℕ))) (es : List Entry) → AreEntries s header shape (words_of ls) es → (entries_fault s header shape n (length es) ls ≡ None) × (entries_of s header ls ≡ es)
unfolding entries_fault
entries_said s header shape n [] [] h = (refl, refl)
entries_said s header shape n [] (e ∷ es) h = absurd h
entries_said s header shape n (l ∷ ls) [] h = absurd h
entries_said s header shape n (l ∷ ls) (e ∷ es) h =
    let p = entry_said s header shape l.1 e h.0 in
    let q = entries_said s header shape n ls es h.1 in
    (ap (λ b. at_line l.0 b (entries_fault s header shape n (length es) ls)) p.0 ∙ q.0, ap (λ (d : Entry). d ∷ entries_of s header ls) p.1 ∙ ap (λ (ds : List Entry). e ∷ ds) q.1)

-- what lines give is what their entries give
given_of : (s : Arithmetic) (header : Header) (ls : List (ℕ × List (List ℕ))) → given s header ls ≡ flat_map (given_by s header.symmetry) (entries_of s header ls)
given_of s header [] = refl
given_of s header (l ∷ ls) = ap (λ (ds : List Entry). given_by s header.symmetry (entry_of s header l.1) ++ ds) (given_of s header ls)

-- lines that are kept, without their numbers
kept_words_by : (n : ℕ) (ws : List (List (List ℕ))) → words_of (filter (λ l. not (is_skipped l.1)) (enumerate_from n ws)) ≡ filter (λ w. not (is_skipped w)) ws
kept_words_by n [] = refl
kept_words_by n (w ∷ ws) = ⊎_elim
    (λ (e : is_skipped w ≡ true). rw e (kept_words_by (n + 1) ws))
    (λ (e : is_skipped w ≡ false). rw e (ap (λ (vs : List (List (List ℕ))). w ∷ vs) (kept_words_by (n + 1) ws)))
    (cases_Bool (is_skipped w))

pub kept_words : (n : ℕ) (others : List (List ℕ)) → words_of (kept_lines n others) ≡ kept others
kept_words n others = kept_words_by n (map words others)

-- the first of some lists, and the others
abbrev word_list : List (List ℕ) → List (List (List ℕ)) → List (List ℕ)
word_list z [] = z
word_list z (w ∷ ws) = w

abbrev other_lists : List (List (List ℕ)) → List (List (List ℕ))
other_lists [] = []
other_lists (w ∷ ws) = ws

-- a text without a fault reads as its matrix
body_says : (s : Arithmetic) (text first : List ℕ) (others : List (List ℕ)) (header : Header) (n : ℕ) (ls : List (ℕ × List (List ℕ))) (m : Sparse) → lines text ≡ first ∷ others → IsHeader s first header → words_of ls ≡ kept others → body_fault s header n ls ≡ None → m ≡ body_matrix s header ls → Reads s text m
body_says s text first others header n [] m t h k e b = cc
body_says s text first others header n (l ∷ ls) m t h k e b =
    let p = at_line_none l.0 (size_fault header l.1) (entries_fault s header (size_of l.1).shape n (size_of l.1).count ls) e in
    let q = entries_say s header (size_of l.1).shape n (size_of l.1).count ls p.1 in
    record {
      header = header;
      size = size_of l.1;
      entries = entries_of s header ls;
      first = first;
      others = others;
      size_words = l.1;
      entry_words = words_of ls;
      text_lines = t;
      kept_lines = sym k;
      is_header = h;
      is_size = size_says header l.1 p.0;
      are_entries = q.1;
      count = q.0;
      matrix = b ∙ ap (collected s (size_of l.1).shape) (given_of s header ls);
    }

lines_say : (s : Arithmetic) (text : List ℕ) (n : ℕ) (ls : List (List ℕ)) (m : Sparse) → lines text ≡ ls → lines_fault s n ls ≡ None → m ≡ lines_matrix s ls → Reads s text m
lines_say s text n [] m t e b = cc
lines_say s text n (line ∷ ls) m t e b =
    let p = at_line_none 1 (header_fault s (begins_blank line) (words line)) (body_fault s (header_of (words line)) n (kept_lines 2 ls)) e in
    body_says s text line ls (header_of (words line)) n (kept_lines 2 ls) m t (header_says s line p.0) (kept_words 2 ls) p.1 b

-- a text that has no fault and this matrix reads as it
pub text_says : (s : Arithmetic) (text : List ℕ) (m : Sparse) → IsText s text m → Reads s text m
unfolding first_fault matrix_in
text_says s text m h = lines_say s text (length (lines text) + 1) (lines text) m refl h.no_fault h.matrix

-- and what a text reads as is its matrix, and it has no fault
body_said : (s : Arithmetic) (header : Header) (size : Size) (entries : List Entry) (n : ℕ) (ls : List (ℕ × List (List ℕ))) (ws : List (List ℕ)) (more : List (List (List ℕ))) (m : Sparse) → words_of ls ≡ ws ∷ more → IsSize header.symmetry ws size → AreEntries s header size.shape more entries → length entries ≡ size.count → m ≡ collected s size.shape (flat_map (given_by s header.symmetry) entries) → (body_fault s header n ls ≡ None) × (m ≡ body_matrix s header ls)
body_said s header size entries n [] ws more m k z a c b = cc
body_said s header size entries n (l ∷ ls) ws more m k z a c b =
    let first : ws ≡ l.1 = ap (word_list ws) (sym k) in
    let rest : more ≡ words_of ls = ap other_lists (sym k) in
    let p = size_said header l.1 size (subst (λ (w : List (List ℕ)). IsSize header.symmetry w size) first z) in
    let q = entries_said s header size.shape n ls entries (subst (λ (w : List (List (List ℕ))). AreEntries s header size.shape w entries) rest a) in
    (ap (λ b. at_line l.0 b (entries_fault s header (size_of l.1).shape n (size_of l.1).count ls)) p.0 ∙ ap (λ (z : Size). entries_fault s header z.shape n z.count ls) p.1 ∙ ap (λ k. entries_fault s header size.shape n k ls) (sym c) ∙ q.0, b ∙ ap (λ (es : List Entry). collected s size.shape (flat_map (given_by s header.symmetry) es)) (sym q.1) ∙ ap (collected s size.shape) (sym (given_of s header ls)) ∙ ap (λ (z : Size). collected s z.shape (given s header ls)) (sym p.1))

pub text_said : (s : Arithmetic) (text : List ℕ) (m : Sparse) → Reads s text m → IsText s text m
unfolding first_fault matrix_in
text_said s text m h =
    let p = header_said s h.first h.header h.is_header in
    let q = body_said s h.header h.size h.entries (length (h.first ∷ h.others) + 1) (kept_lines 2 h.others) h.size_words h.entry_words m (kept_words 2 h.others ∙ h.kept_lines) h.is_size h.are_entries h.count h.matrix in
    record {
      no_fault = rw h.text_lines (rw p.0 (rw p.1 q.0));
      matrix = rw h.text_lines (rw p.1 q.1);
    }

-- a text has a first fault or reads as one matrix, and never both
pub fault_or_matrix : (s : Arithmetic) (text : List ℕ) → IsFaultOrMatrix s text
fault_or_matrix s text = record {
  either = λ e. (matrix_in s text, text_says s text (matrix_in s text) (record { no_fault = e; matrix = refl }));
  never_both = λ m h. (text_said s text m h).no_fault;
  one_matrix = λ m n h k. (text_said s text m h).matrix ∙ sym (text_said s text n k).matrix;
}

-- a text that reads as a matrix has no fault before want of memory at its end
pub end_memory : (s : Arithmetic) (text : List ℕ) (m : Sparse) (n : ℕ) → Reads s text m → IsAnswer (first_fault s text) (record { line = n; kind = Memory })
end_memory s text m n h = inr (refl, subst (λ (o : Option ReadFault). IfSome o (λ f. n < f.line)) (sym (text_said s text m h).no_fault) tt)
