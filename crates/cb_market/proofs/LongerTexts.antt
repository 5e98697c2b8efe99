-- What follows a text that ends with a line changes nothing before it.
use Rattle.std.proofs.Common.{◌≡◌, ℕ, suc, ◌+◌, ◌<◌, true, false, not, List, [], ◌∷◌, ◌++◌, arith, length, map, filter, sym, ap, ◌∙◌, refl, subst, None, ⊎_elim, inl, inr, Bool, cond, length-append}
use Rattle.std.specs.Prelude.{◌==◌}
use Rattle.std.specs.List.{enumerate_from}
use Rattle.std.proofs.lemmas.Bool.{cases_Bool}
use Rattle.std.proofs.lemmas.List.{map-append, append-nil, length-map}
use Rattle.std.proofs.lemmas.List.Elements.{filter-append}
use Rattle.cb_semirings.specs.Arithmetic.{Arithmetic}
use Rattle.cb_matrix.specs.Values.{collected}
use Rattle.cb_market_lines.specs.declared.header.Header.{Header}
use Rattle.cb_market_lines.specs.declared.size.Size.{Size}
use Rattle.cb_market_lines.specs.Lines.{lines, words, kept_from, kept_lines, is_skipped, past_last, begins_blank}
use Rattle.cb_market_lines.specs.Cursor.{is_line_end, line_at, after_line}
use Rattle.cb_market_lines.specs.Checks.{is_shape, header_fault, header_of, size_fault, size_of}
use Rattle.cb_market_lines.specs.Faults.{body_matrix, entries_fault, entries_fault_from, given}
use Rattle.cb_market_lines.proofs.Bodies.{body_is, body_first, matrix_first}
use Rattle.cb_market.specs.Pieces.{is_whole, first_size, MayFollow, IsBody, IsOpening}
use Rattle.cb_market.proofs.PartedTexts.{lines_parted}

-- ---- the end
-- a text whose last part ends with a line does so too
pub whole_last : (a b : List ℕ) → 0 < length b → is_whole b ≡ true → is_whole (a ++ b) ≡ true
whole_last [] b h e = e
whole_last (c ∷ []) [] h e = absurd (omega arith)
whole_last (c ∷ []) (d ∷ b) h e = e
whole_last (c ∷ d ∷ a) b h e = whole_last (d ∷ a) b h e

-- ---- the first line
-- the first line, and whether it ends
line_longer : (text more : List ℕ) → 0 < length text → is_whole text ≡ true → line_at (text ++ more) ≡ line_at text
line_longer [] more h e = absurd (omega arith)
line_longer (c ∷ []) [] h e = refl
line_longer (c ∷ []) (d ∷ more) h e = rw e refl
line_longer (c ∷ d ∷ text) more h e = ap (λ l. cond (is_line_end (c ∷ d ∷ text)) [] (c ∷ l)) (line_longer (d ∷ text) more (omega arith) e)

-- the text after it
after_longer : (text more : List ℕ) → 0 < length text → is_whole text ≡ true → after_line (text ++ more) ≡ after_line text ++ more
after_longer [] more h e = absurd (omega arith)
after_longer (c ∷ []) more h e = rw e refl
after_longer (c ∷ d ∷ text) more h e = ⊎_elim
    (λ (f : (c == 10) ≡ true). rw f refl)
    (λ (f : (c == 10) ≡ false). rw f (after_longer (d ∷ text) more (omega arith) e))
    (cases_Bool (c == 10))

-- which ends with a line too
after_whole : (text : List ℕ) → is_whole text ≡ true → is_whole (after_line text) ≡ true
after_whole [] e = refl
after_whole (c ∷ []) e = rw e refl
after_whole (c ∷ d ∷ text) e = ⊎_elim
    (λ (f : (c == 10) ≡ true). rw f e)
    (λ (f : (c == 10) ≡ false). rw f (after_whole (d ∷ text) e))
    (cases_Bool (c == 10))

-- ---- all lines
enumerate_both : {X : Type 0} (n : ℕ) (xs ys : List X) → enumerate_from n (xs ++ ys) ≡ enumerate_from n xs ++ enumerate_from (n + length xs) ys
enumerate_both n [] ys = (let e : n ≡ n + 0 = omega arith in ap (λ k. enumerate_from k ys) e)
enumerate_both n (x ∷ xs) ys =
    let e : n + 1 + length xs ≡ n + suc (length xs) = omega arith in
    ap (λ l. (n, x) ∷ l) (enumerate_both (n + 1) xs ys ∙ ap (λ k. enumerate_from (n + 1) xs ++ enumerate_from k ys) e)

kept_both : (n : ℕ) (ks ls : List (List ℕ)) → kept_lines n (ks ++ ls) ≡ kept_lines n ks ++ kept_lines (n + length ks) ls
kept_both n ks ls =
    let keeps : ℕ × List (List ℕ) → Bool = λ l. not (is_skipped l.1) in
    ap (λ ws. filter keeps (enumerate_from n ws)) (map-append words ks ls)
    ∙ ap (filter keeps) (enumerate_both n (map words ks) (map words ls))
    ∙ filter-append keeps (enumerate_from n (map words ks)) (enumerate_from (n + length (map words ks)) (map words ls))
    ∙ ap (λ k. kept_lines n ks ++ kept_lines (n + k) ls) (length-map ks words)

-- the lines of a text that ends with a line, and of what follows it
kept_longer : (n : ℕ) (text more : List ℕ) → is_whole text ≡ true → kept_from n (text ++ more) ≡ kept_from n text ++ kept_from (n + length (lines text)) more
unfolding kept_from
kept_longer n text more e = ap (kept_lines n) (lines_parted text more e) ∙ kept_both n (lines text) (lines more)

past_longer : (n : ℕ) (text more : List ℕ) → is_whole text ≡ true → past_last n (text ++ more) ≡ past_last n text + length (lines more)
past_longer n text more e =
    let all = ap length (lines_parted text more e) ∙ length-append (lines text) (lines more) in
    omega (arith, all)

-- ---- what may follow a text
-- the first line is as it was
line_on : (text end more : List ℕ) → 0 < length text → MayFollow text end more → line_at (text ++ more) ≡ line_at text
line_on text end more h (inl e) = ap (λ m. line_at (text ++ m)) e ∙ ap line_at (append-nil text)
line_on text end more h (inr w) = line_longer text more h w.0

after_on : (text end more : List ℕ) → 0 < length text → MayFollow text end more → after_line (text ++ more) ≡ after_line text ++ more
after_on text end more h (inl e) = ap (λ m. after_line (text ++ m)) e ∙ ap after_line (append-nil text) ∙ sym (append-nil (after_line text)) ∙ ap (λ m. after_line text ++ m) (sym e)
after_on text end more h (inr w) = after_longer text more h w.0

-- and it may follow the text after that line
follows_on : (text end more : List ℕ) → MayFollow text end more → MayFollow (after_line text) end more
follows_on text end more (inl e) = inl e
follows_on text end more (inr w) = inr (after_whole text w.0, w.1)

-- the kept lines, where the first is followed by others
kept_on : (n : ℕ) (text : List ℕ) (line : ℕ × List (List ℕ)) (j : ℕ) (rest more : List ℕ) → MayFollow text rest more → kept_from n text ≡ line ∷ kept_from j rest → past_last j rest ≡ past_last n text
    → kept_from n (text ++ more) ≡ line ∷ kept_from j (rest ++ more)
kept_on n text line j rest more (inl e) k p =
    ap (λ m. kept_from n (text ++ m)) e ∙ ap (kept_from n) (append-nil text) ∙ k ∙ ap (λ r. line ∷ kept_from j r) (sym (append-nil rest) ∙ ap (λ m. rest ++ m) (sym e))
kept_on n text line j rest more (inr w) k p =
    kept_longer n text more w.0
    ∙ ap (λ l. l ++ kept_from (n + length (lines text)) more) k
    ∙ ap (λ i. line ∷ (kept_from j rest ++ kept_from i more)) (sym p)
    ∙ ap (λ l. line ∷ l) (sym (kept_longer j rest more w.1))

past_on : (n : ℕ) (text : List ℕ) (j : ℕ) (rest more : List ℕ) → MayFollow text rest more → past_last j rest ≡ past_last n text → past_last n (text ++ more) ≡ past_last j (rest ++ more)
past_on n text j rest more (inl e) p =
    ap (λ m. past_last n (text ++ m)) e ∙ ap (past_last n) (append-nil text) ∙ sym p ∙ ap (past_last j) (sym (append-nil rest) ∙ ap (λ m. rest ++ m) (sym e))
past_on n text j rest more (inr w) p = past_longer n text more w.0 ∙ ap (λ i. i + length (lines more)) (sym p) ∙ sym (past_longer j rest more w.1)

-- a body whose first kept line is a size
pub has_body : (s : Arithmetic) (header : Header) (n : ℕ) (text : List ℕ) (size : Size) (line : ℕ × List (List ℕ)) (j : ℕ) (rest : List ℕ) → kept_from n text ≡ line ∷ kept_from j rest → past_last j rest ≡ past_last n text
    → size_fault header line.1 ≡ None → size ≡ size_of line.1 → IsBody s header n text size j rest
has_body s header n text size line j rest k p none is = record {
  size_is = is ∙ sym (ap first_size k);
  fault = λ more h.
      body_is s header (past_last n (text ++ more)) (kept_from n (text ++ more)) line (kept_from j (rest ++ more)) (kept_on n text line j rest more h k p) none
      ∙ ap (λ (m : ℕ). entries_fault s header (size_of line.1).shape m (size_of line.1).count (kept_from j (rest ++ more))) (past_on n text j rest more h p)
      ∙ ap (λ (z : Size). entries_fault_from s header z j (rest ++ more)) (sym is);
  matrix = λ more h.
      ap (body_matrix s header) (kept_on n text line j rest more h k p)
      ∙ ap (λ (z : Size). collected s z.shape (given s header (kept_from j (rest ++ more)))) (sym is);
}

-- a text whose first line is a header and whose body begins with a size has this opening
pub opens : (s : Arithmetic) (text start rest : List ℕ) (header : Header) (n : ℕ) (size : Size) (line : ℕ) (entries : List ℕ) → 0 < length text → start ≡ text → n ≡ 2 → rest ≡ after_line start
    → header_fault s (begins_blank (line_at start)) (words (line_at start)) ≡ None → header ≡ header_of (words (line_at start)) → is_shape header.symmetry size.shape ≡ true
    → IsBody s header n rest size line entries → IsOpening s text header size line entries
opens s text start rest header n size line entries h e f g k l shape body =
    let same : (more : List ℕ) → MayFollow text entries more → line_at (text ++ more) ≡ line_at start = λ more m. line_on text entries more h m ∙ ap line_at (sym e) in
    let some : (more : List ℕ) → 0 < length (text ++ more) = λ more. let all = length-append text more in omega (arith, h, all) in
    let none : (more : List ℕ) → MayFollow text entries more → header_fault s (begins_blank (line_at (text ++ more))) (words (line_at (text ++ more))) ≡ None = λ more m. ap (λ x. header_fault s (begins_blank x) (words x)) (same more m) ∙ k in
    let is : (more : List ℕ) → MayFollow text entries more → header ≡ header_of (words (line_at (text ++ more))) = λ more m. l ∙ ap (λ x. header_of (words x)) (sym (same more m)) in
    let after : rest ≡ after_line text = g ∙ ap after_line e in
    let then : (more : List ℕ) → MayFollow text entries more → rest ++ more ≡ after_line (text ++ more) = λ more m. ap (λ r. r ++ more) after ∙ sym (after_on text entries more h m) in
    let follows : (more : List ℕ) → MayFollow text entries more → MayFollow rest entries more = λ more m. subst (λ r. MayFollow r entries more) (sym after) (follows_on text entries more m) in
    let lines_after : kept_from n rest ≡ kept_from 2 (after_line text) = ap (λ i. kept_from i rest) f ∙ ap (kept_from 2) after in
    record {
      header_is = l ∙ ap (λ t. header_of (words (line_at t))) e;
      size_is = body.size_is ∙ ap first_size lines_after;
      shape = shape;
      fault = λ more m. body_first s (text ++ more) (text ++ more) (rest ++ more) header n (some more) refl f (then more m) (none more m) (is more m) ∙ body.fault more (follows more m);
      matrix = λ more m. matrix_first s (text ++ more) (text ++ more) (rest ++ more) header n (some more) refl f (then more m) (is more m) ∙ body.matrix more (follows more m);
    }
