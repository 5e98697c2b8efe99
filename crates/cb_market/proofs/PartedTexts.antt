-- A text in parts: its lines give what the lines of its parts give, in order.
use Rattle.std.proofs.Common.{◌≡◌, ◌≢◌, ℕ, ◌+◌, ◌-◌, ◌<◌, ◌≤◌, true, false, not, List, [], ◌∷◌, ◌++◌, arith, length, map, filter, sym, ap, ◌∙◌, refl, append_assoc, subst, None, Some, Option, ⊎_elim, inl, inr, zero, suc, take, get_or, length-append}
use Rattle.std.proofs.lemmas.List.Concat.{flat_map-append}
use Rattle.std.specs.Prelude.{◌==◌, IfSome, Ok}
use Rattle.std.proofs.lemmas.Bool.{cases_Bool}
use Rattle.std.proofs.lemmas.List.{map-append, append-nil}
use Rattle.std.proofs.lemmas.List.Elements.{filter-append}
use Rattle.cb_semirings.specs.Arithmetic.{Arithmetic}
use Rattle.cb_matrix.specs.declared.Entry.{Entry}
use Rattle.cb_matrix.specs.Sparse.{Extent, is_at}
use Rattle.cb_matrix.specs.Values.{collected, matrix_of, total}
use Rattle.cb_market.specs.Gathered.{AreSamePlaces}
use Rattle.cb_market_lines.specs.declared.header.Header.{Header}
use Rattle.cb_market_lines.specs.declared.size.Size.{Size}
use Rattle.cb_market_lines.specs.Lines.{lines, cut_lines, onto_first, without_return, words, kept, kept_from, is_skipped}
use Rattle.cb_market_lines.specs.Checks.{entry_of, given_by}
use Rattle.cb_market_lines.specs.Faults.{at_line, entries_fault, given, matrix_in, IsNextEntry}
use Rattle.cb_market_lines.specs.Reads.{Reads}
use Rattle.cb_market.specs.Pieces.{is_whole, AreFaultless, given_in, Part, IsPart, MayFollow, IsOpening}
use Rattle.cb_market_lines.proofs.Law.{words_of, kept_words, text_says}

-- ---- lines
-- a text that isn't empty has a line
onto_some : (c : ℕ) (ls : List (List ℕ)) → 0 < length (onto_first c ls)
onto_some c [] = omega arith
onto_some c (l ∷ ls) = omega arith

cut_some : (c : ℕ) (text : List ℕ) → 0 < length (cut_lines (c ∷ text))
unfolding cut_lines
cut_some c text = ⊎_elim (λ e. rw e (omega arith)) (λ e. rw e (onto_some c (cut_lines text))) (cases_Bool (c == 10))

-- a byte in front of some lines is in front of the first
onto_append : (c : ℕ) (ls more : List (List ℕ)) → 0 < length ls → onto_first c (ls ++ more) ≡ onto_first c ls ++ more
onto_append c [] more h = absurd (omega arith)
onto_append c (l ∷ ls) more h = refl

cut_one : (c : ℕ) (more : List ℕ) → (c == 10) ≡ true → cut_lines (c ∷ more) ≡ cut_lines (c ∷ []) ++ cut_lines more
unfolding cut_lines
cut_one c more e = rw e refl

cut_next : (c d : ℕ) (text more : List ℕ) → cut_lines (d ∷ text ++ more) ≡ cut_lines (d ∷ text) ++ cut_lines more → cut_lines (c ∷ d ∷ text ++ more) ≡ cut_lines (c ∷ d ∷ text) ++ cut_lines more
unfolding cut_lines
cut_next c d text more h = ⊎_elim
    (λ (e : (c == 10) ≡ true). rw e (ap (λ (ls : List (List ℕ)). [] ∷ ls) h))
    (λ (e : (c == 10) ≡ false). rw e (ap (onto_first c) h ∙ onto_append c (cut_lines (d ∷ text)) (cut_lines more) (cut_some d text)))
    (cases_Bool (c == 10))

cut_nothing : (b : List ℕ) → cut_lines b ≡ cut_lines [] ++ cut_lines b
unfolding cut_lines
cut_nothing b = refl

-- after a line feed a new line begins
cut_parted : (a b : List ℕ) → is_whole a ≡ true → cut_lines (a ++ b) ≡ cut_lines a ++ cut_lines b
cut_parted [] b e = cut_nothing b
cut_parted (c ∷ []) b e = cut_one c b e
cut_parted (c ∷ d ∷ a) b e = cut_next c d a b (cut_parted (d ∷ a) b e)

-- the lines of a text that is parted after a line feed are those of its two parts
pub lines_parted : (a b : List ℕ) → is_whole a ≡ true → lines (a ++ b) ≡ lines a ++ lines b
unfolding lines
lines_parted a b e = ap (map without_return) (cut_parted a b e) ∙ map-append without_return (cut_lines a) (cut_lines b)

kept_append : (ks ls : List (List ℕ)) → kept (ks ++ ls) ≡ kept ks ++ kept ls
kept_append ks ls = ap (filter (λ ws. not (is_skipped ws))) (map-append words ks ls) ∙ filter-append (λ ws. not (is_skipped ws)) (map words ks) (map words ls)

-- and so are the words of the lines that aren't skipped
pub kept_parted : (a b : List ℕ) → is_whole a ≡ true → kept (lines (a ++ b)) ≡ kept (lines a) ++ kept (lines b)
kept_parted a b e = ap kept (lines_parted a b e) ∙ kept_append (lines a) (lines b)

-- also where nothing comes after the first part
pub kept_followed : (a b : List ℕ) → MayFollow a [] b → kept (lines (a ++ b)) ≡ kept (lines a) ++ kept (lines b)
unfolding lines cut_lines
kept_followed a b (inl e) =
    ap (λ t. kept (lines (a ++ t))) e
    ∙ ap (λ t. kept (lines t)) (append-nil a)
    ∙ sym (append-nil (kept (lines a)))
    ∙ ap (λ t. kept (lines a) ++ kept (lines t)) (sym e)
kept_followed a b (inr w) = kept_parted a b w.0

-- ---- what they give
-- lines without a fault, after such lines
pub faultless_both : (s : Arithmetic) (header : Header) (shape : Extent) (vs ws : List (List (List ℕ))) → AreFaultless s header shape vs → AreFaultless s header shape ws → AreFaultless s header shape (vs ++ ws)
faultless_both s header shape [] ws a b = b
faultless_both s header shape (v ∷ vs) ws a b = (a.0, faultless_both s header shape vs ws a.1 b)

-- two parts together are one, with the entries of the first and then those of the second
pub parts_joined : (s : Arithmetic) (header : Header) (shape : Extent) (side : ℕ) (a b text : List ℕ) (p q r : Part) → is_whole a ≡ true → a ++ b ≡ text → IsPart s header shape side a p → IsPart s header shape side b q
    → r ≡ record { side = p.side; shape = p.shape; lines = p.lines + q.lines; entries = p.entries ++ q.entries } → IsPart s header shape side text r
parts_joined s header shape side a b text p q r whole both x y is =
    let ls = kept_parted a b whole in
    let one : Part = record { side = p.side; shape = p.shape; lines = p.lines + q.lines; entries = p.entries ++ q.entries } in
    let joined : IsPart s header shape side (a ++ b) one = record {
      on_grid = x.on_grid;
      in_shape = x.in_shape;
      faultless = subst (λ (l : List (List (List ℕ))). AreFaultless s header shape l) (sym ls) (faultless_both s header shape (kept (lines a)) (kept (lines b)) x.faultless y.faultless);
      count = (λ t. x.count t + y.count t) ∙ sym (length-append (kept (lines a)) (kept (lines b))) ∙ ap length (sym ls);
      given = λ i j.
          filter-append (is_at i j) p.entries q.entries
          ∙ (λ t. x.given i j t ++ y.given i j t)
          ∙ sym (filter-append (is_at i j) (given_in s header (kept (lines a))) (given_in s header (kept (lines b))))
          ∙ ap (filter (is_at i j)) (sym (flat_map-append (λ ws. given_by s header.symmetry (entry_of s header ws)) (kept (lines a)) (kept (lines b))) ∙ ap (given_in s header) (sym ls));
    } in
    subst (λ (t : List ℕ). IsPart s header shape side t r) both (subst (λ (o : Part). IsPart s header shape side (a ++ b) o) (sym is) joined)

-- the same if there may be none
pub some_joined : (s : Arithmetic) (header : Header) (shape : Extent) (side : ℕ) (a b text : List ℕ) (p q : Part) (o : Option Part) → is_whole a ≡ true → a ++ b ≡ text → IsPart s header shape side a p → IsPart s header shape side b q
    → IfSome o (λ r. r ≡ record { side = p.side; shape = p.shape; lines = p.lines + q.lines; entries = p.entries ++ q.entries }) → IfSome o (λ r. IsPart s header shape side text r)
some_joined s header shape side a b text p q None whole both x y is = tt
some_joined s header shape side a b text p q (Some r) whole both x y is = parts_joined s header shape side a b text p q r whole both x y is

-- ---- one part, entry by entry
-- The lines that are left have been reached without a fault: how many are announced and how many of those weren't reached,
-- and the entries before and now.
pub record Reading (s : Arithmetic) (header : Header) (shape : Extent) (all left : List (List (List ℕ))) (announced missing : ℕ) (before items : List Entry) : Type 0 where
  pub faultless : AreFaultless s header shape left → AreFaultless s header shape all
  pub counted : missing + length all ≡ announced + length left
  pub gives : items ++ given_in s header left ≡ before ++ given_in s header all

-- nothing of a text has been read
pub reading_none : (s : Arithmetic) (header : Header) (shape : Extent) (all : List (List (List ℕ))) (announced : ℕ) (items : List Entry) → Reading s header shape all all announced announced items items
reading_none s header shape all announced items = record { faultless = λ h. h; counted = refl; gives = refl }

-- one more entry is read
pub reading_more : (s : Arithmetic) (header : Header) (shape : Extent) (all : List (List (List ℕ))) (k j m : ℕ) (rest after : List ℕ) (announced missing : ℕ) (before items new : List Entry) (e : Entry) → j ≡ m + 1 → missing ≢ 0
    → Reading s header shape all (words_of (kept_from k rest)) announced missing before items → IsNextEntry s header shape k rest m (Ok e) after → new ≡ items ++ given_by s header.symmetry e
    → Reading s header shape all (words_of (kept_from j after)) announced (missing - 1) before new
reading_more s header shape all k j m rest after announced missing before items new e i some r x n =
    let ws = x.line_words in
    let next : words_of (kept_from k rest) ≡ ws ∷ words_of (kept_from j after) = ap words_of x.kept ∙ ap (λ (l : ℕ). ws ∷ words_of (kept_from l after)) (sym i) in
    let size = ap length next in
    let more = given_in s header (words_of (kept_from j after)) in
    record {
      faultless = λ h. r.faultless (subst (λ (l : List (List (List ℕ))). AreFaultless s header shape l) (sym next) (x.found_is.0, h));
      counted = omega (arith, some, size, r.counted);
      gives =
          ap (λ es. es ++ more) n
          ∙ append_assoc items (given_by s header.symmetry e) more
          ∙ ap (λ d. items ++ (given_by s header.symmetry d ++ more)) x.found_is.1
          ∙ ap (λ l. items ++ given_in s header l) (sym next)
          ∙ r.gives;
    }

-- what is known once all is read
pub record Finished (s : Arithmetic) (header : Header) (shape : Extent) (text : List ℕ) (announced missing : ℕ) (before items : List Entry) : Type 0 where
  pub faultless : AreFaultless s header shape (kept (lines text))
  pub counted : missing + length (kept (lines text)) ≡ announced
  pub gives : items ≡ before ++ given_in s header (kept (lines text))

-- all is read
pub reading_all : (s : Arithmetic) (header : Header) (shape : Extent) (text : List ℕ) (n k : ℕ) (rest : List ℕ) (announced missing : ℕ) (before items : List Entry)
    → Reading s header shape (words_of (kept_from n text)) (words_of (kept_from k rest)) announced missing before items → kept_from k rest ≡ [] → Finished s header shape text announced missing before items
unfolding kept_from
reading_all s header shape text n k rest announced missing before items r e =
    let none : words_of (kept_from k rest) ≡ [] = ap words_of e in
    let all : words_of (kept_from n text) ≡ kept (lines text) = kept_words n (lines text) in
    let left = ap length none in
    let size = ap length all in
    record {
      faultless = subst (λ (l : List (List (List ℕ))). AreFaultless s header shape l) all (r.faultless (subst (λ (l : List (List (List ℕ))). AreFaultless s header shape l) (sym none) tt));
      counted = omega (arith, left, size, r.counted);
      gives = sym (append-nil items) ∙ ap (λ l. items ++ given_in s header l) (sym none) ∙ r.gives ∙ ap (λ l. before ++ given_in s header l) all;
    }

-- what was read of a text is a part
pub part_read : (s : Arithmetic) (header : Header) (shape : Extent) (side : ℕ) (text : List ℕ) (before : List Entry) (p : Part) → p.side ≡ side → p.shape ≡ shape → AreFaultless s header shape (kept (lines text))
    → p.lines ≡ length (kept (lines text)) → before ≡ [] → p.entries ≡ before ++ given_in s header (kept (lines text)) → IsPart s header shape side text p
part_read s header shape side text before p on_grid in_shape faultless count none gives = record {
  on_grid = on_grid;
  in_shape = in_shape;
  faultless = faultless;
  count = count;
  given = λ i j. ap (filter (is_at i j)) (gives ∙ ap (λ es. es ++ given_in s header (kept (lines text))) none);
}

-- a part with its entries sorted is a part
pub part_sorted : (s : Arithmetic) (header : Header) (shape : Extent) (side : ℕ) (text : List ℕ) (p : Part) (o : Option Part) → IsPart s header shape side text p → IfSome o (λ q. AreSamePlaces q.entries p.entries)
    → IfSome o (λ q. (q.side ≡ p.side) × (q.shape ≡ p.shape) × (q.lines ≡ p.lines)) → IfSome o (λ q. IsPart s header shape side text q)
part_sorted s header shape side text p None h places rest = tt
part_sorted s header shape side text p (Some q) h places rest = record {
  on_grid = rest.0 ∙ h.on_grid;
  in_shape = rest.1 ∙ h.in_shape;
  faultless = h.faultless;
  count = rest.2 ∙ h.count;
  given = λ i j. places i j ∙ h.given i j;
}

-- ---- a whole text
-- as many lines without a fault as are announced have no first fault
faultless_none : (s : Arithmetic) (header : Header) (shape : Extent) (n : ℕ) (ls : List (ℕ × List (List ℕ))) → AreFaultless s header shape (words_of ls) → entries_fault s header shape n (length (words_of ls)) ls ≡ None
unfolding entries_fault
faultless_none s header shape n [] h = refl
faultless_none s header shape n (l ∷ ls) h = ap (λ b. at_line l.0 b (entries_fault s header shape n (length (words_of ls)) ls)) h.0 ∙ faultless_none s header shape n ls h.1

-- lines without a fault leave those that are missing
faultless_left : (s : Arithmetic) (header : Header) (shape : Extent) (n missing : ℕ) (ls : List (ℕ × List (List ℕ))) → AreFaultless s header shape (words_of ls) → entries_fault s header shape n (missing + length (words_of ls)) ls ≡ entries_fault s header shape n missing []
unfolding entries_fault
faultless_left s header shape n missing [] h = (let e : missing + 0 ≡ missing = omega arith in ap (λ k. entries_fault s header shape n k []) e)
faultless_left s header shape n missing (l ∷ ls) h =
    let rest = entries_fault s header shape n (missing + length (words_of ls)) ls in
    let e : missing + suc (length (words_of ls)) ≡ suc (missing + length (words_of ls)) = omega arith in
    ap (λ k. entries_fault s header shape n k (l ∷ ls)) e ∙ ap (λ b. at_line l.0 b rest) h.0 ∙ faultless_left s header shape n missing ls h.1

-- so their first fault is that of the end of the text
pub fault_left : (s : Arithmetic) (header : Header) (shape : Extent) (m n announced missing : ℕ) (text : List ℕ) → AreFaultless s header shape (kept (lines text)) → missing + length (kept (lines text)) ≡ announced
    → entries_fault s header shape m missing [] ≡ entries_fault s header shape m announced (kept_from n text)
unfolding kept_from
fault_left s header shape m n announced missing text h e =
    let all : words_of (kept_from n text) ≡ kept (lines text) = kept_words n (lines text) in
    let faultless = subst (λ (l : List (List (List ℕ))). AreFaultless s header shape l) (sym all) h in
    let count : missing + length (words_of (kept_from n text)) ≡ announced = ap (λ l. missing + length l) all ∙ e in
    sym (faultless_left s header shape m missing (kept_from n text) faultless) ∙ ap (λ k. entries_fault s header shape m k (kept_from n text)) count

given_words : (s : Arithmetic) (header : Header) (ls : List (ℕ × List (List ℕ))) → given s header ls ≡ given_in s header (words_of ls)
given_words s header [] = refl
given_words s header (l ∷ ls) = ap (λ es. given_by s header.symmetry (entry_of s header l.1) ++ es) (given_words s header ls)

-- what the lines of a text give, with their numbers or without
pub given_kept : (s : Arithmetic) (header : Header) (n : ℕ) (text : List ℕ) → given_in s header (kept (lines text)) ≡ given s header (kept_from n text)
unfolding kept_from
given_kept s header n text = ap (given_in s header) (sym (kept_words n (lines text))) ∙ sym (given_words s header (kept_from n text))

-- entries that are the same place by place make the same matrix
same_collected : (s : Arithmetic) (shape : Extent) (es fs : List Entry) → AreSamePlaces es fs → collected s shape es ≡ collected s shape fs
same_collected s shape es fs h = λ t. matrix_of s shape (λ i j. total s (map (λ (e : Entry). e.value) (h i j t)))

-- A text whose entries are one part, with as many lines as are announced, reads as the matrix of what they give.
pub part_reads : (s : Arithmetic) (text : List ℕ) (header : Header) (size : Size) (line : ℕ) (entries more : List ℕ) (side : ℕ) (p : Part) → IsOpening s text header size line entries → MayFollow text entries more
    → IsPart s header size.shape side (entries ++ more) p → p.lines ≡ size.count → Reads s (text ++ more) (collected s p.shape p.entries)
unfolding kept_from
part_reads s text header size line entries more side p o follows h c =
    let all : words_of (kept_from line (entries ++ more)) ≡ kept (lines (entries ++ more)) = kept_words line (lines (entries ++ more)) in
    let count : length (words_of (kept_from line (entries ++ more))) ≡ size.count = ap length all ∙ sym h.count ∙ c in
    let n = line + length (lines (entries ++ more)) in
    let none : entries_fault s header size.shape n size.count (kept_from line (entries ++ more)) ≡ None =
    ap (λ k. entries_fault s header size.shape n k (kept_from line (entries ++ more))) (sym count)
    ∙ faultless_none s header size.shape n (kept_from line (entries ++ more)) (subst (λ (l : List (List (List ℕ))). AreFaultless s header size.shape l) (sym all) h.faultless) in
    let matrix : collected s p.shape p.entries ≡ matrix_in s (text ++ more) =
    (λ t. collected s (h.in_shape t) p.entries)
    ∙ same_collected s size.shape p.entries (given_in s header (kept (lines (entries ++ more)))) h.given
    ∙ ap (λ l. collected s size.shape (given_in s header l)) (sym all)
    ∙ ap (collected s size.shape) (sym (given_words s header (kept_from line (entries ++ more))))
    ∙ sym (o.matrix more follows) in
    text_says s (text ++ more) (collected s p.shape p.entries) (record { no_fault = o.fault more follows ∙ none; matrix = matrix })

-- ---- where a text is parted
-- a place after a line feed, or at the start
whole_at : (text : List ℕ) (n : ℕ) → n < length text → get_or text n 0 ≡ 10 → is_whole (take (suc n) text) ≡ true
whole_at [] n l e = absurd (omega arith)
whole_at (c ∷ text) zero l e = ap (λ x. x == 10) e
whole_at (c ∷ []) (suc n) l e = absurd (omega arith)
whole_at (c ∷ d ∷ text) (suc n) l e = whole_at (d ∷ text) n (omega (arith, l)) e

less_one : (n : ℕ) → suc n - 1 ≡ n
less_one n = omega arith

pub whole_end : (text : List ℕ) (end : ℕ) → 0 < end → end ≤ length text → get_or text (end - 1) 0 ≡ 10 → is_whole (take end text) ≡ true
whole_end text zero h l e = absurd (omega arith)
whole_end text (suc n) h l e = whole_at text n (omega (arith, l)) (ap (λ i. get_or text i 0) (sym (less_one n)) ∙ e)

pub whole_start : (text : List ℕ) (end : ℕ) → end ≡ 0 → is_whole (take end text) ≡ true
whole_start text zero e = refl
whole_start text (suc n) e = absurd (omega arith)
