-- Runs of entries that are removed one after the other.
use Rattle.std.proofs.Common.{◌≡◌, ℕ, zero, suc, Bool, true, false, ◌+◌, ◌<◌, ◌≤◌, List, [], ◌∷◌, ◌++◌, length, min, take, drop, get_or, add-one, append-nil, refl, ap, sym, ◌∙◌, arith, append_assoc, length-append}
use Rattle.std.specs.Prelude.{codes, decimal, flat_map}
use Rattle.std.proofs.lemmas.List.{take-append-drop, drop_min}
use Rattle.std.proofs.lemmas.List.Concat.{flat_map-append}
use Rattle.cb_semirings.specs.Arithmetic.{Arithmetic}
use Rattle.cb_matrix.specs.declared.Entry.{Entry}
use Rattle.cb_matrix.specs.Sparse.{Extent}
use Rattle.cb_dcsc.specs.Compressed.{entries_in}
use Rattle.cb_layout.specs.Segments.{shifted}
use Rattle.cb_market_pages.specs.declared.line_forms.LineForm.{LineForm}
use Rattle.cb_market_pages.specs.declared.line_forms.LineForm.TheVariants.{Place, PlaceAndValue, RowAndValue, RowAndVertex}
use Rattle.cb_market_pages.specs.Text.{line_in, lines_in, column_lines, number_line, head_of, header_line, text_left}

-- the first entries of a segment and the others are all of it
pub shifted_parts : (top column : ℕ) (rows values : List ℕ) (n : ℕ) → length values ≡ length rows → shifted top column (take n rows) (take n values) ++ shifted top column (drop n rows) (drop n values) ≡ shifted top column rows values
unfolding entries_in
shifted_parts top column rows values zero e = refl
shifted_parts top column [] values (suc n) e = refl
shifted_parts top column (i ∷ is) [] (suc n) e = absurd (omega (arith, e))
shifted_parts top column (i ∷ is) (v ∷ vs) (suc n) e = ap (λ es. record { row = top + i; column = column; value = v } ∷ es) (shifted_parts top column is vs n (omega (arith, e)))

-- the first entries of a segment are a run, and the others are left
pub first_run : (top column : ℕ) (rows values : List ℕ) (t c t' c' : ℕ) (is vs is' vs' : List ℕ) (n : ℕ) (more all : List Entry) → length values ≡ length rows
    → (t ≡ top) × (c ≡ column) → is ≡ take n rows → vs ≡ take n values
    → (t' ≡ top) × (c' ≡ column) → is' ≡ drop n rows → vs' ≡ drop n values
    → all ≡ shifted top column rows values ++ more → all ≡ shifted t c is vs ++ (shifted t' c' is' vs' ++ more)
first_run top column rows values t c t' c' is vs is' vs' n more all e p r v p' r' v' a =
    rw (p.0, p.1, r, v, p'.0, p'.1, r', v')
    (a ∙ ap (λ es. es ++ more) (sym (shifted_parts top column rows values n e)) ∙ append_assoc (shifted top column (take n rows) (take n values)) (shifted top column (drop n rows) (drop n values)) more)

shifted_more : (top column : ℕ) (rows values : List ℕ) (n : ℕ) → length values ≡ length rows → n < length rows
    → shifted top column (take (suc n) rows) (take (suc n) values) ≡ shifted top column (take n rows) (take n values) ++ record { row = top + get_or rows n 0; column = column; value = get_or values n 0 } ∷ []
unfolding entries_in
shifted_more top column [] values n e l = absurd (omega arith)
shifted_more top column (i ∷ is) [] n e l = absurd (omega arith)
shifted_more top column (i ∷ is) (v ∷ vs) zero e l = refl
shifted_more top column (i ∷ is) (v ∷ vs) (suc n) e l =
    ap (λ es. record { row = top + i; column = column; value = v } ∷ es) (shifted_more top column is vs n (omega arith) (omega arith))

-- the lines of the first entries of a column, and of one more
pub one_line_more : (form : LineForm) (start page page' : List ℕ) (top column : ℕ) (rows values : List ℕ) (n : ℕ) → length values ≡ length rows → n < length rows
    → page ≡ start ++ column_lines form top column (take n rows) (take n values) → page' ≡ page ++ line_in form (record { row = top + get_or rows n 0; column = column; value = get_or values n 0 })
    → page' ≡ start ++ column_lines form top column (take (n + 1) rows) (take (n + 1) values)
one_line_more form start page page' top column rows values n e l p p' =
    let last : Entry = record { row = top + get_or rows n 0; column = column; value = get_or values n 0 } in
    let run = shifted top column (take n rows) (take n values) in
    let line = line_in form in
    let more : shifted top column (take (n + 1) rows) (take (n + 1) values) ≡ run ++ last ∷ [] =
    ap (λ m. shifted top column (take m rows) (take m values)) (add-one n) ∙ shifted_more top column rows values n e l in
    let lines : flat_map line (run ++ last ∷ []) ≡ flat_map line run ++ line last = flat_map-append line run (last ∷ []) ∙ ap (λ bytes. flat_map line run ++ bytes) (append-nil (line last)) in
    p' ∙ ap (λ bytes. bytes ++ line last) p ∙ append_assoc start (flat_map line run) (line last) ∙ ap (λ bytes. start ++ bytes) (sym (ap (flat_map line) more ∙ lines))

-- a run is written, and more is left
pub append_run : (form : LineForm) (page page' : List ℕ) (run more all : List Entry) → all ≡ run ++ more → page' ≡ page ++ lines_in form run → page' ++ lines_in form more ≡ page ++ lines_in form all
append_run form page page' run more all a p =
    ap (λ bytes. bytes ++ lines_in form more) p
    ∙ append_assoc page (lines_in form run) (lines_in form more)
    ∙ ap (λ bytes. page ++ bytes) (sym (flat_map-append (line_in form) run more) ∙ ap (lines_in form) (sym a))

-- the first entries of a run and what follows it
take_run : (run more : List Entry) (left m : ℕ) → length run + m ≡ left → take left (run ++ more) ≡ run ++ take m more
take_run [] more left m e = ap (λ n. take n more) (omega (arith, e))
take_run (x ∷ xs) more zero m e = absurd (omega (arith, e))
take_run (x ∷ xs) more (suc n) m e = ap (λ es. x ∷ es) (take_run xs more n m (omega (arith, e)))

drop_run : (run more : List Entry) (left m : ℕ) → length run + m ≡ left → drop left (run ++ more) ≡ drop m more
drop_run [] more left m e = ap (λ n. drop n more) (omega (arith, e))
drop_run (x ∷ xs) more zero m e = absurd (omega (arith, e))
drop_run (x ∷ xs) more (suc n) m e = drop_run xs more n m (omega (arith, e))

-- skipping a run
pub skip_run : (run more all : List Entry) (left m : ℕ) → all ≡ run ++ more → length run + m ≡ left → drop m more ≡ drop left all
skip_run run more all left m a e = sym (ap (drop left) a ∙ drop_run run more left m e)

-- the number of entries of a run and what follows it
pub length_run : (run more all : List Entry) → all ≡ run ++ more → length all ≡ length run + length more
length_run run more all a = ap length a ∙ length-append run more

-- writing a run
pub write_run : (form : LineForm) (page page' : List ℕ) (run more all : List Entry) (left m : ℕ) → all ≡ run ++ more → length run + m ≡ left → page' ≡ page ++ lines_in form run → page' ++ lines_in form (take m more) ≡ page ++ lines_in form (take left all)
write_run form page page' run more all left m a e p =
    let line = line_in form in
    ap (λ bytes. bytes ++ lines_in form (take m more)) p
    ∙ append_assoc page (lines_in form run) (lines_in form (take m more))
    ∙ ap (λ bytes. page ++ bytes) (sym (flat_map-append line run (take m more)) ∙ ap (lines_in form) (sym (ap (take left) a ∙ take_run run more left m e)))

-- the head and the lines of the first entries are removed from a text
pub part_taken : (form : LineForm) (text head page : List ℕ) (all first rest : List Entry) (most count : ℕ) → head ++ lines_in form all ≡ text → page ≡ head → first ≡ all → rest ≡ drop most all → count ≡ min most (length all)
    → text ≡ (page ++ lines_in form (take count first)) ++ lines_in form rest
part_taken form text head page all first rest most count t p f r c =
    let line = line_in form in
    let others : rest ≡ drop count all = r ∙ sym (drop_min most all) ∙ ap (λ n. drop n all) (sym c) in
    let whole : lines_in form (take count first) ++ lines_in form rest ≡ lines_in form all =
    (λ i. lines_in form (take count (f i)) ++ lines_in form (others i)) ∙ sym (flat_map-append line (take count all) (drop count all)) ∙ ap (lines_in form) (take-append-drop count all) in
    sym t ∙ (λ i. sym p i ++ sym whole i) ∙ sym (append_assoc page (lines_in form (take count first)) (lines_in form rest))

-- a line has some bytes
length-line : (form : LineForm) (e : Entry) → 0 < length (line_in form e)
length-line Place e = let a = length-append (decimal (e.row + 1)) (32 ∷ number_line ((e.column + 1) ∷ [])) in omega arith
length-line PlaceAndValue e = let a = length-append (decimal (e.row + 1)) (32 ∷ number_line ((e.column + 1) ∷ e.value ∷ [])) in omega arith
length-line RowAndValue e = let a = length-append (decimal (e.row + 1)) (32 ∷ number_line (e.value ∷ [])) in omega arith
length-line RowAndVertex e = let a = length-append (decimal (e.row + 1)) (32 ∷ number_line ((e.value + 1) ∷ [])) in omega arith

-- a head has some bytes
length-head : (b : Bool) (shape : Extent) (count : ℕ) → 0 < length (head_of b shape count)
length-head true shape count =
    let rest = number_line (shape.rows ∷ shape.cols ∷ count ∷ []) in
    let a = length-append (header_line true) rest in
    let b = length-append (codes "%%MatrixMarket matrix coordinate pattern general") (10 ∷ []) in
    omega (arith, a, b)
length-head false shape count =
    let rest = number_line (shape.rows ∷ shape.cols ∷ count ∷ []) in
    let a = length-append (header_line false) rest in
    let b = length-append (codes "%%MatrixMarket matrix coordinate integer general") (10 ∷ []) in
    omega (arith, a, b)

-- and so have a head and the lines of some entries, if there is one or the other
pub length-share : (s : Arithmetic) (form : LineForm) (has_head : Bool) (shape : Extent) (len : ℕ) (entries : List Entry) (count : ℕ) → count ≤ length entries → (has_head ≡ false → count ≡ 0 → ⊥)
    → 0 < length (text_left s form has_head shape len (take count entries))
length-share s form true shape len entries count c some =
    let a = length-append (head_of s.writes_pattern shape len) (lines_in form (take count entries)) in
    let b = length-head s.writes_pattern shape len in
    omega (arith, a, b)
length-share s form false shape len entries zero c some = absurd (some refl refl)
length-share s form false shape len [] (suc n) c some = absurd (omega (arith, c))
length-share s form false shape len (e ∷ es) (suc n) c some =
    let b = length-append (line_in form e) (lines_in form (take n es)) in
    let d = length-line form e in
    omega (arith, b, d)
