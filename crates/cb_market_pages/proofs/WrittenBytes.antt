-- What is written on a page.
use Rattle.std.proofs.Common.{◌≡◌, ℕ, zero, suc, ◌+◌, ◌<◌, ◌≤◌, List, [], ◌∷◌, ◌++◌, length, take, drop, set, arith, ap, sym, refl, ◌∙◌, append_assoc, length-append, length-drop}
use Rattle.std.specs.Prelude.{decimal}
use Rattle.std.proofs.lemmas.List.{take-append-drop, take_at, take_more_set, length-take-le}
use Rattle.std.proofs.lemmas.Slice.{take-put_mid}
use borrow.Rule.Slice.PartMut.{put_mid}
use Rattle.cb_market_pages.specs.declared.line_forms.LineForm.{LineForm}
use Rattle.cb_market_pages.specs.declared.line_forms.LineForm.TheVariants.{Place, PlaceAndValue, RowAndValue, RowAndVertex}
use Rattle.cb_market_pages.specs.Text.{line_in, line_with}

-- a byte after some bytes
pub with_byte : (bytes : List ℕ) (some : List ℕ) (end last after : ℕ) → last ≡ end + 1 → end < length bytes → take end bytes ≡ some → take last (set bytes end after) ≡ some ++ after ∷ []
with_byte bytes some end last after l h e = rw l (take_more_set bytes end after h ∙ ap (λ p. p ++ after ∷ []) e)

length-put : (start count : ℕ) (bytes some : List ℕ) → start + count ≤ length bytes → count ≡ length some → length (put_mid start count bytes some) ≡ length bytes
length-put start count bytes some h e =
    let rest = drop count (drop start bytes) in
    let a : length (put_mid start count bytes some) ≡ length (take start bytes) + length (some ++ rest) = length-append (take start bytes) (some ++ rest) in
    let b = length-append some rest in
    let c = length-take-le start bytes (omega arith) in
    let d = length-drop start bytes in
    let f = length-drop count (drop start bytes) in
    omega (arith, a, b, c, d, f)

-- the bytes before the place, and those from it
joined : (bytes old digits rest : List ℕ) (start end : ℕ) → start ≤ length bytes → end ≡ start + length digits → drop start bytes ≡ digits ++ rest → take start bytes ≡ old → take end bytes ≡ old ++ digits
joined bytes old digits rest start end h e d o =
    let whole : bytes ≡ (old ++ digits) ++ rest = sym (take-append-drop start bytes) ∙ ap (λ p. p ++ drop start bytes) o ∙ ap (λ p. old ++ p) d ∙ sym (append_assoc old digits rest) in
    let k = length-append old digits in
    let j : length old ≡ start = ap length (sym o) ∙ length-take-le start bytes h in
    ap (take end) whole ∙ take_at (old ++ digits) rest end (omega arith)

-- digits and a byte after them
pub number_put : (bytes new old digits rest : List ℕ) (start end last after : ℕ) → start ≤ length new → end ≡ start + length digits → last ≡ end + 1 → end < length new → drop start new ≡ digits ++ rest → take start new ≡ take start bytes → take start bytes ≡ old → take last (set new end after) ≡ old ++ digits ++ after ∷ []
number_put bytes new old digits rest start end last after h e l k d t o =
    with_byte new (old ++ digits) end last after l k (joined new old digits rest start end h e d (t ∙ o))

-- bytes and a byte after them
pub bytes_put : (bytes part some old : List ℕ) (start count end last after : ℕ) → part ≡ some → count ≡ length some → end ≡ start + length some → last ≡ end + 1 → end < length bytes → take start bytes ≡ old → take last (set (put_mid start count bytes part) end after) ≡ old ++ some ++ after ∷ []
bytes_put bytes part some old start count end last after p m e l k o =
    rw p (with_byte (put_mid start count bytes some) (old ++ some) end last after l (omega (arith, length-put start count bytes some (omega arith) m)) (take-put_mid start count bytes some end e (omega arith) ∙ ap (λ x. x ++ some) o))

-- the line of an entry, by the digits of its column
pub same_line : (form : LineForm) (row top i column value : ℕ) (digits : List ℕ) → row ≡ top + i + 1 → digits ≡ decimal (column + 1) → line_with form row digits value ≡ line_in form (record { row = top + i; column = column; value = value })
same_line Place row top i column value digits r d = rw (r, d) refl
same_line PlaceAndValue row top i column value digits r d = rw (r, d) refl
same_line RowAndValue row top i column value digits r d = rw r refl
same_line RowAndVertex row top i column value digits r d = rw r refl

-- a page that had room has it until a line is written
pub first_line : (n : ℕ) (page old : List ℕ) → (n ≡ 0 → page ≡ old) → length old + 63 ≤ 65536 → (length page + 63 ≤ 65536 → ⊥) → 0 < n
first_line zero page old same room none = absurd (none (rw (same refl) room))
first_line (suc n) page old same room none = omega arith
