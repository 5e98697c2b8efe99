-- The text of a matrix is that matrix.
use Rattle.std.proofs.Common.{◌≡◌, ◌≢◌, ℕ, ◌+◌, ◌≤◌, ◌<◌, ◌^◌, Bool, true, false, not, None, List, [], ◌∷◌, ◌++◌, arith, sym, ap, ◌∙◌, refl, decimal, nat_le, length, length-append, map, append_assoc}
use Rattle.std.specs.Prelude.{◌==◌, ◌&&◌, codes, flat_map, All}
use Rattle.std.proofs.lemmas.List.Elements.{All-head, All-tail}
use Rattle.std.proofs.lemmas.Bool.{and_parts}
use Rattle.std.proofs.lemmas.Bool.Decides.{nat_tests}
use Rattle.cb_semirings.specs.Arithmetic.{Arithmetic, IsValue, IsSemiring, ReadsNumbers}
use Rattle.cb_matrix.specs.declared.Entry.{Entry}
use Rattle.cb_matrix.specs.Sparse.{Extent, Sparse, IsMatrix, IsInside}
use Rattle.cb_matrix.specs.Values.{collected}
use Rattle.cb_market_lines.specs.declared.size.Size.{Size}
use Rattle.cb_market_lines.specs.Lines.{is_number, is_digit, is_comment, is_skipped, words, lines, kept_from, begins_blank}
use Rattle.cb_market_lines.specs.Cursor.{is_line_end, line_at, after_line}
use Rattle.cb_market_lines.specs.Checks.{header_fault, header_of, size_of, size_fault, is_shape, given_by}
use Rattle.cb_market_lines.specs.Faults.{first_fault, matrix_in, entries_fault, given, at_line, body_matrix}
use Rattle.cb_market_pages.specs.Text.{text_of, header_line, size_line, number_line, entry_line}
use Rattle.cb_market_lines.proofs.Cursor.{kept_here, kept_none}
use Rattle.cb_market_pages.proofs.Decimals.{number_decimal, numbers_words, numbers_after, AllSmall}
use Rattle.cb_market_lines.specs.Reads.{Reads}
use Rattle.cb_market_pages.proofs.EntryRoundTrip.{entry_again, same_again, plain_header, entry_words, Fits}
use Rattle.cb_market_lines.proofs.Bodies.{first_step, matrix_step, body_is, IsText}
use Rattle.cb_market_lines.proofs.Law.{text_says}
use Rattle.cb_market_lines.proofs.OwnEntries.{own_entries}

abbrev pub AllFit : Arithmetic → Extent → List Entry → Type 0
AllFit s shape [] = Unit {0}
AllFit s shape (e ∷ es) = Fits s shape e × AllFit s shape es

abbrev numbered : Bool → ℕ → List Entry → List (ℕ × List (List ℕ))
numbered b k [] = []
numbered b k (e ∷ es) = (k, entry_words b e) ∷ numbered b (k + 1) es

digit_no_comment : (c : ℕ) → is_digit c ≡ true → (c == 37) ≡ false
digit_no_comment c e = grind (arith, nat_tests)

number_kept : (w : List ℕ) → is_number w ≡ true → is_comment w ≡ false
number_kept [] e = cc
number_kept (c ∷ w) e = digit_no_comment c (and_parts (is_digit c) _ e).0

line_long : (n m : ℕ) (ns rest : List ℕ) → 0 < length (number_line (n ∷ m ∷ ns) ++ rest)
line_long n m ns rest = omega (arith, length-append (number_line (n ∷ m ∷ ns)) rest, length-append (decimal n) (32 ∷ number_line (m ∷ ns)))

-- a line of numbers is kept
numbers_kept : (k n m : ℕ) (ns rest : List ℕ) → AllSmall (n ∷ m ∷ ns) → kept_from k (number_line (n ∷ m ∷ ns) ++ rest) ≡ (k, map decimal (n ∷ m ∷ ns)) ∷ kept_from (k + 1) rest
numbers_kept k n m ns rest h =
    let w = numbers_words n (m ∷ ns) rest h in
    let a = numbers_after n (m ∷ ns) rest h in
    let c : is_skipped (words (line_at (number_line (n ∷ m ∷ ns) ++ rest))) ≡ false = rw w (number_kept (decimal n) (number_decimal n h.0).0) in
    kept_here k (number_line (n ∷ m ∷ ns) ++ rest) (line_long n m ns rest) c ∙ ap (λ x. (k, x) ∷ kept_from (k + 1) (after_line (number_line (n ∷ m ∷ ns) ++ rest))) w ∙ ap (λ x. (k, map decimal (n ∷ m ∷ ns)) ∷ kept_from (k + 1) x) a

-- the line of an entry is kept
entry_kept : (shape : Extent) (s : Arithmetic) (k : ℕ) (b : Bool) (e : Entry) (rest : List ℕ) → shape.rows < 2 ^ 31 → shape.cols < 2 ^ 31 → Fits s shape e → kept_from k (entry_line b e ++ rest) ≡ (k, entry_words b e) ∷ kept_from (k + 1) rest
entry_kept shape s k true e rest r c h = numbers_kept k (e.row + 1) (e.column + 1) [] rest (omega (arith, h.row), (omega (arith, h.column), tt))
entry_kept shape s k false e rest r c h = numbers_kept k (e.row + 1) (e.column + 1) (e.value ∷ []) rest (omega (arith, h.row), (omega (arith, h.column), (h.small, tt)))

entries_kept : (s : Arithmetic) (shape : Extent) (b : Bool) (k : ℕ) (es : List Entry) → shape.rows < 2 ^ 31 → shape.cols < 2 ^ 31 → AllFit s shape es → kept_from k (flat_map (entry_line b) es) ≡ numbered b k es
entries_kept s shape b k [] r c h = kept_none k
entries_kept s shape b k (e ∷ es) r c h =
    entry_kept shape s k b e (flat_map (entry_line b) es) r c h.0 ∙ ap (λ x. (k, entry_words b e) ∷ x) (entries_kept s shape b (k + 1) es r c h.1)

entries_none : (s : Arithmetic) (numbers : ReadsNumbers s) (shape : Extent) (b : Bool) (n k : ℕ) (es : List Entry) → shape.rows < 2 ^ 31 → shape.cols < 2 ^ 31 → AllFit s shape es → entries_fault s (plain_header b) shape n (length es) (numbered b k es) ≡ None
unfolding entries_fault
entries_none s numbers shape b n k [] r c h = refl
entries_none s numbers shape b n k (e ∷ es) r c h =
    ap (λ f. at_line k f (entries_fault s (plain_header b) shape n (length es) (numbered b (k + 1) es))) (entry_again s numbers shape b e h.0 r c) ∙ entries_none s numbers shape b n (k + 1) es r c h.1

general_gives : (s : Arithmetic) (b : Bool) (e : Entry) → given_by s (plain_header b).symmetry e ≡ e ∷ []
general_gives s true e = refl
general_gives s false e = refl

given_again : (s : Arithmetic) (numbers : ReadsNumbers s) (shape : Extent) (b : Bool) (k : ℕ) (es : List Entry) → s.writes_pattern ≡ b → shape.rows < 2 ^ 31 → shape.cols < 2 ^ 31 → AllFit s shape es → given s (plain_header b) (numbered b k es) ≡ es
given_again s numbers shape b k [] w r c h = refl
given_again s numbers shape b k (e ∷ es) w r c h =
    ap (λ (d : Entry). given_by s (plain_header b).symmetry d ++ given s (plain_header b) (numbered b (k + 1) es)) (same_again s numbers shape b e w h.0 r c)
    ∙ ap (λ (ds : List Entry). ds ++ given s (plain_header b) (numbered b (k + 1) es)) (general_gives s b e)
    ∙ ap (λ (ds : List Entry). e ∷ ds) (given_again s numbers shape b (k + 1) es w r c h.1)

-- a line without line feeds and carriage returns
abbrev all_plain : List ℕ → Bool
all_plain [] = true
all_plain (c ∷ w) = not (c == 10) && not (c == 13) && all_plain w

plain_ends : (c : ℕ) (rest : List ℕ) → (not (c == 10) && not (c == 13)) ≡ true → is_line_end (c ∷ rest) ≡ false
plain_ends c [] e = grind (arith, nat_tests)
plain_ends c (d ∷ rest) e = grind (arith, nat_tests)

plain_feed : (c : ℕ) → (not (c == 10) && not (c == 13)) ≡ true → (c == 10) ≡ false
plain_feed c e = grind (arith, nat_tests)

feed_here : (rest : List ℕ) → line_at (10 ∷ rest) ≡ []
feed_here [] = refl
feed_here (c ∷ rest) = refl

plain_line : (w rest : List ℕ) → all_plain w ≡ true → line_at (w ++ 10 ∷ rest) ≡ w
plain_line [] rest e = feed_here rest
plain_line (c ∷ w) rest e = let p = and_parts (not (c == 10) && not (c == 13)) (all_plain w) e in rw (plain_ends c (w ++ 10 ∷ rest) p.0) (ap (λ l. c ∷ l) (plain_line w rest p.1))

plain_after : (w rest : List ℕ) → all_plain w ≡ true → after_line (w ++ 10 ∷ rest) ≡ rest
plain_after [] rest e = refl
plain_after (c ∷ w) rest e = let p = and_parts (not (c == 10) && not (c == 13)) (all_plain w) e in rw (plain_feed c p.0) (plain_after w rest p.1)

unfoldable banner : Bool → List ℕ
banner true = codes "%%MatrixMarket matrix coordinate pattern general"
banner false = codes "%%MatrixMarket matrix coordinate integer general"

banner_plain : (b : Bool) → all_plain (banner b) ≡ true
unfolding banner
banner_plain true = refl
banner_plain false = refl

banner_fault : (s : Arithmetic) (b : Bool) → header_fault s (begins_blank (banner b)) (words (banner b)) ≡ None
unfolding banner words
banner_fault s true = refl
banner_fault s false = refl

banner_header : (b : Bool) → header_of (words (banner b)) ≡ plain_header b
unfolding banner words
banner_header true = refl
banner_header false = refl

abbrev size_words : Sparse → List (List ℕ)
size_words m = decimal m.shape.rows ∷ decimal m.shape.cols ∷ decimal (length m.entries) ∷ []

abbrev after_banner : Bool → Sparse → List ℕ
after_banner b m = size_line m ++ flat_map (entry_line b) m.entries

header_parts : (b : Bool) (rest : List ℕ) → header_line b ++ rest ≡ banner b ++ 10 ∷ rest
unfolding banner
header_parts true rest = refl
header_parts false rest = refl

text_parts : (s : Arithmetic) (b : Bool) (m : Sparse) → s.writes_pattern ≡ b → text_of s m ≡ banner b ++ 10 ∷ after_banner b m
unfolding text_of
text_parts s b m w = rw w (append_assoc (header_line b) (size_line m) (flat_map (entry_line b) m.entries) ∙ header_parts b (after_banner b m))

banner_long : (b : Bool) (rest : List ℕ) → 0 < length (banner b ++ 10 ∷ rest)
banner_long b rest = omega (arith, length-append (banner b) (10 ∷ rest))

-- a matrix of at most 2^31 - 1 rows, columns and entries
pub record CanWrite (s : Arithmetic) (m : Sparse) : Type 0 where
  pub rows : m.shape.rows ≤ 2147483647
  pub columns : m.shape.cols ≤ 2147483647
  pub count : length m.entries ≤ 2147483647

general_shape : (b : Bool) (shape : Extent) → is_shape (plain_header b).symmetry shape ≡ true
general_shape true shape = refl
general_shape false shape = refl

size_fine : (s : Arithmetic) (b : Bool) (m : Sparse) → CanWrite s m → (size_fault (plain_header b) (size_words m) ≡ None) × (size_of (size_words m) ≡ record { shape = m.shape; count = length m.entries })
size_fine s b m h =
    let x = number_decimal m.shape.rows (omega (arith, h.rows)) in
    let y = number_decimal m.shape.cols (omega (arith, h.columns)) in
    let z = number_decimal (length m.entries) (omega (arith, h.count)) in
    let i : nat_le m.shape.rows 2147483647 ≡ true = grind (arith, nat_tests, h.rows) in
    let j : nat_le m.shape.cols 2147483647 ≡ true = grind (arith, nat_tests, h.columns) in
    let k : nat_le (length m.entries) 2147483647 ≡ true = grind (arith, nat_tests, h.count) in
    let g : is_shape (plain_header b).symmetry (size_of (size_words m)).shape ≡ true = general_shape b (size_of (size_words m)).shape in
    (rw (g, x.0, y.0, z.0, x.1, y.1, z.1) (rw (i, j, k) refl), rw (x.1, y.1, z.1) refl)

kept_all : (s : Arithmetic) (b : Bool) (m : Sparse) → CanWrite s m → AllFit s m.shape m.entries → kept_from 2 (after_banner b m) ≡ (2, size_words m) ∷ numbered b 3 m.entries
kept_all s b m h f = numbers_kept 2 m.shape.rows m.shape.cols (length m.entries ∷ []) (flat_map (entry_line b) m.entries) (omega (arith, h.rows), (omega (arith, h.columns), (omega (arith, h.count), tt))) ∙ ap (λ x. (2, size_words m) ∷ x) (entries_kept s m.shape b 3 m.entries (omega (arith, h.rows)) (omega (arith, h.columns)) f)

whole_none : (s : Arithmetic) (numbers : ReadsNumbers s) (b : Bool) (m : Sparse) → CanWrite s m → AllFit s m.shape m.entries → first_fault s (banner b ++ 10 ∷ after_banner b m) ≡ None
whole_none s numbers b m h f =
    let t = banner b ++ 10 ∷ after_banner b m in
    let n = 2 + length (lines (after_banner b m)) in
    let z = size_fine s b m h in
    first_step s t (banner_long b (after_banner b m))
    ∙ rw (plain_line (banner b) (after_banner b m) (banner_plain b), plain_after (banner b) (after_banner b m) (banner_plain b), banner_fault s b, banner_header b)
    (body_is s (plain_header b) n (kept_from 2 (after_banner b m)) (2, size_words m) (numbered b 3 m.entries) (kept_all s b m h f) z.0
    ∙ ap (λ (size : Size). entries_fault s (plain_header b) size.shape n size.count (numbered b 3 m.entries)) z.1
    ∙ entries_none s numbers m.shape b n 3 m.entries (omega (arith, h.rows)) (omega (arith, h.columns)) f)

whole_matrix : (s : Arithmetic) (laws : IsSemiring s) (numbers : ReadsNumbers s) (b : Bool) (m : Sparse) → s.writes_pattern ≡ b → IsMatrix s m → CanWrite s m → AllFit s m.shape m.entries → m ≡ matrix_in s (banner b ++ 10 ∷ after_banner b m)
whole_matrix s laws numbers b m w k h f =
    let t = banner b ++ 10 ∷ after_banner b m in
    let z = size_fine s b m h in
    sym (matrix_step s t (banner_long b (after_banner b m))
    ∙ rw (plain_line (banner b) (after_banner b m) (banner_plain b), plain_after (banner b) (after_banner b m) (banner_plain b), banner_header b)
    (ap (body_matrix s (plain_header b)) (kept_all s b m h f)
    ∙ ap (λ (size : Size). collected s size.shape (given s (plain_header b) (numbered b 3 m.entries))) z.1
    ∙ ap (collected s m.shape) (given_again s numbers m.shape b 3 m.entries w (omega (arith, h.rows)) (omega (arith, h.columns)) f)
    ∙ sym (own_entries s laws m k)))

-- the text of a matrix is that matrix
text_is : (s : Arithmetic) (laws : IsSemiring s) (numbers : ReadsNumbers s) (m : Sparse) → IsMatrix s m → CanWrite s m → AllFit s m.shape m.entries → IsText s (text_of s m) m
text_is s laws numbers m k h f = rw (text_parts s s.writes_pattern m refl) (record { no_fault = whole_none s numbers s.writes_pattern m h f; matrix = whole_matrix s laws numbers s.writes_pattern m refl k h f })

all_fit : (s : Arithmetic) (laws : IsSemiring s) (shape : Extent) (es : List Entry) → All (IsInside shape) es → All (λ e. IsValue s e.value) es → All (λ e. e.value ≢ s.zero) es → AllFit s shape es
all_fit s laws shape [] i v z = tt
all_fit s laws shape (e ∷ es) i v z =
    let a = All-head (IsInside shape) e es i in
    let b = All-head (λ (d : Entry). IsValue s d.value) e es v in
    let c = All-head (λ (d : Entry). d.value ≢ s.zero) e es z in
    (record { value = b; small = laws.value_fits e.value b; not_zero = c; row = a.0; column = a.1 }, all_fit s laws shape es (All-tail (IsInside shape) e es i) (All-tail (λ (d : Entry). IsValue s d.value) e es v) (All-tail (λ (d : Entry). d.value ≢ s.zero) e es z))

-- the text of a matrix reads as that matrix
pub written : (s : Arithmetic) (laws : IsSemiring s) (numbers : ReadsNumbers s) (m : Sparse) (bytes : List ℕ) → IsMatrix s m → m.shape.rows ≤ 2147483647 → m.shape.cols ≤ 2147483647 → length m.entries ≤ 2147483647 → bytes ≡ text_of s m → Reads s bytes m
written s laws numbers m bytes k r c n e = rw e (text_says s (text_of s m) m (text_is s laws numbers m k (record { rows = r; columns = c; count = n }) (all_fit s laws m.shape m.entries k.inside k.values k.not_zero)))
