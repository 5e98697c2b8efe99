-- A matrix, written and read again.
use Rattle.std.proofs.Common.{◌≡◌, ◌≢◌, ℕ, ◌+◌, ◌-◌, ◌<◌, ◌^◌, Bool, true, false, Some, None, List, [], ◌∷◌, arith, ◌∙◌, refl, decimal, nat_lt, ⊎_elim}
use Rattle.std.specs.Prelude.{◌==◌}
use Rattle.std.proofs.lemmas.Bool.{cases_Bool}
use Rattle.std.proofs.lemmas.Bool.Decides.{nat_tests}
use Rattle.cb_semirings.specs.Arithmetic.{Arithmetic, IsValue, ReadsNumbers}
use Rattle.cb_matrix.specs.declared.Entry.{Entry}
use Rattle.cb_matrix.specs.Sparse.{Extent}
use Rattle.cb_market_lines.specs.declared.header.Header.{Header}
use Rattle.cb_market_lines.specs.declared.header.Field.TheVariants.{Integer, Pattern}
use Rattle.cb_market_lines.specs.declared.header.Symmetry.TheVariants.{General}
use Rattle.cb_market_lines.specs.Lines.{is_number, is_negative, is_digit, magnitude}
use Rattle.cb_market_lines.specs.Checks.{entry_fault, entry_of, value_in, is_within}
use Rattle.cb_market_pages.proofs.Decimals.{number_decimal}
use Rattle.cb_market_lines.proofs.WordNumbers.{number_magnitude}

-- a number has no minus sign
no_minus : (c : ℕ) (w : List ℕ) → (c == 45) ≡ true → is_number (c ∷ w) ≡ false
no_minus c w e = let d : is_digit c ≡ false = grind (arith, nat_tests) in rw d refl

not_negative : (w : List ℕ) → is_number w ≡ true → is_negative w ≡ false
not_negative [] e = refl
not_negative (c ∷ w) e = ⊎_elim (λ (a : (c == 45) ≡ true). cc (no_minus c w a)) (λ (a : (c == 45) ≡ false). a) (cases_Bool (c == 45))

pub value_again : (s : Arithmetic) (v : ℕ) → v < 2 ^ 64 → s.accept false v ≡ Some v → value_in s (decimal v) ≡ Some v
value_again s v h e =
    let p = number_decimal v h in
    let m : magnitude (decimal v) ≡ v = (number_magnitude (decimal v) p.0).0 ∙ p.1 in
    let l : nat_lt v (2 ^ 64) ≡ true = grind (arith, nat_tests) in
    rw (m, not_negative (decimal v) p.0) (rw l e)

-- the header of a text, and the words of an entry in it, without values or with them
abbrev pub plain_header : Bool → Header
plain_header true = record { field = Pattern; symmetry = General }
plain_header false = record { field = Integer; symmetry = General }

-- the words of an entry's line: the number of its row, of its column, and its value if values are written
abbrev pub entry_words : Bool → Entry → List (List ℕ)
entry_words true e = decimal (e.row + 1) ∷ decimal (e.column + 1) ∷ []
entry_words false e = decimal (e.row + 1) ∷ decimal (e.column + 1) ∷ decimal e.value ∷ []

-- an entry that can be written and read
pub record Fits (s : Arithmetic) (shape : Extent) (e : Entry) : Type 0 where
  pub value : IsValue s e.value
  pub small : e.value < 2 ^ 64
  pub not_zero : e.value ≢ s.zero
  pub row : e.row < shape.rows
  pub column : e.column < shape.cols

-- an entry's words, read again
pub entry_again : (s : Arithmetic) (numbers : ReadsNumbers s) (shape : Extent) (b : Bool) (e : Entry) → Fits s shape e → shape.rows < 2 ^ 31 → shape.cols < 2 ^ 31 → entry_fault s (plain_header b) shape (entry_words b e) ≡ None
entry_again s numbers shape true e h m n =
    let a = number_decimal (e.row + 1) (omega (arith, h.row)) in
    let b = number_decimal (e.column + 1) (omega (arith, h.column)) in
    let i : is_within shape.rows (e.row + 1) ≡ true = grind (arith, nat_tests, h.row) in
    let j : is_within shape.cols (e.column + 1) ≡ true = grind (arith, nat_tests, h.column) in
    rw (a.0, b.0, a.1, b.1) (rw (i, j) refl)
entry_again s numbers shape false e h m n =
    let a = number_decimal (e.row + 1) (omega (arith, h.row)) in
    let b = number_decimal (e.column + 1) (omega (arith, h.column)) in
    let v = number_decimal e.value h.small in
    let x = value_again s e.value h.small (numbers.accept_same e.value h.value h.not_zero) in
    let i : is_within shape.rows (e.row + 1) ≡ true = grind (arith, nat_tests, h.row) in
    let j : is_within shape.cols (e.column + 1) ≡ true = grind (arith, nat_tests, h.column) in
    rw (a.0, b.0, (number_magnitude (decimal e.value) v.0).1, a.1, b.1, x) (rw (i, j) refl)

-- the entry that these words write is that entry
pub same_again : (s : Arithmetic) (numbers : ReadsNumbers s) (shape : Extent) (b : Bool) (e : Entry) → s.writes_pattern ≡ b → Fits s shape e → shape.rows < 2 ^ 31 → shape.cols < 2 ^ 31 → entry_of s (plain_header b) (entry_words b e) ≡ e
same_again s numbers shape true e w h m n =
    let a = number_decimal (e.row + 1) (omega (arith, h.row)) in
    let b = number_decimal (e.column + 1) (omega (arith, h.column)) in
    let i : (e.row + 1) - 1 ≡ e.row = omega arith in
    let j : (e.column + 1) - 1 ≡ e.column = omega arith in
    let v : e.value ≡ s.pattern = numbers.only_pattern w e.value h.value h.not_zero in
    rw (a.1, b.1, i, j, ← v) refl
same_again s numbers shape false e w h m n =
    let a = number_decimal (e.row + 1) (omega (arith, h.row)) in
    let b = number_decimal (e.column + 1) (omega (arith, h.column)) in
    let x = value_again s e.value h.small (numbers.accept_same e.value h.value h.not_zero) in
    let i : (e.row + 1) - 1 ≡ e.row = omega arith in
    let j : (e.column + 1) - 1 ≡ e.column = omega arith in
    rw (a.1, b.1, x, i, j) refl
