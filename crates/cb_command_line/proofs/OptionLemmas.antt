-- What the getters of `clap` give, by the rows of a command.
use Rattle.std.proofs.Common.{◌≡◌, ◌∙◌, ◌^◌, ◌&&◌, ℕ, Bool, true, false, refl, sym, ap, cond, List, [], ◌∷◌, length, Option, Some, None, Result, Ok, Err, true≢false, nat_lt, lt-ltb, ltb-true, is_some, ℤ, IfSome}
use Rattle.std.specs.Prelude.{bytes_eq, find, option_and_then, option_map}
use Rattle.std.specs.List.{list_all}
use Rattle.std.specs.Char.{digit_value}
use Rattle.std.specs.Str.Parse.{AllDigits, ParsesUnsigned, digits_value, signed_digits_value, without_leading_plus}
use Rattle.clap.specs.Facts.{Entry}
use Rattle.clap.specs.Matches.{ReadsOne, matched_of, one_text}
use Rattle.clap.specs.Walk.{Text, one_of, row_of, rows_of}
use Rattle.clap.specs.declared.parser.matches.Found.{Found}
use Rattle.clap.proofs.WalkLemmas.{find_row, one_text-rows}
use Rattle.cb_command_line.specs.Options.{is_numeral, is_there, number_in}

pub there_by_rows : (f : Found) (option : Text) → is_some (matched_of f option) ≡ is_there option (rows_of f)
there_by_rows f option = go (find (λ e. bytes_eq e.0.now option) f.entries.items) ∙ ap is_some (sym (find_row f.entries.items option))
  where
    go : (o : Option Entry) → is_some (option_map (λ e. e.1) o) ≡ is_some (option_map row_of o)
    go None = refl
    go (Some e) = refl

-- ---- numbers

both : (a b : Bool) → (a && b) ≡ true → (a ≡ true) × (b ≡ true)
both true b e = (refl, e)
both false b e = absurd (true≢false (sym e))

digits_pass : (ds : List ℕ) → AllDigits 10 ds → list_all (λ d. nat_lt (digit_value d) 10) ds ≡ true
digits_pass [] h = refl
digits_pass (d ∷ ds) h = rw (lt-ltb (digit_value d) 10 h.0) (digits_pass ds h.1)

digits_from : (ds : List ℕ) → list_all (λ d. nat_lt (digit_value d) 10) ds ≡ true → AllDigits 10 ds
digits_from [] e = tt
digits_from (d ∷ ds) e =
    let parts = both _ _ e in
    (ltb-true _ _ parts.0, digits_from ds parts.1)

-- a text is read as the number of so many bits that it writes
parsed : (E : Type 0) (bits : ℕ) (text : Text) (n : ℕ) → ParsesUnsigned {E = E} bits 10 text (Ok n) → Some n ≡ number_in bits text
parsed E bits text n h =
    let ds = without_leading_plus text in
    rw (lt-ltb 0 (length ds) h.0.0.0, digits_pass ds h.0.0.1, lt-ltb (digits_value 10 ds) (2 ^ bits) h.0.1) (ap Some h.1)

unparsed : (E : Type 0) (bits : ℕ) (text : Text) (e : E) → ParsesUnsigned bits 10 text (Err e) → None ≡ number_in bits text
unparsed E bits text e h = go (is_numeral (without_leading_plus text) && nat_lt (digits_value 10 (without_leading_plus text)) (2 ^ bits)) refl
  where
    go : (b : Bool) → (is_numeral (without_leading_plus text) && nat_lt (digits_value 10 (without_leading_plus text)) (2 ^ bits)) ≡ b
        → None ≡ cond b (Some (digits_value 10 (without_leading_plus text))) None
    go false t = refl
    go true t =
        let outer = both _ _ t in
        let inner = both _ _ outer.0 in
        absurd (h ((ltb-true _ _ inner.0, digits_from (without_leading_plus text) inner.1), ltb-true _ _ outer.1))

-- `get_one`, at a type of unsigned numbers
pub number_by_rows : {E : Type 0} (gives : Text → Result ℕ E → Type 0) (bits : ℕ) (f : Found) (option : Text) (r : Option ℕ)
    → ((t : Text) (x : Result ℕ E) → gives t x → ParsesUnsigned bits 10 t x) → (one_text f option ≡ None → r ≡ None)
    → ((t : Text) → one_text f option ≡ Some t → ReadsOne gives t r)
    → r ≡ option_and_then (number_in bits) (one_of option (rows_of f))
number_by_rows {E} gives bits f option r parses none value = go (one_text f option) refl ∙ ap (option_and_then (number_in bits)) (one_text-rows f option)
  where
    read : (t : Text) (o : Option ℕ) → ReadsOne gives t o → o ≡ number_in bits t
    read t (Some n) h = parsed E bits t n (parses t (Ok n) h)
    read t None h = unparsed E bits t h.0 (parses t (Err h.0) h.1)

    go : (o : Option Text) → one_text f option ≡ o → r ≡ option_and_then (number_in bits) o
    go None e = none e
    go (Some t) e = read t r (value t e)

-- a text is read as the number with a sign that it writes
module _ {E : Type 0} (gives : Text → Result ℤ E → Type 0) (f : Found) (option : Text) where
  pub integer_by_rows : (r : Option ℤ)
      → ((t : Text) (n : ℤ) → gives t (Ok n) → n ≡ signed_digits_value 10 t) → (one_text f option ≡ None → r ≡ None)
      → ((t : Text) → one_text f option ≡ Some t → ReadsOne gives t r)
      → IfSome r (λ n. option_map (signed_digits_value 10) (one_of option (rows_of f)) ≡ Some n)
  integer_by_rows r parses none value = go (one_text f option) refl
    where
      read : (t : Text) (o : Option ℤ) → one_text f option ≡ Some t → ReadsOne gives t o
          → IfSome o (λ n. option_map (signed_digits_value 10) (one_of option (rows_of f)) ≡ Some n)
      read t None e h = tt
      read t (Some n) e h = ap (option_map (signed_digits_value 10)) (sym (one_text-rows f option) ∙ e) ∙ ap Some (sym (parses t n h))

      go : (o : Option Text) → one_text f option ≡ o → IfSome r (λ n. option_map (signed_digits_value 10) (one_of option (rows_of f)) ≡ Some n)
      go None e = rw (none e) tt
      go (Some t) e = read t r e (value t e)
