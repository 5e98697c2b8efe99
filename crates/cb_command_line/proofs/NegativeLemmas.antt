-- Words as texts: where the first of a kind stands, and the word at a place.
use Rattle.std.proofs.Common.{◌≡◌, ◌∙◌, ◌<◌, ◌+◌, ◌++◌, ℕ, Bool, refl, sym, ap, ap₂, cond, List, [], ◌∷◌, append_assoc, codes, drop, length, map, take, nat_lt, Some, None, string_bytes}
use Rattle.std.specs.Prelude.{String}
use Rattle.std.specs.List.{drop-map, position, position_or_len, slice_index_or, take-map}
use Rattle.std.specs.declared.alloc.Global.{Global}
use Rattle.std.proofs.lemmas.List.{get_or-map, length-map}
use Rattle.clap.specs.Walk.{Text}
use Rattle.cb_command_line.specs.Lines.{joined_at, word_at}

first_of_texts : (p : Text → Bool) (words : List (String Global)) → position_or_len p (map string_bytes words) ≡ position_or_len (λ w. p (string_bytes w)) words
first_of_texts p [] = refl
first_of_texts p (w ∷ rest) = rw (first_of_texts p rest) refl

pub position_of_texts : (p : Text → Bool) (words : List (String Global)) → position p (map string_bytes words) ≡ position (λ w. p (string_bytes w)) words
position_of_texts p words = ap₂ (λ (n m : ℕ). cond (nat_lt n m) (Some n) None) (first_of_texts p words) (length-map words string_bytes)

pub text_at : (words : List (String Global)) (i : ℕ) (word : String Global) → i < length words → word ≡ slice_index_or words i word
    → word_at (map string_bytes words) i ≡ string_bytes word
text_at words i word lt is = get_or-map string_bytes words i word [] lt ∙ ap string_bytes (sym is)

-- the words of which two are one
pub joined_is : (words : List (String Global)) (place : ℕ) (word : String Global) (front back : List (String Global)) (number : Text)
    → place + 1 < length words → word ≡ slice_index_or words (place + 1) word → front ≡ take place words → back ≡ drop (place + 2) words
    → number ≡ codes "--diagonal=" ++ string_bytes word
    → (map string_bytes front ++ number ∷ []) ++ map string_bytes back ≡ joined_at (map string_bytes words) (Some place)
joined_is words place word front back number lt at is_front is_back is_number =
    append_assoc (map string_bytes front) (number ∷ []) (map string_bytes back)
    ∙ ap₂ (λ (xs ys : List (String Global)). map string_bytes xs ++ (number ∷ map string_bytes ys)) is_front is_back
    ∙ ap (λ (t : Text). map string_bytes (take place words) ++ (t ∷ map string_bytes (drop (place + 2) words)))
    (is_number ∙ ap (λ (t : Text). codes "--diagonal=" ++ t) (sym (text_at words (place + 1) word lt at)))
    ∙ ap₂ (λ (xs ys : List Text). xs ++ ((codes "--diagonal=" ++ word_at (map string_bytes words) (place + 1)) ∷ ys))
    (sym (take-map string_bytes place words)) (sym (drop-map string_bytes (place + 2) words))
