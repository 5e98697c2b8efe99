-- Texts as lines, and lines as words.
use Rattle.std.specs.Prelude.{ℕ, ◌+◌, ◌-◌, ◌*◌, Bool, true, false, cond, not, ◌&&◌, ◌||◌, ◌==◌, nat_le, List, [], ◌∷◌}
use Rattle.std.specs.Prelude.{length, map, filter}
use Rattle.std.specs.List.{enumerate_from}

-- a byte in front of the first piece
abbrev pub onto_first : ℕ → List (List ℕ) → List (List ℕ)
onto_first c [] = (c ∷ []) ∷ []
onto_first c (piece ∷ pieces) = (c ∷ piece) ∷ pieces

-- a text cut at each line feed; a last piece counts if it has a byte
unfoldable pub cut_lines : List ℕ → List (List ℕ)
cut_lines [] = []
cut_lines (c ∷ text) = cond (c == 10) ([] ∷ cut_lines text) (onto_first c (cut_lines text))

-- a line without the carriage return at its end, if it has one
unfoldable pub without_return : List ℕ → List ℕ
without_return [] = []
without_return (c ∷ []) = cond (c == 13) [] (c ∷ [])
without_return (c ∷ d ∷ line) = c ∷ without_return (d ∷ line)

-- the lines of a text
unfoldable pub lines : List ℕ → List (List ℕ)
lines text = map without_return (cut_lines text)

-- the number of the line past the last, of a text whose first line has the number n
abbrev pub past_last : ℕ → List ℕ → ℕ
past_last n text = n + length (lines text)

-- a space or a tab
abbrev pub is_blank : ℕ → Bool
is_blank c = (c == 32) || (c == 9)

abbrev pub begins_blank : List ℕ → Bool
begins_blank [] = true
begins_blank (c ∷ line) = is_blank c

-- the words of a line: the longest pieces without blanks
unfoldable pub words : List ℕ → List (List ℕ)
words [] = []
words (c ∷ line) = cond (is_blank c) (words line) (cond (begins_blank line) ((c ∷ []) ∷ words line) (onto_first c (words line)))

abbrev pub is_digit : ℕ → Bool
is_digit c = nat_le 48 c && nat_le c 57

abbrev pub all_digits : List ℕ → Bool
all_digits [] = true
all_digits (c ∷ word) = is_digit c && all_digits word

-- decimal digits alone, at least one
abbrev pub is_number : List ℕ → Bool
is_number [] = false
is_number (c ∷ word) = is_digit c && all_digits word

-- the number that digits write
abbrev pub number_from : ℕ → List ℕ → ℕ
number_from n [] = n
number_from n (c ∷ word) = number_from (n * 10 + (c - 48)) word

abbrev pub number : List ℕ → ℕ
number word = number_from 0 word

-- a plus sign, a minus sign or none, and then a number
abbrev pub is_value_word : List ℕ → Bool
is_value_word [] = false
is_value_word (c ∷ word) = cond ((c == 43) || (c == 45)) (is_number word) (is_number (c ∷ word))

abbrev pub is_negative : List ℕ → Bool
is_negative [] = false
is_negative (c ∷ word) = c == 45

abbrev pub magnitude : List ℕ → ℕ
magnitude [] = 0
magnitude (c ∷ word) = cond ((c == 43) || (c == 45)) (number word) (number (c ∷ word))

-- a word that makes its line a comment, if it is the first
abbrev pub is_comment : List ℕ → Bool
is_comment [] = true
is_comment (c ∷ word) = c == 37

-- the words of a line that is skipped: none, or a comment's
abbrev pub is_skipped : List (List ℕ) → Bool
is_skipped [] = true
is_skipped (word ∷ words) = is_comment word

-- the words of each line that isn't skipped
abbrev pub kept : List (List ℕ) → List (List (List ℕ))
kept lines = filter (λ ws. not (is_skipped ws)) (map words lines)

-- the same, with the numbers of the lines
abbrev pub kept_lines : ℕ → List (List ℕ) → List (ℕ × List (List ℕ))
kept_lines n lines = filter (λ l. not (is_skipped l.1)) (enumerate_from n (map words lines))

-- the same, for a text whose first line has the number n
unfoldable pub kept_from : ℕ → List ℕ → List (ℕ × List (List ℕ))
kept_from n text = kept_lines n (lines text)
