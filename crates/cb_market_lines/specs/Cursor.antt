-- A text from a place on: what is left of a line, and the text after it.
use lib.Lanes.{mask_l}
use Rattle.std.specs.Prelude.{◌≡◌, ℕ, ◌+◌, ◌^◌, ◌<◌, ◌≤◌, Bool, true, cond, not, ◌&&◌, ◌||◌, ◌==◌, nat_lt, List, [], ◌∷◌, length, map, take, Option, Some, None}
use Rattle.cb_market_lines.specs.declared.words.Number.{Number}
use Rattle.cb_market_lines.specs.declared.words.Number.TheVariants.{NotWhole, TooLarge, Whole}
use Rattle.cb_market_lines.specs.Lines.{is_digit, is_number, is_blank, is_value_word, magnitude, number, words, kept_from}

-- whether a line ends here: at the end of the text or a line feed, or at a carriage return before either
abbrev pub is_line_end : List ℕ → Bool
is_line_end [] = true
is_line_end (c ∷ []) = (c == 10) || (c == 13)
is_line_end (c ∷ d ∷ rest) = (c == 10) || ((c == 13) && (d == 10))

-- what is left of a line
abbrev pub line_at : List ℕ → List ℕ
line_at [] = []
line_at (c ∷ rest) = cond (is_line_end (c ∷ rest)) [] (c ∷ line_at rest)

-- the words that are left of a line
abbrev pub words_at : List ℕ → List (List ℕ)
words_at text = words (line_at text)

-- the text after a line
abbrev pub after_line : List ℕ → List ℕ
after_line [] = []
after_line (c ∷ rest) = cond (c == 10) rest (after_line rest)

-- The first line that isn't skipped, of a text whose first line has the number n, has the number m and begins with this
-- word; the rest of the text is what comes after the word.
abbrev pub IsKeptWord : ℕ → List ℕ → ℕ → List ℕ → List ℕ → Type 0
IsKeptWord n text m word rest = kept_from n text ≡ (m, word ∷ words_at rest) ∷ kept_from (m + 1) (after_line rest)

-- the next word of the line that a text begins in, and the text after it
abbrev pub IsNextWord : List ℕ → List ℕ → List ℕ → Type 0
IsNextWord text word rest = words_at text ≡ word ∷ words_at rest

-- whether a word ends here
abbrev pub is_word_end : List ℕ → Bool
is_word_end [] = true
is_word_end (c ∷ rest) = is_blank c || is_line_end (c ∷ rest)

-- the digits at the front, and what comes after them
abbrev pub front_digits : List ℕ → List ℕ
front_digits [] = []
front_digits (c ∷ rest) = cond (is_digit c) (c ∷ front_digits rest) []

abbrev pub after_digits : List ℕ → List ℕ
after_digits [] = []
after_digits (c ∷ rest) = cond (is_digit c) (after_digits rest) (c ∷ rest)

-- the bytes of a word at the front, and what comes after them
abbrev pub front_word : List ℕ → List ℕ
front_word [] = []
front_word (c ∷ rest) = cond (is_word_end (c ∷ rest)) [] (c ∷ front_word rest)

abbrev pub after_word : List ℕ → List ℕ
after_word [] = []
after_word (c ∷ rest) = cond (is_word_end (c ∷ rest)) (c ∷ rest) (after_word rest)

abbrev pub after_blanks : List ℕ → List ℕ
after_blanks [] = []
after_blanks (c ∷ rest) = cond (is_blank c) (after_blanks rest) (c ∷ rest)

-- a number, if it fits in 64 bits
abbrev pub if_small : ℕ → Option ℕ
if_small n = cond (nat_lt n (2 ^ 64)) (Some n) None

-- a number of digits alone
abbrev pub whole_number : Option ℕ → Number
whole_number (Some n) = Whole n
whole_number None = TooLarge

-- the number that a word writes
abbrev pub number_of : List ℕ → Number
number_of word = cond (is_value_word word) (whole_number (if_small (magnitude word))) NotWhole

-- what comes after a sign
abbrev pub after_sign : List ℕ → List ℕ
after_sign [] = []
after_sign (c ∷ rest) = cond ((c == 43) || (c == 45)) rest (c ∷ rest)

-- a word of digits alone that writes this number
abbrev pub Writes : List ℕ → ℕ → Type 0
Writes word n = (is_number word ≡ true) × (number word ≡ n)

-- a number of digits at the front, the byte that follows it, and what comes after that byte
pub record IsNumberBefore (text : List ℕ) (end value : ℕ) (rest : List ℕ) : Type 0 where
  pub front : Writes (front_digits text) value
  pub after : after_digits text ≡ end ∷ rest

-- a bit for each of these bytes, the first byte's the lowest, set if the byte isn't a digit
abbrev pub nondigits_of : List ℕ → ℕ
nondigits_of bytes = mask_l (map (λ c. not (is_digit c)) bytes)

-- which of the first bytes of a text aren't digits
pub record IsMask (text : List ℕ) (nondigits : ℕ) : Type 0 where
  pub masked : ℕ
  pub few : masked ≤ 64
  pub bits : nondigits ≡ nondigits_of (take masked text)

-- a number of digits at the front and the byte that follows it, and the rest of the text with its mask
pub record IsShortNumber (text : List ℕ) (end value : ℕ) (rest : List ℕ) (nondigits : ℕ) : Type 0 where
  pub before : IsNumberBefore text end value rest
  pub mask : IsMask rest nondigits

-- a row and a column at the front, each with a space after it, and the rest of the text with its mask
pub record IsShortPlace (text : List ℕ) (row column : ℕ) (rest : List ℕ) (nondigits : ℕ) : Type 0 where
  pub second : List ℕ
  pub row_is : IsNumberBefore text 32 row second
  pub column_is : IsNumberBefore second 32 column rest
  pub mask : IsMask rest nondigits

-- a line of these words, and the text after it
pub record IsLine (text : List ℕ) (line_words : List (List ℕ)) (rest : List ℕ) : Type 0 where
  pub some : 0 < length text
  pub words_are : words (line_at text) ≡ line_words
  pub after : after_line text ≡ rest

-- a line of two words that write these numbers, and the text after it
pub record IsPlainPlace (text : List ℕ) (row column : ℕ) (rest : List ℕ) : Type 0 where
  pub row_word : List ℕ
  pub column_word : List ℕ
  pub line : IsLine text (row_word ∷ column_word ∷ []) rest
  pub row_is : Writes row_word row
  pub column_is : Writes column_word column

-- a line of three words that write these numbers, and the text after it
pub record IsPlainLine (text : List ℕ) (row column value : ℕ) (rest : List ℕ) : Type 0 where
  pub row_word : List ℕ
  pub column_word : List ℕ
  pub value_word : List ℕ
  pub line : IsLine text (row_word ∷ column_word ∷ value_word ∷ []) rest
  pub row_is : Writes row_word row
  pub column_is : Writes column_word column
  pub value_is : Writes value_word value
