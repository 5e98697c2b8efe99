-- The checks of each line, in their order, and what a line without a fault says.
use Rattle.std.specs.Prelude.{◌≡◌, ℕ, zero, suc, ◌-◌, ◌^◌, Bool, true, false, cond, not, ◌&&◌, ◌==◌, nat_le, nat_lt}
use Rattle.std.specs.Prelude.{List, [], ◌∷◌, map, length, codes, Some, None, Option, is_some, unwrap_or, bytes_eq}
use Rattle.std.specs.Char.{to_ascii_lowercase}
use Rattle.cb_semirings.specs.Arithmetic.{Arithmetic, has_negatives}
use Rattle.cb_matrix.specs.declared.Entry.{Entry}
use Rattle.cb_matrix.specs.declared.TheConstants.{LIMIT}
use Rattle.cb_matrix.specs.Sparse.{Extent}
use Rattle.cb_market_lines.specs.declared.Kind.{Kind}
use Rattle.cb_market_lines.specs.declared.Kind.TheVariants.{BadHeader, Unsupported, BadSize, TooLarge, NotSquare}
use Rattle.cb_market_lines.specs.declared.Kind.TheVariants.{BadLine, BadNumber, IndexRange, AboveDiagonal, OnDiagonal, ValueRange}
use Rattle.cb_market_lines.specs.declared.header.Header.{Header}
use Rattle.cb_market_lines.specs.declared.size.Size.{Size}
use Rattle.cb_market_lines.specs.declared.header.Field.{Field}
use Rattle.cb_market_lines.specs.declared.header.Field.TheVariants.{Integer, Pattern}
use Rattle.cb_market_lines.specs.declared.header.Symmetry.{Symmetry}
use Rattle.cb_market_lines.specs.declared.header.Symmetry.TheVariants.{General, Symmetric, SkewSymmetric}
use Rattle.cb_market_lines.specs.Lines.{words, begins_blank, is_number, number, is_value_word, is_negative, magnitude}

-- the kind of the first check that fails
abbrev pub first_failed : List (Bool × Kind) → Option Kind
first_failed [] = None
first_failed (check ∷ checks) = cond check.0 (first_failed checks) (Some check.1)

-- the word at a place of a line, or an empty one if there is none
abbrev pub word : ℕ → List (List ℕ) → List ℕ
word i [] = []
word zero (w ∷ ws) = w
word (suc i) (w ∷ ws) = word i ws

-- a word is a name, in any case
abbrev pub is_name : List ℕ → List ℕ → Bool
is_name word name = bytes_eq (map to_ascii_lowercase word) (map to_ascii_lowercase name)

-- the field that a word names
abbrev pub field_in : List ℕ → Option Field
field_in word =
    cond (is_name word (codes "integer")) (Some Integer)
    (cond (is_name word (codes "pattern")) (Some Pattern) None)

-- the symmetry that a word names
abbrev pub symmetry_in : List ℕ → Option Symmetry
symmetry_in word =
    cond (is_name word (codes "general")) (Some General)
    (cond (is_name word (codes "symmetric")) (Some Symmetric)
    (cond (is_name word (codes "skew-symmetric")) (Some SkewSymmetric) None))

-- a skew-symmetric matrix has whole numbers, in a semiring that has negatives
abbrev pub is_supported : Arithmetic → Field → Symmetry → Bool
is_supported s field General = true
is_supported s field Symmetric = true
is_supported s Integer SkewSymmetric = has_negatives s
is_supported s Pattern SkewSymmetric = false

-- the header of a matrix with values
abbrev pub integers : Symmetry → Header
integers symmetry = record { field = Integer; symmetry = symmetry }

-- the header of a matrix without values
abbrev pub patterns : Symmetry → Header
patterns symmetry = record { field = Pattern; symmetry = symmetry }

-- the header that a line's words make
abbrev pub header_of : List (List ℕ) → Header
header_of ws = record { field = unwrap_or (field_in (word 3 ws)) Integer; symmetry = unwrap_or (symmetry_in (word 4 ws)) General }

-- a coordinate matrix with a field and a symmetry that are supported
abbrev pub is_read : Arithmetic → List (List ℕ) → Bool
is_read s ws =
    is_name (word 1 ws) (codes "matrix") && is_name (word 2 ws) (codes "coordinate")
    && is_some (field_in (word 3 ws)) && is_some (symmetry_in (word 4 ws))
    && is_supported s (header_of ws).field (header_of ws).symmetry

-- the words of a first line, whose banner doesn't matter here
abbrev pub header_words : List ℕ → List ℕ → List ℕ → List ℕ → List (List ℕ)
header_words object format field symmetry = [] ∷ object ∷ format ∷ field ∷ symmetry ∷ []

-- whether the four words after the banner are supported
abbrev pub are_read : Arithmetic → List ℕ → List ℕ → List ℕ → List ℕ → Bool
are_read s object format field symmetry = is_read s (header_words object format field symmetry)

-- the four words after the banner are supported, and make this header
abbrev pub MakeHeader : Arithmetic → List ℕ → List ℕ → List ℕ → List ℕ → Header → Type 0
MakeHeader s object format field symmetry header =
    (are_read s object format field symmetry ≡ true) × (header ≡ header_of (header_words object format field symmetry))

-- the checks of the words of the first line, which may begin with a blank
abbrev pub header_checks : Arithmetic → Bool → List (List ℕ) → List (Bool × Kind)
header_checks s begins_blank ws =
    (not begins_blank && (length ws == 5) && bytes_eq (word 0 ws) (codes "%%MatrixMarket"), BadHeader)
    ∷ (is_read s ws, Unsupported)
    ∷ []

abbrev pub header_fault : Arithmetic → Bool → List (List ℕ) → Option Kind
header_fault s begins_blank ws = first_failed (header_checks s begins_blank ws)

-- a first line without a fault makes this header
abbrev pub MakesHeader : Arithmetic → List ℕ → Header → Type 0
MakesHeader s line header = (header_fault s (begins_blank line) (words line) ≡ None) × (header ≡ header_of (words line))

-- the size that a line's words announce
abbrev pub size_of : List (List ℕ) → Size
size_of ws = record { shape = record { rows = number (word 0 ws); cols = number (word 1 ws) }; count = number (word 2 ws) }

-- any shape, or a square if entries are mirrored
abbrev pub is_shape : Symmetry → Extent → Bool
is_shape General shape = true
is_shape Symmetric shape = shape.rows == shape.cols
is_shape SkewSymmetric shape = shape.rows == shape.cols

-- the checks of the size line
abbrev pub size_checks : Header → List (List ℕ) → List (Bool × Kind)
size_checks header ws =
    ((length ws == 3) && is_number (word 0 ws) && is_number (word 1 ws) && is_number (word 2 ws), BadSize)
    ∷ (nat_le (number (word 0 ws)) LIMIT && nat_le (number (word 1 ws)) LIMIT && nat_le (number (word 2 ws)) LIMIT, TooLarge)
    ∷ (is_shape header.symmetry (size_of ws).shape, NotSquare)
    ∷ []

abbrev pub size_fault : Header → List (List ℕ) → Option Kind
size_fault header ws = first_failed (size_checks header ws)

-- the words of a line without a fault announce this size
abbrev pub AnnouncesSize : Header → List (List ℕ) → Size → Type 0
AnnouncesSize header ws size = (size_fault header ws ≡ None) × (size ≡ size_of ws)

-- a number from 1 to a limit
abbrev pub is_within : ℕ → ℕ → Bool
is_within limit n = nat_le 1 n && nat_le n limit

-- the place that a number names, counted from 0
abbrev pub place_in : ℕ → ℕ → Option ℕ
place_in limit n = cond (is_within limit n) (Some (n - 1)) None

-- a number within a limit
abbrev pub small_in : ℕ → ℕ → Option ℕ
small_in limit n = cond (nat_le n limit) (Some n) None

-- the value that a word writes, if the semiring has it
abbrev pub value_in : Arithmetic → List ℕ → Option ℕ
value_in s word = cond (nat_lt (magnitude word) (2 ^ 64)) (s.accept (is_negative word) (magnitude word)) None

-- the value of an entry, by its third word or without one
abbrev pub value_of : Arithmetic → Field → List ℕ → Option ℕ
value_of s Integer word = value_in s word
value_of s Pattern word = Some s.pattern

-- whether the third word is what the field requires
abbrev pub has_value : Field → List ℕ → Bool
has_value Integer word = is_value_word word
has_value Pattern word = true

abbrev pub words_wanted : Field → ℕ
words_wanted Integer = 3
words_wanted Pattern = 2

-- above the diagonal, in a matrix whose entries are mirrored
abbrev pub is_above : Symmetry → ℕ → ℕ → Bool
is_above General row column = false
is_above Symmetric row column = nat_lt row column
is_above SkewSymmetric row column = nat_lt row column

-- on the diagonal of a skew-symmetric matrix
abbrev pub is_on_diagonal : Symmetry → ℕ → ℕ → Bool
is_on_diagonal General row column = false
is_on_diagonal Symmetric row column = false
is_on_diagonal SkewSymmetric row column = row == column

-- the fault of a place, counted from 1
abbrev pub place_fault : Symmetry → Extent → ℕ → ℕ → Option Kind
place_fault symmetry shape row column =
    first_failed (
    (is_within shape.rows row && is_within shape.cols column, IndexRange)
    ∷ (not (is_above symmetry row column), AboveDiagonal)
    ∷ (not (is_on_diagonal symmetry row column), OnDiagonal)
    ∷ [])

-- a row and a column, counted from 1, without a fault name this place
abbrev pub NamesPlace : Symmetry → Extent → ℕ → ℕ → ℕ × ℕ → Type 0
NamesPlace symmetry shape row column place =
    (place_fault symmetry shape row column ≡ None) × (place.0 ≡ row - 1) × (place.1 ≡ column - 1)

-- the checks of the line of an entry
abbrev pub entry_checks : Arithmetic → Header → Extent → List (List ℕ) → List (Bool × Kind)
entry_checks s header shape ws =
    (length ws == words_wanted header.field, BadLine)
    ∷ (is_number (word 0 ws) && is_number (word 1 ws) && has_value header.field (word 2 ws), BadNumber)
    ∷ (is_within shape.rows (number (word 0 ws)) && is_within shape.cols (number (word 1 ws)), IndexRange)
    ∷ (not (is_above header.symmetry (number (word 0 ws)) (number (word 1 ws))), AboveDiagonal)
    ∷ (not (is_on_diagonal header.symmetry (number (word 0 ws)) (number (word 1 ws))), OnDiagonal)
    ∷ (is_some (value_of s header.field (word 2 ws)), ValueRange)
    ∷ []

abbrev pub entry_fault : Arithmetic → Header → Extent → List (List ℕ) → Option Kind
entry_fault s header shape ws = first_failed (entry_checks s header shape ws)

-- the entry that a line's words write
abbrev pub entry_of : Arithmetic → Header → List (List ℕ) → Entry
entry_of s header ws = record {
  row = number (word 0 ws) - 1;
  column = number (word 1 ws) - 1;
  value = unwrap_or (value_of s header.field (word 2 ws)) s.zero;
}

-- the words of a line without a fault write this entry
abbrev pub WritesEntry : Arithmetic → Header → Extent → List (List ℕ) → Entry → Type 0
WritesEntry s header shape ws e = (entry_fault s header shape ws ≡ None) × (e ≡ entry_of s header ws)

-- the words of a line have this fault
abbrev pub HasEntryFault : Arithmetic → Header → Extent → List (List ℕ) → Kind → Type 0
HasEntryFault s header shape ws kind = entry_fault s header shape ws ≡ Some kind

-- these words, a row, a column and a value, write this entry
abbrev pub WriteInteger : Arithmetic → Symmetry → Extent → List ℕ → List ℕ → List ℕ → Entry → Type 0
WriteInteger s symmetry shape row column value = WritesEntry s (integers symmetry) shape (row ∷ column ∷ value ∷ [])

-- or have this fault
abbrev pub HaveIntegerFault : Arithmetic → Symmetry → Extent → List ℕ → List ℕ → List ℕ → Kind → Type 0
HaveIntegerFault s symmetry shape row column value = HasEntryFault s (integers symmetry) shape (row ∷ column ∷ value ∷ [])

-- a row and a column without a fault write this entry
abbrev pub PlaceWrites : Arithmetic → Symmetry → Extent → ℕ → ℕ → Entry → Type 0
PlaceWrites s symmetry shape row column e =
    (place_fault symmetry shape row column ≡ None) × (e ≡ record { row = row - 1; column = column - 1; value = s.pattern })

-- the fault of the entry of three numbers, a row, a column and a value
abbrev pub numbers_fault : Arithmetic → Symmetry → Extent → ℕ → ℕ → ℕ → Option Kind
numbers_fault s symmetry shape row column value =
    first_failed (
    (is_within shape.rows row && is_within shape.cols column, IndexRange)
    ∷ (not (is_above symmetry row column), AboveDiagonal)
    ∷ (not (is_on_diagonal symmetry row column), OnDiagonal)
    ∷ (is_some (s.accept false value), ValueRange)
    ∷ [])

-- the entry of three numbers
abbrev pub numbers_entry : Arithmetic → ℕ → ℕ → ℕ → Entry
numbers_entry s row column value = record { row = row - 1; column = column - 1; value = unwrap_or (s.accept false value) s.zero }

-- three numbers without a fault write this entry
abbrev pub NumbersWrite : Arithmetic → Symmetry → Extent → ℕ → ℕ → ℕ → Entry → Type 0
NumbersWrite s symmetry shape row column value e = (numbers_fault s symmetry shape row column value ≡ None) × (e ≡ numbers_entry s row column value)

-- these words, a row and a column, write this entry
abbrev pub WritePattern : Arithmetic → Symmetry → Extent → List ℕ → List ℕ → Entry → Type 0
WritePattern s symmetry shape row column = WritesEntry s (patterns symmetry) shape (row ∷ column ∷ [])

-- or have this fault
abbrev pub HavePatternFault : Arithmetic → Symmetry → Extent → List ℕ → List ℕ → Kind → Type 0
HavePatternFault s symmetry shape row column = HasEntryFault s (patterns symmetry) shape (row ∷ column ∷ [])

-- the entry at the mirrored place
abbrev pub mirrored : ℕ → Entry → Entry
mirrored value e = record { row = e.column; column = e.row; value = value }

-- the value that added to this one gives zero
abbrev pub negative_of : Arithmetic → ℕ → ℕ
negative_of s value = unwrap_or (s.negative value) s.zero

-- what an entry gives: its value to its place; in a symmetric matrix also to the mirrored place, if that is another; in
-- a skew-symmetric matrix its negative to the mirrored place
abbrev pub given_by : Arithmetic → Symmetry → Entry → List Entry
given_by s General e = e ∷ []
given_by s Symmetric e = cond (e.row == e.column) (e ∷ []) (e ∷ mirrored e.value e ∷ [])
given_by s SkewSymmetric e = e ∷ mirrored (negative_of s e.value) e ∷ []
