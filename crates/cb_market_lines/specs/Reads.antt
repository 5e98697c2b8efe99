-- What a text says, line by line, after the coordinate format of Boisvert, Pozo and Remington,
-- The Matrix Market Exchange Formats (NISTIR 5935).
use Rattle.std.specs.Prelude.{◌≡◌, ℕ, ◌+◌, ◌<◌, ◌≤◌, List, [], ◌∷◌, true, false, map, flat_map, length, codes, Some, None}
use Rattle.std.specs.Char.{to_ascii_lowercase}
use Rattle.cb_semirings.specs.Arithmetic.{Arithmetic}
use Rattle.cb_matrix.specs.declared.Entry.{Entry}
use Rattle.cb_matrix.specs.declared.TheConstants.{LIMIT}
use Rattle.cb_matrix.specs.Sparse.{Sparse, Extent}
use Rattle.cb_matrix.specs.Values.{collected}
use Rattle.cb_market_lines.specs.declared.header.Header.{Header}
use Rattle.cb_market_lines.specs.declared.size.Size.{Size}
use Rattle.cb_market_lines.specs.declared.header.Field.{Field}
use Rattle.cb_market_lines.specs.declared.header.Field.TheVariants.{Integer, Pattern}
use Rattle.cb_market_lines.specs.declared.header.Symmetry.{Symmetry}
use Rattle.cb_market_lines.specs.declared.header.Symmetry.TheVariants.{General, Symmetric, SkewSymmetric}
use Rattle.cb_market_lines.specs.Lines.{lines, words, kept, begins_blank, is_number, number}
use Rattle.cb_market_lines.specs.Checks.{word, words_wanted, has_value, value_of, is_supported, given_by}
use Rattle.cb_market_lines.specs.Faults.{first_fault}

-- a word is this lowercase name, in any case
abbrev pub IsName : List ℕ → List ℕ → Type 0
IsName word name = map to_ascii_lowercase word ≡ name

abbrev pub field_name : Field → List ℕ
field_name Integer = codes "integer"
field_name Pattern = codes "pattern"

abbrev pub symmetry_name : Symmetry → List ℕ
symmetry_name General = codes "general"
symmetry_name Symmetric = codes "symmetric"
symmetry_name SkewSymmetric = codes "skew-symmetric"

-- The first line begins with `%%MatrixMarket` and names a coordinate matrix, its field and its symmetry, which the
-- semiring can have.
pub record IsHeader (s : Arithmetic) (line : List ℕ) (header : Header) : Type 0 where
  pub starts : begins_blank line ≡ false
  pub five_words : length (words line) ≡ 5
  pub banner : word 0 (words line) ≡ codes "%%MatrixMarket"
  pub matrix : IsName (word 1 (words line)) (codes "matrix")
  pub coordinate : IsName (word 2 (words line)) (codes "coordinate")
  pub field : IsName (word 3 (words line)) (field_name header.field)
  pub symmetry : IsName (word 4 (words line)) (symmetry_name header.symmetry)
  pub supported : is_supported s header.field header.symmetry ≡ true

-- any shape, or a square if entries are mirrored
abbrev pub IsShape : Symmetry → Extent → Type 0
IsShape General shape = Unit {0}
IsShape Symmetric shape = shape.rows ≡ shape.cols
IsShape SkewSymmetric shape = shape.rows ≡ shape.cols

-- The size line is three numbers, none above the limit: the rows, the columns and how many entries follow.
pub record IsSize (symmetry : Symmetry) (ws : List (List ℕ)) (size : Size) : Type 0 where
  pub three_words : length ws ≡ 3
  pub numbers : (is_number (word 0 ws) ≡ true) × (is_number (word 1 ws) ≡ true) × (is_number (word 2 ws) ≡ true)
  pub rows : number (word 0 ws) ≡ size.shape.rows
  pub cols : number (word 1 ws) ≡ size.shape.cols
  pub count : number (word 2 ws) ≡ size.count
  pub limit : (size.shape.rows ≤ LIMIT) × (size.shape.cols ≤ LIMIT) × (size.count ≤ LIMIT)
  pub shape : IsShape symmetry size.shape

-- anywhere; on or below the diagonal; below it
abbrev pub IsPlace : Symmetry → ℕ → ℕ → Type 0
IsPlace General row column = Unit {0}
IsPlace Symmetric row column = column ≤ row
IsPlace SkewSymmetric row column = column < row

-- The line of an entry is its row and its column, counted from 1, and its value if the field has one.
pub record IsEntry (s : Arithmetic) (header : Header) (shape : Extent) (ws : List (List ℕ)) (e : Entry) : Type 0 where
  pub count : length ws ≡ words_wanted header.field
  pub numbers : (is_number (word 0 ws) ≡ true) × (is_number (word 1 ws) ≡ true)
  pub value_word : has_value header.field (word 2 ws) ≡ true
  pub row : number (word 0 ws) ≡ e.row + 1
  pub column : number (word 1 ws) ≡ e.column + 1
  pub inside : (e.row < shape.rows) × (e.column < shape.cols)
  pub place : IsPlace header.symmetry e.row e.column
  pub value : value_of s header.field (word 2 ws) ≡ Some e.value

-- each line is an entry
abbrev pub AreEntries : Arithmetic → Header → Extent → List (List (List ℕ)) → List Entry → Type 0
AreEntries s header shape [] [] = Unit {0}
AreEntries s header shape [] (e ∷ es) = ⊥
AreEntries s header shape (ws ∷ lines) [] = ⊥
AreEntries s header shape (ws ∷ lines) (e ∷ es) = IsEntry s header shape ws e × AreEntries s header shape lines es

-- The first line is the header; the further lines that aren't skipped are the size line and as many entries as it
-- announces; the matrix has that shape, and at each place the sum of what the entries give there.
pub record Reads (s : Arithmetic) (text : List ℕ) (m : Sparse) : Type 0 where
  pub header : Header
  pub size : Size
  pub entries : List Entry
  pub first : List ℕ
  pub others : List (List ℕ)
  pub size_words : List (List ℕ)
  pub entry_words : List (List (List ℕ))
  pub text_lines : lines text ≡ first ∷ others
  pub kept_lines : kept others ≡ size_words ∷ entry_words
  pub is_header : IsHeader s first header
  pub is_size : IsSize header.symmetry size_words size
  pub are_entries : AreEntries s header size.shape entry_words entries
  pub count : length entries ≡ size.count
  pub matrix : m ≡ collected s size.shape (flat_map (given_by s header.symmetry) entries)

-- The two statements about a text agree: it has a first fault or reads as a matrix, never both, and never as two.
pub record IsFaultOrMatrix (s : Arithmetic) (text : List ℕ) : Type 0 where
  pub either : first_fault s text ≡ None → (m : Sparse) × Reads s text m
  pub never_both : (m : Sparse) → Reads s text m → first_fault s text ≡ None
  pub one_matrix : (m n : Sparse) → Reads s text m → Reads s text n → m ≡ n
