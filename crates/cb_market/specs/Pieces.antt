-- What the lines of a piece of a text give, wherever the piece is in the text.
use Rattle.std.specs.Prelude.{◌≡◌, ℕ, ◌+◌, ◌⊎◌, Bool, true, ◌==◌, List, [], ◌∷◌, ◌++◌, length, flat_map, None}
use Rattle.cb_semirings.specs.Arithmetic.{Arithmetic}
use Rattle.cb_matrix.specs.declared.Entry.{Entry}
use Rattle.cb_matrix.specs.Sparse.{Extent}
use Rattle.cb_matrix.specs.Values.{collected}
use Rattle.cb_market_lines.specs.declared.header.Header.{Header}
use Rattle.cb_market_lines.specs.declared.size.Size.{Size}
use Rattle.cb_market.specs.Gathered.{AreSamePlaces}
use Rattle.cb_market_lines.specs.Lines.{lines, words, kept, kept_from}
use Rattle.cb_market_lines.specs.Cursor.{line_at, after_line}
use Rattle.cb_market_lines.specs.Checks.{is_shape, header_of, size_of, entry_fault, entry_of, given_by}
use Rattle.cb_market_lines.specs.Faults.{body_fault_from, body_matrix_from, first_fault, matrix_in, entries_fault_from, given}

-- no text, or one whose last byte is a line feed
abbrev pub is_whole : List ℕ → Bool
is_whole [] = true
is_whole (c ∷ []) = c == 10
is_whole (c ∷ d ∷ text) = is_whole (d ∷ text)

-- each of these lines is an entry without a fault
abbrev pub AreFaultless : Arithmetic → Header → Extent → List (List (List ℕ)) → Type 0
AreFaultless s header shape [] = Unit {0}
AreFaultless s header shape (ws ∷ lines) = (entry_fault s header shape ws ≡ None) × AreFaultless s header shape lines

-- what the entries of these lines give, in order
abbrev pub given_in : Arithmetic → Header → List (List (List ℕ)) → List Entry
given_in s header lines = flat_map (λ ws. given_by s header.symmetry (entry_of s header ws)) lines

-- What was read: the side of the grid and the shape that it is for, how many lines had an entry, and what these give,
-- place by place.
pub record Part : Type 0 where
  pub side : ℕ
  pub shape : Extent
  pub lines : ℕ
  pub entries : List Entry

-- what two parts have together, the second after the first
abbrev pub joined : Part → Part → Part
joined p q = record { side = p.side; shape = p.shape; lines = p.lines + q.lines; entries = p.entries ++ q.entries }

-- Each line of a text that isn't skipped is an entry without a fault, and these are the entries that they give, up to
-- the order of different places.
pub record IsPart (s : Arithmetic) (header : Header) (shape : Extent) (side : ℕ) (text : List ℕ) (p : Part) : Type 0 where
  pub on_grid : p.side ≡ side
  pub in_shape : p.shape ≡ shape
  pub faultless : AreFaultless s header shape (kept (lines text))
  pub count : p.lines ≡ length (kept (lines text))
  pub given : AreSamePlaces p.entries (given_in s header (kept (lines text)))

-- More bytes may follow a text and its end: either there are none, or both end with a line.
abbrev pub MayFollow : List ℕ → List ℕ → List ℕ → Type 0
MayFollow text end more = (more ≡ []) ⊎ ((is_whole text ≡ true) × (is_whole end ≡ true))

-- the header that the first line of a text writes
abbrev pub header_in : List ℕ → Header
header_in text = header_of (words (line_at text))

-- the size that the first of some lines writes
abbrev pub first_size : List (ℕ × List (List ℕ)) → Size
first_size [] = size_of []
first_size (line ∷ lines) = size_of line.1

-- the size that a text writes: its first line after the header that isn't skipped
abbrev pub size_in : List ℕ → Size
size_in text = first_size (kept_from 2 (after_line text))

-- The lines after a header, of which the first has the number n, begin with a size: their first fault and what they
-- give are those of the entries, which begin at a line. It is so whatever follows them.
pub record IsBody (s : Arithmetic) (header : Header) (n : ℕ) (text : List ℕ) (size : Size) (line : ℕ) (entries : List ℕ) : Type 0 where
  pub size_is : size ≡ first_size (kept_from n text)
  pub fault : (more : List ℕ) → MayFollow text entries more → body_fault_from s header n (text ++ more) ≡ entries_fault_from s header size line (entries ++ more)
  pub matrix : (more : List ℕ) → MayFollow text entries more → body_matrix_from s header n (text ++ more) ≡ collected s size.shape (given s header (kept_from line (entries ++ more)))

-- A text that begins with this header and this size: its first fault is that of its entries, which begin at a line, and its
-- matrix has what they give. It is so whatever follows the text.
pub record IsOpening (s : Arithmetic) (text : List ℕ) (header : Header) (size : Size) (line : ℕ) (entries : List ℕ) : Type 0 where
  pub header_is : header ≡ header_in text
  pub size_is : size ≡ size_in text
  pub shape : is_shape header.symmetry size.shape ≡ true
  pub fault : (more : List ℕ) → MayFollow text entries more → first_fault s (text ++ more) ≡ entries_fault_from s header size line (entries ++ more)
  pub matrix : (more : List ℕ) → MayFollow text entries more → matrix_in s (text ++ more) ≡ collected s size.shape (given s header (kept_from line (entries ++ more)))
