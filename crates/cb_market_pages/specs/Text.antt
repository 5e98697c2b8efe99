-- The text of a matrix, and that of a column.
use Rattle.std.specs.Prelude.{ℕ, ◌+◌, Bool, true, false, List, [], ◌∷◌, ◌++◌, if◌then◌else◌, flat_map, map, take, length, codes, decimal}
use Rattle.cb_semirings.specs.Arithmetic.{Arithmetic}
use Rattle.cb_matrix.specs.declared.Entry.{Entry}
use Rattle.cb_matrix.specs.Sparse.{Extent, Sparse}
use Rattle.cb_layout.specs.Segments.{shifted, entries_of}
use Rattle.cb_layout.specs.declared.traversal.Segment.{Segment}
use Rattle.cb_market_pages.specs.declared.line_forms.LineForm.{LineForm}
use Rattle.cb_market_pages.specs.declared.line_forms.LineForm.TheVariants.{Place, PlaceAndValue, RowAndValue, RowAndVertex}

-- numbers in decimal, with a space between each two and a line feed at the end
abbrev pub number_line : List ℕ → List ℕ
number_line [] = 10 ∷ []
number_line (n ∷ []) = decimal n ++ 10 ∷ []
number_line (n ∷ m ∷ numbers) = decimal n ++ 32 ∷ number_line (m ∷ numbers)

-- The line of an entry in a form: its place, or its row alone, counted from 1; and its value, unless only places are written. A
-- value that is a vertex is counted from 1 too.
abbrev pub line_in : LineForm → Entry → List ℕ
line_in Place e = number_line ((e.row + 1) ∷ (e.column + 1) ∷ [])
line_in PlaceAndValue e = number_line ((e.row + 1) ∷ (e.column + 1) ∷ e.value ∷ [])
line_in RowAndValue e = number_line ((e.row + 1) ∷ e.value ∷ [])
line_in RowAndVertex e = number_line ((e.row + 1) ∷ (e.value + 1) ∷ [])

-- the lines of entries
abbrev pub lines_in : LineForm → List Entry → List ℕ
lines_in form entries = flat_map (line_in form) entries

-- the form of the lines of a matrix, without values or with them
abbrev pub matrix_form : Bool → LineForm
matrix_form true = Place
matrix_form false = PlaceAndValue

-- the line of an entry of a matrix
abbrev pub entry_line : Bool → Entry → List ℕ
entry_line is_pattern = line_in (matrix_form is_pattern)

-- the lines of the entries of a column, whose rows count from `top`
abbrev pub column_lines : LineForm → ℕ → ℕ → List ℕ → List ℕ → List ℕ
column_lines form top column rows values = lines_in form (shifted top column rows values)

-- the lines of the entries of a segment
abbrev pub segment_lines : LineForm → Segment → List ℕ
segment_lines form g = lines_in form (entries_of g)

-- the lines of the first n of them
abbrev pub first_lines : LineForm → ℕ → Segment → List ℕ
first_lines form n g = column_lines form g.top g.column (take n g.rows.now) (take n g.values.now)

-- the header of a text without values, or with them
abbrev pub header_line : Bool → List ℕ
header_line true = codes "%%MatrixMarket matrix coordinate pattern general" ++ 10 ∷ []
header_line false = codes "%%MatrixMarket matrix coordinate integer general" ++ 10 ∷ []

abbrev pub size_line : Sparse → List ℕ
size_line m = number_line (m.shape.rows ∷ m.shape.cols ∷ length m.entries ∷ [])

-- the header, and the size line of a matrix of a shape with this many entries
abbrev pub head_of : Bool → Extent → ℕ → List ℕ
head_of is_pattern shape count = header_line is_pattern ++ number_line (shape.rows ∷ shape.cols ∷ count ∷ [])

-- the header, the size and the entries, a line each
unfoldable pub text_of : Arithmetic → Sparse → List ℕ
text_of s m = header_line s.writes_pattern ++ size_line m ++ flat_map (entry_line s.writes_pattern) m.entries

-- the rest of a text: the header and the size line, if they are left, and the lines of some entries in a form
abbrev pub text_left : Arithmetic → LineForm → Bool → Extent → ℕ → List Entry → List ℕ
text_left s form has_head shape count entries =
    (if has_head then head_of s.writes_pattern shape count else []) ++ lines_in form entries

-- the line of an entry, by its row counted from 1, the digits of its column, and its value
abbrev pub line_with : LineForm → ℕ → List ℕ → ℕ → List ℕ
line_with Place row column value = decimal row ++ 32 ∷ (column ++ 10 ∷ [])
line_with PlaceAndValue row column value = decimal row ++ 32 ∷ (column ++ 32 ∷ (decimal value ++ 10 ∷ []))
line_with RowAndValue row column value = decimal row ++ 32 ∷ (decimal value ++ 10 ∷ [])
line_with RowAndVertex row column value = decimal row ++ 32 ∷ (decimal (value + 1) ++ 10 ∷ [])

-- the line of a vertex: its number, counted from 1, and its value
abbrev pub vertex_line : Entry → List ℕ
vertex_line e = number_line ((e.row + 1) ∷ e.value ∷ [])

-- a line for each entry of a vector
unfoldable pub vertex_text_of : Sparse → List ℕ
vertex_text_of m = flat_map vertex_line m.entries

-- an entry whose value is a vertex, with that counted from 1
abbrev pub with_value_from_one : Entry → Entry
with_value_from_one e = record { row = e.row; column = e.column; value = e.value + 1 }

-- a line for each entry of a vector whose values are vertices: two vertices, counted from 1
unfoldable pub vertex_pairs_text_of : Sparse → List ℕ
vertex_pairs_text_of m = flat_map vertex_line (map with_value_from_one m.entries)
