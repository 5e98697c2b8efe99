-- The first fault of a text, and the matrix of a text without one.
use Rattle.std.specs.Prelude.{◌≡◌, ℕ, zero, suc, ◌+◌, ◌<◌, ◌≤◌, ◌⊎◌, List, [], ◌∷◌, length, flat_map, Some, None, Option, IfSome, Result, Ok, Err}
use Rattle.cb_semirings.specs.Arithmetic.{Arithmetic}
use Rattle.cb_matrix.specs.declared.Entry.{Entry}
use Rattle.cb_matrix.specs.Sparse.{Sparse, Extent}
use Rattle.cb_matrix.specs.Values.{collected, empty_matrix}
use Rattle.cb_market_lines.specs.declared.Kind.{Kind}
use Rattle.cb_market_lines.specs.declared.Kind.TheVariants.{BadHeader, BadSize, ExtraEntry, MissingEntries, Memory}
use Rattle.cb_market_lines.specs.declared.ReadFault.{ReadFault}
use Rattle.cb_market_lines.specs.declared.header.Header.{Header}
use Rattle.cb_market_lines.specs.declared.size.Size.{Size}
use Rattle.cb_market_lines.specs.Lines.{lines, past_last, words, kept_lines, kept_from, begins_blank}
use Rattle.cb_market_lines.specs.Checks.{header_fault, header_of, size_fault, size_of}
use Rattle.cb_market_lines.specs.Checks.{entry_fault, entry_of, given_by, WritesEntry, HasEntryFault}

-- a line's fault, or else a later one
abbrev pub at_line : ℕ → Option Kind → Option ReadFault → Option ReadFault
at_line n (Some kind) later = Some (record { line = n; kind = kind })
at_line n None later = later

-- the first fault of the entries, of which some are still missing, in a text of n - 1 lines
unfoldable pub entries_fault : Arithmetic → Header → Extent → ℕ → ℕ → List (ℕ × List (List ℕ)) → Option ReadFault
entries_fault s header shape n zero [] = None
entries_fault s header shape n (suc left) [] = Some (record { line = n; kind = MissingEntries })
entries_fault s header shape n zero (line ∷ lines) = Some (record { line = line.0; kind = ExtraEntry })
entries_fault s header shape n (suc left) (line ∷ lines) =
    at_line line.0 (entry_fault s header shape line.1) (entries_fault s header shape n left lines)

-- the same where this size announces the entries, in a text whose first line has the number n
abbrev pub entries_fault_from : Arithmetic → Header → Size → ℕ → List ℕ → Option ReadFault
entries_fault_from s header size n text = entries_fault s header size.shape (past_last n text) size.count (kept_from n text)

-- the first fault of the size line and the entries, which are these lines of a text of n - 1 lines
abbrev pub body_fault : Arithmetic → Header → ℕ → List (ℕ × List (List ℕ)) → Option ReadFault
body_fault s header n [] = Some (record { line = n; kind = BadSize })
body_fault s header n (line ∷ lines) =
    let size = size_of line.1 in
    at_line line.0 (size_fault header line.1) (entries_fault s header size.shape n size.count lines)

-- the same for a text whose first line has the number n
abbrev pub body_fault_from : Arithmetic → Header → ℕ → List ℕ → Option ReadFault
body_fault_from s header n text = body_fault s header (past_last n text) (kept_from n text)

-- the first fault of all lines, of a text of n - 1 lines
abbrev pub lines_fault : Arithmetic → ℕ → List (List ℕ) → Option ReadFault
lines_fault s n [] = Some (record { line = 1; kind = BadHeader })
lines_fault s n (line ∷ lines) =
    at_line 1 (header_fault s (begins_blank line) (words line)) (body_fault s (header_of (words line)) n (kept_lines 2 lines))

-- the first fault of a text
unfoldable pub first_fault : Arithmetic → List ℕ → Option ReadFault
first_fault s text = lines_fault s (length (lines text) + 1) (lines text)

-- what the entries give, in order
abbrev pub given : Arithmetic → Header → List (ℕ × List (List ℕ)) → List Entry
given s header lines = flat_map (λ l. given_by s header.symmetry (entry_of s header l.1)) lines

-- the sum of what is given at each place, in the shape that the size line announces
abbrev pub body_matrix : Arithmetic → Header → List (ℕ × List (List ℕ)) → Sparse
body_matrix s header [] = empty_matrix (record { rows = 0; cols = 0 })
body_matrix s header (line ∷ lines) = collected s (size_of line.1).shape (given s header lines)

-- the same for a text whose first line has the number n
abbrev pub body_matrix_from : Arithmetic → Header → ℕ → List ℕ → Sparse
body_matrix_from s header n text = body_matrix s header (kept_from n text)

-- the matrix of all lines
abbrev pub lines_matrix : Arithmetic → List (List ℕ) → Sparse
lines_matrix s [] = empty_matrix (record { rows = 0; cols = 0 })
lines_matrix s (line ∷ lines) = body_matrix s (header_of (words line)) (kept_lines 2 lines)

-- the matrix of a text
unfoldable pub matrix_in : Arithmetic → List ℕ → Sparse
matrix_in s text = lines_matrix s (lines text)

-- the first fault, or refused memory at a line with no fault at it or before it
abbrev pub IsAnswer : Option ReadFault → ReadFault → Type 0
IsAnswer first f = (first ≡ Some f) ⊎ ((f.kind ≡ Memory) × IfSome first (λ g. f.line < g.line))

-- a fault at a line: that of the line, or refused memory if it has none
abbrev pub IsLineAnswer : ℕ → Option Kind → ReadFault → Type 0
IsLineAnswer n fault f = (f.line ≡ n) × ((fault ≡ Some f.kind) ⊎ ((fault ≡ None) × (f.kind ≡ Memory)))

-- the entry that a line's words write, or their fault
abbrev pub IsEntryOf : Arithmetic → Header → Extent → List (List ℕ) → Result Entry Kind → Type 0
IsEntryOf s header shape ws (Ok e) = WritesEntry s header shape ws e
IsEntryOf s header shape ws (Err kind) = HasEntryFault s header shape ws kind

-- The first line that isn't skipped, of a text whose first line has the number n, has the number m and writes this
-- entry, or has this fault; the rest is the text after it.
pub record IsNextEntry (s : Arithmetic) (header : Header) (shape : Extent)
    (n : ℕ) (text : List ℕ) (m : ℕ) (found : Result Entry Kind) (rest : List ℕ) : Type 0 where
  pub line_words : List (List ℕ)
  pub kept : kept_from n text ≡ (m, line_words) ∷ kept_from (m + 1) rest
  pub found_is : IsEntryOf s header shape line_words found
  pub count : past_last (m + 1) rest ≡ past_last n text
  pub later : n ≤ m
  pub shorter : length rest < length text

-- a fault at a line of a text whose first line has the number n, or at the line past its last
abbrev pub IsLineOf : ℕ → List ℕ → ReadFault → Type 0
IsLineOf n text f = (n ≤ f.line) × (f.line ≤ past_last n text)
