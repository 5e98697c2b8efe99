-- Pieces of a text, and what is read of them.
use Rattle.std.specs.Prelude.{ℕ, ◌≡◌, ◌+◌, ◌<◌, true, List, length, flat_map, get_or, Option, IfSome}
use Rattle.cb_semirings.specs.Arithmetic.{Arithmetic}
use Rattle.cb_market_lines.specs.declared.header.Header.{Header}
use Rattle.cb_market_lines.specs.declared.size.Size.{Size}
use Rattle.cb_matrix.specs.Values.{collected}
use Rattle.cb_layout.specs.Distributed.{Distributed}
use Rattle.cb_market_lines.specs.Reads.{Reads}
use Rattle.cb_market.specs.Pieces.{Part, IsPart, is_whole}

-- How the entries of a text are read: by its header and its size, over a grid of this side.
pub record Reading : Type 0 where
  pub header : Header
  pub size : Size
  pub side : ℕ

-- what is read of these lines
abbrev pub IsRead : Arithmetic → Reading → List ℕ → Part → Type 0
IsRead s reading text p = IsPart s reading.header reading.size.shape reading.side text p

-- pieces, one after the other
abbrev pub in_a_row : List (List ℕ) → List ℕ
in_a_row pieces = flat_map (λ piece. piece) pieces

-- each piece but the last ends with a line
abbrev pub AreCut : List (List ℕ) → Type 0
AreCut pieces = (n : ℕ) (d : List ℕ) → n + 1 < length pieces → is_whole (get_or pieces n d) ≡ true

-- This is the matrix of what is read of some pieces, where as many lines had an entry as are announced.
abbrev pub IsMatrixOf : Arithmetic → Reading → List (List ℕ) → Distributed → Type 0
IsMatrixOf s reading pieces m =
    (p : Part) × IsRead s reading (in_a_row pieces) p × (p.lines ≡ reading.size.count) × (m ≡ record { side = p.side; matrix = collected s p.shape p.entries })

-- A text was cut in pieces: each but the last ends with a line, and a matrix of what is read of them is what the text reads as.
pub record IsCutOf (s : Arithmetic) (text : List ℕ) (side : ℕ) (reading : Reading) (pieces : List (List ℕ)) : Type 0 where
  pub ends : AreCut pieces
  pub reads : (m : Distributed) → IsMatrixOf s reading pieces m → Reads s text m.matrix
  pub on_grid : (m : Distributed) → IsMatrixOf s reading pieces m → m.side ≡ side

-- in each place is what is read of the piece with the same number, or nothing
pub record AreInOrder (s : Arithmetic) (reading : Reading) (pieces : List (List ℕ)) (places : List (Option Part)) : Type 0 where
  pub count : length places ≡ length pieces
  pub each : (n : ℕ) (d : List ℕ) (e : Option Part) → n < length pieces → IfSome (get_or places n e) (IsRead s reading (get_or pieces n d))
