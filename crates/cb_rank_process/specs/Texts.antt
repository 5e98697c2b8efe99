-- How a process reads a piece of a text, and writes its part of one.
use Rattle.std.specs.Prelude.{◌≡◌, ◌<◌, ℕ, zero, suc, ◌+◌, ◌-◌, ◌*◌, List, [], ◌++◌, length, map, slice_set, flat_map, Some}
use Rattle.std.specs.List.{range_with_len}
use Rattle.cb_semirings.specs.Arithmetic.{Arithmetic}
use Rattle.cb_matrix.specs.declared.Entry.{Entry}
use Rattle.cb_matrix.specs.Sparse.{Extent, Sparse, IsMatrix}
use Rattle.cb_matrix.specs.Values.{collected}
use Rattle.cb_market_lines.specs.declared.header.Header.{Header}
use Rattle.cb_market_lines.specs.declared.size.Size.{Size}
use Rattle.cb_market_lines.specs.Reads.{Reads}
use Rattle.cb_market.specs.Pieces.{Part, IsOpening, IsPart, MayFollow}
use Rattle.cb_market_pages.specs.Sheets.{lines_of}
use Rattle.cb_market_pages.specs.Text.{head_of, text_of}
use Rattle.cb_plan.specs.declared.stores.Slot.TheVariants as slot_is
use Rattle.cb_plan.specs.Plans.{CheckedView}
use Rattle.cb_plan_slots.specs.Slots.{block_of_rank}
use Rattle.cb_plan_transfers.specs.Panels.{panel_of}
use Rattle.cb_plan_transfers.specs.Pieces.{IsPiece, IsPiecesPlan, pieces_acts, sum_of_pieces}
use Rattle.cb_plan_transfers.specs.WholeStarts.{all_whole}
use Rattle.cb_rank_process.specs.declared.faults.ProcessFault.{ProcessFault}
use Rattle.cb_rank_process.specs.declared.faults.ProcessFault.TheVariants as fault_is
use Rattle.cb_rank_process.specs.declared.texts.LineCounts.{LineCounts}
use Rattle.cb_rank_process.specs.Processes.{KeptView, ProcessView, IsFree, Starts, given_up, no_slots, register_at, with_registers}
use Rattle.cb_rank_process.specs.Results.{BeginsToBring, HavePieces}

-- A block has the entries of some lines of a text that begins in this way, as far as its size line, in the shape of the whole
-- matrix; and so many lines have one, of so many that are announced.
pub record IsPieceOf (s : Arithmetic) (opening piece : List ℕ) (block : Sparse) (counts : LineCounts) : Type 0 where
  pub header : Header
  pub size : Size
  pub line : ℕ
  pub part : Part
  pub opening_is : IsOpening s opening header size line []
  pub part_is : IsPart s header size.shape 1 piece part
  pub block_is : block ≡ collected s size.shape part.entries
  pub lines : counts.lines ≡ part.lines
  pub announced : counts.announced ≡ size.count

-- the texts of so many processes, from one on, one after another
abbrev pub texts_from : (ℕ → List ℕ) → ℕ → ℕ → List ℕ
texts_from texts first count = flat_map texts (range_with_len first count)

-- how many of their lines have an entry
abbrev pub counted_lines : (ℕ → LineCounts) → ℕ → ℕ → ℕ
counted_lines counts first zero = 0
counted_lines counts first (suc count) = (counts first).lines + counted_lines counts (first + 1) count

-- So many processes read one text, in order: each its piece, after the same opening. These end with a line, or nothing follows.
pub record ArePiecesOf (s : Arithmetic) (n : ℕ) (opening : List ℕ) (texts : ℕ → List ℕ) (pieces : ℕ → Sparse) (counts : ℕ → LineCounts) : Type 0 where
  pub each : (r : ℕ) → r < n → IsPieceOf s opening (texts r) (pieces r) (counts r)
  pub begins : MayFollow opening [] (texts_from texts 0 n)
  pub goes_on : (r : ℕ) → r < n → MayFollow (texts r) [] (texts_from texts (r + 1) (n - (r + 1)))

-- The plan for reading a matrix of this shape, on a grid of this side: all ranks begin with pieces of the matrix, in slot 0, and the
-- plan leaves in a slot of each its block of the sum of the pieces. It is the same plan for all ranks.
pub record IsPiecesPlanOf (q : ℕ) (shape : Extent) (plan : CheckedView) (slot : ℕ) : Type 0 where
  pub ranks : plan.ranks ≡ q * q
  pub starts : plan.starts ≡ all_whole q shape
  pub acts : plan.acts ≡ pieces_acts q shape
  pub slot_is : slot ≡ 1 + q
  pub parts : IsPiecesPlan plan.acts q shape slot

-- a rank's block of the sum of the pieces of all ranks, matrices of this shape
abbrev pub sum_block : Arithmetic → ℕ → Extent → (ℕ → Sparse) → ℕ → Sparse
sum_block s q shape pieces r = block_of_rank s q (sum_of_pieces s (q * q) shape pieces) r

-- Whatever pieces the other ranks have: what a process with this piece began brings each rank its block of the sum of all pieces, if
-- the ranks begin with them.
abbrev pub BringsSum : Arithmetic → Sparse → ProcessView → ProcessView → Type 0
BringsSum s piece x y =
    (pieces : ℕ → Sparse) → pieces x.me ≡ piece
    → BeginsToBring s (HavePieces s x.side piece.shape pieces) piece.shape (sum_block s x.side piece.shape pieces) x y

-- Whatever the other processes read: if all read one text, and as many of its lines have an entry as it announces, then it reads as a
-- matrix over the base of a semiring, and what a process with this piece began brings each rank its block of this matrix.
abbrev pub BringsMatrix : Arithmetic → Arithmetic → List ℕ → ℕ → Sparse → ProcessView → ProcessView → Type 0
BringsMatrix s base opening announced piece x y =
    (texts : ℕ → List ℕ) (pieces : ℕ → Sparse) (counts : ℕ → LineCounts) → ArePiecesOf base (x.side * x.side) opening texts pieces counts
    → pieces x.me ≡ piece → counted_lines counts 0 (x.side * x.side) ≡ announced
    → (m : Sparse) × Reads base (opening ++ texts_from texts 0 (x.side * x.side)) m
    × BeginsToBring s (HavePieces s x.side piece.shape pieces) piece.shape (block_of_rank s x.side m) x y

-- A process over a semiring, which reads texts over its base, begins a plan that leaves each rank its block of the sum of all
-- pieces: it has a piece of a text in slot 0, a matrix of the whole shape, and nothing else.
pub record BeginsReading (s base : Arithmetic) (opening piece : List ℕ) (counts : LineCounts) (x y : ProcessView) : Type 0 where
  pub free : IsFree x
  pub block : Sparse
  pub piece_is : IsPieceOf base opening piece block counts
  pub matrix : IsPiece s block.shape block
  pub plan : CheckedView
  pub slot : ℕ
  pub plan_is : IsPiecesPlanOf x.side block.shape plan slot
  pub starts : Starts plan slot block.shape (slice_set no_slots 0 (slot_is.Sheet block)) x y
  pub brings : BringsSum s block x y
  pub text : BringsMatrix s base opening counts.announced block x y

-- why a piece of a text isn't read
abbrev pub IsReadFault : ProcessView → ProcessFault → Type 0
IsReadFault x fault_is.NotNow = IsFree x → ⊥
IsReadFault x fault_is.Stray = ⊥
IsReadFault x fault_is.Shapes = ⊥
IsReadFault x (fault_is.Lost origin) = ⊥
IsReadFault x fault = IsFree x

-- so many entries are in a register
pub record HasCount (x : ProcessView) (register n : ℕ) : Type 0 where
  pub kept : KeptView
  pub was : register_at x register ≡ Some kept
  pub count : n ≡ length kept.block.entries

-- Whatever matrix of this shape has this many entries: the head, with the lines of its entries after it, part by part in order,
-- is the matrix's text.
abbrev pub BeginsTexts : Arithmetic → Extent → ℕ → List ℕ → Type 0
BeginsTexts s shape count head =
    (m : Sparse) (parts : List (List Entry)) → m.shape ≡ shape → length m.entries ≡ count → flat_map (λ part. part) parts ≡ m.entries
    → head ++ flat_map (lines_of s) parts ≡ text_of s m

-- the entries of the panels of a matrix, by column of the grid, and in it by row
abbrev pub panel_entries : Arithmetic → ℕ → Sparse → List (List Entry)
panel_entries s q m = flat_map (λ j. map (λ i. (panel_of s q m i j).entries) (range_with_len 0 q)) (range_with_len 0 q)

-- Whatever matrix of this shape has this many entries: the head, with the lines of its panels after it, by column of the grid, and
-- in it by row, is the matrix's text.
abbrev pub BeginsPanels : Arithmetic → ℕ → Extent → ℕ → List ℕ → Type 0
BeginsPanels s q shape count head =
    (m : Sparse) → IsMatrix s m → m.shape ≡ shape → length m.entries ≡ count → 0 < q → head ++ flat_map (lines_of s) (panel_entries s q m) ≡ text_of s m

-- the head of the text of the matrix in a register, if that has so many entries in all
pub record HasHead (s : Arithmetic) (x : ProcessView) (register entries : ℕ) (head : List ℕ) : Type 0 where
  pub kept : KeptView
  pub was : register_at x register ≡ Some kept
  pub head_is : head ≡ head_of s.writes_pattern kept.shape entries
  pub begins : BeginsTexts s kept.shape entries head
  pub panels : BeginsPanels s x.side kept.shape entries head

-- a process writes the lines of the entries that it has of the matrix in a register, which gives them up
pub record WritesLines (s : Arithmetic) (register : ℕ) (x : ProcessView) (text : List ℕ) (y : ProcessView) : Type 0 where
  pub kept : KeptView
  pub was : register_at x register ≡ Some kept
  pub lines : text ≡ lines_of s kept.block.entries
  pub after : y ≡ with_registers x (given_up register x.registers)
