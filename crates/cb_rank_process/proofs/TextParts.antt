-- What a process writes: the head of a text, with the lines of the parts of a matrix after it; and how it begins to read.
use Rattle.std.proofs.Common.{◌≡◌, ℕ, ◌+◌, ◌*◌, Bool, List, [], ◌∷◌, ◌++◌, length, refl, sym, ap, subst, ◌∙◌, arith}
use Rattle.std.specs.Prelude.{flat_map, slice_set, Option, Some, None}
use Rattle.std.proofs.lemmas.List.{set-set}
use Rattle.std.proofs.lemmas.List.Concat.{flat_map-append}
use Rattle.cb_semirings.specs.Arithmetic.{Arithmetic, HasNegatives, IsSemiring, ReadsNumbers}
use Rattle.cb_bases.specs.Bases.{IsBaseOf}
use Rattle.cb_matrix.specs.declared.Entry.{Entry}
use Rattle.cb_matrix.specs.Sparse.{Extent, Sparse, IsMatrix}
use Rattle.cb_matrix.specs.Values.{total}
use Rattle.cb_market_lines.specs.Reads.{Reads}
use Rattle.cb_market_pages.specs.Sheets.{lines_of}
use Rattle.cb_market_pages.specs.Text.{entry_line, head_of, header_line, number_line, text_of}
use Rattle.cb_plan.specs.declared.stores.Slot.{Slot}
use Rattle.cb_plan.specs.declared.stores.Slot.TheVariants as slot_is
use Rattle.cb_plan.specs.Plans.{CheckedView}
use Rattle.cb_plan_transfers.specs.Pieces.{IsPiecesPlan, pieces_acts, sum_of_pieces}
use Rattle.cb_plan_transfers.specs.WholeStarts.{all_whole}
use Rattle.cb_rank.specs.Ranks.{RankView}
use Rattle.cb_rank_process.specs.declared.texts.LineCounts.{LineCounts}
use Rattle.cb_rank_process.specs.Processes.{KeptView, ProcessView, IsFree, Starts, given_up, no_slots, register_at, with_registers}
use Rattle.cb_rank_process.specs.Texts.{BeginsPanels, BeginsReading, BeginsTexts, BringsMatrix, BringsSum, HasHead, IsPieceOf, IsPiecesPlanOf, panel_entries, texts_from}
use Rattle.cb_rank_process.proofs.BroughtParts.{pieces_brought}
use Rattle.cb_rank_process.proofs.FirstRegisters.{same_register}
use Rattle.cb_rank_process.proofs.OperandSlots.{put_at, row_of_blocks}
use Rattle.cb_rank_process.proofs.TextOrder.{panels_in_order, text_of_pieces}

-- the lines of parts are those of all entries
lines_of_parts : (s : Arithmetic) (parts : List (List Entry)) → flat_map (lines_of s) parts ≡ lines_of s (flat_map (λ part. part) parts)
lines_of_parts s [] = refl
lines_of_parts s (p ∷ ps) =
    ap (λ t. lines_of s p ++ t) (lines_of_parts s ps)
    ∙ sym (flat_map-append (entry_line s.writes_pattern) p (flat_map (λ part. part) ps))

-- so these make a text
pub head_begins : (s : Arithmetic) (shape : Extent) (count : ℕ) (head : List ℕ) → head ≡ head_of s.writes_pattern shape count → BeginsTexts s shape count head
unfolding text_of
head_begins s shape count head is m parts shaped counted all =
    ap (λ h. h ++ flat_map (lines_of s) parts) is
    ∙ ap (λ t. head_of s.writes_pattern shape count ++ t) (lines_of_parts s parts ∙ ap (lines_of s) all)
    ∙ ap (λ (d : Extent). header_line s.writes_pattern ++ number_line (d.rows ∷ d.cols ∷ count ∷ []) ++ lines_of s m.entries) (sym shaped)
    ∙ ap (λ n. header_line s.writes_pattern ++ number_line (m.shape.rows ∷ m.shape.cols ∷ n ∷ []) ++ lines_of s m.entries) (sym counted)

-- and so do the lines of panels
panels_begin : (s : Arithmetic) → IsSemiring s → (q : ℕ) (shape : Extent) (count : ℕ) (head : List ℕ) → BeginsTexts s shape count head → BeginsPanels s q shape count head
panels_begin s laws q shape count head begins m is shaped counted some =
    begins m (panel_entries s q m) shaped counted (panels_in_order s laws q some m is)

lines_over : (base : Arithmetic) (mul : ℕ → ℕ → ℕ) (es : List Entry) → lines_of base es ≡ lines_of (record base { mul = mul }) es
lines_over base mul es = refl

-- lines over the base of a semiring are those over the semiring
pub lines_too : (s base : Arithmetic) → IsBaseOf s base → (es : List Entry) → lines_of base es ≡ lines_of s es
lines_too s base has es = lines_over base s.mul es ∙ ap (λ t. lines_of t es) (sym has)

-- the head of the matrix in a register
pub has_head : (s : Arithmetic) → IsSemiring s → (x : ProcessView) (register entries : ℕ) (head : List ℕ) (kept : KeptView) (pattern : Bool) (shape : Extent) → register_at x register ≡ Some kept → shape ≡ kept.shape → pattern ≡ s.writes_pattern
    → head ≡ head_of pattern shape entries → HasHead s x register entries head
has_head s laws x register entries head kept pattern shape is shaped written made =
    let whole : head ≡ head_of s.writes_pattern kept.shape entries = made ∙ ap (λ b. head_of b shape entries) written ∙ ap (λ d. head_of s.writes_pattern d entries) shaped in
    let begins : BeginsTexts s kept.shape entries head = head_begins s kept.shape entries head whole in
    record { kept = kept; was = is; head_is = whole; begins = begins; panels = panels_begin s laws x.side kept.shape entries head begins }

-- a matrix that was taken out of a register is put back
pub put_again : (x taken y : ProcessView) (register : ℕ) (kept again : KeptView) → register_at x register ≡ Some kept → taken ≡ with_registers x (given_up register x.registers) → again ≡ kept
    → y ≡ with_registers taken (slice_set taken.registers register (Some again)) → y ≡ x
put_again x taken y register kept again is out same back =
    back
    ∙ ap (λ (z : ProcessView). with_registers z (slice_set z.registers register (Some again))) out
    ∙ ap (λ (rs : List (Option KeptView)). with_registers x rs) (set-set x.registers register None (Some again) ∙ same_register x.registers register kept again is same)

-- ---- reading
-- a matrix over the base of a semiring is one over the semiring
matrix_over : (base : Arithmetic) (mul : ℕ → ℕ → ℕ) (m : Sparse) → IsMatrix base m → IsMatrix (record base { mul = mul }) m
matrix_over base mul m is = record { ascending = is.ascending; inside = is.inside; values = is.values; not_zero = is.not_zero }

matrix_too : (s base : Arithmetic) → IsBaseOf s base → (m : Sparse) → IsMatrix base m → IsMatrix s m
matrix_too s base has m is = subst (λ (t : Arithmetic). IsMatrix t m) (sym has) (matrix_over base s.mul m is)

-- the plan of a grid's side and a matrix's shape
pieces_plan_of : (q side : ℕ) (shape whole : Extent) (plan : CheckedView) (slot : ℕ) → shape ≡ whole → q ≡ side → plan.ranks ≡ q * q → plan.starts ≡ all_whole q shape
    → plan.acts ≡ pieces_acts q shape → slot ≡ 1 + q → IsPiecesPlan plan.acts q shape slot → IsPiecesPlanOf side whole plan slot
pieces_plan_of q side shape whole plan slot shaped same ranks starts acts place parts =
    subst (λ (d : Extent). IsPiecesPlanOf side d plan slot) shaped
    (subst (λ (k : ℕ). IsPiecesPlanOf k shape plan slot) same (record { ranks = ranks; starts = starts; acts = acts; slot_is = place; parts = parts }))

-- a process that begins such a plan with a piece brings each rank its block of the sum of the pieces
brings_sum : (s : Arithmetic) → IsSemiring s → (x y : ProcessView) (block : Sparse) (plan : CheckedView) (slot : ℕ) → IsPiecesPlanOf x.side block.shape plan slot
    → Starts plan slot block.shape (slice_set no_slots 0 (slot_is.Sheet block)) x y → BringsSum s block x y
brings_sum s laws x y block plan slot is h pieces mine =
    let same : h.rank.rank.plan ≡ plan = ap (λ (r : RankView). r.plan) h.new_rank.rank in
    let plan_is : IsPiecesPlanOf x.side block.shape h.rank.rank.plan slot = subst (λ (p : CheckedView). IsPiecesPlanOf x.side block.shape p slot) (sym same) is in
    record {
      task = record { rank = h.rank; slot = slot; shape = block.shape };
      begun = ap (λ (v : ProcessView). v.task) h.after;
      shaped = refl;
      brings = λ first has. pieces_brought s laws x.side block.shape pieces h.rank.rank.plan slot first plan_is has;
      own = λ first has l.
          h.first
          ∙ row_of_blocks ((0, block) ∷ []) first x.me (omega arith, tt) (has.table.cols x.me l)
          (λ k. ap (λ (b : Sparse). put_at ((0, b) ∷ []) k slot_is.Empty) (sym mine) ∙ sym (has.cells x.me k l));
    }

-- the sum of pieces is the same over the base of a semiring
sum_over : (base : Arithmetic) (mul : ℕ → ℕ → ℕ) (n : ℕ) (shape : Extent) (pieces : ℕ → Sparse) → sum_of_pieces base n shape pieces ≡ sum_of_pieces (record base { mul = mul }) n shape pieces
unfolding total
sum_over base mul n shape pieces = refl

sum_too : (s base : Arithmetic) → IsBaseOf s base → (n : ℕ) (shape : Extent) (pieces : ℕ → Sparse) → sum_of_pieces base n shape pieces ≡ sum_of_pieces s n shape pieces
sum_too s base has n shape pieces = sum_over base s.mul n shape pieces ∙ ap (λ (t : Arithmetic). sum_of_pieces t n shape pieces) (sym has)

-- if all processes read one text, each gets its block of the text's matrix
brings_matrix : (s base : Arithmetic) → IsSemiring base → ReadsNumbers base → HasNegatives base → IsBaseOf s base → (opening piece : List ℕ) (counts : LineCounts) (block : Sparse) (x y : ProcessView) → IsPieceOf base opening piece block counts → BringsSum s block x y
    → BringsMatrix s base opening counts.announced block x y
brings_matrix s base laws numbers negatives has opening piece counts block x y read brings texts pieces all of mine counted =
    let n = x.side * x.side in
    let shaped : block.shape ≡ read.size.shape = ap (λ (m : Sparse). m.shape) read.block_is in
    let reads : Reads base (opening ++ texts_from texts 0 n) (sum_of_pieces base n read.size.shape pieces) =
    text_of_pieces base laws numbers negatives n opening read.header read.size read.line texts pieces all read.opening_is of (counted ∙ read.announced) in (
      sum_of_pieces s n block.shape pieces,
      subst (Reads base (opening ++ texts_from texts 0 n)) (ap (λ (d : Extent). sum_of_pieces base n d pieces) (sym shaped) ∙ sum_too s base has n block.shape pieces) reads,
      brings pieces mine,
    )

-- a process begins with a piece that it read
pub begins_reading : (s base : Arithmetic) → IsSemiring s → IsSemiring base → ReadsNumbers base → HasNegatives base → IsBaseOf s base → (opening piece : List ℕ) (counts : LineCounts) (x y : ProcessView) (q : ℕ) (block over : Sparse) (shape : Extent) (plan : CheckedView) (slot : ℕ) (blank store : List (Slot Sparse)) → IsFree x
    → IsPieceOf base opening piece block counts → IsMatrix base block → q ≡ x.side → plan.ranks ≡ q * q → plan.starts ≡ all_whole q shape → plan.acts ≡ pieces_acts q shape → slot ≡ 1 + q → IsPiecesPlan plan.acts q shape slot → shape ≡ block.shape → blank ≡ no_slots → over ≡ block
    → store ≡ slice_set blank 0 (slot_is.Sheet over) → Starts plan slot shape store x y → BeginsReading s base opening piece counts x y
begins_reading s base laws base_laws numbers negatives has opening piece counts x y q block over shape plan slot blank store free read is_matrix side ranks starts acts place parts shaped empty same put h =
    let stored : store ≡ slice_set no_slots 0 (slot_is.Sheet block) =
    put ∙ ap (λ (st : List (Slot Sparse)). slice_set st 0 (slot_is.Sheet over)) empty ∙ ap (λ (m : Sparse). slice_set no_slots 0 (slot_is.Sheet m)) same in
    let plan_is : IsPiecesPlanOf x.side block.shape plan slot = pieces_plan_of q x.side shape block.shape plan slot shaped side ranks starts acts place parts in
    let begun : Starts plan slot block.shape (slice_set no_slots 0 (slot_is.Sheet block)) x y =
    subst (λ (d : Extent). Starts plan slot d (slice_set no_slots 0 (slot_is.Sheet block)) x y) shaped (subst (λ (st : List (Slot Sparse)). Starts plan slot shape st x y) stored h) in
    let brings : BringsSum s block x y = brings_sum s laws x y block plan slot plan_is begun in
    record {
      free = free;
      block = block;
      piece_is = read;
      matrix = record { matrix = matrix_too s base has block is_matrix; shaped = refl };
      plan = plan;
      slot = slot;
      plan_is = plan_is;
      starts = begun;
      brings = brings;
      text = brings_matrix s base base_laws numbers negatives has opening piece counts block x y read brings;
    }
