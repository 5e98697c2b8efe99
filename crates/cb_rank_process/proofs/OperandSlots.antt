-- The slots with which a rank begins an operation on the matrices in the first registers.
use Rattle.std.proofs.Common.{◌≡◌, ◌≢◌, ℕ, zero, suc, ◌+◌, ◌*◌, ◌<◌, ◌≤◌, true, false, List, [], ◌∷◌, length, replicate, get_or, refl, sym, ap, ⊎_elim, ◌∙◌, arith}
use Rattle.std.proofs.Common.{length-set, get_or-set_same, get_or-set_other}
use Rattle.std.specs.Prelude.{◌==◌, if◌then◌else◌, map, slice_set, Option, Some, None}
use Rattle.std.proofs.lemmas.Bool.{cases_lt}
use Rattle.std.proofs.lemmas.Bool.Decides.{nat_tests}
use Rattle.std.proofs.lemmas.List.{ext_get_or, get_or-replicate, get_or_past, length-replicate}
use Rattle.cb_semirings.specs.Arithmetic.{Arithmetic}
use Rattle.cb_matrix.specs.Sparse.{Sparse, Extent}
use Rattle.cb_plan.specs.declared.stores.Slot.{Slot}
use Rattle.cb_plan.specs.declared.stores.Slot.TheVariants as slot_is
use Rattle.cb_plan.specs.PlanTables.{cell}
use Rattle.cb_plan.proofs.Effects.{split}
use Rattle.cb_plan_slots.specs.Slots.{HasOperands, block_of_rank, slot_with}
use Rattle.cb_operations.specs.OperationAnswers.{shapes_in}
use Rattle.cb_planner.specs.OperationPlans.{placed_operands}
use Rattle.cb_rank.specs.Halves.{slot_at}
use Rattle.cb_rank_process.specs.Processes.{KeptView, ProcessView, no_slots, register_at}
use Rattle.cb_rank_process.specs.Begun.{HoldsBlocks, block_in, operand_shapes, operand_slots, shape_in}

-- blocks are put into slots, one after another
abbrev pub put_all : List (Slot Sparse) → List (ℕ × Sparse) → List (Slot Sparse)
put_all slots [] = slots
put_all slots (p ∷ ps) = put_all (slice_set slots p.0 (slot_is.Sheet p.1)) ps

-- what slot k then has, if it had y before
abbrev pub put_at : List (ℕ × Sparse) → ℕ → Slot Sparse → Slot Sparse
put_at [] k y = y
put_at (p ∷ ps) k y = put_at ps k (if p.0 == k then slot_is.Sheet p.1 else y)

-- there are slots of these numbers
abbrev pub Exist : List (ℕ × Sparse) → Type 0
Exist [] = Unit {0}
Exist (p ∷ ps) = (p.0 < 256) × Exist ps

set_at : (slots : List (Slot Sparse)) (n k : ℕ) (y : Slot Sparse) → n < length slots → slot_at (slice_set slots n y) k ≡ (if n == k then y else slot_at slots k)
set_at slots n k y l =
    split (n == k)
    (λ t.
    let e : n ≡ k = grind (arith, nat_tests) in
    let s : slot_at (slice_set slots n y) n ≡ y = get_or-set_same slots n y slot_is.Empty l in
    rw t (ap (λ i. slot_at (slice_set slots n y) i) (sym e) ∙ s))
    (λ f.
    let ne : k ≢ n = grind (arith, nat_tests) in
    rw f (get_or-set_other slots n k y slot_is.Empty ne))

put_size : (ps : List (ℕ × Sparse)) (slots : List (Slot Sparse)) → length slots ≡ 256 → length (put_all slots ps) ≡ 256
put_size [] slots size = size
put_size (p ∷ ps) slots size = put_size ps (slice_set slots p.0 (slot_is.Sheet p.1)) (length-set slots p.0 (slot_is.Sheet p.1) ∙ size)

all_put : (ps : List (ℕ × Sparse)) (slots : List (Slot Sparse)) (k : ℕ) → length slots ≡ 256 → Exist ps → slot_at (put_all slots ps) k ≡ put_at ps k (slot_at slots k)
all_put [] slots k size e = refl
all_put (p ∷ ps) slots k size e =
    let below : p.0 < length slots = omega (arith, e.0) in
    all_put ps (slice_set slots p.0 (slot_is.Sheet p.1)) k (length-set slots p.0 (slot_is.Sheet p.1) ∙ size) e.1
    ∙ ap (put_at ps k) (set_at slots p.0 k (slot_is.Sheet p.1) below)

abbrev blank : Slot Sparse
blank = slot_is.Empty

blank_at : (n k : ℕ) → slot_at (replicate n blank) k ≡ blank
blank_at n k = ⊎_elim
    (λ (l : k < n). get_or-replicate n k blank blank l)
    (λ (l : n ≤ k). get_or_past (replicate n blank) k blank (let e : length (replicate n blank) ≡ n = length-replicate n blank in omega (arith, e)))
    (cases_lt k n)

-- the slots of the operands, and the blocks that go there
abbrev pub operands_in : ProcessView → ℕ → List (ℕ × Sparse)
operands_in x (suc zero) = (0, block_in (register_at x 0)) ∷ []
operands_in x (suc (suc zero)) = (0, block_in (register_at x 0)) ∷ (1, block_in (register_at x 1)) ∷ []
operands_in x n = (0, block_in (register_at x 0)) ∷ (1, block_in (register_at x 1)) ∷ (7, block_in (register_at x 2)) ∷ []

-- the slots of the operands are these
pub slots_are : (x : ProcessView) (n : ℕ) → operand_slots x n ≡ put_all no_slots (operands_in x n)
slots_are x zero = refl
slots_are x (suc zero) = refl
slots_are x (suc (suc zero)) = refl
slots_are x (suc (suc (suc n))) = refl

-- which exist
pub they_exist : (x : ProcessView) (n : ℕ) → Exist (operands_in x n)
they_exist x zero = (omega arith, (omega arith, (omega arith, tt)))
they_exist x (suc zero) = (omega arith, tt)
they_exist x (suc (suc zero)) = (omega arith, (omega arith, tt))
they_exist x (suc (suc (suc n))) = (omega arith, (omega arith, (omega arith, tt)))

-- there are as many slots as a rank has
pub put_slots_size : (ps : List (ℕ × Sparse)) → length (put_all no_slots ps) ≡ 256
put_slots_size ps = put_size ps no_slots (length-replicate 256 blank)

-- and this is in each of them
pub put_slots_at : (ps : List (ℕ × Sparse)) (k : ℕ) → Exist ps → slot_at (put_all no_slots ps) k ≡ put_at ps k slot_is.Empty
put_slots_at ps k e = all_put ps no_slots k (length-replicate 256 blank) e ∙ ap (put_at ps k) (blank_at 256 k)

-- so they are the slots of a rank that has these blocks there, and nothing else
pub row_of_blocks : (ps : List (ℕ × Sparse)) (first : List (List (Slot Sparse))) (me : ℕ) → Exist ps → length (get_or first me []) ≡ 256
    → ((k : ℕ) → put_at ps k slot_is.Empty ≡ cell slot_is.Empty first me k) → put_all no_slots ps ≡ get_or first me []
row_of_blocks ps first me e wide same =
    ext_get_or slot_is.Empty (put_all no_slots ps) (get_or first me []) (put_slots_size ps ∙ sym wide)
    (λ k _. put_slots_at ps k e ∙ same k)

slots_size : (x : ProcessView) (n : ℕ) → length (operand_slots x n) ≡ 256
slots_size x n = ap length (slots_are x n) ∙ put_slots_size (operands_in x n)

slots_at : (x : ProcessView) (n k : ℕ) → slot_at (operand_slots x n) k ≡ put_at (operands_in x n) k slot_is.Empty
slots_at x n k = ap (λ slots. slot_at slots k) (slots_are x n) ∙ put_slots_at (operands_in x n) k (they_exist x n)

module _ (s : Arithmetic) (x : ProcessView) where
  -- if the registers have the blocks of some matrices, these have their shapes
  pub shapes_of_matrices : (ms : List Sparse) → length ms ≤ 3 → HoldsBlocks s ms x → operand_shapes x (length ms) ≡ shapes_in ms
  shapes_of_matrices [] few h = refl
  shapes_of_matrices (a ∷ []) few h = ap (λ d. d ∷ []) (ap shape_in (h 0 (omega arith)))
  shapes_of_matrices (a ∷ b ∷ []) few h =
      ap (λ d. d ∷ shape_in (register_at x 1) ∷ []) (ap shape_in (h 0 (omega arith)))
      ∙ ap (λ d. a.shape ∷ d ∷ []) (ap shape_in (h 1 (omega arith)))
  shapes_of_matrices (a ∷ b ∷ c ∷ []) few h =
      ap (λ d. d ∷ shape_in (register_at x 1) ∷ shape_in (register_at x 2) ∷ []) (ap shape_in (h 0 (omega arith)))
      ∙ ap (λ d. a.shape ∷ d ∷ shape_in (register_at x 2) ∷ []) (ap shape_in (h 1 (omega arith)))
      ∙ ap (λ d. a.shape ∷ b.shape ∷ d ∷ []) (ap shape_in (h 2 (omega arith)))
  shapes_of_matrices (a ∷ b ∷ c ∷ d ∷ ms) few h = absurd (omega arith)

  -- and the slots are those of a rank that has its blocks of these
  slot_of_matrices : (ms : List Sparse) (k : ℕ) → 1 ≤ length ms → length ms ≤ 3 → HoldsBlocks s ms x
      → put_at (operands_in x (length ms)) k slot_is.Empty ≡ slot_with s x.side x.me (placed_operands ms) k slot_is.Empty
  slot_of_matrices [] k some few h = absurd (omega arith)
  slot_of_matrices (a ∷ []) k some few h = ap (λ m. put_at ((0, m) ∷ []) k slot_is.Empty) (ap block_in (h 0 (omega arith)))
  slot_of_matrices (a ∷ b ∷ []) k some few h =
      ap (λ m. put_at ((0, m) ∷ (1, block_in (register_at x 1)) ∷ []) k slot_is.Empty) (ap block_in (h 0 (omega arith)))
      ∙ ap (λ m. put_at ((0, block_of_rank s x.side a x.me) ∷ (1, m) ∷ []) k slot_is.Empty) (ap block_in (h 1 (omega arith)))
  slot_of_matrices (a ∷ b ∷ c ∷ []) k some few h =
      ap (λ m. put_at ((0, m) ∷ (1, block_in (register_at x 1)) ∷ (7, block_in (register_at x 2)) ∷ []) k slot_is.Empty) (ap block_in (h 0 (omega arith)))
      ∙ ap (λ m. put_at ((0, block_of_rank s x.side a x.me) ∷ (1, m) ∷ (7, block_in (register_at x 2)) ∷ []) k slot_is.Empty) (ap block_in (h 1 (omega arith)))
      ∙ ap (λ m. put_at ((0, block_of_rank s x.side a x.me) ∷ (1, block_of_rank s x.side b x.me) ∷ (7, m) ∷ []) k slot_is.Empty) (ap block_in (h 2 (omega arith)))
  slot_of_matrices (a ∷ b ∷ c ∷ d ∷ ms) k some few h = absurd (omega arith)

  -- so they are that rank's row of the slots of all ranks
  pub row_of_operands : (ms : List Sparse) → 1 ≤ length ms → length ms ≤ 3 → HoldsBlocks s ms x → (first : List (List (Slot Sparse))) → HasOperands s x.side (placed_operands ms) first → x.me < x.side * x.side
      → operand_slots x (length ms) ≡ get_or first x.me []
  row_of_operands ms some few h first has l =
      let wide : length (get_or first x.me []) ≡ 256 = has.table.cols x.me l in
      ext_get_or slot_is.Empty (operand_slots x (length ms)) (get_or first x.me []) (slots_size x (length ms) ∙ sym wide)
      (λ k _. slots_at x (length ms) k ∙ slot_of_matrices ms k some few h ∙ sym (has.cells x.me k l))
