-- A rank whose first registers have its parts of some matrices can start a plan of an operation on them.
use Rattle.std.proofs.Common.{◌≡◌, ℕ, zero, suc, ◌*◌, ◌/◌, ◌%◌, ◌<◌, ◌≤◌, true, false, List, [], ◌∷◌, map, refl, sym, ap, subst, ◌∙◌, arith}
use Rattle.std.specs.Prelude.{◌==◌, if◌then◌else◌, Option, Some, None}
use Rattle.cb_semirings.specs.Tables.{plus_times}
use Rattle.cb_semirings.specs.Laws.{plus_times_is_semiring}
use Rattle.cb_matrix.specs.Sparse.{Sparse, Extent}
use Rattle.cb_matrix.specs.Values.{empty_matrix}
use Rattle.cb_grid.specs.Parts.{part_shape}
use Rattle.cb_plan.specs.declared.acts.Start.{Start}
use Rattle.cb_plan.specs.declared.plans.Planned.{Planned}
use Rattle.cb_plan.specs.Plans.{CheckedView}
use Rattle.cb_plan.specs.declared.stores.Slot.{Slot}
use Rattle.cb_plan.specs.declared.stores.Slot.TheVariants as slot_is
use Rattle.cb_plan.specs.Checks.{started}
use Rattle.cb_plan.specs.Meaning.{one}
use Rattle.cb_plan.specs.Stores.{is_lost, sheet_of}
use Rattle.cb_plan.proofs.Effects.{split}
use Rattle.cb_plan_parts.specs.declared.first_slots.Operand.{Operand}
use Rattle.cb_plan_parts.specs.PlanParts.{operand_starts}
use Rattle.cb_plan_parts.proofs.Starts.{shape_with, operands_there}
use Rattle.cb_plan_slots.specs.Answers.{Makes}
use Rattle.cb_plan_slots.specs.Slots.{operands_of}
use Rattle.cb_operations.specs.declared.operations.Operation.{Operation}
use Rattle.cb_operations.specs.OperationAnswers.{answer_of, operand_count_of, shape_of, shapes_in}
use Rattle.cb_planner.specs.OperationPlans.{Computes, placed_operands}
use Rattle.cb_rank.specs.Ranks.{FitsAt}
use Rattle.cb_rank_driven.specs.DrivenRanks.{CanStart}
use Rattle.cb_rank_process.specs.Processes.{KeptView, ProcessView, no_slots, register_at}
use Rattle.cb_rank_process.specs.Begun.{HasPart, HaveParts, block_in, operand_shapes, operand_slots, shape_in, slot_from}
use Rattle.cb_rank_process.proofs.OperandSlots.{Exist, operands_in, put_all, put_at, put_slots_at, put_slots_size, slots_are, they_exist}
use Rattle.cb_rank_process.proofs.RunnablePlans.{empties_are, shapes_are}

-- what shape slot k has once blocks of these shapes are put into these slots, if it had y before
abbrev shape_put : List (ℕ × Extent) → ℕ → Option Extent → Option Extent
shape_put [] k y = y
shape_put (p ∷ ps) k y = shape_put ps k (if p.0 == k then Some p.1 else y)

abbrev shaped : List (ℕ × Sparse) → List (ℕ × Extent)
shaped [] = []
shaped (p ∷ ps) = (p.0, p.1.shape) ∷ shaped ps

shapes_put : (ps : List (ℕ × Sparse)) (k : ℕ) (y : Slot Sparse) → one (λ (m : Sparse). m.shape) (sheet_of (put_at ps k y)) ≡ shape_put (shaped ps) k (one (λ (m : Sparse). m.shape) (sheet_of y))
shapes_put [] k y = refl
shapes_put (p ∷ ps) k y =
    shapes_put ps k (if p.0 == k then slot_is.Sheet p.1 else y)
    ∙ ap (shape_put (shaped ps) k) (split (p.0 == k) (λ t. rw t refl) (λ t. rw t refl))

none_put : (ps : List (ℕ × Sparse)) (k : ℕ) (y : Slot Sparse) → is_lost y ≡ false → is_lost (put_at ps k y) ≡ false
none_put [] k y h = h
none_put (p ∷ ps) k y h = none_put ps k (if p.0 == k then slot_is.Sheet p.1 else y) (split (p.0 == k) (λ t. rw t refl) (λ t. rw t h))

-- a block of a part has the shape of the part
part_is : (q me : ℕ) (kept : Option KeptView) → HasPart q me kept → (block_in kept).shape ≡ part_shape q (shape_in kept) (me / q) (me % q)
part_is q me (Some kept) h = h
part_is q me None h = absurd h

-- the shapes in the slots are those with which a rank starts from matrices of these shapes
shapes_there : (x : ProcessView) (n k : ℕ) → 1 ≤ n → n ≤ 3 → ((i : ℕ) → i < n → HasPart x.side x.me (register_at x i))
    → shape_put (shaped (operands_in x n)) k None ≡ shape_with x.side x.me (operands_of (placed_operands (map empty_matrix (operand_shapes x n)))) k None
shapes_there x zero k some few h = absurd (omega arith)
shapes_there x (suc zero) k some few h =
    ap (λ d. shape_put ((0, d) ∷ []) k None) (part_is x.side x.me (register_at x 0) (h 0 (omega arith)))
shapes_there x (suc (suc zero)) k some few h =
    ap (λ d. shape_put ((0, d) ∷ (1, (block_in (register_at x 1)).shape) ∷ []) k None) (part_is x.side x.me (register_at x 0) (h 0 (omega arith)))
    ∙ ap (λ d. shape_put ((0, part_shape x.side (shape_in (register_at x 0)) (x.me / x.side) (x.me % x.side)) ∷ (1, d) ∷ []) k None) (part_is x.side x.me (register_at x 1) (h 1 (omega arith)))
shapes_there x (suc (suc (suc zero))) k some few h =
    ap (λ d. shape_put ((0, d) ∷ (1, (block_in (register_at x 1)).shape) ∷ (7, (block_in (register_at x 2)).shape) ∷ []) k None) (part_is x.side x.me (register_at x 0) (h 0 (omega arith)))
    ∙ ap (λ d. shape_put ((0, part_shape x.side (shape_in (register_at x 0)) (x.me / x.side) (x.me % x.side)) ∷ (1, d) ∷ (7, (block_in (register_at x 2)).shape) ∷ []) k None) (part_is x.side x.me (register_at x 1) (h 1 (omega arith)))
    ∙ ap (λ d. shape_put ((0, part_shape x.side (shape_in (register_at x 0)) (x.me / x.side) (x.me % x.side)) ∷ (1, part_shape x.side (shape_in (register_at x 1)) (x.me / x.side) (x.me % x.side)) ∷ (7, d) ∷ []) k None) (part_is x.side x.me (register_at x 2) (h 2 (omega arith)))
shapes_there x (suc (suc (suc (suc n)))) k some few h = absurd (omega arith)

-- so it fits a plan that starts from them
fits : (q me : ℕ) (ps : List (ℕ × Sparse)) (operands : List Operand) (starts : List Start) → Exist ps → me < q * q → starts ≡ operand_starts q operands
    → ((k : ℕ) → shape_put (shaped ps) k None ≡ shape_with q me operands k None) → FitsAt starts me (put_all no_slots ps)
fits q me ps operands starts exist below is same = record {
  size = put_slots_size ps;
  shapes = λ k.
      ap (λ slot. one (λ (m : Sparse). m.shape) (sheet_of slot)) (put_slots_at ps k exist)
      ∙ shapes_put ps k slot_is.Empty
      ∙ same k
      ∙ sym (operands_there q operands me k below)
      ∙ ap (λ (ss : List Start). started ss me k) (sym is);
  none_lost = λ k. ap is_lost (put_slots_at ps k exist) ∙ none_put ps k slot_is.Empty refl;
}

-- and can start an operation on the operands
pub can_start : (operation : Operation) (x : ProcessView) (n : ℕ) (p : Planned) → 1 ≤ n → n ≤ 3 → Computes operation x.side (operand_shapes x n) p → HaveParts x n
    → CanStart (record { ranks = p.plan.ranks; starts = p.starts.items; acts = p.plan.acts }) x.me (operand_slots x n)
can_start operation x n p some few computes parts =
    let shapes : List Extent = operand_shapes x n in
    let makes = computes plus_times plus_times_is_semiring (map empty_matrix shapes) (empties_are shapes) (shapes_are shapes) in
    let below : x.me < p.plan.ranks = subst (λ (r : ℕ). x.me < r) (sym makes.ranks) parts.rank in
    let operands : List Operand = operands_of (placed_operands (map empty_matrix shapes)) in (
      below,
      subst (λ (slots : List (Slot Sparse)). FitsAt p.starts.items x.me slots) (sym (slots_are x n))
          (fits x.side x.me (operands_in x n) operands p.starts.items (they_exist x n) parts.rank makes.starts (λ k. shapes_there x n k some few parts.parts)),
    )

-- or a plan that starts from the parts of one matrix
pub part_can_start : (x : ProcessView) (register : ℕ) (kept : KeptView) (plan : CheckedView) → register_at x register ≡ Some kept → plan.ranks ≡ x.side * x.side
    → plan.starts ≡ operand_starts x.side (record { slot = 0; shape = kept.shape } ∷ []) → x.me < x.side * x.side → HasPart x.side x.me (register_at x register)
    → CanStart plan x.me (slot_from x register 0 no_slots)
part_can_start x register kept plan is ranks starts below part =
    let block : Sparse = block_in (register_at x register) in
    let shape : block.shape ≡ part_shape x.side kept.shape (x.me / x.side) (x.me % x.side) =
    part_is x.side x.me (register_at x register) part ∙ ap (λ (k : Option KeptView). part_shape x.side (shape_in k) (x.me / x.side) (x.me % x.side)) is in (
      subst (λ (r : ℕ). x.me < r) (sym ranks) below,
      fits x.side x.me ((0, block) ∷ []) (record { slot = 0; shape = kept.shape } ∷ []) plan.starts (omega arith, tt) below starts (λ k. ap (λ d. shape_put ((0, d) ∷ []) k None) shape),
    )
