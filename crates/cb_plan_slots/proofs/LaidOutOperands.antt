-- The blocks of matrices over a grid are moved into slots of its ranks, one matrix after the other.
use Rattle.std.proofs.Common.{◌≡◌, ℕ, ◌*◌, ◌<◌, List, [], ◌∷◌, ◌++◌, length, append_assoc, append-nil, sym, ap, subst, ◌∙◌}
use Rattle.std.specs.Prelude.{map, All}
use Rattle.std.proofs.lemmas.List.{map-append, nil_from_length}
use Rattle.std.proofs.lemmas.List.Elements.{All-head, All-tail}
use Rattle.cb_semirings.specs.Arithmetic.{Arithmetic}
use Rattle.cb_matrix.specs.Sparse.{Sparse}
use Rattle.cb_layout.specs.Distributed.{Distributed}
use Rattle.cb_plan.specs.declared.stores.Slot.{Slot}
use Rattle.cb_plan_slots.specs.Slots.{Filled, HasOperands, HaveSlots, block_of_rank, whole_matrix}
use Rattle.cb_plan_slots.proofs.Holdings.{one_operand_more}

-- each lies over a grid of side q
abbrev pub LieOver : ℕ → List (ℕ × Distributed) → Type 0
LieOver q operands = All (λ (o : ℕ × Distributed). o.1.side ≡ q) operands

-- the blocks of the matrices before the rest are in their slots
pub record LaidOutSoFar (s : Arithmetic) (q : ℕ) (all rest : List (ℕ × Distributed)) (stores : List (List (Slot Sparse))) : Type 0 where
  pub before : List (ℕ × Distributed)
  pub those_and_the_rest : before ++ rest ≡ all
  pub there : HasOperands s q (map whole_matrix before) stores
  pub slots : HaveSlots (map whole_matrix rest)
  pub sides : LieOver q rest

module _ (s : Arithmetic) (q : ℕ) where
  -- none is there at first
  pub none_laid_out : (all rest : List (ℕ × Distributed)) (stores : List (List (Slot Sparse))) → rest ≡ all → HasOperands s q [] stores → HaveSlots (map whole_matrix all) → LieOver q all → LaidOutSoFar s q all rest stores
  none_laid_out all rest stores e has slots sides = record {
    before = [];
    those_and_the_rest = e;
    there = has;
    slots = subst (λ os. HaveSlots (map whole_matrix os)) (sym e) slots;
    sides = subst (LieOver q) (sym e) sides;
  }

  module _ (all rest left : List (ℕ × Distributed)) (o : ℕ × Distributed) (old : List (List (Slot Sparse))) (h : LaidOutSoFar s q all rest old) (first : rest ≡ o ∷ left) where
    slots_of_both : HaveSlots (whole_matrix o ∷ map whole_matrix left)
    slots_of_both = subst (λ os. HaveSlots (map whole_matrix os)) first h.slots

    -- the next one has a slot, and lies over the grid
    pub next_slot : o.0 < 256
    next_slot = All-head (λ (p : ℕ × Sparse). p.0 < 256) (whole_matrix o) (map whole_matrix left) slots_of_both

    -- the grid that the next one lies over has the side q
    pub next_side : o.1.side ≡ q
    next_side = All-head (λ (o : ℕ × Distributed). o.1.side ≡ q) o left (subst (LieOver q) first h.sides)

    -- its blocks are moved
    pub next_laid_out : (new : List (List (Slot Sparse))) → Filled (o.1.side * o.1.side) o.0 (block_of_rank s o.1.side o.1.matrix) old new → LaidOutSoFar s q all left new
    next_laid_out new filled =
        let here : Filled (q * q) o.0 (block_of_rank s q o.1.matrix) old new = subst (λ n. Filled (n * n) o.0 (block_of_rank s n o.1.matrix) old new) next_side filled in
        record {
          before = h.before ++ o ∷ [];
          those_and_the_rest = append_assoc h.before (o ∷ []) left ∙ ap (λ os. h.before ++ os) (sym first) ∙ h.those_and_the_rest;
          there = subst (λ ps. HasOperands s q ps new) (sym (map-append whole_matrix h.before (o ∷ []))) (one_operand_more s q (map whole_matrix h.before) o.0 o.1.matrix old new h.there here);
          slots = All-tail (λ (p : ℕ × Sparse). p.0 < 256) (whole_matrix o) (map whole_matrix left) slots_of_both;
          sides = All-tail (λ (o : ℕ × Distributed). o.1.side ≡ q) o left (subst (LieOver q) first h.sides);
        }

  -- if none is left, all are there
  pub all_laid_out : (all rest : List (ℕ × Distributed)) (stores : List (List (Slot Sparse))) → LaidOutSoFar s q all rest stores → length rest ≡ 0 → HasOperands s q (map whole_matrix all) stores
  all_laid_out all rest stores h e =
      let these : h.before ≡ all = sym (append-nil h.before) ∙ ap (λ os. h.before ++ os) (sym (nil_from_length rest e)) ∙ h.those_and_the_rest in
      subst (λ os. HasOperands s q (map whole_matrix os) stores) these h.there
