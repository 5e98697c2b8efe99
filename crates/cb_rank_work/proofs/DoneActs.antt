-- One act, done on the stores of all ranks.
use Rattle.std.proofs.Common.{◌≡◌, ℕ, false, List, [], ◌∷◌, length, get_or, refl, ap, ◌∙◌}
use Rattle.std.specs.Prelude.{Option, None, Some, ◌==◌, ◌&&◌, if◌then◌else◌, slice_set}
use Rattle.cb_letters.specs.declared.Tag.{Tag}
use Rattle.cb_matrix.specs.Sparse.{Sparse}
use Rattle.cb_plan.specs.declared.acts.Op.{Op}
use Rattle.cb_plan.specs.declared.acts.Act.{Act}
use Rattle.cb_plan.specs.declared.acts.Act.TheVariants as act_is
use Rattle.cb_plan.specs.declared.stores.Slot.{Slot}
use Rattle.cb_plan.specs.declared.stores.Slot.TheVariants as slot_is
use Rattle.cb_plan.specs.Meaning.{Algebra, act, target_of, result_of}
use Rattle.cb_plan.specs.Checks.{Lanes, IsSound, operands_of}
use Rattle.cb_plan.specs.Stores.{state_of, shapes_of, sheet_of, slot_of, is_lost, sheets_in, NoneLost}
use Rattle.cb_plan.specs.PlanTables.{IsTable, cell, cell_set}
use Rattle.cb_plan.proofs.Cells.{set_is_table}
use Rattle.cb_plan.proofs.Effects.{same_state}
use Rattle.cb_plan.proofs.ActOnStores.{read_at, first_below, state_after_set, none_lost_after_set}

-- the slot that holds a block has it
pub sheet_of_slot : {M : Type 0} (x : Option M) → sheet_of (slot_of x) ≡ x
sheet_of_slot None = refl
sheet_of_slot (Some m) = refl

-- and is not lost
pub slot_of_not_lost : {M : Type 0} (x : Option M) → is_lost (slot_of x) ≡ false
slot_of_not_lost None = refl
slot_of_not_lost (Some m) = refl

-- the stores after an act
pub record Acted (ops : Algebra Sparse) (a : Act) (old new : List (List (Slot Sparse))) : Type 0 where
  pub table : IsTable (length old) 256 new
  pub none_lost : NoneLost new
  pub means : state_of new ≡ act ops a (state_of old)

module _ (ops : Algebra Sparse) (t : List (List (Slot Sparse))) (table : IsTable (length t) 256 t) (none : NoneLost t) (shut : Lanes) where
  abbrev Sound : Act → Type 0
  Sound = IsSound (length t) (shapes_of t) shut

  -- a move, done
  pub moved : (from to : ℕ) (tag : Tag) (slot into : ℕ) (source row new : List (Slot Sparse)) (x : Slot Sparse) → Sound (act_is.Move from to tag slot into) →
      source ≡ get_or t from source → row ≡ get_or t to row → x ≡ get_or source slot slot_is.Empty → new ≡ slice_set row into x → Acted ops (act_is.Move from to tag slot into) t (slice_set t to new)
  moved from to tag slot into source row new x sound a b e h =
      let one = first_below (length t) from (to ∷ []) sound.ranks_exist in
      let two = first_below (length t) to [] one.1 in
      let three = first_below 256 slot (into ∷ []) sound.slots_exist in
      let four = first_below 256 into [] three.1 in
      let is_x : x ≡ cell slot_is.Empty t from slot = e ∙ ap (λ r. get_or r slot slot_is.Empty) (read_at t from source [] one.0 a) in
      let kept : is_lost x ≡ false = ap is_lost is_x ∙ none from slot in
      let is_new : slice_set t to new ≡ cell_set t to into x = ap (slice_set t to) (h ∙ ap (λ r. slice_set r into x) (read_at t to row [] two.0 b)) in
      rw is_new (record {
        table = set_is_table (length t) 256 t to into x table two.0;
        none_lost = none_lost_after_set t table none to into x two.0 four.0 kept;
        means = same_state (state_of (cell_set t to into x)) (act ops (act_is.Move from to tag slot into) (state_of t))
            (λ r n. state_after_set t table none to into x two.0 four.0 kept r n ∙ ap (λ y. if to == r && into == n then y else state_of t r n) (ap sheet_of is_x));
      })

  -- an operation, done
  pub worked : (rank : ℕ) (op : Op) (row new : List (Slot Sparse)) → Sound (act_is.Work rank op) → row ≡ get_or t rank row →
      new ≡ slice_set row (target_of op) (slot_of (result_of ops op (sheets_in row))) → Acted ops (act_is.Work rank op) t (slice_set t rank new)
  worked rank op row new sound b h =
      let one = first_below (length t) rank [] sound.ranks_exist in
      let two = first_below 256 (target_of op) (operands_of op) sound.slots_exist in
      let is_row = read_at t rank row [] one.0 b in
      let x : Slot Sparse = slot_of (result_of ops op (state_of t rank)) in
      let kept : is_lost x ≡ false = slot_of_not_lost (result_of ops op (state_of t rank)) in
      let is_new : slice_set t rank new ≡ cell_set t rank (target_of op) x = ap (slice_set t rank) (h ∙ ap (λ r. slice_set r (target_of op) (slot_of (result_of ops op (sheets_in r)))) is_row) in
      rw is_new (record {
        table = set_is_table (length t) 256 t rank (target_of op) x table one.0;
        none_lost = none_lost_after_set t table none rank (target_of op) x one.0 two.0 kept;
        means = same_state (state_of (cell_set t rank (target_of op) x)) (act ops (act_is.Work rank op) (state_of t))
            (λ r n. state_after_set t table none rank (target_of op) x one.0 two.0 kept r n ∙ ap (λ y. if rank == r && target_of op == n then y else state_of t r n) (sheet_of_slot (result_of ops op (state_of t rank))));
      })
