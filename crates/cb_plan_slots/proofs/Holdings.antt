-- Matrices whose blocks are in slots of the ranks: they fit the starts of a plan's operands, and are there.
use Rattle.std.proofs.Common.{◌≡◌, ℕ, zero, suc, ◌+◌, ◌*◌, ◌<◌, ◌≤◌, false, List, [], ◌∷◌, ◌++◌, replicate, get_or, refl, sym, ap, ⊎_elim, ◌∙◌, arith}
use Rattle.std.specs.Prelude.{Some, ◌==◌, if◌then◌else◌}
use Rattle.std.proofs.lemmas.Bool.{cases_lt}
use Rattle.std.proofs.lemmas.List.{get_or_past}
use Rattle.cb_semirings.specs.Arithmetic.{Arithmetic}
use Rattle.cb_matrix.specs.Sparse.{Sparse}
use Rattle.cb_grid.specs.Blocks.{block_of}
use Rattle.cb_grid.proofs.Parts.{rank_below}
use Rattle.cb_plan.specs.declared.stores.Slot.{Slot}
use Rattle.cb_plan.specs.declared.stores.Slot.TheVariants as slot_is
use Rattle.cb_plan.specs.Meaning.{one}
use Rattle.cb_plan.specs.Checks.{started}
use Rattle.cb_plan.specs.Stores.{state_of, sheet_of, is_lost, shapes_of, Fits}
use Rattle.cb_plan.specs.PlanTables.{cell}
use Rattle.cb_plan.proofs.Cells.{blank_cell, blank_is_table}
use Rattle.cb_plan.proofs.Effects.{split, same_state}
use Rattle.cb_plan_parts.specs.PlanParts.{operand_starts, HasParts}
use Rattle.cb_plan_parts.proofs.Grid.{at_place}
use Rattle.cb_plan_parts.proofs.Starts.{shape_with, operands_there, operands_elsewhere}
use Rattle.cb_plan_slots.specs.Slots.{Filled, HasOperands, block_of_rank, slot_with, operands_of}

some_side : (q : ℕ) → 1 ≤ q * q → 0 < q
some_side zero h = absurd (omega arith)
some_side (suc q) h = omega arith

-- nothing is there at first
pub blank_operands : (s : Arithmetic) (q : ℕ) (stores : List (List (Slot Sparse))) → 1 ≤ q * q → stores ≡ replicate (q * q) (replicate 256 slot_is.Empty) → HasOperands s q [] stores
blank_operands s q stores ranks e = rw e (record {
  some = some_side q ranks;
  table = blank_is_table slot_is.Empty (q * q) 256;
  cells = λ r k l. blank_cell slot_is.Empty (q * q) 256 r k;
})

module _ (s : Arithmetic) (q : ℕ) where
  with_last : (r : ℕ) (ps : List (ℕ × Sparse)) (n : ℕ) (m : Sparse) (k : ℕ) (x : Slot Sparse) → slot_with s q r (ps ++ (n, m) ∷ []) k x ≡ (if n == k then slot_is.Sheet (block_of_rank s q m r) else slot_with s q r ps k x)
  with_last r [] n m k x = refl
  with_last r (p ∷ ps) n m k x = with_last r ps n m k (if p.0 == k then slot_is.Sheet (block_of_rank s q p.1 r) else x)

  -- the blocks of one matrix more are put into a slot
  pub one_operand_more : (ps : List (ℕ × Sparse)) (n : ℕ) (m : Sparse) (old new : List (List (Slot Sparse))) → HasOperands s q ps old → Filled (q * q) n (block_of_rank s q m) old new → HasOperands s q (ps ++ (n, m) ∷ []) new
  one_operand_more ps n m old new h filled = record {
    some = h.some;
    table = filled.table;
    cells = λ r k l.
        filled.cells r k l
        ∙ ap (λ x. if n == k then slot_is.Sheet (block_of_rank s q m r) else x) (h.cells r k l)
        ∙ sym (with_last r ps n m k slot_is.Empty);
  }

  -- the shapes there are those that the starts say
  shape_there : (r : ℕ) (ps : List (ℕ × Sparse)) (k : ℕ) (x : Slot Sparse) → one (λ (m : Sparse). m.shape) (sheet_of (slot_with s q r ps k x)) ≡ shape_with q r (operands_of ps) k (one (λ (m : Sparse). m.shape) (sheet_of x))
  shape_there r [] k x = refl
  shape_there r (p ∷ ps) k x =
      shape_there r ps k (if p.0 == k then slot_is.Sheet (block_of_rank s q p.1 r) else x)
      ∙ ap (shape_with q r (operands_of ps) k) (split (p.0 == k) (λ t. rw t refl) (λ t. rw t refl))

  not_lost : (r : ℕ) (ps : List (ℕ × Sparse)) (k : ℕ) (x : Slot Sparse) → is_lost x ≡ false → is_lost (slot_with s q r ps k x) ≡ false
  not_lost r [] k x h = h
  not_lost r (p ∷ ps) k x h = not_lost r ps k (if p.0 == k then slot_is.Sheet (block_of_rank s q p.1 r) else x) (split (p.0 == k) (λ t. rw t refl) (λ t. rw t h))

  module _ (ps : List (ℕ × Sparse)) (stores : List (List (Slot Sparse))) (h : HasOperands s q ps stores) where
    past : (r k : ℕ) → q * q ≤ r → cell slot_is.Empty stores r k ≡ slot_is.Empty
    past r k l = let e = h.table.rows in ap (λ row. get_or row k slot_is.Empty) (get_or_past stores r [] (omega arith))

    -- the stores fit a plan that starts from these operands
    pub operands_fit : Fits (q * q) (operand_starts q (operands_of ps)) stores
    operands_fit = record {
      table = h.table;
      shapes = same_state (shapes_of stores) (started (operand_starts q (operands_of ps))) (λ r k. ⊎_elim
          (λ (l : r < q * q). ap (λ x. one (λ (m : Sparse). m.shape) (sheet_of x)) (h.cells r k l) ∙ shape_there r ps k slot_is.Empty ∙ sym (operands_there q (operands_of ps) r k l))
          (λ (l : q * q ≤ r). ap (λ x. one (λ (m : Sparse). m.shape) (sheet_of x)) (past r k l) ∙ sym (operands_elsewhere q (operands_of ps) r k l))
          (cases_lt r (q * q)));
      none_lost = λ r k. ⊎_elim
          (λ (l : r < q * q). ap is_lost (h.cells r k l) ∙ not_lost r ps k slot_is.Empty refl)
          (λ (l : q * q ≤ r). ap is_lost (past r k l))
          (cases_lt r (q * q));
    }

    -- slot n has the parts of the matrix that was put there last
    pub parts_there : (n : ℕ) (m : Sparse) → ((r : ℕ) → slot_with s q r ps n slot_is.Empty ≡ slot_is.Sheet (block_of_rank s q m r)) → HasParts s q m n (state_of stores)
    parts_there n m is i j l k =
        ap sheet_of (h.cells (i * q + j) n (rank_below q i j l k) ∙ is (i * q + j))
        ∙ at_place (λ x y. Some (block_of s q m x y)) q i j k
