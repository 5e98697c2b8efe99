-- What the plans of processes bring each rank: its block of an operation's answer, its block of the sum of pieces, or its panel.
use Rattle.std.proofs.Common.{◌≡◌, ◌≢◌, ℕ, ◌+◌, ◌*◌, ◌/◌, ◌%◌, ◌<◌, ◌≤◌, true, false, List, [], ◌∷◌, get_or, refl, sym, ap, subst, ⊎_elim, ◌∙◌, arith}
use Rattle.std.specs.Prelude.{All, Option, Some, None, Bool, ◌==◌, if◌then◌else◌}
use Rattle.std.proofs.lemmas.Bool.{cases_lt}
use Rattle.std.proofs.lemmas.Bool.Decides.{nat_tests}
use Rattle.std.proofs.lemmas.List.{get_or_past}
use Rattle.std.proofs.lemmas.Nat.{mod_below}
use Rattle.cb_semirings.specs.Arithmetic.{Arithmetic, IsSemiring}
use Rattle.cb_matrix.specs.Sparse.{Sparse, Extent, IsMatrix}
use Rattle.cb_grid.specs.Blocks.{block_of}
use Rattle.cb_grid.proofs.Parts.{rank_of, row_below}
use Rattle.cb_plan.specs.declared.acts.Start.{Start}
use Rattle.cb_plan.specs.declared.stores.Slot.{Slot}
use Rattle.cb_plan.specs.declared.stores.Slot.TheVariants as slot_is
use Rattle.cb_plan.specs.Algebras.{matrices}
use Rattle.cb_plan.specs.Checks.{started, started_from}
use Rattle.cb_plan.specs.Meaning.{State, meaning, one}
use Rattle.cb_plan.specs.Plans.{CheckedView}
use Rattle.cb_plan.specs.PlanTables.{cell}
use Rattle.cb_plan.specs.Stores.{state_of, sheet_of, is_lost, shapes_of, Fits}
use Rattle.cb_plan.proofs.Effects.{split, same_state}
use Rattle.cb_plan_parts.proofs.Starts.{starts_there, starts_elsewhere}
use Rattle.cb_plan_slots.specs.Slots.{HasOperands, block_of_rank}
use Rattle.cb_plan_slots.proofs.Holdings.{operands_fit, parts_there}
use Rattle.cb_plan_slots.proofs.MadeMatrices.{made_fits}
use Rattle.cb_plan_transfers.specs.Panels.{panel_of}
use Rattle.cb_plan_transfers.specs.Pieces.{HasPieces, sum_of_pieces}
use Rattle.cb_plan_transfers.specs.WholeStarts.{all_whole, whole_start}
use Rattle.cb_operations.specs.declared.operations.Operation.{Operation}
use Rattle.cb_operations.specs.OperationAnswers.{answer_of, shape_of, shapes_in}
use Rattle.cb_planner.specs.OperationPlans.{placed_operands}
use Rattle.cb_rank_process.specs.Results.{Brings, HavePieces}
use Rattle.cb_rank_process.specs.Begun.{IsPanelsPlanOf, IsPlanOf, answer_block, panel_of_rank}
use Rattle.cb_rank_process.specs.Texts.{IsPiecesPlanOf, sum_block}

-- what is in a slot of each rank of a grid, by the rank's number
by_number : (q : ℕ) → 0 < q → (part : ℕ → ℕ → Sparse) (state : State Sparse) (n : ℕ) → ((i j : ℕ) → i < q → j < q → state (i * q + j) n ≡ Some (part i j))
    → (r : ℕ) → r < q * q → state r n ≡ Some (part (r / q) (r % q))
by_number q some part state n has r below = ap (λ k. state k n) (sym (rank_of q r)) ∙ has (r / q) (r % q) (row_below q r below) (mod_below r q some)

-- the plan of an operation brings each rank its block of the answer
pub answer_brought : (s : Arithmetic) → IsSemiring s → (operation : Operation) (q : ℕ) (ms : List Sparse) (plan : CheckedView) (slot : ℕ) (first : List (List (Slot Sparse))) → All (IsMatrix s) ms
    → IsPlanOf operation q (shapes_in ms) plan slot → HasOperands s q (placed_operands ms) first → Brings s plan slot first (answer_block s q operation ms)
answer_brought s laws operation q ms plan slot first are is has =
    let answer : Sparse = answer_of operation s ms in
    let makes = is.computes s laws ms are refl in
    let made : CheckedView = record { ranks = is.planned.plan.ranks; starts = is.planned.starts.items; acts = is.planned.plan.acts } in
    let brought : Brings s made is.planned.result first (answer_block s q operation ms) = record {
      fits = made_fits s q (placed_operands ms) is.planned (shape_of operation (shapes_in ms)) answer makes first has;
      leaves = λ r l. by_number q has.some (block_of s q answer) (meaning (matrices s) is.planned.plan.acts (state_of first)) is.planned.result (makes.parts first has) r (subst (λ n. r < n) makes.ranks l);
    } in
    subst (λ (p : CheckedView). Brings s p slot first (answer_block s q operation ms)) (sym is.plan_is)
    (subst (λ n. Brings s made n first (answer_block s q operation ms)) (sym is.slot_is) brought)

-- the plan for writing brings each rank its panel of the matrix
pub panels_brought : (s : Arithmetic) → IsSemiring s → (q : ℕ) (m : Sparse) (plan : CheckedView) (slot : ℕ) (first : List (List (Slot Sparse))) → IsMatrix s m
    → IsPanelsPlanOf q m.shape plan slot → HasOperands s q ((0, m) ∷ []) first → Brings s plan slot first (panel_of_rank s q m)
panels_brought s laws q m plan slot first is_m is has = record {
  fits = rw (is.ranks, is.starts) (operands_fit s q ((0, m) ∷ []) first has);
  leaves = λ r l. by_number q has.some (panel_of s q m) (meaning (matrices s) plan.acts (state_of first)) slot
      (is.panels s laws m is_m refl (state_of first) (parts_there s q ((0, m) ∷ []) first has 0 m (λ _. refl))) r (subst (λ n. r < n) is.ranks l);
}

-- ---- pieces in slot 0 of the ranks
-- slot 0 has a block of this shape at the start
abbrev first_shape : Extent → ℕ → Option Extent → Option Extent
first_shape shape n x = if 0 == n then Some shape else x

others_kept : (shape : Extent) (k r n : ℕ) (state : State Extent) → (k == r) ≡ false → started_from (whole_start shape k) state r n ≡ state r n
others_kept shape k r n state f = rw f refl

own_set : (shape : Extent) (k n : ℕ) (state : State Extent) → started_from (whole_start shape k) state k n ≡ first_shape shape n (state k n)
own_set shape k n state = let e : (k == k) ≡ true = grind (arith, nat_tests) in rw e refl

module _ (s : Arithmetic) (q : ℕ) (shape : Extent) (pieces : ℕ → Sparse) (first : List (List (Slot Sparse))) (has : HavePieces s q shape pieces first) where
  no_rank : (r k : ℕ) → q * q ≤ r → cell slot_is.Empty first r k ≡ slot_is.Empty
  no_rank r k l = let e = has.table.rows in ap (λ row. get_or row k slot_is.Empty) (get_or_past first r [] (omega arith))

  shape_there : (r k : ℕ) → r < q * q → shapes_of first r k ≡ first_shape shape k None
  shape_there r k l =
      ap (λ x. one (λ (m : Sparse). m.shape) (sheet_of x)) (has.cells r k l)
      ∙ split (0 == k) (λ t. rw t (ap Some (has.each r l).shaped)) (λ t. rw t refl)

  none_there : (r k : ℕ) → r < q * q → is_lost (cell slot_is.Empty first r k) ≡ false
  none_there r k l = ap is_lost (has.cells r k l) ∙ split (0 == k) (λ t. rw t refl) (λ t. rw t refl)

  -- they fit a plan that starts from them
  pub pieces_fit : Fits (q * q) (all_whole q shape) first
  pieces_fit = record {
    table = has.table;
    shapes = same_state (shapes_of first) (started (all_whole q shape)) (λ r k. ⊎_elim
        (λ (l : r < q * q). shape_there r k l ∙ sym (starts_there (whole_start shape) (λ _ n x. first_shape shape n x) (others_kept shape) (own_set shape) 0 (q * q) (λ _ _. None) r k (omega arith) (omega arith)))
        (λ (l : q * q ≤ r).
        ap (λ x. one (λ (m : Sparse). m.shape) (sheet_of x)) (no_rank r k l)
        ∙ sym (starts_elsewhere (whole_start shape) (λ _ n x. first_shape shape n x) (others_kept shape) (own_set shape) 0 (q * q) (λ _ _. None) r k (λ i _ m. let ne : i ≢ r = omega arith in ne)))
        (cases_lt r (q * q)));
    none_lost = λ r k. ⊎_elim
        (λ (l : r < q * q). none_there r k l)
        (λ (l : q * q ≤ r). ap is_lost (no_rank r k l))
        (cases_lt r (q * q));
  }

  -- and are there before its first act
  pub pieces_there : HasPieces s q shape pieces 0 (state_of first)
  pieces_there = record { there = λ r l. ap sheet_of (has.cells r 0 l); each = has.each }

-- the plan for reading brings each rank its block of the sum of the pieces
pub pieces_brought : (s : Arithmetic) → IsSemiring s → (q : ℕ) (shape : Extent) (pieces : ℕ → Sparse) (plan : CheckedView) (slot : ℕ) (first : List (List (Slot Sparse)))
    → IsPiecesPlanOf q shape plan slot → HavePieces s q shape pieces first → Brings s plan slot first (sum_block s q shape pieces)
pieces_brought s laws q shape pieces plan slot first is has = record {
  fits = rw (is.ranks, is.starts) (pieces_fit s q shape pieces first has);
  leaves = λ r l. by_number q has.some (block_of s q (sum_of_pieces s (q * q) shape pieces)) (meaning (matrices s) plan.acts (state_of first)) slot
      (is.parts s laws pieces (state_of first) (pieces_there s q shape pieces first has)) r (subst (λ n. r < n) is.ranks l);
}
