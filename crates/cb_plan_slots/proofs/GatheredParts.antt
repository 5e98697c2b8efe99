-- The matrix whose parts are in one slot of the ranks.
use Rattle.std.proofs.Common.{◌≡◌, ℕ, ◌+◌, ◌*◌, ◌/◌, ◌%◌, ◌<◌, ◌≤◌, true, false, List, [], length, get_or, refl, sym, ap, subst, ⊎_elim, ◌∙◌, arith}
use Rattle.std.specs.Prelude.{Option, Some, None, IsSome}
use Rattle.std.proofs.lemmas.Bool.{cases_lt}
use Rattle.std.proofs.lemmas.Nat.{mod_below}
use Rattle.std.proofs.lemmas.List.{get_or_past}
use Rattle.cb_semirings.specs.Arithmetic.{Arithmetic, IsSemiring}
use Rattle.cb_matrix.specs.Sparse.{Sparse, Extent, IsMatrix}
use Rattle.cb_matrix.specs.Values.{empty_matrix}
use Rattle.cb_grid.specs.Parts.{part_shape}
use Rattle.cb_grid.specs.Blocks.{block_at, block_of, glued}
use Rattle.cb_grid.proofs.Parts.{rank_of, row_below, rank_below}
use Rattle.cb_grid.proofs.Cuts.{glued_cut}
use Rattle.cb_plan.specs.declared.stores.Slot.{Slot}
use Rattle.cb_plan.specs.declared.stores.Slot.TheVariants as slot_is
use Rattle.cb_plan.specs.Meaning.{State, one}
use Rattle.cb_plan.specs.Stores.{state_of, sheet_of, is_filled}
use Rattle.cb_plan.specs.PlanTables.{cell}
use Rattle.cb_plan_slots.specs.Answers.{HasShapes, block_or, gathered}
use Rattle.cb_plan_slots.specs.Losses.{IsLostOr, LostOrMeans, AreFilled}

some_there : (x : Option Sparse) (e : Extent) → one (λ (m : Sparse). m.shape) x ≡ Some e → IsSome x
some_there (Some m) e h = refl
some_there None e h = cc

-- if a block is meant, a slot that has it or is lost isn't empty
pub lost_or_filled : (meant : Option Sparse) (x : Slot Sparse) → IsLostOr meant x → IsSome meant → is_filled x ≡ true
lost_or_filled meant slot_is.Empty h some = let none : false ≡ true = subst (λ (m : Option Sparse). IsSome m) h some in cc
lost_or_filled meant (slot_is.Sheet m) h some = refl
lost_or_filled meant (slot_is.Lost origin) h some = refl

-- the block that it has is the one that is meant
pub block_meant : (meant : Option Sparse) (x : Slot Sparse) (b : Sparse) → IsLostOr meant x → sheet_of x ≡ Some b → meant ≡ Some b
block_meant meant slot_is.Empty b h is = cc
block_meant meant (slot_is.Sheet m) b h is = h ∙ is
block_meant meant (slot_is.Lost origin) b h is = cc

-- each rank has a block there, or it is lost
pub filled_there : (q : ℕ) (shape : Extent) (n : ℕ) (stores : List (List (Slot Sparse))) (state : State Sparse) → LostOrMeans state stores → length stores ≡ q * q → HasShapes q shape n state → AreFilled n stores
filled_there q shape n stores state left ranks h r l =
    let inside : r < q * q = omega arith in
    let row = row_below q r inside in
    let there = h (r / q) (r % q) row (mod_below r q (omega arith)) in
    lost_or_filled (state r n) (cell slot_is.Empty stores r n) (left r n)
    (subst (λ k. IsSome (state k n)) (rank_of q r) (some_there (state ((r / q) * q + r % q) n) (part_shape q shape (r / q) (r % q)) there))

-- the blocks that were taken out of the slot are those that are meant there
module _ (n : ℕ) (stores : List (List (Slot Sparse))) (blocks : List Sparse) (count : length blocks ≡ length stores) (are : (r : ℕ) → r < length stores → state_of stores r n ≡ Some (block_at blocks r)) (state : State Sparse) (left : LostOrMeans state stores) where
  meant_there : (r : ℕ) → r < length stores → state r n ≡ Some (block_at blocks r)
  meant_there r l = block_meant (state r n) (cell slot_is.Empty stores r n) (block_at blocks r) (left r n) (are r l)

  none_meant : (r : ℕ) → length stores ≤ r → state r n ≡ None
  none_meant r l = subst (λ (x : Slot Sparse). IsLostOr (state r n) x) (ap (λ row. get_or row n slot_is.Empty) (get_or_past stores r [] l)) (left r n)

  same_block : (r : ℕ) → block_at blocks r ≡ block_or (state r n)
  same_block r = ⊎_elim
      (λ (l : r < length stores). sym (ap block_or (meant_there r l)))
      (λ (l : length stores ≤ r). get_or_past blocks r (empty_matrix (record { rows = 0; cols = 0 })) (omega arith) ∙ sym (ap block_or (none_meant r l)))
      (cases_lt r (length stores))

  -- glued together, the blocks that were taken out are what is gathered from the state that is meant
  pub glued_gathered : (s : Arithmetic) (q : ℕ) (shape : Extent) → glued s q shape (λ i j. block_at blocks (i * q + j)) ≡ gathered s q shape n state
  glued_gathered s q shape = ap (glued s q shape) (λ t i j. same_block (i * q + j) t)

  -- they have the shapes of the parts
  pub shapes_there : (q : ℕ) (shape : Extent) → length stores ≡ q * q → HasShapes q shape n state → (i j : ℕ) → i < q → j < q → (block_at blocks (i * q + j)).shape ≡ part_shape q shape i j
  shapes_there q shape ranks h i j l m =
      let inside = rank_below q i j l m in
      let both : one (λ (b : Sparse). b.shape) (Some (block_at blocks (i * q + j))) ≡ Some (part_shape q shape i j) =
      ap (one (λ (b : Sparse). b.shape)) (sym (meant_there (i * q + j) (omega arith))) ∙ h i j l m in
      cc

-- the blocks that were taken out of a slot of all ranks are those that it held
module _ (n : ℕ) (stores : List (List (Slot Sparse))) (blocks : List Sparse) (count : length blocks ≡ length stores) (are : (r : ℕ) → r < length stores → state_of stores r n ≡ Some (block_at blocks r)) where
  stood_there : (r : ℕ) → block_at blocks r ≡ block_or (state_of stores r n)
  stood_there r = ⊎_elim
      (λ (l : r < length stores). sym (ap block_or (are r l)))
      (λ (l : length stores ≤ r).
      let none : state_of stores r n ≡ None = ap (λ row. sheet_of (get_or row n slot_is.Empty)) (get_or_past stores r [] l) in
      get_or_past blocks r (empty_matrix (record { rows = 0; cols = 0 })) (omega arith) ∙ sym (ap block_or none))
      (cases_lt r (length stores))

  -- glued together they are what is gathered from the slot
  pub held_gathered : (s : Arithmetic) (q : ℕ) (shape : Extent) → glued s q shape (λ i j. block_at blocks (i * q + j)) ≡ gathered s q shape n (state_of stores)
  held_gathered s q shape = ap (glued s q shape) (λ t i j. stood_there (i * q + j) t)

-- the parts of a matrix have the shapes of its parts, and gathered they are the matrix
module _ (s : Arithmetic) (q : ℕ) (m : Sparse) (n : ℕ) (state : State Sparse) (parts : (i j : ℕ) → i < q → j < q → state (i * q + j) n ≡ Some (block_of s q m i j)) where
  -- if each rank has its part of a matrix in a slot, the slots have the shapes of the parts
  pub shapes_of_parts : HasShapes q m.shape n state
  shapes_of_parts i j l k = ap (one (λ (b : Sparse). b.shape)) (parts i j l k)

  -- what is gathered from them is the matrix
  pub gathered_parts : IsSemiring s → 0 < q → IsMatrix s m → gathered s q m.shape n state ≡ m
  gathered_parts laws pos is = glued_cut s laws q pos m is (λ i j. block_or (state (i * q + j) n)) (λ i j l k. ap block_or (parts i j l k))
