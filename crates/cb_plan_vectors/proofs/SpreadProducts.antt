-- A matrix over a grid times a vector that is spread over its ranks: the slots before the plan and after it.
use Rattle.std.proofs.Common.{◌≡◌, ◌≢◌, ℕ, ◌+◌, ◌-◌, ◌*◌, ◌/◌, ◌%◌, ◌<◌, ◌≤◌, true, false, List, [], length, replicate, get_or, refl, sym, ap, subst, ⊎_elim, ◌∙◌, arith}
use Rattle.std.specs.Prelude.{Option, Some, None, ◌==◌, if◌then◌else◌}
use Rattle.std.proofs.lemmas.Bool.{cases_lt}
use Rattle.std.proofs.lemmas.Nat.{mod_below}
use Rattle.std.proofs.lemmas.List.{get_or_past}
use Rattle.std.proofs.lemmas.Option.{same_Some}
use Rattle.cb_semirings.specs.Arithmetic.{Arithmetic, IsSemiring}
use Rattle.cb_matrix.specs.Sparse.{Sparse, Extent, IsMatrix}
use Rattle.cb_matrix.specs.Values.{product}
use Rattle.cb_grid.specs.Parts.{part_length, part_shape}
use Rattle.cb_grid.specs.Blocks.{block_at, block_of, glued}
use Rattle.cb_grid.specs.Pieces.{piece_start, piece_shape, piece_of}
use Rattle.cb_plan_vectors.specs.Vectors.{glued_pieces}
use Rattle.cb_grid.proofs.Parts.{rank_of, row_below, rank_below}
use Rattle.cb_grid.proofs.Cuts.{glued_cut}
use Rattle.cb_plan_vectors.proofs.VectorPieces.{glued_pieces_cut}
use Rattle.cb_plan.specs.declared.acts.Act.{Act}
use Rattle.cb_plan.specs.declared.stores.Slot.{Slot}
use Rattle.cb_plan.specs.declared.stores.Slot.TheVariants as slot_is
use Rattle.cb_plan.specs.Algebras.{matrices}
use Rattle.cb_plan.specs.Checks.{started}
use Rattle.cb_plan.specs.Meaning.{meaning, one}
use Rattle.cb_plan.specs.Stores.{state_of, sheet_of, is_lost, is_filled, shapes_of, Fits}
use Rattle.cb_plan.specs.PlanTables.{cell, IsTable}
use Rattle.cb_plan.proofs.Cells.{blank_cell}
use Rattle.cb_plan.proofs.Effects.{split, same_state}
use Rattle.cb_plan_parts.proofs.Grid.{at_place}
use Rattle.cb_plan_operations.specs.VectorPlans.{column, vector_starts, IsVectorPlan, LeavesResult}
use Rattle.cb_plan_operations.proofs.VectorStarts.{vector_starts_there, vector_starts_elsewhere}
use Rattle.cb_plan_slots.specs.Slots.{Filled}
use Rattle.cb_plan_slots.specs.Losses.{IsLostOr, LostOrMeans, AreFilled}
use Rattle.cb_plan_vectors.specs.SpreadVectors.{HasSpread, HasProduct}
use Rattle.cb_plan_slots.proofs.GatheredParts.{lost_or_filled, block_meant}
use Rattle.cb_planner.proofs.ProductPlans.{product_is_matrix}

-- two slots of each rank are filled: with a block, and with a piece
pub spread_filled : (s : Arithmetic) (q : ℕ) (a x : Sparse) (first second third : List (List (Slot Sparse))) (blocks pieces : List Sparse) → 0 < q → first ≡ replicate (q * q) (replicate 256 slot_is.Empty) →
    Filled (q * q) 0 (block_at blocks) first second → Filled (q * q) 1 (block_at pieces) second third →
    ((i j : ℕ) → i < q → j < q → block_at blocks (i * q + j) ≡ block_of s q a i j) → ((t j : ℕ) → t < q → j < q → block_at pieces (t * q + j) ≡ piece_of s q x j t) → HasSpread s q a x third
spread_filled s q a x first second third blocks pieces pos e one two left right = record {
  some = pos;
  table = two.table;
  cells = λ i j k l m.
      let r = i * q + j in
      let inside = rank_below q i j l m in
      let nothing : cell slot_is.Empty first r k ≡ slot_is.Empty = rw e (blank_cell slot_is.Empty (q * q) 256 r k) in
      two.cells r k inside
      ∙ ap (λ y. if 1 == k then slot_is.Sheet (block_at pieces r) else y) (one.cells r k inside)
      ∙ ap (λ y. if 1 == k then slot_is.Sheet y else (if 0 == k then slot_is.Sheet (block_at blocks r) else cell slot_is.Empty first r k)) (right i j l m)
      ∙ ap (λ y. if 1 == k then slot_is.Sheet (piece_of s q x j i) else (if 0 == k then slot_is.Sheet y else cell slot_is.Empty first r k)) (left i j l m)
      ∙ ap (λ y. if 1 == k then slot_is.Sheet (piece_of s q x j i) else (if 0 == k then slot_is.Sheet (block_of s q a i j) else y)) nothing;
}

-- piece t of part j of a vector has the shape of that piece
pub piece_has_shape : (s : Arithmetic) (q : ℕ) (x : Sparse) (j t : ℕ) → (piece_of s q x j t).shape ≡ piece_shape q x.shape j t
piece_has_shape s q x j t =
    let d = x.shape.rows in
    let rows : piece_start q d j (t + 1) - piece_start q d j t ≡ part_length q (part_length q d j) t = omega arith in
    let cols : x.shape.cols - 0 ≡ x.shape.cols = omega arith in
    λ k. record { rows = rows k; cols = cols k }

module _ (s : Arithmetic) (q : ℕ) (a x : Sparse) (stores : List (List (Slot Sparse))) (has : HasSpread s q a x stores) where
  -- what holds of each place holds of each rank
  each_rank : (P : ℕ → Type 0) → ((i j : ℕ) → i < q → j < q → P (i * q + j)) → (r : ℕ) → r < q * q → P r
  each_rank P h r l = subst P (rank_of q r) (h (r / q) (r % q) (row_below q r l) (mod_below r q has.some))

  past : (r k : ℕ) → q * q ≤ r → cell slot_is.Empty stores r k ≡ slot_is.Empty
  past r k l = let e = has.table.rows in ap (λ row. get_or row k slot_is.Empty) (get_or_past stores r [] (omega arith))

  shape_there : x.shape ≡ column a.shape.cols → (k i j : ℕ) → i < q → j < q → shapes_of stores (i * q + j) k ≡ started (vector_starts q a.shape) (i * q + j) k
  shape_there e k i j l m =
      ap (λ y. one (λ (b : Sparse). b.shape) (sheet_of y)) (has.cells i j k l m)
      ∙ split (1 == k)
      (λ t. rw t (ap Some (piece_has_shape s q x j i ∙ ap (λ (d : Extent). piece_shape q d j i) e)))
      (λ t. rw t (split (0 == k) (λ u. rw u refl) (λ u. rw u refl)))
      ∙ sym (vector_starts_there q a.shape (i * q + j) k (rank_below q i j l m)
      ∙ at_place (λ u v. if 1 == k then Some (piece_shape q (column a.shape.cols) v u) else (if 0 == k then Some (part_shape q a.shape u v) else None)) q i j m)

  -- the stores fit the plan
  pub spread_fits : x.shape ≡ column a.shape.cols → Fits (q * q) (vector_starts q a.shape) stores
  spread_fits e = record {
    table = has.table;
    shapes = same_state (shapes_of stores) (started (vector_starts q a.shape)) (λ r k. ⊎_elim
        (λ (l : r < q * q). each_rank (λ r. shapes_of stores r k ≡ started (vector_starts q a.shape) r k) (shape_there e k) r l)
        (λ (l : q * q ≤ r). ap (λ y. one (λ (b : Sparse). b.shape) (sheet_of y)) (past r k l) ∙ sym (vector_starts_elsewhere q a.shape r k l))
        (cases_lt r (q * q)));
    none_lost = λ r k. ⊎_elim
        (λ (l : r < q * q). each_rank (λ r. is_lost (cell slot_is.Empty stores r k) ≡ false) (λ i j m n. ap is_lost (has.cells i j k m n) ∙ split (1 == k) (λ t. rw t refl) (λ t. rw t (split (0 == k) (λ u. rw u refl) (λ u. rw u refl)))) r l)
        (λ (l : q * q ≤ r). ap is_lost (past r k l))
        (cases_lt r (q * q));
  }

  -- a run of the plan leaves the matrix and the product
  pub has_product : IsSemiring s → IsMatrix s a → IsMatrix s x → x.shape ≡ column a.shape.cols → (acts : List Act) → IsVectorPlan acts q a.shape →
      (after : List (List (Slot Sparse))) → IsTable (q * q) 256 after → LostOrMeans (meaning (matrices s) acts (state_of stores)) after → HasProduct s q a (product s a x) after
  has_product laws is_a is_x vector acts plan after table ran =
      let leaves : LeavesResult s q acts (state_of stores) (product s a x) = plan s laws a x is_a is_x refl vector (state_of stores) (λ i j l m. ap sheet_of (has.cells i j 0 l m)) (λ t j l m. ap sheet_of (has.cells t j 1 l m)) in
      record {
        some = has.some;
        table = table;
        matrix = is_a;
        column = product_is_matrix s laws a x is_a is_x;
        parts = λ i j l m. subst (λ (o : Option Sparse). IsLostOr o (cell slot_is.Empty after (i * q + j) 0)) (leaves.kept (i * q + j) ∙ ap sheet_of (has.cells i j 0 l m)) (ran (i * q + j) 0);
        pieces = λ i t l m. subst (λ (o : Option Sparse). IsLostOr o (cell slot_is.Empty after (i * q + t) 2)) (leaves.pieces i t l m) (ran (i * q + t) 2);
      }

module _ (s : Arithmetic) (q : ℕ) (a y : Sparse) (stores : List (List (Slot Sparse))) (has : HasProduct s q a y stores) where
  -- what holds of each place holds of each rank
  of_ranks : (P : ℕ → Type 0) → ((i j : ℕ) → i < q → j < q → P (i * q + j)) → (r : ℕ) → r < length stores → P r
  of_ranks P h r l =
      let inside : r < q * q = omega (arith, has.table.rows) in
      subst P (rank_of q r) (h (r / q) (r % q) (row_below q r inside) (mod_below r q has.some))

  -- no rank's slot 0 is empty
  pub parts_filled : AreFilled 0 stores
  parts_filled = of_ranks (λ r. is_filled (cell slot_is.Empty stores r 0) ≡ true) (λ i j l m. lost_or_filled (Some (block_of s q a i j)) (cell slot_is.Empty stores (i * q + j) 0) (has.parts i j l m) refl)

  -- the blocks of the matrix come out again
  module _ (blocks : List Sparse) (out : (r : ℕ) → r < length stores → state_of stores r 0 ≡ Some (block_at blocks r)) where
    same_blocks : (i j : ℕ) → i < q → j < q → block_at blocks (i * q + j) ≡ block_of s q a i j
    same_blocks i j l m =
        let r = i * q + j in
        let inside = rank_below q i j l m in
        same_Some _ _ (sym (block_meant (Some (block_of s q a i j)) (cell slot_is.Empty stores r 0) (block_at blocks r) (has.parts i j l m) (out r (omega (arith, has.table.rows)))))

    -- the blocks taken out of slot 0 have the shapes of the matrix's blocks
    pub blocks_shaped : (i j : ℕ) → i < q → j < q → (block_at blocks (i * q + j)).shape ≡ part_shape q a.shape i j
    blocks_shaped i j l m = ap (λ b. b.shape) (same_blocks i j l m)

    -- glued together, they are the matrix
    pub blocks_glued : IsSemiring s → glued s q a.shape (λ i j. block_at blocks (i * q + j)) ≡ a
    blocks_glued laws = glued_cut s laws q has.some a has.matrix (λ i j. block_at blocks (i * q + j)) same_blocks

  -- and so do the pieces of the product
  module _ (later : List (List (Slot Sparse))) (count : length later ≡ length stores) (others : (r n : ℕ) → 0 ≢ n → cell slot_is.Empty later r n ≡ cell slot_is.Empty stores r n) where
    pieces_left : (i t : ℕ) → i < q → t < q → IsLostOr (Some (piece_of s q y i t)) (cell slot_is.Empty later (i * q + t) 2)
    pieces_left i t l m = subst (λ (x : Slot Sparse). IsLostOr (Some (piece_of s q y i t)) x) (sym (others (i * q + t) 2 (let ne : 0 ≢ 2 = omega arith in ne))) (has.pieces i t l m)

    -- no rank's slot 2 is empty either
    pub pieces_filled : AreFilled 2 later
    pieces_filled r l = of_ranks (λ r. is_filled (cell slot_is.Empty later r 2) ≡ true) (λ i t m n. lost_or_filled (Some (piece_of s q y i t)) (cell slot_is.Empty later (i * q + t) 2) (pieces_left i t m n) refl) r (omega arith)

    module _ (pieces : List Sparse) (out : (r : ℕ) → r < length later → state_of later r 2 ≡ Some (block_at pieces r)) where
      same_pieces : (i t : ℕ) → i < q → t < q → block_at pieces (i * q + t) ≡ piece_of s q y i t
      same_pieces i t l m =
          let r = i * q + t in
          let inside = rank_below q i t l m in
          same_Some _ _ (sym (block_meant (Some (piece_of s q y i t)) (cell slot_is.Empty later r 2) (block_at pieces r) (pieces_left i t l m) (out r (omega (arith, has.table.rows)))))

      -- the blocks taken out of slot 2 have the shapes of the product's pieces
      pub pieces_shaped : (i t : ℕ) → i < q → t < q → (block_at pieces (i * q + t)).shape ≡ piece_shape q y.shape i t
      pieces_shaped i t l m = ap (λ b. b.shape) (same_pieces i t l m) ∙ piece_has_shape s q y i t

      -- glued together, they are the product
      pub pieces_glued : IsSemiring s → glued_pieces s q y.shape (λ i t. block_at pieces (i * q + t)) ≡ y
      pieces_glued laws = glued_pieces_cut s laws q has.some y has.column (λ i t. block_at pieces (i * q + t)) same_pieces
