-- What each step of the sums of columns, and of rows, does to the slots, over blocks of any kind.
use Rattle.std.proofs.Common.{◌≡◌, ◌≢◌, ℕ, zero, suc, ◌+◌, ◌-◌, ◌*◌, ◌/◌, ◌%◌, ◌<◌, ◌≤◌, ◌++◌, map, inl, refl, ap, subst, ◌∙◌, arith}
use Rattle.std.specs.Prelude.{Option, Some, ◌==◌}
use Rattle.std.specs.List.{range_with_len}
use Rattle.std.proofs.lemmas.Bool.Decides.{nat_tests}
use Rattle.cb_matrix.specs.Sparse.{Extent}
use Rattle.cb_plan.specs.declared.acts.Op.TheVariants as op_is
use Rattle.cb_plan.specs.Meaning.{Algebra, State, meaning, one}
use Rattle.cb_plan.proofs.Effects.{split, meaning-append}
use Rattle.cb_grid.specs.declared.TheConstants.{LARGEST_SIDE}
use Rattle.cb_grid.specs.Parts.{part, part_length}
use Rattle.cb_grid.proofs.Parts.{rank_below}
use Rattle.cb_plan_parts.specs.PlanParts.{each_rank}
use Rattle.cb_plan_parts.proofs.Everywhere.{each_here, each_elsewhere}
use Rattle.cb_plan_parts.proofs.Grid.{at_place}
use Rattle.cb_plan_operations.specs.GridPlans.{mirror_acts}
use Rattle.cb_plan_operations.specs.VectorPlans.{each_works, piece_broadcasts, sum_ops}
use Rattle.cb_plan_operations.specs.ReductionPlans.{own_cut, own_cuts, own_ops, own_sums, gathered_sums, turned_sums_acts, turn_back_acts}
use Rattle.cb_plan_operations.proofs.RankPrograms.{after_op, after_ops, after_ops-append, ops_skip, each_works_here, each_works_skip}
use Rattle.cb_plan_operations.proofs.VectorSteps.{yes, no, summed, pieces_come, pieces_skip, sum_made, sums_skip}
use Rattle.cb_plan_operations.proofs.Mirror.{mirror_keeps, mirror_brings}

module _ {M : Type 0} (ops : Algebra M) (q : ℕ) (few : q ≤ LARGEST_SIDE) where
  -- ---- one rank
  cuts_make : (rows : ℕ × ℕ) (width a m t : ℕ) (slots : ℕ → Option M) → t < q → a ≤ t → t < a + m →
      after_ops ops (map (own_cut rows width) (range_with_len a m)) slots (150 + t) ≡ one (ops.cut rows (0, width)) (slots (10 + t))
  cuts_make rows width a zero t slots few_t l h = absurd (omega arith)
  cuts_make rows width a (suc m) t slots few_t l h =
      let next : ℕ → Option M = after_op ops (own_cut rows width a) slots in
      split (a == t)
      (λ u.
      let e : a ≡ t = grind (arith, nat_tests) in
      ops_skip ops (own_cut rows width) (150 + t) (a + 1) m next (λ k b. let ne : 150 + k ≢ 150 + t = omega arith in ne)
      ∙ subst (λ x. next (150 + x) ≡ one (ops.cut rows (0, width)) (slots (10 + x))) e (rw (yes (150 + a)) refl))
      (λ u.
      let kept : next (10 + t) ≡ slots (10 + t) = rw (no (150 + a) (10 + t) (let ne : 150 + a ≢ 10 + t = omega arith in ne)) refl in
      cuts_make rows width (a + 1) m t next few_t (grind (arith, nat_tests)) (omega arith) ∙ ap (one (ops.cut rows (0, width))) kept)

  -- slots from 150 on have its rows of what came
  pub own_rows : (rows : ℕ × ℕ) (width t : ℕ) (slots : ℕ → Option M) → t < q → after_ops ops (own_cuts q rows width) slots (150 + t) ≡ one (ops.cut rows (0, width)) (slots (10 + t))
  own_rows rows width t slots l = cuts_make rows width 0 q t slots l (omega arith) (omega arith)

  -- slot 2 has their sum
  pub own_made : (rows : ℕ × ℕ) (width : ℕ) (block : ℕ → M) (slots : ℕ → Option M) → 0 < q → ((t : ℕ) → t < q → slots (10 + t) ≡ Some (block t)) →
      after_ops ops (own_ops q rows width) slots 2 ≡ Some (summed ops (λ t. ops.cut rows (0, width) (block t)) (q - 1))
  own_made rows width block slots pos has =
      ap (λ s. s 2) (after_ops-append ops (own_cuts q rows width) (sum_ops q) slots)
      ∙ sum_made ops q (λ t. ops.cut rows (0, width) (block t)) (after_ops ops (own_cuts q rows width) slots)
      (λ t l. let m : t < q = omega arith in own_rows rows width t slots m ∙ ap (one (ops.cut rows (0, width))) (has t m))

  -- slot 0 stays
  own_keeps : (rows : ℕ × ℕ) (width : ℕ) (slots : ℕ → Option M) → after_ops ops (own_ops q rows width) slots 0 ≡ slots 0
  own_keeps rows width slots =
      ap (λ s. s 0) (after_ops-append ops (own_cuts q rows width) (sum_ops q) slots)
      ∙ sums_skip ops q (after_ops ops (own_cuts q rows width) slots) 0 (omega arith)
      ∙ ops_skip ops (own_cut rows width) 0 0 q slots (λ k _. let ne : 150 + k ≢ 0 = omega arith in ne)

  -- ---- all ranks
  module _ (shape : Extent) (state : State M) where
    -- once the sums of each column of ranks have come
    abbrev pub after_broadcasts : State M
    after_broadcasts = meaning ops (piece_broadcasts q) state

    -- each rank has its part of what the ranks of its column have together
    pub sums_gathered : (sums : ℕ → ℕ → M) → 0 < q → ((t j : ℕ) → t < q → j < q → state (t * q + j) 1 ≡ Some (sums t j)) → (i j : ℕ) → i < q → j < q →
        meaning ops (gathered_sums q shape) state (i * q + j) 2 ≡ Some (summed ops (λ t. ops.cut (part q 1 i) (0, part_length q shape.cols j) (sums t j)) (q - 1))
    sums_gathered sums pos has i j l m =
        ap (λ st. st (i * q + j) 2) (meaning-append ops (piece_broadcasts q) (each_works q (own_sums q shape)) state)
        ∙ ap (λ slots. slots 2) (each_works_here ops q (own_sums q shape) after_broadcasts (i * q + j) (rank_below q i j l m))
        ∙ at_place (λ x y. after_ops ops (own_ops q (part q 1 x) (part_length q shape.cols y)) (after_broadcasts (i * q + j)) 2) q i j m
        ∙ own_made (part q 1 i) (part_length q shape.cols j) (λ t. sums t j) (after_broadcasts (i * q + j)) pos (λ t h. pieces_come ops q state i j t l m h ∙ has t j h m)

    -- and slot 0 as it was
    pub gathered_keeps : (r : ℕ) → meaning ops (gathered_sums q shape) state r 0 ≡ state r 0
    gathered_keeps r =
        ap (λ st. st r 0) (meaning-append ops (piece_broadcasts q) (each_works q (own_sums q shape)) state)
        ∙ each_works_skip ops q (own_sums q shape) after_broadcasts r 0 (λ g slots. own_keeps (part q 1 (g / q)) (part_length q shape.cols (g % q)) slots)
        ∙ pieces_skip ops q state r 0 (inl (omega arith))

    -- ---- from the blocks of a matrix in slot 0
    module _ (block : ℕ → ℕ → M) (left : (i j : ℕ) → i < q → j < q → state (i * q + j) 0 ≡ Some (block i j)) where
      abbrev pub after_sums : State M
      after_sums = meaning ops (each_rank q (λ _. op_is.ColumnSums 0 1)) state

      pub has_sums : (i j : ℕ) → i < q → j < q → after_sums (i * q + j) 1 ≡ Some (ops.column_sums (block i j))
      has_sums i j l m = each_here ops q (λ _. op_is.ColumnSums 0 1) state i j l m ∙ ap (one ops.column_sums) (left i j l m)

      -- the transposed blocks, in slot 1
      abbrev pub after_turns : State M
      after_turns = meaning ops (each_rank q (λ _. op_is.Transpose 0 1)) state

      pub has_turns : (i j : ℕ) → i < q → j < q → after_turns (i * q + j) 1 ≡ Some (ops.transpose (block i j))
      has_turns i j l m = each_here ops q (λ _. op_is.Transpose 0 1) state i j l m ∙ ap (one ops.transpose) (left i j l m)

      -- the sums of their columns
      abbrev pub after_turned_sums : State M
      after_turned_sums = meaning ops (each_rank q (λ _. op_is.ColumnSums 1 1)) after_turns

      pub has_turned_sums : (i j : ℕ) → i < q → j < q → after_turned_sums (i * q + j) 1 ≡ Some (ops.column_sums (ops.transpose (block i j)))
      has_turned_sums i j l m = each_here ops q (λ _. op_is.ColumnSums 1 1) after_turns i j l m ∙ ap (one ops.column_sums) (has_turns i j l m)

      -- across the diagonal
      abbrev pub after_mirror : State M
      after_mirror = meaning ops (mirror_acts q) after_turned_sums

      pub has_mirrored : (i j : ℕ) → i < q → j < q → after_mirror (i * q + j) 2 ≡ Some (ops.column_sums (ops.transpose (block j i)))
      has_mirrored i j l m = mirror_brings ops q after_turned_sums i j l m ∙ has_turned_sums j i m l

      -- and in slot 1 again
      abbrev pub after_copies : State M
      after_copies = meaning ops (each_rank q (λ _. op_is.Copy 2 1)) after_mirror

      pub has_copies : (i j : ℕ) → i < q → j < q → after_copies (i * q + j) 1 ≡ Some (ops.column_sums (ops.transpose (block j i)))
      has_copies i j l m = each_here ops q (λ _. op_is.Copy 2 1) after_mirror i j l m ∙ has_mirrored i j l m

      pub turned_means : meaning ops (turned_sums_acts q) state ≡ after_copies
      turned_means =
          let sums = each_rank q (λ _. op_is.ColumnSums 1 1) in
          let copies = each_rank q (λ _. op_is.Copy 2 1) in
          meaning-append ops (each_rank q (λ _. op_is.Transpose 0 1)) (sums ++ (mirror_acts q ++ copies)) state
          ∙ meaning-append ops sums (mirror_acts q ++ copies) after_turns
          ∙ meaning-append ops (mirror_acts q) copies after_turned_sums

      pub copies_keep : (r : ℕ) → after_copies r 0 ≡ state r 0
      copies_keep r =
          each_elsewhere ops q (λ _. op_is.Copy 2 1) after_mirror r 0 (omega arith)
          ∙ mirror_keeps ops q after_turned_sums r 0 refl
          ∙ each_elsewhere ops q (λ _. op_is.ColumnSums 1 1) after_turns r 0 (omega arith)
          ∙ each_elsewhere ops q (λ _. op_is.Transpose 0 1) state r 0 (omega arith)

-- what slot 2 of the ranks has goes back across the diagonal, transposed
module _ {M : Type 0} (ops : Algebra M) (q : ℕ) (state : State M) where
  pub turned_back : (block : ℕ → ℕ → M) → ((i j : ℕ) → i < q → j < q → state (i * q + j) 2 ≡ Some (block i j)) → (i j : ℕ) → i < q → j < q → meaning ops (turn_back_acts q) state (i * q + j) 2 ≡ Some (ops.transpose (block j i))
  turned_back block has i j l m =
      let turns = each_rank q (λ _. op_is.Transpose 2 1) in
      ap (λ st. st (i * q + j) 2) (meaning-append ops turns (mirror_acts q) state)
      ∙ mirror_brings ops q (meaning ops turns state) i j l m
      ∙ each_here ops q (λ _. op_is.Transpose 2 1) state j i m l
      ∙ ap (one ops.transpose) (has j i m l)

  pub turn_back_keeps : (r : ℕ) → meaning ops (turn_back_acts q) state r 0 ≡ state r 0
  turn_back_keeps r =
      let turns = each_rank q (λ _. op_is.Transpose 2 1) in
      ap (λ st. st r 0) (meaning-append ops turns (mirror_acts q) state)
      ∙ mirror_keeps ops q (meaning ops turns state) r 0 refl
      ∙ each_elsewhere ops q (λ _. op_is.Transpose 2 1) state r 0 (omega arith)
