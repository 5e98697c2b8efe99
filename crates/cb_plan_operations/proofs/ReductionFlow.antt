-- The acts of the sums of columns, and of rows, pass the check.
use Rattle.std.proofs.Common.{◌≡◌, ◌≢◌, ℕ, zero, suc, ◌+◌, ◌*◌, ◌/◌, ◌%◌, ◌<◌, ◌≤◌, true, List, [], ◌∷◌, ◌++◌, map, refl, sym, ap, subst, ◌∙◌, arith}
use Rattle.std.specs.Prelude.{Option, Some, is_some, nat_lt, nat_le}
use Rattle.std.specs.List.{range_with_len}
use Rattle.std.proofs.lemmas.Bool.Decides.{nat_tests}
use Rattle.std.proofs.lemmas.Nat.{mod_below}
use Rattle.cb_matrix.specs.Sparse.{Extent}
use Rattle.cb_plan.specs.declared.acts.Op.{Op}
use Rattle.cb_plan.specs.declared.acts.Op.TheVariants as op_is
use Rattle.cb_plan.specs.declared.acts.Act.{Act}
use Rattle.cb_plan.specs.Meaning.{State, meaning, one}
use Rattle.cb_plan.specs.Algebras.{shapes}
use Rattle.cb_plan.specs.Checks.{started, none_shut}
use Rattle.cb_grid.specs.declared.TheConstants.{LARGEST_SIDE}
use Rattle.cb_grid.specs.Parts.{part, part_length, part_shape}
use Rattle.cb_grid.proofs.Parts.{rank_of, row_below, rank_below}
use Rattle.cb_plan_parts.specs.PlanParts.{each_rank, operand_starts}
use Rattle.cb_plan_parts.specs.Flows.{Flows}
use Rattle.cb_plan_parts.proofs.Flows.{flows-append, each_flows}
use Rattle.cb_plan_parts.proofs.Everywhere.{each_here}
use Rattle.cb_plan_parts.proofs.PartStarts.{start_rises, start_within}
use Rattle.cb_plan_parts.proofs.Starts.{operand_parts}
use Rattle.cb_plan_operations.specs.GridPlans.{one_operand, mirror_acts}
use Rattle.cb_plan_operations.specs.VectorPlans.{each_works, piece_broadcasts, sum_ops}
use Rattle.cb_plan_operations.specs.ReductionPlans.{own_cut, own_cuts, own_ops, own_sums, gathered_sums, column_sums_acts, turned_sums_acts, turn_back_acts, row_sums_acts, turned}
use Rattle.cb_plan_operations.proofs.RankPrograms.{after_op, after_ops, CanDo, can_do_both, each_works_flow}
use Rattle.cb_plan_operations.proofs.VectorSteps.{no, pieces_come}
use Rattle.cb_plan_operations.proofs.VectorFlow.{below, pieces_flow, can_sum}
use Rattle.cb_plan_operations.proofs.Mirror.{mirror_flow}
use Rattle.cb_plan_operations.proofs.GatheredSums.{own_rows, after_broadcasts, sums_gathered, has_sums, after_turns, has_turns, after_turned_sums, has_turned_sums, after_mirror, has_mirrored, after_copies, has_copies, turned_means}

-- one row of this many columns
abbrev row : ℕ → Extent
row width = record { rows = 1; cols = width }

-- ---- what one rank does
module _ (q rank : ℕ) (few : q ≤ LARGEST_SIDE) (exists : rank < q * q) (rows : ℕ × ℕ) (width : ℕ) (rises : rows.0 ≤ rows.1) (inside : rows.1 ≤ 1) where
  can_cut : (a m : ℕ) (slots : ℕ → Option Extent) → a + m ≤ q → ((t : ℕ) → t < q → slots (10 + t) ≡ Some (row width)) → CanDo (q * q) rank slots (map (own_cut rows width) (range_with_len a m))
  can_cut a zero slots l has = tt
  can_cut a (suc m) slots l has =
      let here : slots (10 + a) ≡ Some (row width) = has a (omega arith) in
      let up : nat_le rows.0 rows.1 ≡ true = grind (arith, nat_tests) in
      let fits : nat_le rows.1 1 ≡ true = grind (arith, nat_tests) in
      let from : nat_le 0 width ≡ true = grind (arith, nat_tests) in
      let wide : nat_le width width ≡ true = grind (arith, nat_tests) in
      let exist : nat_lt (150 + a) 256 ≡ true = below (150 + a) (omega arith) in
      let exist_from : nat_lt (10 + a) 256 ≡ true = below (10 + a) (omega arith) in
      let next : ℕ → Option Extent = after_op shapes (own_cut rows width a) slots in
      let kept : (t : ℕ) → t < q → next (10 + t) ≡ slots (10 + t) = λ t b. rw (no (150 + a) (10 + t) (let ne : 150 + a ≢ 10 + t = omega arith in ne)) refl in (
        record { exists = exists; slots_exist = rw (exist, exist_from) refl; filled = rw here refl; agree = rw (here, up, fits, from, wide) refl },
        can_cut (a + 1) m next (omega arith) (λ t b. kept t b ∙ has t b),
      )

  -- it cuts its rows out of what came, and adds them up
  can_own : (slots : ℕ → Option Extent) → 0 < q → ((t : ℕ) → t < q → slots (10 + t) ≡ Some (row width)) → CanDo (q * q) rank slots (own_ops q rows width)
  can_own slots pos has =
      let d : Extent = shapes.cut rows (0, width) (row width) in
      can_do_both (q * q) rank slots (own_cuts q rows width) (sum_ops q) (can_cut 0 q slots (omega arith) has)
      (can_sum q rank few exists d (after_ops shapes (own_cuts q rows width) slots) pos
      (λ t b. own_rows shapes q few rows width t slots b ∙ rw (has t b) refl))

-- ---- what all ranks do
module _ (q : ℕ) (pos : 0 < q) (few : q ≤ LARGEST_SIDE) where
  abbrev Flow : State Extent → List Act → Type 0
  Flow state acts = Flows (q * q) none_shut state acts

  -- each rank has the sums of its block in slot 1
  gathered_flow : (shape : Extent) (state : State Extent) → ((t j : ℕ) → t < q → j < q → state (t * q + j) 1 ≡ Some (row (part_length q shape.cols j))) → Flow state (gathered_sums q shape)
  gathered_flow shape state has =
      let came : State Extent = after_broadcasts shapes q few shape state in
      flows-append (q * q) none_shut state (piece_broadcasts q) (each_works q (own_sums q shape))
      (pieces_flow q pos few shape (λ j t. row (part_length q shape.cols j)) state has)
      (each_works_flow q none_shut (own_sums q shape) came (λ r l.
      let i = r / q in
      let j = r % q in
      let h = row_below q r l in
      let m = mod_below r q pos in
      can_own q r few l (part q 1 i) (part_length q shape.cols j) (start_rises q 1 i) (start_within q 1 (i + 1)) (came r) pos
      (λ t b. subst (λ n. came n (10 + t) ≡ Some (row (part_length q shape.cols j))) (rank_of q r) (pieces_come shapes q state i j t h m b ∙ has t j b m))))

  module _ (a : Extent) (state : State Extent) (left : (i j : ℕ) → i < q → j < q → state (i * q + j) 0 ≡ Some (part_shape q a i j)) where
    one_flow : (op : Op) (st : State Extent) → ((i j : ℕ) → i < q → j < q → CanDo (q * q) (i * q + j) (st (i * q + j)) (op ∷ [])) → Flow st (each_rank q (λ _. op))
    one_flow op st can = each_flows q pos none_shut (λ _. op) st (λ i j l m. (can i j l m).0)

    -- the sums of the columns
    column_sums_flow_from : Flow state (column_sums_acts q a)
    column_sums_flow_from =
        let sums = each_rank q (λ _. op_is.ColumnSums 0 1) in
        flows-append (q * q) none_shut state sums (gathered_sums q a)
        (one_flow (op_is.ColumnSums 0 1) state (λ i j l m. (record { exists = rank_below q i j l m; slots_exist = refl; filled = rw (left i j l m) refl; agree = refl }, tt)))
        (gathered_flow a (meaning shapes sums state) (λ t j l m. has_sums shapes q few a state (part_shape q a) left t j l m))

    turned_flow : Flow state (turned_sums_acts q)
    turned_flow =
        let turns = each_rank q (λ _. op_is.Transpose 0 1) in
        let sums = each_rank q (λ _. op_is.ColumnSums 1 1) in
        let copies = each_rank q (λ _. op_is.Copy 2 1) in
        let b = part_shape q a in
        let second : State Extent = after_turns shapes q few a state b left in
        let third : State Extent = after_turned_sums shapes q few a state b left in
        let fourth : State Extent = after_mirror shapes q few a state b left in
        flows-append (q * q) none_shut state turns (sums ++ (mirror_acts q ++ copies))
        (one_flow (op_is.Transpose 0 1) state (λ i j l m. (record { exists = rank_below q i j l m; slots_exist = refl; filled = rw (left i j l m) refl; agree = refl }, tt)))
        (flows-append (q * q) none_shut second sums (mirror_acts q ++ copies)
        (one_flow (op_is.ColumnSums 1 1) second (λ i j l m. (record { exists = rank_below q i j l m; slots_exist = refl; filled = rw (has_turns shapes q few a state b left i j l m) refl; agree = refl }, tt)))
        (flows-append (q * q) none_shut third (mirror_acts q) copies
        (mirror_flow q pos third (λ i j l m. ap (λ x. is_some x) (has_turned_sums shapes q few a state b left i j l m)))
        (one_flow (op_is.Copy 2 1) fourth (λ i j l m. (record { exists = rank_below q i j l m; slots_exist = refl; filled = rw (has_mirrored shapes q few a state b left i j l m) refl; agree = refl }, tt)))))

    -- the sums of the rows
    row_sums_flow_from : Flow state (row_sums_acts q a)
    row_sums_flow_from =
        let b = part_shape q a in
        let copies : State Extent = after_copies shapes q few a state b left in
        let gathered : State Extent = meaning shapes (gathered_sums q (turned a)) copies in
        let turns = each_rank q (λ _. op_is.Transpose 2 1) in
        let has : (t j : ℕ) → t < q → j < q → copies (t * q + j) 1 ≡ Some (row (part_length q a.rows j)) = λ t j l m. has_copies shapes q few a state b left t j l m in
        let filled : (i j : ℕ) → i < q → j < q → is_some (gathered (i * q + j) 2) ≡ true =
        λ i j l m. ap (λ x. is_some x) (sums_gathered shapes q few (turned a) copies (λ t j. row (part_length q a.rows j)) pos has i j l m) in
        let back : Flow gathered (turn_back_acts q) =
        flows-append (q * q) none_shut gathered turns (mirror_acts q)
        (one_flow (op_is.Transpose 2 1) gathered (λ i j l m. (record { exists = rank_below q i j l m; slots_exist = refl; filled = rw (filled i j l m) refl; agree = refl }, tt)))
        (mirror_flow q pos (meaning shapes turns gathered) (λ i j l m.
        ap (λ x. is_some x) (each_here shapes q (λ _. op_is.Transpose 2 1) gathered i j l m ∙ ap (one shapes.transpose) (sums_gathered shapes q few (turned a) copies (λ t j. row (part_length q a.rows j)) pos has i j l m)))) in
        flows-append (q * q) none_shut state (turned_sums_acts q) (gathered_sums q (turned a) ++ turn_back_acts q) turned_flow
        (subst (λ (st : State Extent). Flow st (gathered_sums q (turned a) ++ turn_back_acts q)) (sym (turned_means shapes q few a state b left))
        (flows-append (q * q) none_shut copies (gathered_sums q (turned a)) (turn_back_acts q) (gathered_flow (turned a) copies has) back))

  -- from the parts of an operand the acts pass, and shut no lane
  pub column_sums_flow : (a : Extent) → Flow (started (operand_starts q (one_operand a))) (column_sums_acts q a)
  column_sums_flow a = column_sums_flow_from a (started (operand_starts q (one_operand a))) (operand_parts q (one_operand a) 0 a (λ r. refl))

  pub row_sums_flow : (a : Extent) → Flow (started (operand_starts q (one_operand a))) (row_sums_acts q a)
  row_sums_flow a = row_sums_flow_from a (started (operand_starts q (one_operand a))) (operand_parts q (one_operand a) 0 a (λ r. refl))
