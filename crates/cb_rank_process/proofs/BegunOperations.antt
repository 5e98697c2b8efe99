-- An operation that a process begins is the operation on the matrices whose blocks it has; and why it isn't begun. Likewise of a
-- plan for writing.
use Rattle.std.proofs.Common.{◌≡◌, ℕ, ◌+◌, ◌*◌, ◌<◌, ◌≤◌, List, [], ◌∷◌, length, get_or, refl, sym, ap, subst, ◌∙◌, arith}
use Rattle.std.specs.Prelude.{Option, Some, None, IsSome}
use Rattle.cb_semirings.specs.Arithmetic.{Arithmetic, IsSemiring}
use Rattle.cb_matrix.specs.Sparse.{Sparse, Extent, IsMatrix}
use Rattle.cb_plan.specs.declared.plans.Planned.{Planned}
use Rattle.cb_plan.specs.declared.stores.Slot.{Slot}
use Rattle.cb_plan.specs.declared.stores.Slot.TheVariants as slot_is
use Rattle.cb_plan.specs.Plans.{CheckedView}
use Rattle.cb_plan_parts.specs.PlanParts.{operand_starts}
use Rattle.cb_plan_slots.specs.Slots.{HasOperands, block_of_rank}
use Rattle.cb_plan_transfers.specs.Panels.{IsPanelsPlan, panels_acts}
use Rattle.cb_operations.specs.declared.operations.Operation.{Operation}
use Rattle.cb_operations.specs.declared.operations.Operation.TheVariants.{Multiply, MultiplyMasked, MultiplyVector, Transpose}
use Rattle.cb_operations.specs.declared.operations.Operation.TheVariants.{RowSums, ColumnSums, Add, Times, Prune}
use Rattle.cb_operations.specs.OperationAnswers.{Agree, operand_count_of, shape_of, shapes_in}
use Rattle.cb_planner.specs.OperationPlans.{Computes, placed_operands}
use Rattle.cb_rank.specs.Ranks.{RankView}
use Rattle.cb_rank_driven.specs.DrivenRanks.{CanStart}
use Rattle.cb_rank_process.specs.declared.faults.ProcessFault.{ProcessFault}
use Rattle.cb_rank_process.specs.declared.faults.ProcessFault.TheVariants as fault_is
use Rattle.cb_rank_process.specs.Processes.{KeptView, ProcessView, IsFree, IsStartFault, Starts, given_up, no_slots, register_at, with_registers}
use Rattle.cb_rank_process.specs.Begun.{BringsAnswer, BringsPanels, Gathers, HasPart, HaveMatrices, HaveParts, HoldsBlocks, IsGatherFault, IsLack, IsOperateFault, IsOperationOn, IsPanelsPlanOf, IsPlanOf, Operates, OperatesOn}
use Rattle.cb_rank_process.specs.Begun.{after_giving_up, all_given_up, block_in, operand_shapes, operand_slots, slot_from}
use Rattle.cb_rank_process.proofs.BroughtParts.{answer_brought, panels_brought}
use Rattle.cb_rank_process.proofs.FittingParts.{can_start, part_can_start}
use Rattle.cb_rank_process.proofs.OperandSlots.{put_at, row_of_blocks, row_of_operands, shapes_of_matrices}

-- an operation takes one to three matrices
pub some_operands : (operation : Operation) → (1 ≤ operand_count_of operation) × (operand_count_of operation ≤ 3)
some_operands MultiplyMasked = (omega arith, omega arith)
some_operands _ = (omega arith, omega arith)

-- a plan is begun, and then the registers are given up
pub started_and_given_up : (operation : Operation) (x begun y : ProcessView) (count : ℕ) (plan : CheckedView) (slot : ℕ) (shape whole : Extent) (store slots : List (Slot Sparse))
    → Starts plan slot shape store x begun → y ≡ with_registers begun (all_given_up count begun.registers) → count ≡ operand_count_of operation → shape ≡ whole → store ≡ slots
    → Starts plan slot whole slots (after_giving_up operation x) y
started_and_given_up operation x begun y count plan slot shape whole store slots h is counted shaped stored =
    let t = λ (d : Extent). Some (record { rank = h.rank; slot = slot; shape = d }) in
    record {
      rank = h.rank;
      new_rank = h.new_rank;
      first = h.first ∙ stored;
      after = is
          ∙ ap (λ (z : ProcessView). with_registers z (all_given_up count z.registers)) h.after
          ∙ ap (λ n. record { side = x.side; me = x.me; registers = all_given_up n x.registers; task = t shape; unsent = x.unsent }) counted
          ∙ ap (λ d. record { side = x.side; me = x.me; registers = all_given_up (operand_count_of operation) x.registers; task = t d; unsent = x.unsent }) shaped;
    }

module _ (operation : Operation) (x : ProcessView) where
  abbrev n : ℕ
  n = operand_count_of operation

  -- it is the operation on the matrices whose blocks the registers have
  pub operates_on : (s : Arithmetic) (y : ProcessView) → Operates operation x y → OperatesOn s operation x y
  operates_on s y h ms count holds =
      let some : 1 ≤ length ms = (let k = (some_operands operation).0 in omega (arith, count)) in
      let few : length ms ≤ 3 = (let k = (some_operands operation).1 in omega (arith, count)) in
      let shapes : operand_shapes x n ≡ shapes_in ms = ap (operand_shapes x) (sym count) ∙ shapes_of_matrices s x ms few holds in
      let plan : h.starts.rank.rank.plan ≡ h.plan = ap (λ (r : RankView). r.plan) h.starts.new_rank.rank in
      record {
        task = record { rank = h.starts.rank; slot = h.slot; shape = shape_of operation (operand_shapes x n) };
        begun = ap (λ (v : ProcessView). v.task) h.starts.after;
        plan = subst (λ (ds : List Extent). IsPlanOf operation x.side ds h.starts.rank.rank.plan h.slot) shapes
            (subst (λ (p : CheckedView). IsPlanOf operation x.side (operand_shapes x n) p h.slot) (sym plan) h.plan_is);
        shape = ap (shape_of operation) shapes;
        first = λ first has l. h.starts.first ∙ ap (operand_slots x) (sym count) ∙ row_of_operands s x ms some few holds first has l;
      }

  -- and it brings each rank its block of the answer
  pub brings_answer : (s : Arithmetic) → IsSemiring s → (y : ProcessView) → Operates operation x y → BringsAnswer s operation x y
  brings_answer s laws y h ms count are holds =
      let on : IsOperationOn s operation ms x y = operates_on s y h ms count holds in
      record {
        task = on.task;
        begun = on.begun;
        shaped = on.shape;
        brings = λ first has. answer_brought s laws operation x.side ms on.task.rank.rank.plan on.task.slot first are on.plan has;
        own = on.first;
      }

  some_part : (q me : ℕ) (kept : Option KeptView) → HasPart q me kept → IsSome kept
  some_part q me (Some kept) h = refl
  some_part q me None h = absurd h

  -- the fault of registers without operands
  pub lacks : (f : ProcessFault) → IsFree x → IsLack x n f → IsOperateFault operation x f
  lacks fault_is.NotNow free h = absurd h
  lacks fault_is.Stray free h = absurd h
  lacks fault_is.Absent free h = (free, λ parts. h (λ i l. some_part x.side x.me (register_at x i) (parts.parts i l)))
  lacks fault_is.Text free h = absurd h
  lacks fault_is.Shapes free h = absurd h
  lacks (fault_is.Lost origin) free h = absurd h
  lacks fault_is.Memory free h = free

  -- the fault of a plan that isn't started
  pub never_started : (f : ProcessFault) (plan : CheckedView) (slot : ℕ) (slots : List (Slot Sparse)) → IsFree x → IsPlanOf operation x.side (operand_shapes x n) plan slot → slots ≡ operand_slots x n → IsStartFault plan x.me slots f → IsOperateFault operation x f
  never_started fault_is.NotNow plan slot slots free is laid h = absurd h
  never_started fault_is.Stray plan slot slots free is laid h = absurd h
  never_started fault_is.Absent plan slot slots free is laid h = (
    free,
    λ parts.
        let start = can_start operation x n is.planned (some_operands operation).0 (some_operands operation).1 is.computes parts in
        h (subst (λ (st : List (Slot Sparse)). CanStart plan x.me st) (sym laid) (subst (λ (p : CheckedView). CanStart p x.me (operand_slots x n)) (sym is.plan_is) start)),
  )
  never_started fault_is.Text plan slot slots free is laid h = absurd h
  never_started fault_is.Shapes plan slot slots free is laid h = absurd h
  never_started (fault_is.Lost origin) plan slot slots free is laid h = absurd h
  never_started fault_is.Memory plan slot slots free is laid h = free

  -- the plan that is made is one of the operation on matrices of the registers' shapes
  made_plan : (count q : ℕ) (shapes ds : List Extent) (planned : Planned) (plan : CheckedView) (slot : ℕ) → count ≡ n → shapes ≡ operand_shapes x count → ds ≡ shapes → q ≡ x.side → Computes operation q ds planned
      → plan ≡ record { ranks = planned.plan.ranks; starts = planned.starts.items; acts = planned.plan.acts } → slot ≡ planned.result → IsPlanOf operation x.side (operand_shapes x n) plan slot
  made_plan count q shapes ds planned plan slot counted are lent side computes made at =
      let all : ds ≡ operand_shapes x n = lent ∙ are ∙ ap (operand_shapes x) counted in
      record {
        planned = planned;
        computes = subst (λ (k : ℕ). Computes operation k (operand_shapes x n) planned) side (subst (λ (es : List Extent). Computes operation q es planned) all computes);
        plan_is = made;
        slot_is = at;
      }

  -- an operation is begun
  pub begins : (laid begun y : ProcessView) (count q : ℕ) (shapes ds es : List Extent) (planned : Planned) (plan : CheckedView) (slot : ℕ) (shape : Extent) (store : List (Slot Sparse))
      → IsFree x → count ≡ n → shapes ≡ operand_shapes x count → HaveMatrices x count → ds ≡ shapes → Agree operation ds → shape ≡ shape_of operation ds → es ≡ shapes → q ≡ x.side → Computes operation q es planned
      → plan ≡ record { ranks = planned.plan.ranks; starts = planned.starts.items; acts = planned.plan.acts } → slot ≡ planned.result → store ≡ operand_slots x n → laid ≡ x
      → Starts plan slot shape store laid begun → y ≡ with_registers begun (all_given_up count begun.registers) → Operates operation x y
  begins laid begun y count q shapes ds es planned plan slot shape store free counted are have lent agree shaped lent_too side computes made at stored same starts after =
      let all : ds ≡ operand_shapes x n = lent ∙ are ∙ ap (operand_shapes x) counted in
      record {
        free = free;
        matrices = subst (λ (k : ℕ). HaveMatrices x k) counted have;
        agree = subst (λ (d : List Extent). Agree operation d) all agree;
        plan = plan;
        slot = slot;
        plan_is = made_plan count q shapes es planned plan slot counted are lent_too side computes made at;
        starts = started_and_given_up operation x begun y count plan slot shape (shape_of operation (operand_shapes x n)) store (operand_slots x n)
            (subst (λ (z : ProcessView). Starts plan slot shape store z begun) same starts) after counted (shaped ∙ ap (shape_of operation) all) stored;
      }

  -- or its plan isn't started
  pub never_begins : (laid : ProcessView) (count q : ℕ) (shapes es : List Extent) (planned : Planned) (plan : CheckedView) (slot : ℕ) (store : List (Slot Sparse)) (f : ProcessFault)
      → IsFree x → count ≡ n → shapes ≡ operand_shapes x count → es ≡ shapes → q ≡ x.side → Computes operation q es planned
      → plan ≡ record { ranks = planned.plan.ranks; starts = planned.starts.items; acts = planned.plan.acts } → slot ≡ planned.result → store ≡ operand_slots x n → laid ≡ x
      → IsStartFault plan laid.me store f → IsOperateFault operation x f
  never_begins laid count q shapes es planned plan slot store f free counted are lent side computes made at stored same h =
      never_started f plan slot store free (made_plan count q shapes es planned plan slot counted are lent side computes made at) stored
      (subst (λ (z : ProcessView). IsStartFault plan z.me store f) same h)

-- ---- a plan for writing
-- the plan of a grid's side and a matrix's shape
panels_plan_of : (q side : ℕ) (shape whole : Extent) (plan : CheckedView) (slot : ℕ) → shape ≡ whole → q ≡ side → plan.ranks ≡ q * q → plan.starts ≡ operand_starts q (record { slot = 0; shape = shape } ∷ [])
    → plan.acts ≡ panels_acts q shape → slot ≡ 1 + q → IsPanelsPlan plan.acts q shape slot → IsPanelsPlanOf side whole plan slot
panels_plan_of q side shape whole plan slot shaped same ranks starts acts place panels =
    subst (λ (d : Extent). IsPanelsPlanOf side d plan slot) shaped
    (subst (λ (k : ℕ). IsPanelsPlanOf k shape plan slot) same (record { ranks = ranks; starts = starts; acts = acts; slot_is = place; panels = panels }))

-- it is begun, and then the register is given up
pub gathers : (x laid begun y : ProcessView) (q register : ℕ) (kept : KeptView) (shape : Extent) (plan : CheckedView) (slot : ℕ) (store slots : List (Slot Sparse)) → IsFree x → register_at x register ≡ Some kept → shape ≡ kept.shape
    → q ≡ x.side → plan.ranks ≡ q * q → plan.starts ≡ operand_starts q (record { slot = 0; shape = shape } ∷ []) → plan.acts ≡ panels_acts q shape → slot ≡ 1 + q → IsPanelsPlan plan.acts q shape slot → store ≡ no_slots → slots ≡ slot_from x register 0 store → laid ≡ x
    → Starts plan slot shape slots laid begun → y ≡ with_registers begun (given_up register begun.registers) → Gathers register x y
gathers x laid begun y q register kept shape plan slot store slots free is shaped side ranks starts acts place panels blank put same began after =
    let h : Starts plan slot shape slots x begun = subst (λ (z : ProcessView). Starts plan slot shape slots z begun) same began in
    let t = λ (d : Extent). Some (record { rank = h.rank; slot = slot; shape = d }) in
    record {
      free = free;
      kept = kept;
      was = is;
      plan = plan;
      slot = slot;
      plan_is = panels_plan_of q x.side shape kept.shape plan slot shaped side ranks starts acts place panels;
      starts = record {
        rank = h.rank;
        new_rank = h.new_rank;
        first = h.first ∙ put ∙ ap (slot_from x register 0) blank;
        after = after
            ∙ ap (λ (z : ProcessView). with_registers z (given_up register z.registers)) h.after
            ∙ ap (λ d. record { side = x.side; me = x.me; registers = given_up register x.registers; task = t d; unsent = x.unsent }) shaped;
      };
    }

abbrev kept_or : KeptView → Option KeptView → KeptView
kept_or k (Some kept) = kept
kept_or k None = k

-- it brings each rank its panel of the matrix whose block the register has
pub brings_panels : (s : Arithmetic) → IsSemiring s → (register : ℕ) (x y : ProcessView) → Gathers register x y → BringsPanels s register x y
brings_panels s laws register x y h m is_m holds =
    let kept : h.kept ≡ record { shape = m.shape; block = block_of_rank s x.side m x.me } = ap (kept_or h.kept) (sym h.was ∙ holds) in
    let shape : h.kept.shape ≡ m.shape = ap (λ (k : KeptView). k.shape) kept in
    let same : h.starts.rank.rank.plan ≡ h.plan = ap (λ (r : RankView). r.plan) h.starts.new_rank.rank in
    let plan : IsPanelsPlanOf x.side m.shape h.starts.rank.rank.plan h.slot =
    subst (λ (p : CheckedView). IsPanelsPlanOf x.side m.shape p h.slot) (sym same) (subst (λ (d : Extent). IsPanelsPlanOf x.side d h.plan h.slot) shape h.plan_is) in
    record {
      task = record { rank = h.starts.rank; slot = h.slot; shape = h.kept.shape };
      begun = ap (λ (v : ProcessView). v.task) h.starts.after;
      shaped = shape;
      brings = λ first has. panels_brought s laws x.side m h.starts.rank.rank.plan h.slot first is_m plan has;
      own = λ first has l.
          h.starts.first
          ∙ row_of_blocks ((0, block_in (register_at x register)) ∷ []) first x.me (omega arith, tt) (has.table.cols x.me l)
          (λ k. ap (λ (b : Sparse). put_at ((0, b) ∷ []) k slot_is.Empty) (ap block_in holds) ∙ sym (has.cells x.me k l));
    }

-- the fault of a plan that starts from the parts of one matrix, and isn't started
never_gathers : (f : ProcessFault) (x : ProcessView) (register : ℕ) (kept : KeptView) (plan : CheckedView) (slots : List (Slot Sparse)) → IsFree x → register_at x register ≡ Some kept → plan.ranks ≡ x.side * x.side
    → plan.starts ≡ operand_starts x.side (record { slot = 0; shape = kept.shape } ∷ []) → slots ≡ slot_from x register 0 no_slots → IsStartFault plan x.me slots f → IsGatherFault register x f
never_gathers fault_is.NotNow x register kept plan slots free is ranks starts laid h = absurd h
never_gathers fault_is.Stray x register kept plan slots free is ranks starts laid h = absurd h
never_gathers fault_is.Absent x register kept plan slots free is ranks starts laid h = (
  free,
  λ below part.
      h (subst (λ (st : List (Slot Sparse)). CanStart plan x.me st) (sym laid) (part_can_start x register kept plan is ranks starts below part)),
)
never_gathers fault_is.Text x register kept plan slots free is ranks starts laid h = absurd h
never_gathers fault_is.Shapes x register kept plan slots free is ranks starts laid h = absurd h
never_gathers (fault_is.Lost origin) x register kept plan slots free is ranks starts laid h = absurd h
never_gathers fault_is.Memory x register kept plan slots free is ranks starts laid h = (free, subst (λ (o : Option KeptView). IsSome o) (sym is) refl)

-- the same of a plan that is made for the grid's side and the matrix's shape
pub never_gathered : (x laid : ProcessView) (q register : ℕ) (kept : KeptView) (shape : Extent) (plan : CheckedView) (store slots : List (Slot Sparse)) (f : ProcessFault) → IsFree x → register_at x register ≡ Some kept → shape ≡ kept.shape → q ≡ x.side
    → plan.ranks ≡ q * q → plan.starts ≡ operand_starts q (record { slot = 0; shape = shape } ∷ []) → store ≡ no_slots → slots ≡ slot_from x register 0 store → laid ≡ x → IsStartFault plan laid.me slots f → IsGatherFault register x f
never_gathered x laid q register kept shape plan store slots f free is shaped side ranks starts blank put same h =
    never_gathers f x register kept plan slots free is (ranks ∙ ap (λ k. k * k) side)
    (starts ∙ ap (λ k. operand_starts k (record { slot = 0; shape = shape } ∷ [])) side ∙ ap (λ d. operand_starts x.side (record { slot = 0; shape = d } ∷ [])) shaped)
    (put ∙ ap (slot_from x register 0) blank)
    (subst (λ (z : ProcessView). IsStartFault plan z.me slots f) same h)
