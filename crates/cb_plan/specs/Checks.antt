-- The first fault of a plan.
use Rattle.std.specs.Prelude.{◌≡◌, ℕ, ◌+◌, Bool, true, false, not, ◌&&◌, ◌||◌, ◌==◌, nat_lt, nat_le, if◌then◌else◌, List, [], ◌∷◌}
use Rattle.std.specs.Prelude.{Option, Some, None, is_some, Result, Ok, Err}
use Rattle.std.specs.List.{range_with_len}
use Rattle.cb_matrix.specs.Sparse.{Extent}
use Rattle.cb_plan.specs.declared.acts.Op.{Op}
use Rattle.cb_plan.specs.declared.acts.Op.TheVariants as op_is
use Rattle.cb_plan.specs.declared.acts.Act.{Act}
use Rattle.cb_plan.specs.declared.acts.Act.TheVariants as act_is
use Rattle.cb_plan.specs.declared.plans.PlanFault.{PlanFault}
use Rattle.cb_plan.specs.declared.plans.PlanFaultKind.{PlanFaultKind}
use Rattle.cb_plan.specs.declared.plans.PlanFaultKind.TheVariants as kind_is
use Rattle.cb_plan.specs.declared.acts.Start.{Start}
use Rattle.cb_plan.specs.declared.stores.TheConstants.{SLOTS}
use Rattle.cb_plan.specs.Meaning.{State, one, two, three, act, target_of}
use Rattle.cb_plan.specs.Algebras.{shapes}
use Rattle.cb_plan.specs.PlanTables.{cell, IsTable}

-- which lanes are shut
abbrev pub Lanes : Type 0
Lanes = ℕ → ℕ → Bool

abbrev pub ranks_of : Act → List ℕ
ranks_of (act_is.Move from to tag slot into) = from ∷ to ∷ []
ranks_of (act_is.Work rank op) = rank ∷ []
ranks_of (act_is.Shut from to) = from ∷ to ∷ []

-- the slots that an operation reads
abbrev pub operands_of : Op → List ℕ
operands_of (op_is.Zero into shape) = []
operands_of (op_is.MulAdd a b acc) = a ∷ b ∷ acc ∷ []
operands_of (op_is.Add a b into) = a ∷ b ∷ []
operands_of (op_is.Times a b into) = a ∷ b ∷ []
operands_of (op_is.Transpose a into) = a ∷ []
operands_of (op_is.ColumnSums a into) = a ∷ []
operands_of (op_is.Cut a rows cols into) = a ∷ []
operands_of (op_is.Place a shape at into) = a ∷ []
operands_of (op_is.MulVec a x into) = a ∷ x ∷ []
operands_of (op_is.Prune a test into) = a ∷ []
operands_of (op_is.Copy a into) = a ∷ []
operands_of (op_is.Clear slot) = slot ∷ []
operands_of (op_is.Mask a m into) = a ∷ m ∷ []

abbrev pub slots_of : Act → List ℕ
slots_of (act_is.Move from to tag slot into) = slot ∷ into ∷ []
slots_of (act_is.Work rank op) = target_of op ∷ operands_of op
slots_of (act_is.Shut from to) = []

-- whether each number is below a limit
abbrev pub all_below : ℕ → List ℕ → Bool
all_below limit [] = true
all_below limit (n ∷ ns) = nat_lt n limit && all_below limit ns

abbrev pub all_filled : (ℕ → Option Extent) → List ℕ → Bool
all_filled slots [] = true
all_filled slots (n ∷ ns) = is_some (slots n) && all_filled slots ns

-- whether the act goes to another rank
abbrev pub is_apart : Act → Bool
is_apart (act_is.Move from to tag slot into) = not (from == to)
is_apart (act_is.Work rank op) = true
is_apart (act_is.Shut from to) = not (from == to)

-- whether the slots that the act reads are filled
abbrev pub reads_filled : State Extent → Act → Bool
reads_filled state (act_is.Move from to tag slot into) = is_some (state from slot)
reads_filled state (act_is.Work rank op) = all_filled (state rank) (operands_of op)
reads_filled state (act_is.Shut from to) = true

-- an empty slot meets any requirement on its shape
abbrev pub demand : Option Bool → Bool
demand (Some b) = b
demand None = true

abbrev pub same_shape : Extent → Extent → Bool
same_shape a b = (a.rows == b.rows) && (a.cols == b.cols)

-- whether two slots have the same shape
abbrev pub have_same_shape : (ℕ → Option Extent) → ℕ → ℕ → Bool
have_same_shape slots a b = demand (two same_shape (slots a) (slots b))

-- whether the product of the first two can be added to the third
abbrev pub can_add_product : Extent → Extent → Extent → Bool
can_add_product a b acc = (a.cols == b.rows) && (acc.rows == a.rows) && (acc.cols == b.cols)

-- whether a block has these rows and columns, each from the first number up to the second
abbrev pub has_part : ℕ × ℕ → ℕ × ℕ → Extent → Bool
has_part rows cols a = nat_le rows.0 rows.1 && nat_le rows.1 a.rows && nat_le cols.0 cols.1 && nat_le cols.1 a.cols

-- the shapes that an operation requires
abbrev pub shapes_agree : (ℕ → Option Extent) → Op → Bool
shapes_agree slots (op_is.Zero into shape) = true
shapes_agree slots (op_is.MulAdd a b acc) = demand (three can_add_product (slots a) (slots b) (slots acc))
shapes_agree slots (op_is.Add a b into) = have_same_shape slots a b
shapes_agree slots (op_is.Times a b into) = have_same_shape slots a b
shapes_agree slots (op_is.Transpose a into) = true
shapes_agree slots (op_is.ColumnSums a into) = true
shapes_agree slots (op_is.Cut a rows cols into) = demand (one (has_part rows cols) (slots a))
shapes_agree slots (op_is.Place a shape at into) = demand (one (λ a. nat_le (at.0 + a.rows) shape.rows && nat_le (at.1 + a.cols) shape.cols) (slots a))
shapes_agree slots (op_is.MulVec a x into) = demand (two (λ a x. (a.cols == x.rows) && (x.cols == 1)) (slots a) (slots x))
shapes_agree slots (op_is.Prune a test into) = true
shapes_agree slots (op_is.Copy a into) = true
shapes_agree slots (op_is.Clear slot) = true
shapes_agree slots (op_is.Mask a m into) = have_same_shape slots a m

-- a shape, if what is required holds; else the fault that shapes don't agree
abbrev pub shape_if : Bool → Option Extent → Result (Option Extent) PlanFaultKind
shape_if holds shape = if holds then Ok shape else Err kind_is.Shape

abbrev pub act_agrees : State Extent → Act → Bool
act_agrees state (act_is.Move from to tag slot into) = true
act_agrees state (act_is.Work rank op) = shapes_agree (state rank) op
act_agrees state (act_is.Shut from to) = true

-- whether the lane that the act uses is still open
abbrev pub is_open : Lanes → Act → Bool
is_open shut (act_is.Move from to tag slot into) = not (shut from to)
is_open shut (act_is.Work rank op) = true
is_open shut (act_is.Shut from to) = not (shut from to)

-- the first requirement that isn't met
abbrev pub first_failed : List (Bool × PlanFaultKind) → Option PlanFaultKind
first_failed [] = None
first_failed (c ∷ cs) = if c.0 then first_failed cs else Some c.1

abbrev pub act_fault : ℕ → State Extent → Lanes → Act → Option PlanFaultKind
act_fault ranks state shut a = first_failed (
    (all_below ranks (ranks_of a), kind_is.NoRank)
    ∷ (is_apart a, kind_is.SelfMove)
    ∷ (all_below SLOTS (slots_of a), kind_is.NoSlot)
    ∷ (reads_filled state a, kind_is.EmptySlot)
    ∷ (act_agrees state a, kind_is.Shape)
    ∷ (is_open shut a, kind_is.AfterShut)
    ∷ [])

-- the lanes that are shut after an act
abbrev pub shut_after : Act → Lanes → Lanes
shut_after (act_is.Move from to tag slot into) shut s t = shut s t
shut_after (act_is.Work rank op) shut s t = shut s t
shut_after (act_is.Shut from to) shut s t = if from == s && to == t then true else shut s t

abbrev pub all_hold : (ℕ → Bool) → List ℕ → Bool
all_hold f [] = true
all_hold f (n ∷ ns) = f n && all_hold f ns

-- whether each lane between two ranks is shut
abbrev pub are_all_shut : ℕ → Lanes → Bool
are_all_shut ranks shut = all_hold (λ s. all_hold (λ t. (s == t) || shut s t) (range_with_len 0 ranks)) (range_with_len 0 ranks)

-- the fault of this kind at act n, or else a later one
abbrev pub fault_or : ℕ → Option PlanFaultKind → Option PlanFault → Option PlanFault
fault_or n (Some kind) later = Some (record { act = n; kind = kind })
fault_or n None later = later

-- the first fault of the acts from number n on, if the blocks before them have these shapes
unfoldable pub fault_from : ℕ → ℕ → State Extent → Lanes → List Act → Option PlanFault
fault_from ranks n state shut [] = if are_all_shut ranks shut then None else Some (record { act = n; kind = kind_is.NotShut })
fault_from ranks n state shut (a ∷ acts) =
    fault_or n (act_fault ranks state shut a) (fault_from ranks (n + 1) (act shapes a state) (shut_after a shut) acts)

-- the slots with one more start
abbrev pub with_start : Start → State Extent → State Extent
with_start s state r n = if s.rank == r && s.slot == n then Some s.shape else state r n

abbrev pub started_from : List Start → State Extent → State Extent
started_from [] state = state
started_from (s ∷ ss) state = started_from ss (with_start s state)

-- the shapes before the first act
abbrev pub started : List Start → State Extent
started starts = started_from starts (λ _ _. None)

abbrev pub none_shut : Lanes
none_shut s t = false

-- the first fault of a plan
abbrev pub plan_fault : ℕ → List Start → List Act → Option PlanFault
plan_fault ranks starts acts = fault_from ranks 0 (started starts) none_shut acts

-- what the check knows before an act: the shapes in all slots, and which lanes are shut
pub record CheckState : Type 0 where
  pub ranks : ℕ
  pub slots : List (List (Option Extent))
  pub shut : List (List Bool)

abbrev pub slots_in : List (List (Option Extent)) → State Extent
slots_in table r n = cell None table r n

abbrev pub lanes_in : List (List Bool) → Lanes
lanes_in table s t = cell false table s t

-- the tables have a slot for each rank and number, and a lane from each rank to each
pub record IsCheckState (o : CheckState) : Type 0 where
  pub slots : IsTable o.ranks SLOTS o.slots
  pub shut : IsTable o.ranks o.ranks o.shut

-- every slot is empty, and no lane is shut
pub record IsBlank (ranks : ℕ) (o : CheckState) : Type 0 where
  pub ranks_are : o.ranks ≡ ranks
  pub slots : slots_in o.slots ≡ (λ _ _. None)
  pub shut : lanes_in o.shut ≡ none_shut

-- the slots of the starts have their shapes, all others are empty, and no lane is shut
pub record IsStarted (ranks : ℕ) (starts : List Start) (o : CheckState) : Type 0 where
  pub ranks_are : o.ranks ≡ ranks
  pub slots : slots_in o.slots ≡ started starts
  pub shut : lanes_in o.shut ≡ none_shut

-- the shapes and the lanes after an act
pub record DidAct (a : Act) (old new : CheckState) : Type 0 where
  pub ranks : new.ranks ≡ old.ranks
  pub slots : slots_in new.slots ≡ act shapes a (slots_in old.slots)
  pub shut : lanes_in new.shut ≡ shut_after a (lanes_in old.shut)

-- one slot gets this shape, or becomes empty
pub record SetSlot (r n : ℕ) (x : Option Extent) (old new : CheckState) : Type 0 where
  pub ranks : new.ranks ≡ old.ranks
  pub slots : slots_in new.slots ≡ (λ q k. if r == q && n == k then x else slots_in old.slots q k)
  pub shut : new.shut ≡ old.shut

abbrev pub fault_in : CheckState → Act → Option PlanFaultKind
fault_in o a = act_fault o.ranks (slots_in o.slots) (lanes_in o.shut) a

-- an act without a fault
pub record IsSound (ranks : ℕ) (state : State Extent) (shut : Lanes) (a : Act) : Type 0 where
  pub ranks_exist : all_below ranks (ranks_of a) ≡ true
  pub apart : is_apart a ≡ true
  pub slots_exist : all_below SLOTS (slots_of a) ≡ true
  pub filled : reads_filled state a ≡ true
  pub agree : act_agrees state a ≡ true
  pub open_lane : is_open shut a ≡ true

-- no act has a fault in the state before it
abbrev pub Passes : ℕ → State Extent → Lanes → List Act → Type 0
Passes ranks state shut [] = Unit {0}
Passes ranks state shut (a ∷ acts) = IsSound ranks state shut a × Passes ranks (act shapes a state) (shut_after a shut) acts

abbrev pub lanes_after : List Act → Lanes → Lanes
lanes_after [] shut = shut
lanes_after (a ∷ acts) shut = lanes_after acts (shut_after a shut)
