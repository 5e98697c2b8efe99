-- Acts without a fault, one by one.
use Rattle.std.proofs.Common.{◌≡◌, ℕ, Bool, true, false, List, [], ◌∷◌, refl, ap, arith}
use Rattle.std.specs.Prelude.{Option, None, Result, Ok, Err, if◌then◌else◌}
use Rattle.std.proofs.lemmas.Bool.Decides.{nat_tests}
use Rattle.cb_letters.specs.declared.Tag.{Tag}
use Rattle.cb_matrix.specs.Sparse.{Extent}
use Rattle.cb_plan.specs.declared.acts.Act.{Act}
use Rattle.cb_plan.specs.declared.plans.PlanFaultKind.{PlanFaultKind}
use Rattle.cb_plan.specs.declared.plans.PlanFaultKind.TheVariants as kind_is
use Rattle.cb_plan.specs.declared.acts.Act.TheVariants as act_is
use Rattle.cb_plan.specs.declared.acts.Op.{Op}
use Rattle.cb_plan.specs.Meaning.{State, target_of, result_of}
use Rattle.cb_plan.specs.Algebras.{shapes}
use Rattle.cb_plan.specs.Checks.{Lanes, act_fault, first_failed, IsSound, all_below, ranks_of, is_apart, slots_of, reads_filled, act_agrees, is_open, CheckState, SetSlot, DidAct, slots_in, lanes_in}

all_hold : (c : Bool) (k : PlanFaultKind) (cs : List (Bool × PlanFaultKind)) → first_failed ((c, k) ∷ cs) ≡ None → (c ≡ true) × (first_failed cs ≡ None)
all_hold true k cs h = (refl, h)
all_hold false k cs h = absurd (grind (arith, nat_tests))

-- an act in which no fault is found is sound
pub no_fault : (ranks : ℕ) (state : State Extent) (shut : Lanes) (a : Act) → act_fault ranks state shut a ≡ None → IsSound ranks state shut a
no_fault ranks state shut a h =
    let f6 : List (Bool × PlanFaultKind) = (is_open shut a, kind_is.AfterShut) ∷ [] in
    let f5 : List (Bool × PlanFaultKind) = (act_agrees state a, kind_is.Shape) ∷ f6 in
    let f4 : List (Bool × PlanFaultKind) = (reads_filled state a, kind_is.EmptySlot) ∷ f5 in
    let f3 : List (Bool × PlanFaultKind) = (all_below 256 (slots_of a), kind_is.NoSlot) ∷ f4 in
    let f2 : List (Bool × PlanFaultKind) = (is_apart a, kind_is.SelfMove) ∷ f3 in
    let one = all_hold (all_below ranks (ranks_of a)) kind_is.NoRank f2 h in
    let two = all_hold (is_apart a) kind_is.SelfMove f3 one.1 in
    let three = all_hold (all_below 256 (slots_of a)) kind_is.NoSlot f4 two.1 in
    let four = all_hold (reads_filled state a) kind_is.EmptySlot f5 three.1 in
    let five = all_hold (act_agrees state a) kind_is.Shape f6 four.1 in
    let six = all_hold (is_open shut a) kind_is.AfterShut [] five.1 in
    record { ranks_exist = one.0; apart = two.0; slots_exist = three.0; filled = four.0; agree = five.0; open_lane = six.0 }

-- in an act that is sound no fault is found
pub is_no_fault : (ranks : ℕ) (state : State Extent) (shut : Lanes) (a : Act) → IsSound ranks state shut a → act_fault ranks state shut a ≡ None
is_no_fault ranks state shut a h = rw (h.ranks_exist, h.apart, h.slots_exist, h.filled, h.agree, h.open_lane) refl

-- a move sets its slot to the shape that it moves
pub move_is_done : (from to : ℕ) (tag : Tag) (slot into : ℕ) (old new : CheckState) → SetSlot to into (slots_in old.slots from slot) old new → DidAct (act_is.Move from to tag slot into) old new
move_is_done from to tag slot into old new h = record { ranks = h.ranks; slots = h.slots; shut = ap lanes_in h.shut }

-- an operation sets its slot to the shape that it makes
pub work_is_done : (rank : ℕ) (op : Op) (old new : CheckState) → SetSlot rank (target_of op) (result_of shapes op (slots_in old.slots rank)) old new → DidAct (act_is.Work rank op) old new
work_is_done rank op old new h =
    record { ranks = h.ranks; slots = h.slots; shut = ap lanes_in h.shut }

one_answer : (r : Result (Option Extent) PlanFaultKind) (x y : Option Extent) → r ≡ Ok x → r ≡ Ok y → y ≡ x
one_answer r x y e f = cc

-- if the shapes agree, the rule for shapes gives the one that is made
pub shape_is_made : (agree : Bool) (kind : PlanFaultKind) (r : Result (Option Extent) PlanFaultKind) (x y : Option Extent) → r ≡ (if agree then Ok x else Err kind) → agree ≡ true → r ≡ Ok y → y ≡ x
shape_is_made true kind r x y e t f = one_answer r x y e f
shape_is_made false kind r x y e t f = absurd (let wrong : false ≡ true = t in cc)
