-- Worked plans, computed: two ranks, and a block of 1 by 2 in slot 0 of rank 0.
use Rattle.std.specs.Prelude.{◌≡◌, ℕ, List, [], ◌∷◌, Option, Some, None, refl}
use Rattle.cb_letters.specs.declared.Tag.{Tag}
use Rattle.cb_matrix.specs.Sparse.{Extent}
use Rattle.cb_plan.specs.declared.acts.Op.TheVariants as op_is
use Rattle.cb_plan.specs.declared.acts.Act.{Act}
use Rattle.cb_plan.specs.declared.acts.Act.TheVariants as act_is
use Rattle.cb_plan.specs.declared.acts.Half.TheVariants as half_is
use Rattle.cb_plan.specs.declared.acts.Start.{Start}
use Rattle.cb_plan.specs.declared.plans.PlanFault.{PlanFault}
use Rattle.cb_plan.specs.declared.plans.PlanFaultKind.{PlanFaultKind}
use Rattle.cb_plan.specs.declared.plans.PlanFaultKind.TheVariants as kind_is
use Rattle.cb_plan.specs.Checks.{plan_fault, fault_from}
use Rattle.cb_plan.specs.Programs.{project}

abbrev one_by_two : Extent
one_by_two = record { rows = 1; cols = 2 }

abbrev start : List Start
start = record { rank = 0; slot = 0; shape = one_by_two } ∷ []

abbrev tag_0 : Tag
tag_0 = record { 0 = 0 }

abbrev answer : List Act → Option PlanFault
answer acts = plan_fault 2 start acts

abbrev fault : ℕ → PlanFaultKind → Option PlanFault
fault n kind = Some (record { act = n; kind = kind })

abbrev small : List Act
small = act_is.Move 0 1 tag_0 0 3 ∷ act_is.Shut 0 1 ∷ act_is.Shut 1 0 ∷ []

plan_faults : (
    answer (act_is.Move 0 2 tag_0 0 0 ∷ [])
    ∷ answer (act_is.Move 0 0 tag_0 0 0 ∷ [])
    ∷ answer (act_is.Move 0 1 tag_0 256 0 ∷ [])
    ∷ answer (act_is.Move 0 1 tag_0 1 0 ∷ [])
    ∷ answer (act_is.Work 0 (op_is.MulAdd 0 0 0) ∷ [])
    ∷ answer (act_is.Shut 0 1 ∷ act_is.Move 0 1 tag_0 0 0 ∷ [])
    ∷ answer []
    ∷ answer (act_is.Shut 0 1 ∷ [])
    ∷ answer small
    ∷ []) ≡ (
    fault 0 kind_is.NoRank
    ∷ fault 0 kind_is.SelfMove
    ∷ fault 0 kind_is.NoSlot
    ∷ fault 0 kind_is.EmptySlot
    ∷ fault 0 kind_is.Shape
    ∷ fault 1 kind_is.AfterShut
    ∷ fault 0 kind_is.NotShut
    ∷ fault 1 kind_is.NotShut
    ∷ None
    ∷ [])
unfolding fault_from
plan_faults = refl

program_of_0 : project start small 0 ≡ half_is.Post 1 tag_0 0 ∷ half_is.Shut 1 ∷ half_is.End 1 ∷ []
program_of_0 = refl

program_of_1 : project start small 1 ≡ half_is.Take 0 tag_0 3 one_by_two ∷ half_is.End 0 ∷ half_is.Shut 0 ∷ []
program_of_1 = refl
