-- The steps of the check.
use Rattle.std.proofs.Common.{◌≡◌, ℕ, ◌+◌, ◌<◌, ◌≤◌, List, [], ◌∷◌, ◌++◌, length, get_or, drop, refl, sym, ap, ◌∙◌}
use Rattle.std.specs.Prelude.{Option, Some, None, if◌then◌else◌}
use Rattle.std.proofs.lemmas.List.{drop_more}
use Rattle.cb_matrix.specs.Sparse.{Extent}
use Rattle.cb_plan.specs.declared.acts.Act.{Act}
use Rattle.cb_plan.specs.declared.acts.Start.{Start}
use Rattle.cb_plan.specs.declared.plans.PlanFault.{PlanFault}
use Rattle.cb_plan.specs.declared.plans.PlanFaultKind.{PlanFaultKind}
use Rattle.cb_plan.specs.declared.plans.PlanFaultKind.TheVariants as kind_is
use Rattle.cb_plan.specs.Meaning.{State, act}
use Rattle.cb_plan.specs.Algebras.{shapes}
use Rattle.cb_plan.specs.Checks.{Lanes, CheckState, SetSlot, DidAct, slots_in, lanes_in, started_from, started, act_fault, fault_or, fault_from, shut_after, are_all_shut, fault_in, plan_fault, IsStarted}
use Rattle.cb_plan.proofs.StoredActs.{second_left}

-- the elements from one on begin with it
pub next_element : {X : Type 0} (xs : List X) (i : ℕ) (x : X) → i < length xs → x ≡ get_or xs i x → drop i xs ≡ x ∷ drop (i + 1) xs
next_element xs i x l e = drop_more xs i x l ∙ ap (λ y. y ∷ drop (i + 1) xs) (sym e)

-- what is left of the starts, one start later
pub start_next : (starts : List Start) (i : ℕ) (s : Start) (old new : CheckState) (x : State Extent) → i < length starts → s ≡ get_or starts i s → SetSlot s.rank s.slot (Some s.shape) old new →
    started_from (drop i starts) (slots_in old.slots) ≡ x → started_from (drop (i + 1) starts) (slots_in new.slots) ≡ x
start_next starts i s old new x l e is h =
    ap (started_from (drop (i + 1) starts)) is.slots
    ∙ sym (ap (λ ss. started_from ss (slots_in old.slots)) (next_element starts i s l e))
    ∙ h

-- the first fault of a list of acts that has a first act
pub fault_here : (ranks n : ℕ) (state : State Extent) (shut : Lanes) (a : Act) (acts : List Act) → fault_from ranks n state shut (a ∷ acts) ≡ fault_or n (act_fault ranks state shut a) (fault_from ranks (n + 1) (act shapes a state) (shut_after a shut) acts)
unfolding fault_from
fault_here ranks n state shut a acts = refl

-- at the end, it is a lane that isn't shut, if there is one
pub fault_end : (ranks n : ℕ) (state : State Extent) (shut : Lanes) → fault_from ranks n state shut [] ≡ (if are_all_shut ranks shut then None else Some (record { act = n; kind = kind_is.NotShut }))
unfolding fault_from
fault_end ranks n state shut = refl

-- a fault of the act at hand is the first fault
pub fault_found : (acts : List Act) (i : ℕ) (a : Act) (o : CheckState) (kind : PlanFaultKind) (x : Option PlanFault) → i < length acts → a ≡ get_or acts i a → fault_in o a ≡ Some kind →
    fault_from o.ranks i (slots_in o.slots) (lanes_in o.shut) (drop i acts) ≡ x → Some (record { act = i; kind = kind }) ≡ x
fault_found acts i a o kind x l e f h =
    sym (ap (fault_from o.ranks i (slots_in o.slots) (lanes_in o.shut)) (next_element acts i a l e)
    ∙ fault_here o.ranks i (slots_in o.slots) (lanes_in o.shut) a (drop (i + 1) acts)
    ∙ ap (λ k. fault_or i k (fault_from o.ranks (i + 1) (act shapes a (slots_in o.slots)) (shut_after a (lanes_in o.shut)) (drop (i + 1) acts))) f)
    ∙ h

-- if the act at hand has none, the first fault is that of the acts after it
pub fault_next : (acts : List Act) (i : ℕ) (a : Act) (old new : CheckState) (x : Option PlanFault) → i < length acts → a ≡ get_or acts i a → fault_in old a ≡ None → DidAct a old new →
    fault_from old.ranks i (slots_in old.slots) (lanes_in old.shut) (drop i acts) ≡ x → fault_from old.ranks (i + 1) (slots_in new.slots) (lanes_in new.shut) (drop (i + 1) acts) ≡ x
fault_next acts i a old new x l e f is h =
    ap (λ slots. fault_from old.ranks (i + 1) slots (lanes_in new.shut) (drop (i + 1) acts)) is.slots
    ∙ ap (λ shut. fault_from old.ranks (i + 1) (act shapes a (slots_in old.slots)) shut (drop (i + 1) acts)) is.shut
    ∙ sym (ap (fault_from old.ranks i (slots_in old.slots) (lanes_in old.shut)) (next_element acts i a l e)
    ∙ fault_here old.ranks i (slots_in old.slots) (lanes_in old.shut) a (drop (i + 1) acts)
    ∙ ap (λ k. fault_or i k (fault_from old.ranks (i + 1) (act shapes a (slots_in old.slots)) (shut_after a (lanes_in old.shut)) (drop (i + 1) acts))) f)
    ∙ h

-- the same if the number of ranks is known by another name
pub found : (acts : List Act) (i n ranks : ℕ) (a : Act) (o : CheckState) (kind : PlanFaultKind) (x : Option PlanFault) → o.ranks ≡ ranks → n ≡ i → i < length acts → a ≡ get_or acts i a → fault_in o a ≡ Some kind →
    fault_from ranks i (slots_in o.slots) (lanes_in o.shut) (drop i acts) ≡ x → Some (record { act = n; kind = kind }) ≡ x
found acts i n ranks a o kind x r m l e f h = ap (λ n. Some (record { act = n; kind = kind })) m ∙ fault_found acts i a o kind x l e f (ap (λ ranks. fault_from ranks i (slots_in o.slots) (lanes_in o.shut) (drop i acts)) r ∙ h)

-- the next act, likewise
pub next : (acts : List Act) (i ranks : ℕ) (a : Act) (old new : CheckState) (x : Option PlanFault) → old.ranks ≡ ranks → i < length acts → a ≡ get_or acts i a → fault_in old a ≡ None → DidAct a old new →
    fault_from ranks i (slots_in old.slots) (lanes_in old.shut) (drop i acts) ≡ x → fault_from ranks (i + 1) (slots_in new.slots) (lanes_in new.shut) (drop (i + 1) acts) ≡ x
next acts i ranks a old new x r l e f is h =
    ap (λ ranks. fault_from ranks (i + 1) (slots_in new.slots) (lanes_in new.shut) (drop (i + 1) acts)) (sym r)
    ∙ fault_next acts i a old new x l e f is (ap (λ ranks. fault_from ranks i (slots_in old.slots) (lanes_in old.shut) (drop i acts)) r ∙ h)

-- past the acts that are stored, the first fault is that of the acts after them
pub past_stored : (acts rest : List Act) (i n ranks : ℕ) (o : CheckState) (x : Option PlanFault) → o.ranks ≡ ranks → n ≡ i → length acts ≤ i → i ≤ length acts →
    fault_from ranks i (slots_in o.slots) (lanes_in o.shut) (drop i (acts ++ rest)) ≡ x → fault_from o.ranks n (slots_in o.slots) (lanes_in o.shut) rest ≡ x
past_stored acts rest i n ranks o x r m l k h =
    ap (λ ranks. fault_from ranks n (slots_in o.slots) (lanes_in o.shut) rest) r
    ∙ ap (λ n. fault_from ranks n (slots_in o.slots) (lanes_in o.shut) rest) m
    ∙ sym (ap (fault_from ranks i (slots_in o.slots) (lanes_in o.shut)) (second_left acts rest i l k))
    ∙ h

-- before the first act, the first fault of the acts is that of the plan
pub from_start : (ranks : ℕ) (starts : List Start) (acts : List Act) (o : CheckState) (x : Option PlanFault) → IsStarted ranks starts o → x ≡ fault_from o.ranks 0 (slots_in o.slots) (lanes_in o.shut) acts → x ≡ plan_fault ranks starts acts
from_start ranks starts acts o x is h =
    h ∙ ap (λ r. fault_from r 0 (slots_in o.slots) (lanes_in o.shut) acts) is.ranks_are
    ∙ ap (λ slots. fault_from ranks 0 slots (lanes_in o.shut) acts) is.slots
    ∙ ap (λ shut. fault_from ranks 0 (started starts) shut acts) is.shut
