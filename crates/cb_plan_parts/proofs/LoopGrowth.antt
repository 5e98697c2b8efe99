-- Plans that grow in loops over a range, within the limit of a plan.
use Rattle.std.proofs.Common.{◌≡◌, ℕ, ◌+◌, ◌<◌, ◌≤◌, ◌⊎◌, List, [], ◌∷◌, ◌++◌, map, length, length-append, sym, ap, subst, ◌∙◌, ⊎_elim, arith}
use Rattle.std.specs.Prelude.{Result, Ok, Err, OnOk, IfOk}
use Rattle.std.specs.List.{range_with_len, flat_map}
use Rattle.std.proofs.lemmas.List.FromFn.{length-map-range_with_len}
use Rattle.cb_plan.specs.declared.acts.Act.{Act}
use Rattle.cb_plan.specs.declared.plans.Planned.{Planned}
use Rattle.cb_plan.specs.declared.plans.PlanFault.{PlanFault}
use Rattle.cb_plan.specs.declared.acts.Start.{Start}
use Rattle.cb_plan.specs.Checks.{started, none_shut}
use Rattle.cb_plan.specs.Plans.{PlanView}
use Rattle.cb_plan.proofs.Ranges.{pushed, extended}
use Rattle.cb_plan_parts.specs.Appends.{IsRefusal, IsTooLong, too_long}
pub use Rattle.cb_plan_parts.proofs.PlanGrowth.{grew_none, grew_both}
use Rattle.cb_plan_parts.proofs.PlanGrowth.{length_up_to}
use Rattle.cb_plan_parts.specs.Flows.{Flows}
use Rattle.cb_plan_parts.specs.Growth.{IsWithinLimit, Grew, no_memory}

-- within the limit, a call is refused only for want of memory
pub only_memory : (plan : PlanView) (acts : List Act) (e : PlanFault) → IsWithinLimit plan acts → IsRefusal plan acts e → e ≡ no_memory
only_memory plan acts e l h = ⊎_elim (λ (t : IsTooLong plan acts × (e ≡ too_long plan)). absurd (let m = t.0 in omega arith)) (λ (m : e ≡ no_memory). m) h

-- the first acts of a plan are the plan's
pub grew_all : (acts : List Act) (first now : PlanView) → first.acts ≡ [] → Grew acts first now → now.acts ≡ acts
grew_all acts first now e h = h.acts_are ∙ ap (λ xs. xs ++ acts) e

-- a plan without acts may have any acts that are few
pub within_new : (acts : List Act) (plan : PlanView) → plan.acts ≡ [] → length acts ≤ 4294967295 → IsWithinLimit plan acts
within_new acts plan e l = let f = ap length e in omega arith

-- the last call's acts come after those before it
pub grew_last : {X E : Type 0} (xs ys zs : List Act) (first now next : PlanView) (r : Result X E) → Grew xs first now → ys ≡ zs → OnOk r (Grew ys now next) → OnOk r (Grew (xs ++ zs) first next)
grew_last xs ys zs first now next (Ok x) h e k = grew_both xs zs first now next h (subst (λ acts. Grew acts now next) e k)
grew_last xs ys zs first now next (Err x) h e k = tt

-- the first of two lists is within the limit, and then the second
pub within_first : (xs ys : List Act) (plan : PlanView) → IsWithinLimit plan (xs ++ ys) → IsWithinLimit plan xs
within_first xs ys plan l = let e = length-append xs ys in omega arith

-- and the second, once the first is in the plan
pub within_rest : (xs ys : List Act) (first now : PlanView) → IsWithinLimit first (xs ++ ys) → Grew xs first now → IsWithinLimit now ys
within_rest xs ys first now l h = let e = length-append xs ys in let f = ap length h.acts_are ∙ length-append first.acts xs in omega arith

-- a loop that extends the plan by a list of acts for each number
module _ (f : ℕ → List Act) (i : ℕ) (first now : PlanView) where
  -- the next number's acts are within the limit if all are
  pub within_next : (n : ℕ) → i < n → IsWithinLimit first (flat_map f (range_with_len 0 n)) → Grew (flat_map f (range_with_len 0 i)) first now → IsWithinLimit now (f i)
  within_next n l w h =
      let e = ap length h.acts_are ∙ length-append first.acts (flat_map f (range_with_len 0 i)) in
      let u = length_up_to f 0 n i i (omega arith) l in
      omega arith

  -- after them the plan has the acts of one number more
  pub grew_next : (next : PlanView) → Grew (flat_map f (range_with_len 0 i)) first now → Grew (f i) now next → Grew (flat_map f (range_with_len 0 (i + 1))) first next
  grew_next next h k = record { ranks_are = k.ranks_are ∙ h.ranks_are; acts_are = extended f i first.acts now.acts next.acts h.acts_are k.acts_are }

  -- the same if the acts are given by an equation
  module _ (acts : List Act) (is : acts ≡ f i) where
    -- they are refused only for want of memory if all are within the limit
    pub refused_next : (n : ℕ) (e : PlanFault) → i < n → IsWithinLimit first (flat_map f (range_with_len 0 n)) → Grew (flat_map f (range_with_len 0 i)) first now → IsRefusal now acts e → e ≡ no_memory
    refused_next n e l w h r = only_memory now (f i) e (within_next n l w h) (subst (λ xs. IsRefusal now xs e) is r)

    -- appended, they are the acts of one number more
    pub appended_next : (next : PlanView) → Grew (flat_map f (range_with_len 0 i)) first now → next.ranks ≡ now.ranks → next.acts ≡ now.acts ++ acts → Grew (flat_map f (range_with_len 0 (i + 1))) first next
    appended_next next h r k = grew_next next h (record { ranks_are = r; acts_are = k ∙ ap (λ xs. now.acts ++ xs) is })

-- a loop that pushes an act for each number
pub grew_by_one : (f : ℕ → Act) (i : ℕ) (first now next : PlanView) → Grew (map f (range_with_len 0 i)) first now → next.ranks ≡ now.ranks → next.acts ≡ now.acts ++ f i ∷ [] → Grew (map f (range_with_len 0 (i + 1))) first next
grew_by_one f i first now next h r k = record { ranks_are = r ∙ h.ranks_are; acts_are = pushed f i first.acts now.acts next.acts h.acts_are k }

-- if as many acts are within the limit, room is refused only for want of memory
pub room_refused : (f : ℕ → Act) (n count : ℕ) (plan : PlanView) (e : PlanFault) → count ≡ n → IsWithinLimit plan (map f (range_with_len 0 n)) → (4294967295 < length plan.acts + count) × (e ≡ too_long plan) ⊎ (e ≡ no_memory) → e ≡ no_memory
room_refused f n count plan e is l h =
    let k = length-map-range_with_len f 0 n in
    ⊎_elim (λ (t : (4294967295 < length plan.acts + count) × (e ≡ too_long plan)). absurd (let m = t.0 in omega arith)) (λ (m : e ≡ no_memory). m) h

-- what holds of a new plan's acts with some others after them holds of the plan that is ended by these
pub ended : {E : Type 0} (P : List Act → Type 0) (acts ends : List Act) (first now : PlanView) (r : Result Planned E) → first.acts ≡ [] → Grew acts first now → IfOk r (λ p. p.plan.acts ≡ now.acts ++ ends) → P (acts ++ ends) → IfOk r (λ p. P p.plan.acts)
ended P acts ends first now (Ok p) e h is holds = subst P (sym (is ∙ ap (λ xs. xs ++ ends) (grew_all acts first now e h))) holds
ended P acts ends first now (Err f) e h is holds = tt

-- what flows from the starts flows in a plan that has these acts alone
pub grown_flows : (ranks : ℕ) (starts same : List Start) (acts : List Act) (first now : PlanView) → first.acts ≡ [] → Grew acts first now → same ≡ starts → Flows ranks none_shut (started starts) acts → Flows ranks none_shut (started same) now.acts
grown_flows ranks starts same acts first now e h is flow =
    subst (λ xs. Flows ranks none_shut (started same) xs) (sym (grew_all acts first now e h))
    (subst (λ (ss : List Start). Flows ranks none_shut (started ss) acts) (sym is) flow)
