-- Loops that extend a plan by a list of acts for each number, and operations that such loops push.
use Rattle.std.proofs.Common.{◌≡◌, ℕ, ◌+◌, ◌<◌, List, [], ◌∷◌, ◌++◌, map, refl, sym, ap, subst, ◌∙◌}
use Rattle.std.specs.List.{range_with_len, flat_map}
use Rattle.std.proofs.lemmas.List.{map-append}
use Rattle.std.proofs.lemmas.List.Concat.{flat_map_single}
use Rattle.cb_plan.specs.declared.acts.Op.{Op}
use Rattle.cb_plan.specs.declared.acts.Act.{Act}
use Rattle.cb_plan.specs.declared.acts.Act.TheVariants as act_is
use Rattle.cb_plan.specs.Plans.{PlanView}
use Rattle.cb_plan_parts.specs.Growth.{IsWithinLimit, Grew}
use Rattle.cb_plan_parts.proofs.LoopGrowth.{within_next, grew_next}
use Rattle.cb_plan_operations.specs.VectorPlans.{works}

-- the acts of the next number, which are given by an equation
module _ (f : ℕ → List Act) (i : ℕ) (first now : PlanView) (acts : List Act) (is : acts ≡ f i) where
  -- if the acts of all numbers are within the limit of a plan, so are those of the next one
  pub next_within : (n : ℕ) → i < n → IsWithinLimit first (flat_map f (range_with_len 0 n)) → Grew (flat_map f (range_with_len 0 i)) first now → IsWithinLimit now acts
  next_within n l w h = subst (λ xs. IsWithinLimit now xs) (sym is) (within_next f i first now n l w h)

  -- with the acts of the next number added, the plan grew by those of one number more
  pub next_grew : (next : PlanView) → Grew (flat_map f (range_with_len 0 i)) first now → Grew acts now next → Grew (flat_map f (range_with_len 0 (i + 1))) first next
  next_grew next h k = grew_next f i first now next h (subst (λ xs. Grew xs now next) is k)

-- operations that are listed number by number
pub works_lists : (r : ℕ) (f : ℕ → List Op) (ks : List ℕ) → works r (flat_map f ks) ≡ flat_map (λ k. works r (f k)) ks
works_lists r f [] = refl
works_lists r f (k ∷ ks) = map-append (λ op. act_is.Work r op) (f k) (flat_map f ks) ∙ ap (λ xs. works r (f k) ++ xs) (works_lists r f ks)

-- the same of one operation for each number
pub works_each : (r : ℕ) (f : ℕ → Op) (ks : List ℕ) → works r (map f ks) ≡ flat_map (λ k. works r (f k ∷ [])) ks
works_each r f ks = ap (works r) (sym (flat_map_single f ks)) ∙ works_lists r (λ k. f k ∷ []) ks
