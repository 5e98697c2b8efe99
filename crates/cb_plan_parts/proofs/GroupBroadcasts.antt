-- Broadcasts in some groups pass the check.
use Rattle.std.proofs.Common.{◌≡◌, ◌≢◌, ℕ, ◌<◌, true, false, List, length, ap, ◌∙◌, arith}
use Rattle.std.specs.Prelude.{Some, ◌==◌, flat_map}
use Rattle.std.specs.List.{range_with_len}
use Rattle.std.proofs.lemmas.Bool.Decides.{nat_tests}
use Rattle.cb_letters.specs.declared.Tag.{Tag}
use Rattle.cb_matrix.specs.Sparse.{Extent}
use Rattle.cb_plan.specs.Meaning.{State, meaning}
use Rattle.cb_plan.specs.Algebras.{shapes}
use Rattle.cb_plan.specs.Checks.{Lanes}
use Rattle.cb_plan.proofs.Effects.{split}
use Rattle.cb_plan_parts.specs.Collectives.{is_member, member, AreDistinct, broadcast_acts}
use Rattle.cb_plan_parts.proofs.Spread.{broadcast_spreads}
use Rattle.cb_plan_parts.proofs.BroadcastCheck.{broadcast_passes, broadcast_keeps_lanes}
use Rattle.cb_plan_parts.specs.Flows.{Flows}
use Rattle.cb_plan_parts.proofs.Flows.{flows_each}

-- broadcasts in some groups, if each root has the slot filled
module _ (ranks : ℕ) (shut : Lanes) (open_lanes : (s t : ℕ) → shut s t ≡ false) (tag : Tag) (slot into : ℕ) (slot_exists : slot < 256) (into_exists : into < 256)
    (group : ℕ → List ℕ) (root : ℕ → ℕ) (content : ℕ → Extent) (last : ℕ) (differ_slots : slot ≢ into)
    (there : (g : ℕ) → g < last → is_member (group g) (root g) ≡ true)
    (exist : (g : ℕ) → g < last → (p : ℕ) → p < length (group g) → member (group g) p < ranks)
    (distinct : (g : ℕ) → g < last → AreDistinct (group g)) where
  abbrev Roots : State Extent → Type 0
  Roots state = (g : ℕ) → g < last → state (root g) slot ≡ Some (content g)

  one_group : (g : ℕ) (state : State Extent) → g < last → Roots state →
      Flows ranks shut state (broadcast_acts (group g) (root g) tag slot into) × Roots (meaning shapes (broadcast_acts (group g) (root g) tag slot into) state)
  one_group g state l has = (
    record {
      passes = broadcast_passes ranks (group g) (root g) tag slot into (content g) shut state (there g l) (distinct g l) (exist g l) slot_exists into_exists open_lanes (has g l);
      lanes = broadcast_keeps_lanes (group g) (root g) tag slot into shut;
    },
    λ h m.
        let f : (into == slot) ≡ false = grind (arith, nat_tests) in
        ap (λ x. x (root h) slot) (broadcast_spreads shapes (group g) (root g) tag slot into state (there g l))
        ∙ split (is_member (group g) (root h)) (λ t. rw (t, f) (has h m)) (λ t. rw t (has h m)),
  )

  -- all broadcasts, one after the other, pass the check and shut no lane
  pub groups_flow : (state : State Extent) → Roots state → Flows ranks shut state (flat_map (λ g. broadcast_acts (group g) (root g) tag slot into) (range_with_len 0 last))
  groups_flow state has = flows_each ranks shut (λ g. broadcast_acts (group g) (root g) tag slot into) (λ _ state. Roots state) last one_group 0 last state (omega arith) has
