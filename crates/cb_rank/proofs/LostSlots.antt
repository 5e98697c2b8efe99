-- What is lost of what ranks leave, and at which ranks.
use Rattle.std.proofs.Common.{◌≡◌, ℕ, ◌<◌, ◌≤◌, false, List, length, sym, refl, subst, arith, ⊎_elim}
use Rattle.std.specs.Prelude.{Option, get_or, sum}
use Rattle.std.proofs.lemmas.Bool.{cases_lt}
use Rattle.std.proofs.lemmas.List.Sums.{get_or-le-sum_by}
use Rattle.std.proofs.Math.ListN.{get_or-eq_default}
use Rattle.cb_semirings.specs.Arithmetic.{Arithmetic}
use Rattle.cb_matrix.specs.Sparse.{Sparse}
use Rattle.cb_plan.specs.declared.stores.Slot.{Slot}
use Rattle.cb_plan.specs.declared.stores.Slot.TheVariants as slot_is
use Rattle.cb_plan.specs.Algebras.{matrices}
use Rattle.cb_plan.specs.Meaning.{State, meaning}
use Rattle.cb_plan.specs.Plans.{CheckedView}
use Rattle.cb_plan.specs.Stores.{state_of, sheet_of, is_lost, NoneLost}
use Rattle.cb_plan.specs.PlanTables.{cell}
use Rattle.cb_plan.proofs.Effects.{same_state}
use Rattle.cb_rank.specs.Agreement.{IsSlotOf}
use Rattle.cb_rank.specs.Leavings.{HoldsMeaning}

-- no count is above their sum, so if that is 0 each is
none_refused : (refusals : List ℕ) → sum refusals ≡ 0 → (k : ℕ) → get_or refusals k 0 ≡ 0
none_refused refusals none k =
    ⊎_elim
    (λ (l : k < length refusals). let least = get_or-le-sum_by (λ (x : ℕ). x) refusals k 0 l in omega arith)
    (λ (l : length refusals ≤ k). get_or-eq_default refusals 0 {n = k} l)
    (cases_lt k (length refusals))

-- if no rank was refused memory, a slot holds what the plan means there
holds : (refusals : ℕ → ℕ) (wanted : Option Sparse) (x : Slot Sparse) → ((k : ℕ) → refusals k ≡ 0) → IsSlotOf refusals wanted x → (sheet_of x ≡ wanted) × (is_lost x ≡ false)
holds refusals wanted slot_is.Empty none h = (sym h, refl)
holds refusals wanted (slot_is.Sheet m) none h = (sym h, refl)
holds refusals wanted (slot_is.Lost origin) none h = let zero_at = none origin in let some = h.1 in absurd (omega arith)

-- if no rank was refused memory, all slots do
pub whole_by : (refusals : List ℕ) (wanted : State Sparse) (stores : List (List (Slot Sparse))) → ((r n : ℕ) → IsSlotOf (λ k. get_or refusals k 0) (wanted r n) (cell slot_is.Empty stores r n)) → sum refusals ≡ 0 → (state_of stores ≡ wanted) × NoneLost stores
whole_by refusals wanted stores slots none =
    let zeros = none_refused refusals none in
    let each : (r n : ℕ) → (sheet_of (cell slot_is.Empty stores r n) ≡ wanted r n) × (is_lost (cell slot_is.Empty stores r n) ≡ false) =
    λ r n. holds (λ k. get_or refusals k 0) (wanted r n) (cell slot_is.Empty stores r n) zeros (slots r n) in
    (same_state (state_of stores) wanted (λ r n. (each r n).0), λ r n. (each r n).1)

-- what ranks leave of a plan
module _ (s : Arithmetic) (p : CheckedView) (first stores : List (List (Slot Sparse))) (refusals : List ℕ) (left : HoldsMeaning s p first stores refusals) where
  -- if no rank was refused memory, no slot is lost
  pub none_lost : sum refusals ≡ 0 → NoneLost stores
  none_lost none = (left.whole none).1

  -- a lost slot names a rank of the plan, which was refused memory
  pub lost_where_refused : (r n origin : ℕ) → cell slot_is.Empty stores r n ≡ slot_is.Lost origin → (origin < p.ranks) × (0 < get_or refusals origin 0)
  lost_where_refused r n origin is =
      let slot = subst (λ (x : Slot Sparse). IsSlotOf (λ k. get_or refusals k 0) (meaning (matrices s) p.acts (state_of first) r n) x) is (left.slots r n) in
      let size = left.counts in (
        ⊎_elim
            (λ (l : origin < length refusals). omega arith)
            (λ (l : length refusals ≤ origin). let none = get_or-eq_default refusals 0 {n = origin} l in let some = slot.1 in absurd (omega arith))
            (cases_lt origin (length refusals)),
        slot.1,
      )
