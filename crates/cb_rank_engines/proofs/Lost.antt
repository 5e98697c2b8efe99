-- After a plan each slot has what the plan means, or it is lost at a rank that was refused memory.
use Rattle.std.proofs.Common.{ℕ, ◌<◌, List, get_or, sym, subst}
use Rattle.std.specs.Prelude.{Option}
use Rattle.cb_semirings.specs.Arithmetic.{Arithmetic}
use Rattle.cb_matrix.specs.Sparse.{Sparse}
use Rattle.cb_plan.specs.declared.stores.Slot.{Slot}
use Rattle.cb_plan.specs.declared.stores.Slot.TheVariants as slot_is
use Rattle.cb_plan.specs.Algebras.{matrices}
use Rattle.cb_plan.specs.Meaning.{meaning}
use Rattle.cb_plan.specs.Plans.{CheckedView}
use Rattle.cb_plan.specs.Stores.{state_of}
use Rattle.cb_plan.specs.PlanTables.{cell}
use Rattle.cb_rank.specs.Agreement.{IsSlotOf}
use Rattle.cb_rank.specs.Leavings.{HoldsMeaning}
use Rattle.cb_rank.proofs.LostSlots.{lost_where_refused}
use Rattle.cb_plan_slots.specs.Losses.{IsLostOr, LostOrMeans}
use Rattle.cb_rank_engines.specs.EngineRuns.{LostWhereRefused}

-- a slot for what is meant has it, or is lost
lost_or : (refusals : ℕ → ℕ) (wanted : Option Sparse) (x : Slot Sparse) → IsSlotOf refusals wanted x → IsLostOr wanted x
lost_or refusals wanted slot_is.Empty h = h
lost_or refusals wanted (slot_is.Sheet m) h = h
lost_or refusals wanted (slot_is.Lost origin) h = h.0

-- what ranks leave after a plan
module _ (s : Arithmetic) (p : CheckedView) (first stores : List (List (Slot Sparse))) (refusals : List ℕ) (left : HoldsMeaning s p first stores refusals) where
  -- each slot has what the plan means there, or is lost
  pub left_means : LostOrMeans (meaning (matrices s) p.acts (state_of first)) stores
  left_means r n = lost_or (λ k. get_or refusals k 0) (meaning (matrices s) p.acts (state_of first) r n) (cell slot_is.Empty stores r n) (left.slots r n)

  -- each lost slot names a rank that was refused memory
  pub left_lost : LostWhereRefused stores refusals
  left_lost r n origin is =
      let there = lost_where_refused s p first stores refusals left r n origin is in
      (subst (λ k. origin < k) (sym left.counts) there.0, there.1)
