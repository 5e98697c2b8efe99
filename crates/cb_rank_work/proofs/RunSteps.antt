-- The steps of a plan that runs.
use Rattle.std.proofs.Common.{◌≡◌, ℕ, ◌+◌, ◌<◌, ◌≤◌, Bool, List, ◌++◌, length, get_or, drop, sym, ap, ◌∙◌}
use Rattle.std.specs.Prelude.{None}
use Rattle.cb_semirings.specs.Arithmetic.{Arithmetic}
use Rattle.cb_matrix.specs.Sparse.{Sparse}
use Rattle.cb_plan.specs.declared.acts.Act.{Act}
use Rattle.cb_plan.specs.declared.stores.Slot.{Slot}
use Rattle.cb_plan.specs.Meaning.{images, act, meaning}
use Rattle.cb_plan.specs.Algebras.{matrices, shapes}
use Rattle.cb_plan.specs.Checks.{Lanes, IsSound, fault_from, shut_after}
use Rattle.cb_plan.specs.Closings.{closings}
use Rattle.cb_plan.specs.Stores.{state_of, shapes_of, NoneLost}
use Rattle.cb_plan.specs.PlanTables.{IsTable}
use Rattle.cb_plan.proofs.CheckSteps.{next_element}
use Rattle.cb_plan.proofs.Effects.{same_state}
use Rattle.cb_plan.proofs.PassingActs.{no_fault_next}
use Rattle.cb_plan.proofs.ShapesOfMeaning.{act_turns, shape_turns}
use Rattle.cb_plan.proofs.ShutMeaning.{closings_do_nothing}
use Rattle.cb_plan.proofs.StoredActs.{second_left}
use Rattle.cb_rank_work.specs.Running.{Runs}

module _ (s : Arithmetic) (ranks : ℕ) (acts : List Act) (i : ℕ) (first now : List (List (Slot Sparse))) (runs : Runs s ranks acts i first now) (a : Act) (l : i < length acts) (e : a ≡ get_or acts i a) where
  next : IsSound ranks (shapes_of now) runs.shut a × (fault_from ranks (i + 1) (act shapes a (shapes_of now)) (shut_after a runs.shut) (drop (i + 1) acts) ≡ None)
  next = no_fault_next ranks i (shapes_of now) runs.shut acts a l e runs.no_fault

  -- the next act can be done
  pub next_is_sound : (shut : Lanes) × IsSound (length now) (shapes_of now) shut a
  next_is_sound = (runs.shut, rw runs.table.rows next.0)

  -- the plan runs on after it
  pub next_runs : (after : List (List (Slot Sparse))) → IsTable (length now) 256 after → NoneLost after → state_of after ≡ act (matrices s) a (state_of now) → Runs s ranks acts (i + 1) first after
  next_runs after table none is =
      let shapes_are : shapes_of after ≡ act shapes a (shapes_of now) =
      ap (images (λ (m : Sparse). m.shape)) is ∙ same_state (images (λ (m : Sparse). m.shape) (act (matrices s) a (state_of now))) (act shapes a (shapes_of now)) (act_turns (λ m. m.shape) (matrices s) shapes (shape_turns s) a (state_of now)) in
      record {
        table = rw (sym runs.table.rows) table;
        none_lost = none;
        shut = shut_after a runs.shut;
        no_fault = ap (λ x. fault_from ranks (i + 1) x (shut_after a runs.shut) (drop (i + 1) acts)) shapes_are ∙ next.1;
        means = ap (meaning (matrices s) (drop (i + 1) acts)) is ∙ sym (ap (λ xs. meaning (matrices s) xs (state_of now)) (next_element acts i a l e)) ∙ runs.means;
      }

-- past the acts that are stored the plan has run: what is left changes no slot
pub has_run : (s : Arithmetic) (ranks : ℕ) (acts stored : List Act) (closes : Bool) (i : ℕ) (first now : List (List (Slot Sparse))) → acts ≡ stored ++ closings ranks closes → length stored ≤ i → i ≤ length stored → Runs s ranks acts i first now → state_of now ≡ meaning (matrices s) acts (state_of first)
has_run s ranks acts stored closes i first now e l m runs =
    let left : drop i acts ≡ closings ranks closes = ap (drop i) e ∙ second_left stored (closings ranks closes) i l m in
    sym (ap (λ xs. meaning (matrices s) xs (state_of now)) left ∙ closings_do_nothing (matrices s) ranks closes (state_of now)) ∙ runs.means
