-- The steps of a projection.
use Rattle.std.proofs.Common.{◌≡◌, ℕ, ◌+◌, ◌<◌, ◌≤◌, List, [], ◌++◌, length, get_or, drop, refl, sym, ap, ◌∙◌, append_assoc, append-nil}
use Rattle.std.specs.Prelude.{Option, None}
use Rattle.cb_plan.specs.declared.acts.Act.{Act}
use Rattle.cb_plan.specs.declared.acts.Half.{Half}
use Rattle.cb_plan.specs.Algebras.{shapes}
use Rattle.cb_plan.specs.Meaning.{act}
use Rattle.cb_plan.specs.Plans.{CheckedView, IsChecked}
use Rattle.cb_plan.specs.Checks.{CheckState, IsSound, IsStarted, DidAct, fault_from, shut_after, slots_in, lanes_in}
use Rattle.cb_plan.specs.Programs.{Projects, half_list, halves_of, project_from}
use Rattle.cb_plan.proofs.CheckSteps.{next_element, from_start}
use Rattle.cb_plan.proofs.PassingActs.{no_fault_next}
use Rattle.cb_plan.proofs.StoredActs.{second_left}

-- before the first act of a checked plan, none of its acts has a fault
pub no_fault_at_start : (p : CheckedView) (o : CheckState) → IsChecked p → IsStarted p.ranks p.starts o → fault_from o.ranks 0 (slots_in o.slots) (lanes_in o.shut) p.acts ≡ None
no_fault_at_start p o checked is = from_start p.ranks p.starts p.acts o (fault_from o.ranks 0 (slots_in o.slots) (lanes_in o.shut) p.acts) is refl ∙ checked.no_fault

module _ (ranks : ℕ) (acts : List Act) (r i : ℕ) (o : CheckState) (halves whole : List Half) (projects : Projects ranks acts r i o halves whole) (a : Act) (l : i < length acts) (e : a ≡ get_or acts i a) where
  next : IsSound ranks (slots_in o.slots) (lanes_in o.shut) a × (fault_from ranks (i + 1) (act shapes a (slots_in o.slots)) (shut_after a (lanes_in o.shut)) (drop (i + 1) acts) ≡ None)
  next = no_fault_next ranks i (slots_in o.slots) (lanes_in o.shut) acts a l e projects.no_fault

  -- the next act has no fault
  pub act_is_sound : IsSound o.ranks (slots_in o.slots) (lanes_in o.shut) a
  act_is_sound = rw projects.ranks_are next.0

  -- the program has its half of that act, if there is one
  pub next_projects : (half : Option Half) (after : CheckState) (longer : List Half) → half_list half ≡ halves_of (slots_in o.slots) a r → DidAct a o after → longer ≡ halves ++ half_list half → Projects ranks acts r (i + 1) after longer whole
  next_projects half after longer is did more = record {
    ranks_are = did.ranks ∙ projects.ranks_are;
    no_fault = ap (λ x. fault_from ranks (i + 1) x (lanes_in after.shut) (drop (i + 1) acts)) did.slots
        ∙ ap (λ x. fault_from ranks (i + 1) (act shapes a (slots_in o.slots)) x (drop (i + 1) acts)) did.shut ∙ next.1;
    so_far =
        let rest : List Half = project_from (act shapes a (slots_in o.slots)) (drop (i + 1) acts) r in
        ap (λ x. longer ++ project_from x (drop (i + 1) acts) r) did.slots
        ∙ ap (λ x. x ++ rest) (more ∙ ap (λ x. halves ++ x) is)
        ∙ append_assoc halves (halves_of (slots_in o.slots) a r) rest
        ∙ sym (ap (λ x. halves ++ project_from (slots_in o.slots) x r) (next_element acts i a l e))
        ∙ projects.so_far;
  }

module _ (ranks : ℕ) (acts rest : List Act) (r i : ℕ) (o : CheckState) (halves whole : List Half) (projects : Projects ranks (acts ++ rest) r i o halves whole) (l : length acts ≤ i) (m : i ≤ length acts) where
  -- past the acts that are stored, the program lacks the halves of those after them
  pub rest_projected : (more : List Half) → project_from (slots_in o.slots) rest r ≡ more → halves ++ more ≡ whole
  rest_projected more e = sym (ap (λ x. halves ++ project_from (slots_in o.slots) x r) (second_left acts rest i l m) ∙ ap (λ x. halves ++ x) e) ∙ projects.so_far

  -- if there are none, it is whole
  pub all_projected : rest ≡ [] → halves ≡ whole
  all_projected none = sym (append-nil halves) ∙ rest_projected [] (ap (λ x. project_from (slots_in o.slots) x r) none)
