-- What each rank did by itself, over lanes, is what the whole plan means.
use Rattle.std.proofs.Common.{◌≡◌, ◌≢◌, ℕ, ◌<◌, ◌≤◌, List, [], ◌∷◌, ◌++◌, length, get_or, refl, sym, ap, ◌∙◌, subst, arith, append_assoc, append-nil}
use Rattle.cb_semirings.specs.Arithmetic.{Arithmetic}
use Rattle.cb_matrix.specs.Sparse.{Sparse, Extent}
use Rattle.cb_letters.specs.declared.Tag.{Tag}
use Rattle.cb_letters.specs.declared.Letter.{Letter}
use Rattle.cb_plan.specs.declared.acts.Act.{Act}
use Rattle.cb_plan.specs.declared.stores.Slot.TheVariants as slot_is
use Rattle.cb_plan.specs.Algebras.{matrices, shapes}
use Rattle.cb_plan.specs.Checks.{Passes, Lanes, shut_after, none_shut, started}
use Rattle.cb_plan.specs.PlanLetters.{Cargo, letter_of, letters}
use Rattle.cb_plan.specs.Meaning.{State, act, images, meaning, one}
use Rattle.cb_plan.specs.Programs.{halves_of, project_from}
use Rattle.cb_plan.specs.Stores.{state_of}
use Rattle.cb_plan.proofs.Effects.{same_state}
use Rattle.cb_plan.proofs.ShapesOfMeaning.{act_turns, shape_turns}
use Rattle.cb_plan.proofs.PassingActs.{checked_passes}
use Rattle.cb_plan.specs.declared.stores.Slot.{Slot}
use Rattle.cb_plan.specs.Plans.{CheckedView, IsChecked}
use Rattle.cb_plan.specs.Programs.{project}
use Rattle.cb_plan.specs.Stores.{Fits}
use Rattle.cb_rank.specs.Agreement.{IsSlotOf, AreLettersOf}
use Rattle.cb_rank.specs.Halves.{Course, RunsTo, slot_at}
use Rattle.cb_rank_runs.specs.Runs.{fresh}
use Rattle.cb_rank_runs.proofs.Courses.{Extends, Grows, grows, parts, choose}
use Rattle.cb_rank_runs.proofs.Acts.{CoursesStand, IsWholeLane, GoToOne, acts_stand}
use Rattle.cb_rank_runs.proofs.Results.{sheet_stands}
use mathlib.Core.List.{IsPrefix}

-- prefixes of prefixes of one list
meet_before : (xs ys xs' ys' : List (Letter Sparse)) → Extends xs xs' → Extends ys ys' → GoToOne xs' ys' → GoToOne xs ys
meet_before xs ys xs' ys' h k m = (
  h.0 ++ m.0,
  k.0 ++ m.1,
  sym (append_assoc xs h.0 m.0) ∙ ap (λ z. z ++ m.0) (sym h.1) ∙ m.2 ∙ ap (λ z. z ++ m.1) k.1 ∙ append_assoc ys k.0 m.1,
)

measured_next : (s : Arithmetic) (a : Act) (state : State Sparse) (outline : State Extent) → ((r n : ℕ) → outline r n ≡ one (λ (m : Sparse). m.shape) (state r n)) → (r n : ℕ) → act shapes a outline r n ≡ one (λ (m : Sparse). m.shape) (act (matrices s) a state r n)
measured_next s a state outline h r n =
    ap (λ (z : State Extent). act shapes a z r n) (same_state outline (images (λ (m : Sparse). m.shape) state) h)
    ∙ sym (act_turns (λ (m : Sparse). m.shape) (matrices s) shapes (shape_turns s) a state r n)

-- all acts, one after the other
pub walk : (s : Arithmetic) (refs : ℕ → ℕ) (ranks : ℕ) (acts : List Act) (state : State Sparse) (outline : State Extent) (shut : Lanes) (sent : ℕ → ℕ → List (Tag × Cargo Sparse)) (c last : ℕ → Course) →
    ((r n : ℕ) → outline r n ≡ one (λ (m : Sparse). m.shape) (state r n)) → Passes ranks outline shut acts →
    ((r : ℕ) → r < ranks → RunsTo s r (project_from outline acts r) (c r) (last r)) → ((r : ℕ) → r < ranks → (last r).refusals ≤ refs r) →
    ((f t : ℕ) → f < ranks → t < ranks → f ≢ t → GoToOne ((last t).taken f) ((last f).posted t)) → CoursesStand refs ranks state sent c →
    CoursesStand refs ranks (meaning (matrices s) acts state) (λ f t. sent f t ++ letters (matrices s) acts state f t) last
walk s refs ranks [] state outline shut sent c last measured passes runs counts meet stands = record {
  slots = λ r n h. rw (runs r h) (stands.slots r n h);
  sizes = λ r h. rw (runs r h) (stands.sizes r h);
  lanes = λ f t g h ne. rw (append-nil (sent f t), runs f g, runs t h) (stands.lanes f t g h ne);
}
walk s refs ranks (a ∷ acts) state outline shut sent c last measured passes runs counts meet stands =
    let rest_of : ℕ → _ = λ r. project_from (act shapes a outline) acts r in
    let chosen = choose ranks (λ r mid. RunsTo s r (halves_of outline a r) (c r) mid × RunsTo s r (rest_of r) mid (last r)) (fresh []) (λ r h. parts s r (halves_of outline a r) (rest_of r) (c r) (last r) (runs r h)) in
    let mid : ℕ → Course = chosen.0 in
    let grown : (r : ℕ) → r < ranks → Grows (mid r) (last r) = λ r h. grows s r (rest_of r) (mid r) (last r) (chosen.1 r h).1 in
    let meets : (f t : ℕ) → f < ranks → t < ranks → f ≢ t → GoToOne ((mid t).taken f) ((mid f).posted t) = λ f t g h ne. meet_before ((mid t).taken f) ((mid f).posted t) ((last t).taken f) ((last f).posted t) ((grown t h).taken f) ((grown f g).posted t) (meet f t g h ne) in
    let few : (r : ℕ) → r < ranks → (mid r).refusals ≤ refs r = λ r h. let x = (grown r h).refusals in let y = counts r h in omega arith in
    let after = acts_stand s refs ranks state outline shut sent c mid measured few stands a passes.0 (λ r h. (chosen.1 r h).0) meets in
    let end = walk s refs ranks acts (act (matrices s) a state) (act shapes a outline) (shut_after a shut) (λ f t. sent f t ++ letter_of a state f t) mid last (measured_next s a state outline measured) passes.1 (λ r h. (chosen.1 r h).1) counts meet after in
    record {
      slots = end.slots;
      sizes = end.sizes;
      lanes = λ f t g h ne. subst (λ z. IsWholeLane refs f t z ((last f).posted t) ((last t).taken f)) (append_assoc (sent f t) (letter_of a state f t) (letters (matrices s) acts (act (matrices s) a state) f t)) (end.lanes f t g h ne);
    }

-- every slot and every lane is what the whole plan means
pub record AreFinished (s : Arithmetic) (p : CheckedView) (first : List (List (Slot Sparse))) (courses : ℕ → Course) : Type 0 where
  pub slots : (r n : ℕ) → r < p.ranks → IsSlotOf (λ q. (courses q).refusals) (meaning (matrices s) p.acts (state_of first) r n) (slot_at (courses r).slots n)
  pub sizes : (r : ℕ) → r < p.ranks → length (courses r).slots ≡ 256
  pub lanes : (f t : ℕ) → f < p.ranks → t < p.ranks → f ≢ t →
      AreLettersOf (λ q. (courses q).refusals) f t 0 (letters (matrices s) p.acts (state_of first) f t) ((courses f).posted t)
      × ((courses t).taken f ≡ (courses f).posted t)

-- the closing law, for ranks that each ran their program by themselves, if what was taken on each lane is a prefix of what was
-- posted there
pub closes : (s : Arithmetic) (p : CheckedView) (first : List (List (Slot Sparse))) (courses : ℕ → Course) → IsChecked p → Fits p.ranks p.starts first
    → ((r : ℕ) → r < p.ranks → RunsTo s r (project p.starts p.acts r) (fresh (get_or first r [])) (courses r))
    → ((f t : ℕ) → f < p.ranks → t < p.ranks → f ≢ t → IsPrefix ((courses t).taken f) ((courses f).posted t))
    → AreFinished s p first courses
closes s p first courses checked fits runs prefixes =
    let refs : ℕ → ℕ = λ q. (courses q).refusals in
    let begins : CoursesStand refs p.ranks (state_of first) (λ _ _. []) (λ r. fresh (get_or first r [])) = record {
      slots = λ r n h. sheet_stands refs (get_or (get_or first r []) n slot_is.Empty) (fits.none_lost r n);
      sizes = λ r h. fits.table.cols r h;
      lanes = λ f t g h ne. record { letters = tt; all_taken = refl };
    } in
    let end = walk s refs p.ranks p.acts (state_of first) (started p.starts) none_shut (λ _ _. []) (λ r. fresh (get_or first r [])) courses
    (λ r n. ap (λ (z : State Extent). z r n) (sym fits.shapes)) (checked_passes p.ranks 0 (started p.starts) none_shut p.acts checked.no_fault) runs (λ r h. omega arith)
    (λ f t g h ne. let z = prefixes f t g h ne in (z.0, [], z.1 ∙ sym (append-nil ((courses f).posted t)))) begins in
    record {
      slots = end.slots;
      sizes = end.sizes;
      lanes = λ f t g h ne. let l = end.lanes f t g h ne in (l.letters, l.all_taken);
    }
