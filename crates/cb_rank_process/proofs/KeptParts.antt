-- What a process keeps of a plan that the processes of its grid did in a joint run.
use Rattle.std.proofs.Common.{◌≡◌, ◌≢◌, ℕ, ◌<◌, ◌≤◌, true, false, List, [], get_or, Option, Some, None, Result, Ok, Err, sym, ap, subst, ◌∙◌, ⊎_elim, arith}
use Rattle.std.specs.Prelude.{Bool, nat_lt}
use mathlib.Core.List.{IsPrefix}
use Rattle.std.proofs.lemmas.Bool.{cases_lt}
use Rattle.std.proofs.lemmas.Bool.Decides.{nat_tests}
use Rattle.cb_semirings.specs.Arithmetic.{Arithmetic}
use Rattle.cb_matrix.specs.Sparse.{Sparse}
use Rattle.cb_plan.specs.declared.stores.Slot.{Slot}
use Rattle.cb_plan.specs.Algebras.{matrices}
use Rattle.cb_plan.specs.Meaning.{State, meaning}
use Rattle.cb_plan.specs.Plans.{CheckedView}
use Rattle.cb_plan.specs.Programs.{project}
use Rattle.cb_plan.specs.Stores.{state_of}
use Rattle.cb_rank.specs.Agreement.{IsSlotOf}
use Rattle.cb_rank.specs.Halves.{Course, RunsTo, slot_at}
use Rattle.cb_rank.specs.Ranks.{IsRank}
use Rattle.cb_rank_runs.specs.Runs.{fresh}
use Rattle.cb_rank_runs.proofs.ClosingLaw.{AreFinished, closes}
use Rattle.cb_rank_driven.specs.declared.driven_ranks.NoBlock.{NoBlock}
use Rattle.cb_rank_driven.specs.declared.driven_ranks.NoBlock.TheVariants as none_as
use Rattle.cb_rank_driven.specs.DrivenRanks.{DrivenView}
use Rattle.cb_rank_driven.specs.Joined.{IsHeld, IsOneOf, IsShare, WasRefused}
use Rattle.cb_rank_process.specs.Processes.{ProcessView, TaskView}
use Rattle.cb_rank_process.specs.Results.{Brings}
use Rattle.cb_rank_process.specs.Kept.{IsJointRun, IsOneRun}

-- this course, or that of a rank that does nothing
abbrev pick : Bool → Course → Course
pick true c = c
pick false c = fresh []

module _ (p : CheckedView) (courses : ℕ → Course) where
  -- the courses of the plan's ranks, and that of a rank that does nothing for any other number
  abbrev only : ℕ → Course
  only r = pick (nat_lt r p.ranks) (courses r)

  only_is : (r : ℕ) → r < p.ranks → only r ≡ courses r
  only_is r l = let t : nat_lt r p.ranks ≡ true = grind (arith, nat_tests) in ap (λ b. pick b (courses r)) t

  -- a rank that was refused memory is one of the plan's
  refused_is : (r : ℕ) → 0 < (only r).refusals → WasRefused p courses r
  refused_is r some =
      ⊎_elim
      (λ (l : r < p.ranks). (l, subst (λ (c : Course). 0 < c.refusals) (only_is r l) some))
      (λ (l : p.ranks ≤ r).
      let f : nat_lt r p.ranks ≡ false = grind (arith, nat_tests) in
      let none : (only r).refusals ≡ 0 = ap (λ b. (pick b (courses r)).refusals) f in
      absurd (omega arith))
      (cases_lt r p.ranks)

  -- what is handed over of a slot that agrees with what is meant
  share : {R : Type 0} (w : Option Sparse) (m : Sparse) (slot : Slot Sparse) (result : Result Sparse (NoBlock R))
      → w ≡ Some m → IsSlotOf (λ k. (only k).refusals) w slot → IsHeld slot result → IsShare p courses m result
  share w m slot (Ok block) is agrees held =
      let there : w ≡ Some block = subst (λ y. IsSlotOf (λ k. (only k).refusals) w y) held agrees in
      let same : Some m ≡ Some block = sym is ∙ there in
      cc
  share w m slot (Err (none_as.NotDone r)) is agrees held = absurd held
  share w m slot (Err none_as.Empty) is agrees held =
      let there : w ≡ None = subst (λ y. IsSlotOf (λ k. (only k).refusals) w y) held agrees in
      let never : Some m ≡ None = sym is ∙ there in
      cc
  share w m slot (Err (none_as.Lost origin)) is agrees held =
      let lost = subst (λ y. IsSlotOf (λ k. (only k).refusals) w y) held agrees in
      refused_is origin lost.1
  share w m slot (Err none_as.Memory) is agrees held = tt

-- what a rank hands over of the slot in which the plan brings it its part
share_of_rank : {R : Type 0} (s : Arithmetic) (x : DrivenView) (slot : ℕ) (result : Result Sparse (NoBlock R)) → IsRank x.rank → IsHeld (slot_at x.rank.slots slot) result
    → (part : ℕ → Sparse) (first : List (List (Slot Sparse))) (courses : ℕ → Course)
    → Brings s x.rank.plan slot first part → IsJointRun s x.rank.plan first courses → IsOneOf x first courses → IsShare x.rank.plan courses (part x.rank.me) result
share_of_rank s x slot result is held part first courses brings run one =
    let p : CheckedView = x.rank.plan in
    let known : ℕ → Course = only p courses in
    let ran : (r : ℕ) → r < p.ranks → RunsTo s r (project p.starts p.acts r) (fresh (get_or first r [])) (known r) =
    λ r l. subst (λ c. RunsTo s r (project p.starts p.acts r) (fresh (get_or first r [])) c) (sym (only_is p courses r l)) (run.ran r l) in
    let order : (f t : ℕ) → f < p.ranks → t < p.ranks → f ≢ t → IsPrefix ((known t).taken f) ((known f).posted t) =
    λ f t a b ne. rw (only_is p courses t b, only_is p courses f a) (run.order f t a b ne) in
    let end : AreFinished s p first known = closes s p first known is.checked brings.fits ran order in
    let me : ℕ = x.rank.me in
    let mean : State Sparse = meaning (matrices s) p.acts (state_of first) in
    let slots : (known me).slots ≡ x.rank.slots = ap (λ (c : Course). c.slots) (only_is p courses me is.number ∙ sym one.course) in
    let agrees : IsSlotOf (λ k. (known k).refusals) (mean me slot) (slot_at x.rank.slots slot) = subst (λ l. IsSlotOf (λ k. (known k).refusals) (mean me slot) (slot_at l slot)) slots (end.slots me slot is.number) in
    share p courses (mean me slot) (part me) (slot_at x.rank.slots slot) result (brings.leaves me is.number) agrees held

abbrev task_or : TaskView → Option TaskView → TaskView
task_or t (Some task) = task
task_or t None = t

-- there is one plan that is being done
same_task : (x : ProcessView) (task actual : TaskView) → x.task ≡ Some task → x.task ≡ Some actual → task ≡ actual
same_task x task actual was is = ap (task_or task) (sym was ∙ is)

-- what the rank of a process hands over is the process's part of the result, or names a rank that was refused memory
pub share_of_process : {R : Type 0} (s : Arithmetic) (x : ProcessView) (actual : TaskView) → x.task ≡ Some actual → actual.rank.rank.me ≡ x.me → IsRank actual.rank.rank
    → (result : Result Sparse (NoBlock R)) → IsHeld (slot_at actual.rank.rank.slots actual.slot) result
    → (part : ℕ → Sparse) (first : List (List (Slot Sparse))) (courses : ℕ → Course) (task : TaskView)
    → x.task ≡ Some task → IsOneRun s part first courses task → IsShare task.rank.rank.plan courses (part x.me) result
share_of_process s x actual is same rank result held part first courses task was one =
    let equal = same_task x task actual was is in
    let run = subst (λ (t : TaskView). IsOneRun s part first courses t) equal one in
    let share = share_of_rank s actual.rank actual.slot result rank held part first courses run.brings run.run run.one in
    let mine = subst (λ (me : ℕ). IsShare actual.rank.rank.plan courses (part me) result) same share in
    subst (λ (t : TaskView). IsShare t.rank.rank.plan courses (part x.me) result) (sym equal) mine
