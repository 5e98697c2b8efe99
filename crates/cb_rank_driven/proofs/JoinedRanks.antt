-- A rank's block of the answer, or a rank that was refused memory, if it is one of the ranks of one run.
use Rattle.std.proofs.Common.{◌≡◌, ◌≢◌, ℕ, ◌+◌, ◌*◌, ◌/◌, ◌%◌, ◌<◌, ◌≤◌, true, false, [], get_or, sym, ap, subst, ◌∙◌, ⊎_elim, arith}
use Rattle.std.specs.Prelude.{Option, Some, None, Result, Ok, Err, Bool, nat_lt}
use mathlib.Core.List.{IsPrefix}
use Rattle.std.proofs.lemmas.Bool.{cases_lt}
use Rattle.std.proofs.lemmas.Bool.Decides.{nat_tests}
use Rattle.std.proofs.lemmas.Nat.{mod_below}
use Rattle.cb_semirings.specs.Arithmetic.{Arithmetic}
use Rattle.cb_matrix.specs.Sparse.{Sparse}
use Rattle.cb_grid.specs.Blocks.{block_of}
use Rattle.cb_grid.proofs.Parts.{rank_of, row_below}
use Rattle.cb_plan.specs.declared.stores.Slot.{Slot}
use Rattle.cb_plan.specs.Algebras.{matrices}
use Rattle.cb_plan.specs.Meaning.{State, meaning}
use Rattle.cb_plan.specs.Plans.{CheckedView}
use Rattle.cb_plan.specs.Programs.{project}
use Rattle.cb_plan.specs.Stores.{state_of, Fits}
use Rattle.cb_plan_slots.specs.Slots.{block_of_rank}
use Rattle.cb_plan_slots.proofs.MadeMatrices.{made_fits}
use Rattle.cb_rank.specs.Agreement.{IsSlotOf}
use Rattle.cb_rank.specs.Halves.{Course, RunsTo, slot_at}
use Rattle.cb_rank.specs.Ranks.{IsRank}
use Rattle.cb_rank_runs.specs.Runs.{fresh}
use Rattle.cb_rank_runs.proofs.ClosingLaw.{AreFinished, closes}
use Rattle.cb_rank_driven.specs.declared.driven_ranks.NoBlock.{NoBlock}
use Rattle.cb_rank_driven.specs.declared.driven_ranks.NoBlock.TheVariants as none_as
use Rattle.cb_rank_driven.specs.DrivenRanks.{DrivenView}
use Rattle.cb_rank_driven.specs.Joined.{IsHeld, IsPartOfAnswer, IsShare, WasRefused}

-- this course, or that of a rank that does nothing
abbrev pick : Bool → Course → Course
pick true c = c
pick false c = fresh []

-- the courses of a plan's ranks, and that of a rank that does nothing for any other number
abbrev only : ℕ → (ℕ → Course) → ℕ → Course
only ranks courses r = pick (nat_lt r ranks) (courses r)

only_is : (ranks : ℕ) (courses : ℕ → Course) (r : ℕ) → r < ranks → only ranks courses r ≡ courses r
only_is ranks courses r l = let t : nat_lt r ranks ≡ true = grind (arith, nat_tests) in ap (λ b. pick b (courses r)) t

-- a rank that was refused memory is one of the plan's
refused_is : (p : CheckedView) (courses : ℕ → Course) (r : ℕ) → 0 < (only p.ranks courses r).refusals → WasRefused p courses r
refused_is p courses r some =
    ⊎_elim
    (λ (l : r < p.ranks). (l, subst (λ (c : Course). 0 < c.refusals) (only_is p.ranks courses r l) some))
    (λ (l : p.ranks ≤ r).
    let f : nat_lt r p.ranks ≡ false = grind (arith, nat_tests) in
    let none : (only p.ranks courses r).refusals ≡ 0 = ap (λ b. (pick b (courses r)).refusals) f in
    absurd (omega arith))
    (cases_lt r p.ranks)

-- what is handed over of a slot that agrees with what is meant
share : {R : Type 0} (p : CheckedView) (courses : ℕ → Course) (w : Option Sparse) (m : Sparse) (slot : Slot Sparse) (result : Result Sparse (NoBlock R))
    → w ≡ Some m → IsSlotOf (λ k. (only p.ranks courses k).refusals) w slot → IsHeld slot result → IsShare p courses m result
share p courses w m slot (Ok block) is agrees held =
    let there : w ≡ Some block = subst (λ y. IsSlotOf (λ k. (only p.ranks courses k).refusals) w y) held agrees in
    let same : Some m ≡ Some block = sym is ∙ there in
    cc
share p courses w m slot (Err (none_as.NotDone r)) is agrees held = absurd held
share p courses w m slot (Err none_as.Empty) is agrees held =
    let there : w ≡ None = subst (λ y. IsSlotOf (λ k. (only p.ranks courses k).refusals) w y) held agrees in
    let never : Some m ≡ None = sym is ∙ there in
    cc
share p courses w m slot (Err (none_as.Lost origin)) is agrees held =
    let lost = subst (λ y. IsSlotOf (λ k. (only p.ranks courses k).refusals) w y) held agrees in
    refused_is p courses origin lost.1
share p courses w m slot (Err none_as.Memory) is agrees held = tt

-- what a rank hands over of the slot of the answer
pub part_of_answer : (s : Arithmetic) (x : DrivenView) (slot : ℕ) (result : Result Sparse (NoBlock DrivenView)) → IsRank x.rank → IsHeld (slot_at x.rank.slots slot) result → IsPartOfAnswer s x slot result
part_of_answer s x slot result is held q operands planned shape answer first courses makes plan place run one =
    let p : CheckedView = x.rank.plan in
    let fits : Fits p.ranks p.starts first = subst (λ (v : CheckedView). Fits v.ranks v.starts first) (sym plan) (made_fits s q operands planned shape answer makes first run.began) in
    let known : ℕ → Course = only p.ranks courses in
    let ran : (r : ℕ) → r < p.ranks → RunsTo s r (project p.starts p.acts r) (fresh (get_or first r [])) (known r) =
    λ r l. subst (λ c. RunsTo s r (project p.starts p.acts r) (fresh (get_or first r [])) c) (sym (only_is p.ranks courses r l)) (run.ran r l) in
    let order : (f t : ℕ) → f < p.ranks → t < p.ranks → f ≢ t → IsPrefix ((known t).taken f) ((known f).posted t) =
    λ f t a b ne. rw (only_is p.ranks courses t b, only_is p.ranks courses f a) (run.order f t a b ne) in
    let end : AreFinished s p first known = closes s p first known is.checked fits ran order in
    let me : ℕ = x.rank.me in
    let mean : State Sparse = meaning (matrices s) p.acts (state_of first) in
    let slots : (known me).slots ≡ x.rank.slots = ap (λ (c : Course). c.slots) (only_is p.ranks courses me is.number ∙ sym one.course) in
    let agrees : IsSlotOf (λ k. (known k).refusals) (mean me slot) (slot_at x.rank.slots slot) = subst (λ l. IsSlotOf (λ k. (known k).refusals) (mean me slot) (slot_at l slot)) slots (end.slots me slot is.number) in
    let ranks : p.ranks ≡ q * q = ap (λ (v : CheckedView). v.ranks) plan ∙ makes.ranks in
    let below : me < q * q = omega (arith, is.number) in
    let row : me / q < q = row_below q me below in
    let column : me % q < q = mod_below me q run.began.some in
    let meant : mean ((me / q) * q + me % q) planned.result ≡ Some (block_of s q answer (me / q) (me % q)) =
    subst (λ (v : CheckedView). meaning (matrices s) v.acts (state_of first) ((me / q) * q + me % q) planned.result ≡ Some (block_of s q answer (me / q) (me % q))) (sym plan)
    (makes.parts first run.began (me / q) (me % q) row column) in
    let here : mean me slot ≡ Some (block_of_rank s q answer me) =
    ap (λ n. mean me n) place ∙ ap (λ r. mean r planned.result) (sym (rank_of q me)) ∙ meant in
    share p courses (mean me slot) (block_of_rank s q answer me) (slot_at x.rank.slots slot) result here agrees held
