-- A rank's own ends of its lanes stand as its finished halves left them.
use Rattle.std.proofs.Common.{◌≡◌, ◌≢◌, ℕ, ◌-◌, ◌<◌, ◌≤◌, true, false, List, [], ◌∷◌, take, refl, sym, ◌∙◌, ap, arith}
use Rattle.std.specs.Prelude.{Option, Some, None, nat_lt, ◌==◌, ◌&&◌}
use Rattle.std.proofs.lemmas.Bool.Decides.{nat_tests}
use Rattle.cb_semirings.specs.Arithmetic.{Arithmetic}
use Rattle.cb_matrix.specs.Sparse.{Extent}
use Rattle.cb_letters.specs.declared.Tag.{Tag}
use Rattle.cb_letters.specs.Lane.{posted}
use Rattle.cb_letters.proofs.Standings.{same_standing}
use Rattle.cb_plan.specs.declared.acts.Act.{Act}
use Rattle.cb_plan.specs.declared.acts.Act.TheVariants as act_is
use Rattle.cb_plan.specs.declared.acts.Half.{Half}
use Rattle.cb_plan.specs.Algebras.{matrices, shapes}
use Rattle.cb_plan.specs.Checks.{Lanes, Passes, lanes_after, none_shut, shut_after, started}
use Rattle.cb_plan.specs.PlanLetters.{Cargo, Sheet, Mark, before, count_of, letters}
use Rattle.cb_plan.specs.Meaning.{Algebra, State, act}
use Rattle.cb_plan.specs.Plans.{CheckedView}
use Rattle.cb_plan.specs.Programs.{halves_of, project, project_from, take_of}
use Rattle.cb_plan.specs.Stores.{state_of}
use Rattle.cb_rank.specs.Agreement.{ends_marked}
use Rattle.cb_rank.specs.Ranks.{ArePortsOf, is_shut_to, posted_to, standing_by}
use Rattle.cb_plan.proofs.Effects.{split}
use Rattle.cb_rank.proofs.OwnActs.{counted, one_half}
use Rattle.cb_rank.proofs.NextAct.{not_true}
use Rattle.cb_rank.proofs.LanesByHalves.{lanes_by_halves, posted_to-append, take_none, take_past}
use Rattle.cb_rank_world.specs.Ends.{standing}
use Rattle.cb_rank_world.specs.Worlds.{WorldView, IsWorld, rank_of, lane_between, system_of}
use Rattle.cb_rank_world.proofs.Progress.{posts, posts_of, length-letters, queued_of_agrees}
use Rattle.cb_rank_world.proofs.AgreementAfterHalf.{kept_shut, letters_unmarked, unmarked}
use Rattle.cb_rank_world.proofs.NextHalf.{passes_of, program_of}

-- a prefix of acts that pass also passes
passes_before : (ranks : ℕ) (shut : Lanes) (acts : List Act) (state : State Extent) (r k : ℕ) → Passes ranks state shut acts → Passes ranks state shut (before acts r k)
passes_before ranks shut [] state r k p = tt
passes_before ranks shut (a ∷ acts) state r k p =
    split (nat_lt k (count_of a r))
    (λ t. rw t tt)
    (λ f. rw f (p.0, passes_before ranks (shut_after a shut) acts (act shapes a state) r (k - count_of a r) p.1))

-- nothing is posted on a lane that is shut
no_more : {M : Type 0} (ops : Algebra M) (ranks : ℕ) (shut : Lanes) (acts : List Act) (outline : State Extent) (state : State M) (s t : ℕ) → Passes ranks outline shut acts → shut s t ≡ true → letters ops acts state s t ≡ []
no_more ops ranks shut [] outline state s t p e = refl
no_more ops ranks shut (act_is.Move from to tag slot into ∷ acts) outline state s t p e =
    let i = no_more ops ranks (shut_after (act_is.Move from to tag slot into) shut) acts (act shapes (act_is.Move from to tag slot into) outline) (act ops (act_is.Move from to tag slot into) state) s t p.1 e in
    split (from == s && to == t)
    (λ u.
    let f : from ≡ s = grind (arith, nat_tests) in
    let g : to ≡ t = grind (arith, nat_tests) in
    let still : shut s t ≡ false = rw (f, g) at (not_true (shut from to) p.0.open_lane) in
    let both : true ≡ false = sym e ∙ still in
    cc)
    (λ u. rw (u, i) refl)
no_more ops ranks shut (act_is.Work rank op ∷ acts) outline state s t p e =
    no_more ops ranks (shut_after (act_is.Work rank op) shut) acts (act shapes (act_is.Work rank op) outline) (act ops (act_is.Work rank op) state) s t p.1 e
no_more ops ranks shut (act_is.Shut from to ∷ acts) outline state s t p e =
    let i = no_more ops ranks (shut_after (act_is.Shut from to) shut) acts (act shapes (act_is.Shut from to) outline) (act ops (act_is.Shut from to) state) s t p.1 (kept_shut (act_is.Shut from to) shut s t e) in
    split (from == s && to == t)
    (λ u.
    let f : from ≡ s = grind (arith, nat_tests) in
    let g : to ≡ t = grind (arith, nat_tests) in
    let still : shut s t ≡ false = rw (f, g) at (not_true (shut from to) p.0.open_lane) in
    let both : true ≡ false = sym e ∙ still in
    cc)
    (λ u. rw (u, i) refl)

ends_later : {M : Type 0} (w : Tag × Cargo M) (ws : List (Tag × Cargo M)) → ends_marked ws ≡ true → ends_marked (w ∷ ws) ≡ true
ends_later w [] e = cc
ends_later (tag, Sheet m) (v ∷ ws) e = e
ends_later (tag, Mark) (v ∷ ws) e = e

-- if a lane is shut after some acts, their last letter on it is the close mark
ends_shut : {M : Type 0} (ops : Algebra M) (ranks : ℕ) (shut : Lanes) (acts : List Act) (outline : State Extent) (state : State M) (s t : ℕ) → Passes ranks outline shut acts → shut s t ≡ false → lanes_after acts shut s t ≡ true → ends_marked (letters ops acts state s t) ≡ true
ends_shut ops ranks shut [] outline state s t p e l = let both : true ≡ false = sym l ∙ e in cc
ends_shut ops ranks shut (act_is.Move from to tag slot into ∷ acts) outline state s t p e l =
    let i = ends_shut ops ranks (shut_after (act_is.Move from to tag slot into) shut) acts (act shapes (act_is.Move from to tag slot into) outline) (act ops (act_is.Move from to tag slot into) state) s t p.1 e l in
    split (from == s && to == t) (λ u. rw u (ends_later (tag, Sheet (state from slot)) (letters ops acts (act ops (act_is.Move from to tag slot into) state) s t) i)) (λ u. rw u i)
ends_shut ops ranks shut (act_is.Work rank op ∷ acts) outline state s t p e l =
    ends_shut ops ranks (shut_after (act_is.Work rank op) shut) acts (act shapes (act_is.Work rank op) outline) (act ops (act_is.Work rank op) state) s t p.1 e l
ends_shut ops ranks shut (act_is.Shut from to ∷ acts) outline state s t p e l =
    split (from == s && to == t)
    (λ u.
    let now : shut_after (act_is.Shut from to) shut s t ≡ true = rw u refl in
    let none = no_more ops ranks (shut_after (act_is.Shut from to) shut) acts (act shapes (act_is.Shut from to) outline) (act ops (act_is.Shut from to) state) s t p.1 now in
    rw (u, none) refl)
    (λ u.
    let now : shut_after (act_is.Shut from to) shut s t ≡ false = rw u e in
    rw u (ends_shut ops ranks (shut_after (act_is.Shut from to) shut) acts (act shapes (act_is.Shut from to) outline) (act ops (act_is.Shut from to) state) s t p.1 now l))

-- acts end a lane with a close mark exactly if they shut it
pub marks : {M : Type 0} (ops : Algebra M) (ranks : ℕ) (acts : List Act) (outline : State Extent) (state : State M) (s t : ℕ) → Passes ranks outline none_shut acts → ends_marked (letters ops acts state s t) ≡ lanes_after acts none_shut s t
marks ops ranks acts outline state s t p =
    split (lanes_after acts none_shut s t)
    (λ u. ends_shut ops ranks none_shut acts outline state s t p refl u ∙ sym u)
    (λ u. unmarked (letters ops acts state s t) (letters_unmarked ops acts state none_shut s t u) ∙ sym u)

take_posts_none : (k from : ℕ) (tag : Tag) (into : ℕ) (v : Option Extent) → 0 ≡ posted_to k (take_of from tag into v)
take_posts_none k from tag into (Some v) = refl
take_posts_none k from tag into None = refl

-- the halves of an act post what the act posts
posts_by_half : (state : State Extent) (a : Act) (r k : ℕ) → posts_of a r k ≡ posted_to k (halves_of state a r)
posts_by_half state (act_is.Move from to tag slot into) r k =
    split (from == r)
    (λ t. rw t (split (to == k) (λ u. rw u refl) (λ u. rw u refl)))
    (λ f. rw f (split (to == r) (λ t. rw t (take_posts_none k from tag into (state from slot))) (λ g. rw g refl)))
posts_by_half state (act_is.Work rank op) r k = split (rank == r) (λ t. rw t refl) (λ f. rw f refl)
posts_by_half state (act_is.Shut from to) r k =
    split (from == r)
    (λ t. rw t (split (to == k) (λ u. rw u refl) (λ u. rw u refl)))
    (λ f. rw f (split (to == r) (λ t. rw t refl) (λ g. rw g refl)))

-- the letters from a rank that are posted before its next half are those that its halves posted
posts_by_halves : (ranks : ℕ) (shut : Lanes) (acts : List Act) (state : State Extent) (r done k : ℕ) → Passes ranks state shut acts → posts (before acts r done) r k ≡ posted_to k (take done (project_from state acts r))
posts_by_halves ranks shut [] state r done k p = rw (take_none done) refl
posts_by_halves ranks shut (a ∷ acts) state r done k p =
    let size = counted ranks state shut a r p.0 in
    let one = one_half a r in
    let rest : List Half = project_from (act shapes a state) acts r in
    split (nat_lt done (count_of a r))
    (λ t. let z : done ≡ 0 = let below : done < count_of a r = grind (arith, nat_tests) in omega arith in rw (t, z) refl)
    (λ f.
    let past : count_of a r ≤ done = grind (arith, nat_tests) in
    let i = posts_by_halves ranks (shut_after a shut) acts (act shapes a state) r (done - count_of a r) k p.1 in
    let cut = take_past (halves_of state a r) rest done (omega arith) in
    rw (f, cut, size, posted_to-append k (halves_of state a r) (take (done - count_of a r) rest)) (rw (i, posts_by_half state a r k) refl))

-- the ends of a rank's lanes are its ports, and have posted what its halves posted
pub ports_of : (s : Arithmetic) (w : WorldView) (r : ℕ) → IsWorld s w → r < w.plan.ranks → ArePortsOf (rank_of w r) (standing (record { me = r; boxes = w.boxes }))
ports_of s w r sound inside k low ne =
    let has = sound.ranks r inside in
    let below : k < w.plan.ranks = let n = ap (λ (p : CheckedView). p.ranks) has.plan in omega arith in
    let me = has.number in
    let apart : k ≢ r = λ e. ne (e ∙ sym me) in
    let away : r ≢ k = λ e. apart (sym e) in
    let passes = passes_of s w sound in
    let program = program_of w r has in
    let done : ℕ = (rank_of w r).done in
    let acts : List Act = before w.plan.acts r done in
    let lane = sound.agrees.lanes r k away in
    let queued = queued_of_agrees (matrices s) w.plan.acts (state_of w.first) (system_of w) sound.agrees r k away in
    let received = length-letters (matrices s) (before w.plan.acts k (rank_of w k).done) (state_of w.first) r k in
    let count = lane.counted in
    let posted_is : posted (lane_between w r k) ≡ posts acts r k = omega arith in
    let halves : posts acts r k ≡ posted_to k (take done (project w.plan.starts w.plan.acts r)) = posts_by_halves w.plan.ranks none_shut w.plan.acts (started w.plan.starts) r done k passes in
    let shut : lanes_after acts none_shut r k ≡ is_shut_to k (take done (project w.plan.starts w.plan.acts r)) = lanes_by_halves w.plan.ranks none_shut w.plan.acts (started w.plan.starts) r done k passes in
    let marked = marks (matrices s) w.plan.ranks acts (started w.plan.starts) (state_of w.first) r k (passes_before w.plan.ranks none_shut w.plan.acts (started w.plan.starts) r done passes) in
    let same : take done (project w.plan.starts w.plan.acts r) ≡ take done (rank_of w r).program = ap (take done) (sym program) in
    let size = sound.sizes.1 in
    same_standing (standing (record { me = r; boxes = w.boxes }) k) (standing_by (rank_of w r).me (take done (rank_of w r).program) k)
    (sym me)
    (let a : (k == r) ≡ false = grind (arith, nat_tests) in rw (a, size) (grind (arith, nat_tests)))
    (lane.marked ∙ marked ∙ shut ∙ ap (is_shut_to k) same)
    (posted_is ∙ halves ∙ ap (posted_to k) same)
