-- What a rank's next half finds in a world.
use Rattle.std.proofs.Common.{◌≡◌, ◌≢◌, ℕ, ◌+◌, ◌<◌, false, List, [], ◌∷◌, ◌++◌, refl, sym, ◌∙◌, ap, subst, arith, inr, append-nil}
use Rattle.std.specs.Prelude.{Option, Some, slice_get}
use Rattle.std.proofs.lemmas.Bool.Decides.{nat_tests}
use Rattle.std.proofs.lemmas.Option.{same_Some}
use Rattle.cb_semirings.specs.Arithmetic.{Arithmetic}
use Rattle.cb_matrix.specs.Sparse.{Sparse, Extent}
use Rattle.cb_letters.specs.declared.Tag.{Tag}
use Rattle.cb_letters.specs.declared.Letter.{Letter}
use Rattle.cb_letters.specs.declared.Body.{Body}
use Rattle.cb_letters.specs.declared.Body.TheVariants as body_is
use Rattle.cb_letters.specs.Letters.{mark_tag}
use Rattle.cb_letters.specs.Lane.{IsAddressed}
use Rattle.cb_plan.specs.declared.acts.Act.{Act}
use Rattle.cb_plan.specs.declared.acts.Act.TheVariants as act_is
use Rattle.cb_plan.specs.declared.acts.Half.{Half}
use Rattle.cb_plan.specs.declared.acts.Half.TheVariants as half_is
use Rattle.cb_plan.specs.Meaning.{State, meaning, one, images, target_of}
use Rattle.cb_plan.specs.PlanLetters.{Cargo, Sheet, Mark, before, next_act, letter_of, letters}
use Rattle.cb_plan.specs.Algebras.{matrices, shapes}
use Rattle.cb_plan.specs.Checks.{IsSound, Passes, lanes_after, none_shut, started, operands_of}
use Rattle.cb_plan.specs.Plans.{CheckedView}
use Rattle.cb_plan.specs.Programs.{halves_of, project, project_from}
use Rattle.cb_plan.specs.Stores.{state_of}
use Rattle.cb_plan.proofs.ShapesOfMeaning.{shapes_of_meaning}
use Rattle.cb_plan.proofs.PassingActs.{checked_passes}
use Rattle.cb_plan.proofs.ActOnStores.{first_below}
use Rattle.cb_rank.specs.Agreement.{IsBodyOf, AreLettersOf, ends_marked}
use Rattle.cb_rank.specs.Halves.{HasKind}
use Rattle.cb_rank.proofs.OwnActs.{letters-next}
use Rattle.cb_rank.proofs.Halves.{is_post, is_take, is_work, is_shut, is_end}
use Rattle.cb_rank.proofs.NextAct.{act_of_half, next_sound, apart_of, apart_of_shut, both_below, not_true}
use Rattle.cb_rank_world.specs.Worlds.{WorldView, IsWorld, HasRank, rank_of, next_of, lane_between, system_of}
use Rattle.cb_rank_world.proofs.LaneAfterHalf.{first_waiting}
use Rattle.cb_rank_world.proofs.AgreementAfterHalf.{letters_begin, letters_unmarked, unmarked}

-- a rank's program is the plan's
pub program_of : (w : WorldView) (r : ℕ) → HasRank w r → (rank_of w r).program ≡ project w.plan.starts w.plan.acts r
program_of w r has = has.sound.program ∙ ap (λ (p : CheckedView). project p.starts p.acts (rank_of w r).me) has.plan ∙ ap (λ n. project w.plan.starts w.plan.acts n) has.number

-- the acts of a world's plan pass the check
pub passes_of : (s : Arithmetic) (w : WorldView) → IsWorld s w → Passes w.plan.ranks (started w.plan.starts) none_shut w.plan.acts
passes_of s w h = checked_passes w.plan.ranks 0 (started w.plan.starts) none_shut w.plan.acts h.checked.no_fault

kind_of : (refs : ℕ → ℕ) (shape : Extent) (w : Option Sparse) (b : Body Sparse) → one (λ (m : Sparse). m.shape) w ≡ Some shape → IsBodyOf refs (Sheet w) b → HasKind shape b
kind_of refs shape w (body_is.Sheet m) e h =
    let is : w ≡ Some m = cc in
    let found : Some m.shape ≡ Some shape = sym (ap (λ v. one (λ (x : Sparse). x.shape) v) is) ∙ e in
    same_Some _ _ found
kind_of refs shape w (body_is.Lost o) e h = tt
kind_of refs shape w body_is.Close e h = cc

mark_is : (refs : ℕ → ℕ) (c : Cargo Sparse) (b : Body Sparse) → c ≡ Mark → IsBodyOf refs c b → b ≡ body_is.Close
mark_is refs c (body_is.Sheet m) e h = cc
mark_is refs c (body_is.Lost o) e h = let k = h.0.1 in cc
mark_is refs c body_is.Close e h = refl

moved : (a : Act) (state : State Sparse) (from to : ℕ) (tag : Tag) (slot into : ℕ) → a ≡ act_is.Move from to tag slot into → letter_of a state from to ≡ (tag, Sheet (state from slot)) ∷ []
moved a state from to tag slot into e = rw e (grind (arith, nat_tests))

-- the oldest letter is the one to be taken next
oldest : (refs : ℕ → ℕ) (sent received received' whole after_sent after_received : List (Tag × Cargo Sparse)) (from to n : ℕ) (w : Tag × Cargo Sparse) (x : Letter Sparse) (queue : List (Letter Sparse)) (waiting : List (Tag × Cargo Sparse)) → sent ++ after_sent ≡ whole → received' ++ after_received ≡ whole → received' ≡ received ++ w ∷ [] → received ++ waiting ≡ sent → AreLettersOf refs from to n waiting (x ∷ queue) → IsAddressed from to n x × (x.tag ≡ w.0) × IsBodyOf refs w.1 x.body
oldest refs sent received received' whole after_sent after_received from to n w x queue [] es er e ew m = absurd m
oldest refs sent received received' whole after_sent after_received from to n w x queue (v ∷ waiting) es er e ew m =
    let same : v ≡ w = first_waiting sent received waiting whole after_sent after_received v w ew es (rw e at er) in
    (m.0, m.1 ∙ ap (λ y. y.0) same, subst (λ y. IsBodyOf refs y.1 x.body) same m.2)

-- if the queue is empty, no letter of the plan waits
no_waiting : (refs : ℕ → ℕ) (from to n : ℕ) (ws : List (Tag × Cargo Sparse)) (ls : List (Letter Sparse)) → ls ≡ [] → AreLettersOf refs from to n ws ls → ws ≡ []
no_waiting refs from to n [] ls e h = refl
no_waiting refs from to n (w ∷ ws) [] e h = absurd h
no_waiting refs from to n (w ∷ ws) (l ∷ ls) e h = cc

module _ (s : Arithmetic) (w : WorldView) (r : ℕ) (h : Half) (sound : IsWorld s w) (inside : r < w.plan.ranks) (next : next_of w r ≡ Some h) where
  abbrev done_by : ℕ → ℕ
  done_by q = (rank_of w q).done

  -- the acts before the next half, the blocks, their shapes, and the lanes
  abbrev past : List Act
  past = before w.plan.acts r (done_by r)

  abbrev here : State Sparse
  here = meaning (matrices s) past (state_of w.first)

  abbrev sh : State Extent
  sh = meaning shapes past (started w.plan.starts)

  there : slice_get (project_from (started w.plan.starts) w.plan.acts r) (done_by r) ≡ Some h
  there = rw (program_of w r (sound.ranks r inside)) at next

  next_one : (a : Act) × (next_act w.plan.acts r (done_by r) ≡ Some a) × (halves_of sh a r ≡ h ∷ [])
  next_one = act_of_half w.plan.ranks none_shut w.plan.acts (started w.plan.starts) r (done_by r) h (passes_of s w sound) there

  is_sound : IsSound w.plan.ranks sh (lanes_after past none_shut) next_one.0
  is_sound = next_sound w.plan.ranks none_shut w.plan.acts (started w.plan.starts) r (done_by r) next_one.0 (passes_of s w sound) next_one.1

  same : (q n : ℕ) → sh q n ≡ one (λ (m : Sparse). m.shape) (here q n)
  same q n =
      let starts : images (λ (m : Sparse). m.shape) (state_of w.first) ≡ started w.plan.starts = sound.fits.shapes in
      let turns : images (λ (m : Sparse). m.shape) here ≡ sh = shapes_of_meaning s past (state_of w.first) ∙ ap (λ x. meaning shapes past x) starts in
      ap (λ (f : State Extent). f q n) (sym turns)

  lane_open : (t : ℕ) → r ≢ t → lanes_after past none_shut r t ≡ false → (lane_between w r t).closed ≡ false
  lane_open t ne e =
      (sound.agrees.lanes r t ne).marked ∙ unmarked (letters (matrices s) past (state_of w.first) r t) (letters_unmarked (matrices s) past (state_of w.first) none_shut r t e)

  waiting_first : (from : ℕ) (v : Tag × Cargo Sparse) (x : Letter Sparse) (rest : List (Letter Sparse)) → from ≢ r → letter_of next_one.0 here from r ≡ v ∷ [] → (lane_between w from r).queue ≡ x ∷ rest → IsAddressed from r (lane_between w from r).taken x × (x.tag ≡ v.0) × IsBodyOf (system_of w).refusals v.1 x.body
  waiting_first from v x rest ne one queue =
      let lane = sound.agrees.lanes from r ne in
      let sent = letters_begin (matrices s) w.plan.acts from (done_by from) (state_of w.first) from r in
      let received = letters_begin (matrices s) w.plan.acts r (done_by r + 1) (state_of w.first) from r in
      let grown : letters (matrices s) (before w.plan.acts r (done_by r + 1)) (state_of w.first) from r ≡ letters (matrices s) past (state_of w.first) from r ++ v ∷ [] = letters-next (matrices s) w.plan.acts r (done_by r) (state_of w.first) next_one.0 from r (inr refl) next_one.1 ∙ rw one refl in
      oldest (system_of w).refusals (letters (matrices s) (before w.plan.acts from (done_by from)) (state_of w.first) from r) (letters (matrices s) past (state_of w.first) from r) (letters (matrices s) (before w.plan.acts r (done_by r + 1)) (state_of w.first) from r) (letters (matrices s) w.plan.acts (state_of w.first) from r) sent.0 received.0 from r (lane_between w from r).taken v x rest lane.waits.0 sent.1 received.1 grown lane.waits.1
      (subst (λ q. AreLettersOf (system_of w).refusals from r (lane_between w from r).taken lane.waits.0 q) queue lane.waits.2)

  -- a lane that is still open for its next letter, and on which nothing is queued, isn't closed
  none_waiting : (from : ℕ) → from ≢ r → lanes_after past none_shut from r ≡ false → (lane_between w from r).queue ≡ [] → (lane_between w from r).closed ≡ false
  none_waiting from ne e queue =
      let lane = sound.agrees.lanes from r ne in
      let unmarked_yet : ends_marked (letters (matrices s) past (state_of w.first) from r) ≡ false = unmarked (letters (matrices s) past (state_of w.first) from r) (letters_unmarked (matrices s) past (state_of w.first) none_shut from r e) in
      let none : lane.waits.0 ≡ [] = no_waiting (system_of w).refusals from r (lane_between w from r).taken lane.waits.0 (lane_between w from r).queue queue lane.waits.2 in
      let all : letters (matrices s) past (state_of w.first) from r ≡ letters (matrices s) (before w.plan.acts from (done_by from)) (state_of w.first) from r = sym (append-nil _) ∙ ap (λ xs. letters (matrices s) past (state_of w.first) from r ++ xs) (sym none) ∙ lane.waits.1 in
      lane.marked ∙ ap ends_marked (sym all) ∙ unmarked_yet

-- what a rank's next half finds: a Post or a Shut finds its lane open; a Take or an End finds the letter that it wants, or none
abbrev pub Finds : WorldView → ℕ → Half → Type 0
Finds w r (half_is.Post to tag slot) = (to < w.plan.ranks) × (r ≢ to) × ((lane_between w r to).closed ≡ false)
Finds w r (half_is.Take from tag into shape) =
    (from < w.plan.ranks) × (from ≢ r) × (into < 256) × ((lane_between w from r).queue ≡ [] → (lane_between w from r).closed ≡ false)
    × ((x : Letter Sparse) (rest : List (Letter Sparse)) → (lane_between w from r).queue ≡ x ∷ rest → IsAddressed from r (lane_between w from r).taken x × (x.tag ≡ tag) × HasKind shape x.body)
Finds w r (half_is.Work op) = target_of op < 256
Finds w r (half_is.Shut to) = (to < w.plan.ranks) × (r ≢ to) × ((lane_between w r to).closed ≡ false)
Finds w r (half_is.End from) =
    (from < w.plan.ranks) × (from ≢ r) × ((lane_between w from r).queue ≡ [] → (lane_between w from r).closed ≡ false)
    × ((x : Letter Sparse) (rest : List (Letter Sparse)) → (lane_between w from r).queue ≡ x ∷ rest → IsAddressed from r (lane_between w from r).taken x × (x.tag ≡ mark_tag) × (x.body ≡ body_is.Close))

-- each rank of a sound world finds what its next half needs
pub finds_half : (s : Arithmetic) (w : WorldView) (r : ℕ) (h : Half) (sound : IsWorld s w) (inside : r < w.plan.ranks) (next : next_of w r ≡ Some h) → Finds w r h
finds_half s w r (half_is.Post to tag slot) sound inside next =
    let h : Half = half_is.Post to tag slot in
    let it = next_one s w r h sound inside next in
    let k = is_post (sh s w r h sound inside next) it.0 r to tag slot it.2 in
    let x = subst (λ b. IsSound w.plan.ranks (sh s w r h sound inside next) (lanes_after (past s w r h sound inside next) none_shut) b) k.1 (is_sound s w r h sound inside next) in
    let apart = apart_of w.plan.ranks _ _ r to tag slot k.0 x in
    ((both_below w.plan.ranks r to x.ranks_exist).1, apart, lane_open s w r h sound inside next to apart (not_true _ x.open_lane))
finds_half s w r (half_is.Take from tag into shape) sound inside next =
    let h : Half = half_is.Take from tag into shape in
    let it = next_one s w r h sound inside next in
    let k = is_take (sh s w r h sound inside next) it.0 r from tag into shape it.2 in
    let x = subst (λ b. IsSound w.plan.ranks (sh s w r h sound inside next) (lanes_after (past s w r h sound inside next) none_shut) b) k.1 (is_sound s w r h sound inside next) in
    let apart = apart_of w.plan.ranks _ _ from r tag k.0 into x in
    let posted : letter_of it.0 (here s w r h sound inside next) from r ≡ (tag, Sheet (here s w r h sound inside next from k.0)) ∷ [] = moved it.0 (here s w r h sound inside next) from r tag k.0 into k.1 in (
      (both_below w.plan.ranks from r x.ranks_exist).0,
      apart,
      (first_below 256 into [] (first_below 256 k.0 (into ∷ []) x.slots_exist).1).0,
      none_waiting s w r h sound inside next from apart (not_true _ x.open_lane),
      λ l rest q.
          let found = waiting_first s w r h sound inside next from (tag, Sheet (here s w r h sound inside next from k.0)) l rest apart posted q in
          (found.0, found.1, kind_of (system_of w).refusals shape (here s w r h sound inside next from k.0) l.body (sym (same s w r h sound inside next from k.0) ∙ k.2) found.2),
    )
finds_half s w r (half_is.Work op) sound inside next =
    let h : Half = half_is.Work op in
    let it = next_one s w r h sound inside next in
    let k = is_work (sh s w r h sound inside next) it.0 r op it.2 in
    let x = subst (λ b. IsSound w.plan.ranks (sh s w r h sound inside next) (lanes_after (past s w r h sound inside next) none_shut) b) k (is_sound s w r h sound inside next) in
    (first_below 256 (target_of op) (operands_of op) x.slots_exist).0
finds_half s w r (half_is.Shut to) sound inside next =
    let h : Half = half_is.Shut to in
    let it = next_one s w r h sound inside next in
    let k = is_shut (sh s w r h sound inside next) it.0 r to it.2 in
    let x = subst (λ b. IsSound w.plan.ranks (sh s w r h sound inside next) (lanes_after (past s w r h sound inside next) none_shut) b) k (is_sound s w r h sound inside next) in
    let apart = apart_of_shut w.plan.ranks _ _ r to x in
    ((both_below w.plan.ranks r to x.ranks_exist).1, apart, lane_open s w r h sound inside next to apart (not_true _ x.open_lane))
finds_half s w r (half_is.End from) sound inside next =
    let h : Half = half_is.End from in
    let it = next_one s w r h sound inside next in
    let k = is_end (sh s w r h sound inside next) it.0 r from it.2 in
    let x = subst (λ b. IsSound w.plan.ranks (sh s w r h sound inside next) (lanes_after (past s w r h sound inside next) none_shut) b) k (is_sound s w r h sound inside next) in
    let apart = apart_of_shut w.plan.ranks _ _ from r x in
    let posted : letter_of it.0 (here s w r h sound inside next) from r ≡ (mark_tag, Mark) ∷ [] = rw k (grind (arith, nat_tests)) in (
      (both_below w.plan.ranks from r x.ranks_exist).0,
      apart,
      none_waiting s w r h sound inside next from apart (not_true _ x.open_lane),
      λ l rest q.
          let found = waiting_first s w r h sound inside next from (mark_tag, Mark) l rest apart posted q in
          (found.0, found.1, mark_is (system_of w).refusals Mark l.body refl found.2),
    )
