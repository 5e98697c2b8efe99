-- Some order of steps does what ranks did each by itself: steps of the least rank that can act, over lanes of any capacity.
use Rattle.std.proofs.Common.{◌≡◌, ◌⊎◌, ℕ, zero, suc, ◌+◌, ◌<◌, ◌≤◌, List, [], ◌∷◌, length, map, get_or, refl, sym, ◌∙◌, ap, subst, arith, inl, inr, ⊎_elim}
use Rattle.std.specs.Prelude.{Option, Some, None, drop}
use Rattle.std.proofs.lemmas.Bool.{cases_lt}
use Rattle.std.proofs.lemmas.List.{drop_all, length-map, get_or-map, get_or_default, same_lists}
use Rattle.cb_semirings.specs.Arithmetic.{Arithmetic}
use Rattle.cb_matrix.specs.Sparse.{Sparse}
use Rattle.cb_plan.specs.declared.acts.Half.{Half}
use Rattle.cb_plan.specs.declared.acts.Half.TheVariants as half_is
use Rattle.cb_plan.specs.declared.stores.Slot.{Slot}
use Rattle.cb_plan.specs.Plans.{CheckedView}
use Rattle.cb_plan.specs.Programs.{project}
use Rattle.cb_plan.specs.Stores.{Fits}
use Rattle.cb_rank.specs.Halves.{Course, RunsTo}
use Rattle.cb_rank.specs.Ranks.{RankView}
use Rattle.cb_rank.specs.Steps.{moved_by}
use Rattle.cb_rank_world.specs.declared.events.Event.{Event}
use Rattle.cb_rank_world.specs.declared.events.Event.TheVariants as event_is
use Rattle.cb_rank_world.specs.Worlds.{WorldView, IsWorld, IsNewWorld, no_rank, rank_of, next_of, lane_between, CanDo, CanAct, AllDone, IsReady, remaining}
use Rattle.cb_rank_world.specs.WorldSteps.{Steps, StepsBy, FinishesBy}
use Rattle.cb_rank_world.proofs.WorldAfterHalf.{does_keep}
use Rattle.cb_rank_world.proofs.Changes.{does_lower}
use Rattle.cb_rank_world.proofs.NoDeadlock.{someone_acts, none_remains, all_done_by, is_done_by}
use Rattle.cb_rank_world.proofs.FirstState.{begins}
use Rattle.cb_rank_runs.specs.Runs.{fresh}
use Rattle.cb_rank_runs.specs.Finished.{FinishedView, FinishesPlan, course_in}
use Rattle.cb_rank_engines.specs.Orders.{IsLeftInOrder, IsNearest}
use Rattle.cb_rank_engines.proofs.LanesInStep.{lane_stays}
use Rattle.cb_rank_world.proofs.NewWorlds.{some_world}
use Rattle.cb_rank_engines.proofs.RanksInStep.{StandsAt, AllTaken, rank_stays, drop_next, next_stands}

-- below a limit there is a least number of a kind, or none
least : (P : ℕ → Type 0) → ((r : ℕ) → P r ⊎ ¬ P r) → (n : ℕ) → ((r : ℕ) × (r < n) × P r × ((q : ℕ) → q < r → ¬ P q)) ⊎ ((q : ℕ) → q < n → ¬ P q)
least P known zero = inr (λ q l. absurd (omega arith))
least P known (suc n) =
    elim (least P known n) [
      | inl it ↦ inl (it.0, (let l = it.1 in omega arith), it.2, it.3)
      | inr none ↦
          elim (known n) [
            | inl h ↦ inl (n, omega arith, h, none)
            | inr not ↦ inr (λ q l. ⊎_elim (λ (b : q < n). none q b) (λ (b : n ≤ q). let same : q ≡ n = omega arith in subst (λ k. ¬ P k) (sym same) not) (cases_lt q n))
          ]
    ]

below_or_not : (a b : ℕ) → (a < b) ⊎ ¬ (a < b)
below_or_not a b = ⊎_elim (λ (l : a < b). inl l) (λ (l : b ≤ a). inr (λ k. absurd (omega arith))) (cases_lt a b)

can_or_not : (w : WorldView) (r : ℕ) (h : Option Half) → CanDo w r h ⊎ ¬ CanDo w r h
can_or_not w r (Some (half_is.Post to tag slot)) = below_or_not (length (lane_between w r to).queue) w.capacity
can_or_not w r (Some (half_is.Take from tag into shape)) = below_or_not 0 (length (lane_between w from r).queue)
can_or_not w r (Some (half_is.Work op)) = inl tt
can_or_not w r (Some (half_is.Shut to)) = below_or_not (length (lane_between w r to).queue) w.capacity
can_or_not w r (Some (half_is.End from)) = below_or_not 0 (length (lane_between w from r).queue)
can_or_not w r None = inr (λ e. e)

-- if anything remains to be done, there is a least rank that can act
least_ready : (s : Arithmetic) (w : WorldView) → IsWorld s w → 0 < remaining w → (r : ℕ) × (r < w.plan.ranks) × IsReady w (Some r)
least_ready s w sound more =
    elim (least (CanAct w) (λ r. can_or_not w r (next_of w r)) w.plan.ranks) [
      | inl it ↦ (it.0, it.1, (it.2, it.3))
      | inr none ↦ let nothing = none_remains w (someone_acts s w sound none) in absurd (omega arith)
    ]

-- a rank that can act has a half to do
next_is : (w : WorldView) (r : ℕ) (h : Option Half) → CanDo w r h → (k : Half) × (h ≡ Some k)
next_is w r (Some k) can = (k, refl)
next_is w r None can = absurd can

-- by steps of the least rank that can act, the ranks of a world come to these courses
record ComesTo (s : Arithmetic) (ranks : ℕ) (w : WorldView) (last : ℕ → Course) : Type 0 where
  events : List Event
  after : WorldView
  finishes : FinishesBy s events w after
  done : AllDone after
  size : length after.ranks ≡ ranks
  slots : (r : ℕ) → r < ranks → (rank_of after r).slots ≡ (last r).slots
  refusals : (r : ℕ) → r < ranks → (rank_of after r).refusals ≡ (last r).refusals

-- if all are done, the world is there
all_there : (s : Arithmetic) (ranks : ℕ) (w : WorldView) (c last : ℕ → Course) → AllDone w → IsWorld s w → StandsAt s ranks w c last → ComesTo s ranks w last
all_there s ranks w c last done sound stands =
    let there : (r : ℕ) → r < ranks → last r ≡ c r = λ r l.
    subst (λ hs. RunsTo s r hs (c r) (last r)) (drop_all (rank_of w r).done (rank_of w r).program (is_done_by (rank_of w r) (done r))) (stands.each r l).goes_on in
    record {
      events = [];
      after = w;
      finishes = refl;
      done = done;
      size = sound.sizes.0 ∙ stands.count;
      slots = λ r l. (stands.each r l).slots ∙ ap (λ (z : Course). z.slots) (sym (there r l));
      refusals = λ r l. (stands.each r l).refusals ∙ ap (λ (z : Course). z.refusals) (sym (there r l));
    }

-- the least rank that can act did its next half, and the world after it comes to these courses
one_more : (s : Arithmetic) (ranks : ℕ) (w mid : WorldView) (r : ℕ) (h : Half) (last : ℕ → Course) → IsReady w (Some r) → StepsBy s r (next_of w r) (moved_by h) w mid → ComesTo s ranks mid last → ComesTo s ranks w last
one_more s ranks w mid r h last ready steps end =
    let step : Steps s (event_is.Step r) (moved_by h) w mid = record { half = steps; starved = tt } in
    record {
      events = event_is.Step r ∷ end.events;
      after = end.after;
      finishes = (ready, moved_by h, mid, step, end.finishes);
      done = end.done;
      size = end.size;
      slots = end.slots;
      refusals = end.refusals;
    }

-- from wherever they are, the ranks of a world come to where they came by themselves
comes_to : (s : Arithmetic) (ranks n : ℕ) (w : WorldView) (c last : ℕ → Course) → remaining w ≡ n → IsWorld s w → AllTaken ranks last → StandsAt s ranks w c last → ComesTo s ranks w last
comes_to s ranks zero w c last e sound taken stands = all_there s ranks w c last (all_done_by w e) sound stands
comes_to s ranks (suc n) w c last e sound taken stands =
    let count = stands.count in
    let ready = least_ready s w sound (omega arith) in
    let r : ℕ = ready.0 in
    let l : r < ranks = let i = ready.1 in omega arith in
    let some = next_is w r (next_of w r) ready.2.0 in
    let h : Half = some.0 in
    let next : next_of w r ≡ Some h = some.1 in
    let can : CanDo w r (Some h) = subst (λ o. CanDo w r o) next ready.2.0 in
    let runs : RunsTo s r (h ∷ drop ((rank_of w r).done + 1) (rank_of w r).program) (c r) (last r) = subst (λ hs. RunsTo s r hs (c r) (last r)) (drop_next (rank_of w r).program (rank_of w r).done h next) (stands.each r l).goes_on in
    let on = next_stands s ranks w r h c last runs.0 sound taken stands l next runs.2 can runs.1 in
    let then_sound = does_keep s w on.after r h sound ready.1 next on.did in
    let fewer = does_lower s w on.after r h sound ready.1 next on.did in
    let steps : StepsBy s r (next_of w r) (moved_by h) w on.after = subst (λ o. StepsBy s r o (moved_by h) w on.after) (sym next) (inr (refl, ready.2.0, on.did)) in
    one_more s ranks w on.after r h last ready.2 steps
    (comes_to s ranks n on.after on.courses last (omega arith) then_sound taken on.stands)

-- in a new world each rank is at its beginning
new_stands : (s : Arithmetic) (p : CheckedView) (first : List (List (Slot Sparse))) (capacity : ℕ) (w : WorldView) (last : ℕ → Course) → IsNewWorld p first capacity w → ((r : ℕ) → r < p.ranks → RunsTo s r (project p.starts p.acts r) (fresh (get_or first r [])) (last r)) → StandsAt s p.ranks w (λ r. fresh (get_or first r [])) last
new_stands s p first capacity w last new runs = record {
  count = ap (λ (x : CheckedView). x.ranks) new.plan;
  each = λ r l. rank_stays (new.ranks r l) refl (record { slots = refl; refusals = refl; goes_on = runs r l });
  lanes = λ f t l m ne. lane_stays refl refl (new.lanes f t l m ne) (record { counted = refl; queued = refl });
}

nearest_is_some : (letters capacity : ℕ) → IsNearest letters capacity → 1 ≤ capacity
nearest_is_some letters capacity near =
    ⊎_elim
    (λ (l : letters < 1). let e = near.none (omega arith) in omega arith)
    (λ (l : 1 ≤ letters). ⊎_elim
    (λ (k : letters < 65). let e = near.within l (omega arith) in omega arith)
    (λ (k : 65 ≤ letters). let e = near.many (omega arith) in omega arith)
    (cases_lt letters 65))
    (cases_lt letters 1)

-- some order of steps leaves what ranks left that each did its program by itself
pub left_in_some_order : (s : Arithmetic) (p : CheckedView) (first : List (List (Slot Sparse))) (f : FinishedView) (letters capacity : ℕ) → IsNearest letters capacity → Fits p.ranks p.starts first → FinishesPlan s p first f →
    (stores : List (List (Slot Sparse))) (refusals : List ℕ) → stores ≡ f.stores → refusals ≡ f.refusals → (order : List Event) × IsLeftInOrder s p first stores refusals letters order
left_in_some_order s p first f letters capacity near fits done stores refusals stores_are refusals_are =
    let new = some_world p first capacity fits in
    let begun : WorldView = new.0 in
    let sound = begins s p first capacity begun done.checked fits done.few (nearest_is_some letters capacity near) new.1 in
    let last : ℕ → Course = course_in f in
    let taken : AllTaken p.ranks last = λ a b l m ne. (done.lanes a b l m ne).taken in
    let end = comes_to s p.ranks (remaining begun) begun (λ r. fresh (get_or first r [])) last refl sound taken (new_stands s p first capacity begun last new.1 done.halves) in
    let rows = done.left.table.rows in
    let counts = done.left.counts in
    let size = end.size in
    let their_slots : List (List (Slot Sparse)) = map (λ (x : RankView). x.slots) end.after.ranks in
    let their_counts : List ℕ = map (λ (x : RankView). x.refusals) end.after.ranks in
    let many : length their_slots ≡ length end.after.ranks = length-map end.after.ranks (λ (x : RankView). x.slots) in
    let many_counts : length their_counts ≡ length end.after.ranks = length-map end.after.ranks (λ (x : RankView). x.refusals) in
    let slots : f.stores ≡ their_slots = same_lists f.stores their_slots (omega arith) (λ k d l.
    get_or_default f.stores k d [] l ∙ sym (end.slots k (omega arith)) ∙ sym (get_or-map (λ (x : RankView). x.slots) end.after.ranks k no_rank d (omega arith))) in
    let refused : f.refusals ≡ their_counts = same_lists f.refusals their_counts (omega arith) (λ k d l.
    get_or_default f.refusals k d 0 l ∙ sym (end.refusals k (omega arith)) ∙ sym (get_or-map (λ (x : RankView). x.refusals) end.after.ranks k no_rank d (omega arith))) in (
      [],
      record {
        capacity = capacity;
        nearest = near;
        begun = begun;
        new = new.1;
        told = begun;
        runs = refl;
        rest = end.events;
        last = end.after;
        finishes = end.finishes;
        done = end.done;
        slots = stores_are ∙ slots;
        counts = refusals_are ∙ refused;
      },
    )
