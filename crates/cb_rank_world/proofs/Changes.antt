-- What a half, a step and a run change in a world, and what they don't.
use Rattle.std.proofs.Common.{◌≡◌, ℕ, ◌+◌, ◌-◌, ◌<◌, List, [], ◌∷◌, ◌++◌, length, refl, ◌∙◌, ap, arith, inl, inr}
use Rattle.std.specs.Prelude.{Option, Some, None, slice_set, sum_by}
use Rattle.std.proofs.lemmas.Option.{slice_get_within}
use Rattle.std.proofs.Math.ListN.{length-set}
use Rattle.cb_semirings.specs.Arithmetic.{Arithmetic}
use Rattle.cb_matrix.specs.Sparse.{Sparse}
use Rattle.cb_letters.specs.declared.Body.TheVariants as body_is
use Rattle.cb_letters.specs.Letters.{mark_tag}
use Rattle.cb_mailbox.specs.Inbox.{Inbox}
use Rattle.cb_plan.specs.declared.acts.Half.{Half}
use Rattle.cb_plan.specs.declared.acts.Half.TheVariants as half_is
use Rattle.cb_plan.specs.declared.stores.Slot.{Slot}
use Rattle.cb_plan.specs.Meaning.{target_of}
use Rattle.cb_rank.specs.declared.wants.Arrival.TheVariants as arrival_is
use Rattle.cb_rank.specs.declared.wants.Moved.{Moved}
use Rattle.cb_rank.specs.Ranks.{RankView, onward, slots_with}
use Rattle.cb_rank_world.specs.declared.events.Event.{Event}
use Rattle.cb_rank_world.specs.declared.events.Event.TheVariants as event_is
use Rattle.cb_rank_world.specs.Ends.{boxes_with, boxes_after}
use Rattle.cb_rank_world.specs.EndLaws.{same_length}
use Rattle.cb_rank_world.specs.Worlds.{WorldView, IsWorld, no_rank, rank_of, next_of, IsReady, remaining}
use Rattle.cb_rank_world.specs.WorldSteps.{with_rank, letter_to, DoesIn, StepsBy, Steps, RunsBy, FinishesBy, rank_in}
use Rattle.cb_rank_world.proofs.RankSums.{sum_of_set}

-- a half changes one rank, which has done one half more, and the mailboxes
record OneRank (r : ℕ) (w after : WorldView) : Type 0 where
  rank : RankView
  slots : List (Slot Sparse)
  refusals : ℕ
  boxes : List (Inbox Sparse)
  is : after ≡ with_rank w r rank boxes
  onward_is : rank ≡ onward (rank_of w r) slots refusals
  size : length boxes ≡ length w.boxes

one_rank : (s : Arithmetic) (w after : WorldView) (r : ℕ) (h : Half) → DoesIn s r h w after → OneRank r w after
one_rank s w after r (half_is.Post to tag slot) did = record { rank = did.1; slots = (rank_of w r).slots; refusals = did.1.refusals; boxes = boxes_with w.boxes (letter_to w r to tag did.0); is = did.3; onward_is = did.2.2; size = same_length w.boxes r to _ }
one_rank s w after r (half_is.Take from tag into shape) did =
    let slots : List (Slot Sparse) = slots_with (Some (half_is.Take from tag into shape)) (arrival_is.Letter did.0) (rank_of w r).slots in
    record { rank = onward (rank_of w r) slots (rank_of w r).refusals; slots = slots; refusals = (rank_of w r).refusals; boxes = boxes_after w.boxes from r; is = did.3; onward_is = refl; size = same_length w.boxes from r _ }
one_rank s w after r (half_is.Work op) did = record { rank = did.0; slots = slice_set (rank_of w r).slots (target_of op) did.1.0; refusals = did.0.refusals; boxes = w.boxes; is = did.2; onward_is = did.1.2; size = refl }
one_rank s w after r (half_is.Shut to) did =
    record { rank = onward (rank_of w r) (rank_of w r).slots (rank_of w r).refusals; slots = (rank_of w r).slots; refusals = (rank_of w r).refusals; boxes = boxes_with w.boxes (letter_to w r to mark_tag body_is.Close); is = did; onward_is = refl; size = same_length w.boxes r to _ }
one_rank s w after r (half_is.End from) did =
    record { rank = onward (rank_of w r) (rank_of w r).slots (rank_of w r).refusals; slots = (rank_of w r).slots; refusals = (rank_of w r).refusals; boxes = boxes_after w.boxes from r; is = did.3; onward_is = refl; size = same_length w.boxes from r _ }

-- after a half one half fewer remains
pub does_lower : (s : Arithmetic) (w after : WorldView) (r : ℕ) (h : Half) → IsWorld s w → r < w.plan.ranks → next_of w r ≡ Some h → DoesIn s r h w after → remaining after + 1 ≡ remaining w
does_lower s w after r h sound inside next did =
    let one = one_rank s w after r h did in
    let size = sound.sizes.0 in
    let sum = sum_of_set (λ x. length x.program - x.done) no_rank one.rank w.ranks r (omega arith) in
    let more = slice_get_within (rank_of w r).program (rank_of w r).done h next in
    let program : length one.rank.program ≡ length (rank_of w r).program = ap (λ (x : RankView). length x.program) one.onward_is in
    let done : one.rank.done ≡ (rank_of w r).done + 1 = ap (λ (x : RankView). x.done) one.onward_is in
    let left : length one.rank.program - one.rank.done + 1 ≡ length (rank_of w r).program - (rank_of w r).done = rw (program, done) (omega arith) in
    let all : remaining after ≡ sum_by (λ x. length x.program - x.done) (slice_set w.ranks r one.rank) = ap remaining one.is in
    omega arith

-- what no step changes
pub record Stays (w after : WorldView) : Type 0 where
  pub plan : after.plan ≡ w.plan
  pub first : after.first ≡ w.first
  pub capacity : after.capacity ≡ w.capacity
  pub ranks : length after.ranks ≡ length w.ranks
  pub boxes : length after.boxes ≡ length w.boxes

pub does_stay : (s : Arithmetic) (w after : WorldView) (r : ℕ) (h : Half) → DoesIn s r h w after → Stays w after
does_stay s w after r h did =
    let one = one_rank s w after r h did in
    record {
      plan = ap (λ (x : WorldView). x.plan) one.is;
      first = ap (λ (x : WorldView). x.first) one.is;
      capacity = ap (λ (x : WorldView). x.capacity) one.is;
      ranks = ap (λ (x : WorldView). length x.ranks) one.is ∙ length-set w.ranks r one.rank;
      boxes = ap (λ (x : WorldView). length x.boxes) one.is ∙ one.size;
    }

same_stays : (w after : WorldView) → after ≡ w → Stays w after
same_stays w after e = record { plan = ap (λ (x : WorldView). x.plan) e; first = ap (λ (x : WorldView). x.first) e; capacity = ap (λ (x : WorldView). x.capacity) e; ranks = ap (λ (x : WorldView). length x.ranks) e; boxes = ap (λ (x : WorldView). length x.boxes) e }

-- a step keeps what no step changes, whether its rank waits or does its half
pub steps_stay : (s : Arithmetic) (w after : WorldView) (r : ℕ) (next : Option Half) (moved : Moved) → StepsBy s r next moved w after → Stays w after
steps_stay s w after r None moved steps = same_stays w after steps.1
steps_stay s w after r (Some h) moved (inl waits) = same_stays w after waits.2
steps_stay s w after r (Some h) moved (inr did) = does_stay s w after r h did.2

stays_trans : (a b c : WorldView) → Stays a b → Stays b c → Stays a c
stays_trans a b c x y = record { plan = y.plan ∙ x.plan; first = y.first ∙ x.first; capacity = y.capacity ∙ x.capacity; ranks = y.ranks ∙ x.ranks; boxes = y.boxes ∙ x.boxes }

-- a run of any number of events keeps it
pub runs_stay : (s : Arithmetic) (es : List Event) (w after : WorldView) → RunsBy s es w after → Stays w after
runs_stay s [] w after runs = same_stays w after runs
runs_stay s (e ∷ es) w after runs =
    stays_trans w runs.1 after (steps_stay s w runs.1 (rank_in e) (next_of w (rank_in e)) runs.0 runs.2.half) (runs_stay s es runs.1 after runs.3)

-- a run with one more event
pub runs_more : (s : Arithmetic) (es : List Event) (e : Event) (moved : Moved) (w mid after : WorldView) → RunsBy s es w mid → Steps s e moved mid after → RunsBy s (es ++ e ∷ []) w after
runs_more s [] e moved w mid after runs steps = (moved, after, rw (← runs) steps, refl)
runs_more s (f ∷ es) e moved w mid after runs steps = (runs.0, runs.1, runs.2, runs_more s es e moved runs.1 mid after runs.3 steps)

-- a run to the end is a run
pub finishes_run : (s : Arithmetic) (es : List Event) (w after : WorldView) → FinishesBy s es w after → RunsBy s es w after
finishes_run s [] w after runs = runs
finishes_run s (event_is.Step r ∷ es) w after runs = (runs.1, runs.2, runs.3, finishes_run s es runs.2 after runs.4)
finishes_run s (event_is.Starve r ∷ es) w after runs = absurd runs

-- a run to the end with one more step of the least rank that can act
pub finishes_more : (s : Arithmetic) (es : List Event) (r : ℕ) (moved : Moved) (w mid after : WorldView) → FinishesBy s es w mid → IsReady mid (Some r) → Steps s (event_is.Step r) moved mid after → FinishesBy s (es ++ event_is.Step r ∷ []) w after
finishes_more s [] r moved w mid after runs ready steps = (rw (← runs) ready, moved, after, rw (← runs) steps, refl)
finishes_more s (event_is.Step q ∷ es) r moved w mid after runs ready steps = (runs.0, runs.1, runs.2, runs.3, finishes_more s es r moved runs.2 mid after runs.4 ready steps)
finishes_more s (event_is.Starve q ∷ es) r moved w mid after runs ready steps = absurd runs
