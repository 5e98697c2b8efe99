-- What a rank's next half needs of its lanes: the other rank exists and is another one, and the half can be done if
-- there is room, or if a letter is queued.
use Rattle.std.proofs.Common.{ℕ, ◌≡◌, ◌≢◌, ◌<◌, ◌+◌, List, length, slice_index_or, refl, sym, ◌∙◌, ap, subst, arith, IsTrue, inl, inr}
use Rattle.std.specs.Prelude.{Option, Some, None, Ok, Err, ◌↔◌, ◌==◌, nat_lt}
use Rattle.std.proofs.lemmas.Bool.Decides.{nat_tests}
use Rattle.std.proofs.lemmas.Option.{same_Some, slice_get-get_or}
use Rattle.cb_semirings.specs.Arithmetic.{Arithmetic}
use Rattle.cb_letters.specs.Lane.{HasRoom}
use Rattle.cb_plan.specs.declared.acts.Half.{Half}
use Rattle.cb_plan.specs.declared.acts.Half.TheVariants as half_is
use Rattle.cb_rank.specs.declared.wants.Want.TheVariants as want_is
use Rattle.cb_rank.specs.declared.wants.Moved.{Moved}
use Rattle.cb_rank.specs.declared.wants.Moved.TheVariants as moved_is
use Rattle.cb_rank.specs.Steps.{Answer}
use Rattle.cb_rank.specs.Ranks.{RankView, next_half, want_of}
use Rattle.cb_rank.proofs.WantedHalf.{wants_post_to, wants_shut_to, wants_take, wants_end}
use Rattle.cb_rank_world.specs.Worlds.{WorldView, IsWorld, no_rank, rank_of, next_of, lane_between, CanDo, CanAct, remaining}
use Rattle.cb_rank_world.specs.WorldSteps.{DoesIn, Steps, StepsBy, RunsBy}
use Rattle.cb_rank_world.specs.declared.events.Event.{Event}
use Rattle.cb_rank_world.specs.declared.events.Event.TheVariants as event_is
use Rattle.cb_plan.proofs.Effects.{split}
use Rattle.cb_rank_world.proofs.NoDeadlock.{no_next}
use Rattle.cb_rank_world.proofs.Changes.{does_lower, runs_stay}
use Rattle.cb_rank_world.proofs.NextHalf.{finds_half}
use Rattle.cb_rank_world.proofs.OneStep.{Came}

-- an element of a list, whatever stands for one past the end
pub read_at : {X : Type 0} (xs : List X) (i : ℕ) (x d : X) → i < length xs → x ≡ slice_index_or xs i x → x ≡ slice_index_or xs i d
read_at xs i x d l e = e ∙ same_Some _ _ (sym (slice_get-get_or xs i x l) ∙ slice_get-get_or xs i d l)

-- a rank of a world, read from the list of its ranks
pub record IsAt (w : WorldView) (r : ℕ) (x : RankView) : Type 0 where
  pub inside : r < w.plan.ranks
  pub read : x ≡ rank_of w r

-- a rank that was read from the list of a world's ranks is the one of that number
pub rank_at : (s : Arithmetic) (w : WorldView) (r : ℕ) (x : RankView) (len size : ℕ) → IsWorld s w → r < len → len ≡ size → size ≡ length w.ranks → x ≡ slice_index_or w.ranks r x → IsAt w r x
rank_at s w r x len size sound below counted is_size read =
    let ranks = sound.sizes.0 in
    record { inside = omega arith; read = read_at w.ranks r x no_rank (omega arith) read }

module _ (s : Arithmetic) (w : WorldView) (sound : IsWorld s w) (r : ℕ) (x : RankView) (there : r < length w.ranks) (read : x ≡ rank_of w r) where
  inside : r < w.plan.ranks
  inside = let size = sound.sizes.0 in omega arith

  next : (half : Option Half) → next_half x ≡ half → next_of w r ≡ half
  next half e = ap next_half (sym read) ∙ e

  -- the two ranks of a lane, as mailboxes ask for them
  pub record AreTwo (k : ℕ) : Type 0 where
    pub this : r < length w.boxes
    pub other : k < length w.boxes
    pub apart : r ≢ k
    pub back : k ≢ r

  two : (k : ℕ) → k < w.plan.ranks → r ≢ k → AreTwo k
  two k l ne = let size = sound.sizes.1 in let i = inside in record { this = omega arith; other = omega arith; apart = ne; back = λ e. ne (sym e) }

  room : (k : ℕ) → k < w.plan.ranks → r ≢ k → HasRoom (lane_between w r k) ↔ (length (lane_between w r k).queue < w.capacity)
  room k l ne = let same = (sound.boxes k l).capacity r inside ne in (λ h. omega arith, λ h. omega arith)

  can : (half : Option Half) → next_of w r ≡ half → CanDo w r half ↔ CanAct w r
  can half e = (λ h. subst (CanDo w r) (sym e) h, λ h. subst (CanDo w r) e h)

  -- a rank that wants to post can act exactly if the lane to the other rank has room
  pub at_post : (to : ℕ) → want_of (next_half x) ≡ want_is.Post to → AreTwo to × (HasRoom (lane_between w r to) ↔ CanAct w r)
  at_post to e =
      let it = wants_post_to (next_half x) to e in
      let half : Half = half_is.Post to it.0 it.1 in
      let is = next (Some half) it.2 in
      let f = finds_half s w r half sound inside is in
      let a = room to f.0 f.1 in
      let b = can (Some half) is in
      (two to f.0 f.1, (λ h. b.0 (a.0 h), λ h. a.1 (b.1 h)))

  -- a rank that wants to shut a lane can act exactly if that lane has room
  pub at_shut : (to : ℕ) → want_of (next_half x) ≡ want_is.Shut to → AreTwo to × (HasRoom (lane_between w r to) ↔ CanAct w r)
  at_shut to e =
      let half : Half = half_is.Shut to in
      let is = next (Some half) (wants_shut_to (next_half x) to e) in
      let f = finds_half s w r half sound inside is in
      let a = room to f.0 f.1 in
      let b = can (Some half) is in
      (two to f.0 f.1, (λ h. b.0 (a.0 h), λ h. a.1 (b.1 h)))

  -- a rank that wants a letter can act exactly if one is queued on the lane from the other rank
  pub at_take : (from : ℕ) → want_of (next_half x) ≡ want_is.Take from → AreTwo from × ((0 < length (lane_between w from r).queue) ↔ CanAct w r)
  at_take from e =
      let it = wants_take (next_half x) from e in
      let half : Half = half_is.Take from it.0 it.1 it.2 in
      let is = next (Some half) it.3 in
      let f = finds_half s w r half sound inside is in
      (two from f.0 (λ z. f.1 (sym z)), can (Some half) is)

  -- a rank that wants the end of a lane can act exactly if a letter is queued there
  pub at_end : (from : ℕ) → want_of (next_half x) ≡ want_is.End from → AreTwo from × ((0 < length (lane_between w from r).queue) ↔ CanAct w r)
  at_end from e =
      let half : Half = half_is.End from in
      let is = next (Some half) (wants_end (next_half x) from e) in
      let f = finds_half s w r half sound inside is in
      (two from f.0 (λ z. f.1 (sym z)), can (Some half) is)

-- a number passes the test for zero exactly if it is zero
pub zero_test : (n : ℕ) → IsTrue (n == 0) ↔ (n ≡ 0)
zero_test n = (λ t. grind (arith, nat_tests), λ e. grind (arith, nat_tests))

moved_in : Answer → Moved → Moved
moved_in (Ok m) other = m
moved_in (Err e) other = other

-- a step of the world, by the result of its rank's step
pub came_as : (s : Arithmetic) (w : WorldView) (r : ℕ) (answer : Answer) (after : WorldView) (m : Moved) → Came s w r answer after → answer ≡ Ok m → StepsBy s r (next_of w r) m w after
unfolding moved_in
came_as s w r answer after m came e =
    let same : came.moved ≡ m = ap (λ a. moved_in a m) (sym came.answer_is ∙ e) in
    subst (λ m. StepsBy s r (next_of w r) m w after) same came.steps

-- after a half of a rank one half fewer remains
lowers : (s : Arithmetic) (w after : WorldView) (r : ℕ) (h : Half) → IsWorld s w → next_of w r ≡ Some h → DoesIn s r h w after → remaining after + 1 ≡ remaining w
lowers s w after r h sound next did =
    split (nat_lt r (length w.ranks))
    (λ t.
    let there : r < length w.ranks = grind (arith, nat_tests) in
    let size = sound.sizes.0 in
    does_lower s w after r h sound (omega arith) next did)
    (λ f. let none = sym next ∙ no_next w r (grind (arith, nat_tests)) in cc)

acts : (s : Arithmetic) (w after : WorldView) (r : ℕ) (half : Option Half) (m : Moved) → IsWorld s w → next_of w r ≡ half → CanAct w r → StepsBy s r half m w after → remaining after < remaining w
acts s w after r None m sound next can steps = absurd (subst (CanDo w r) next can)
acts s w after r (Some h) m sound next can (inl waits) = absurd (waits.1 can)
acts s w after r (Some h) m sound next can (inr did) = let less = lowers s w after r h sound next did.2 in omega arith

-- a step of a rank that can act lowers what remains
pub acts_lower : (s : Arithmetic) (w after : WorldView) (r : ℕ) (m : Moved) → IsWorld s w → CanAct w r → Steps s (event_is.Step r) m w after → remaining after < remaining w
acts_lower s w after r m sound can steps = acts s w after r (next_of w r) m sound refl can steps.half

-- a step that neither waits nor is idle does a half
pub falls : (s : Arithmetic) (w after : WorldView) (r : ℕ) (half : Option Half) (m : Moved) → IsWorld s w → next_of w r ≡ half → StepsBy s r half m w after → m ≢ moved_is.Waiting → m ≢ moved_is.Idle → remaining after + 1 ≡ remaining w
falls s w after r None m sound next steps waits idles = absurd (idles steps.0)
falls s w after r (Some h) m sound next (inl held) waits idles = absurd (waits held.0)
falls s w after r (Some h) m sound next (inr did) waits idles = lowers s w after r h sound next did.2

-- no step changes the plan and the first stores
abbrev pub Keeps : WorldView → WorldView → Type 0
Keeps w after = (after.plan ≡ w.plan) × (after.first ≡ w.first)

-- no run of events changes them
pub run_keeps : (s : Arithmetic) (events : List Event) (w after : WorldView) → RunsBy s events w after → Keeps w after
run_keeps s events w after runs = let stay = runs_stay s events w after runs in (stay.plan, stay.first)
