-- A world after a half still agrees with its plan and its first stores.
use Rattle.std.proofs.Common.{◌≡◌, ◌≢◌, ℕ, ◌+◌, ◌<◌, ◌≤◌, List, [], ◌∷◌, length, refl, sym, ◌∙◌, ap, subst, arith, inl, inr}
use Rattle.std.specs.Prelude.{Some, ◌==◌, slice_get, slice_set, min}
use Rattle.std.proofs.lemmas.Bool.Decides.{nat_tests}
use Rattle.std.proofs.lemmas.List.{get_or-set_same, get_or-set_other}
use Rattle.std.proofs.lemmas.Option.{same_Some}
use Rattle.std.proofs.Math.ListN.{length-set}
use Rattle.cb_semirings.specs.Arithmetic.{Arithmetic}
use Rattle.cb_matrix.specs.Sparse.{Sparse, Extent}
use Rattle.cb_letters.specs.declared.Letter.{Letter}
use Rattle.cb_letters.specs.declared.Tag.{Tag}
use Rattle.cb_letters.specs.declared.Body.{Body}
use Rattle.cb_letters.specs.declared.Body.TheVariants as body_is
use Rattle.cb_letters.specs.Letters.{mark_tag}
use Rattle.cb_letters.specs.Lane.{Lane, IsLane, append, after_take}
use Rattle.cb_letters.proofs.LaneLetters.{IsLane-append, IsLane-take}
use Rattle.cb_mailbox.specs.Inbox.{Inbox}
use Rattle.cb_plan.specs.declared.acts.Op.{Op}
use Rattle.cb_plan.specs.declared.acts.Half.{Half}
use Rattle.cb_plan.specs.declared.acts.Half.TheVariants as half_is
use Rattle.cb_plan.specs.declared.stores.Slot.{Slot}
use Rattle.cb_plan.specs.declared.stores.Slot.TheVariants as slot_is
use Rattle.cb_plan.specs.Algebras.{matrices}
use Rattle.cb_plan.specs.Checks.{Passes, none_shut, started}
use Rattle.cb_plan.specs.Meaning.{images, target_of}
use Rattle.cb_plan.specs.Programs.{project, project_from}
use Rattle.cb_plan.specs.Stores.{state_of}
use Rattle.cb_rank.specs.Agreement.{System, Agrees}
use Rattle.cb_rank.specs.Halves.{slot_at, slot_of_body, IsCopy, IsWork}
use Rattle.cb_rank.specs.Ranks.{RankView, IsRank, onward}
use Rattle.cb_plan.proofs.Effects.{split}
use Rattle.cb_rank.proofs.RankAfterHalf.{posts_on, shuts_on, takes_on, ends_on, works_on}
use Rattle.cb_rank_world.specs.Ends.{box_in, with_lane_in, boxes_with, boxes_after}
use Rattle.cb_rank_world.specs.EndLaws.{same_length, box_here, box_there, lane_here, lane_by_addressee, lane_by_sender}
use Rattle.cb_rank_world.specs.Worlds.{WorldView, IsWorld, HasRank, HasBox, no_rank, rank_of, next_of, lane_between, system_of}
use Rattle.cb_rank_world.specs.WorldSteps.{with_rank, letter_to, IsOldest, DoesIn}
use Rattle.cb_rank_world.proofs.SystemHalf.{Did, Moves, OtherLanesStay}
use Rattle.cb_rank_world.proofs.AgreementAfterHalf.{step_agrees}
use Rattle.cb_rank_world.proofs.NextHalf.{program_of, passes_of, finds_half}

-- the system still agrees after a rank's next half
pub agrees_on : (s : Arithmetic) (w : WorldView) (r : ℕ) (h : Half) (after : System Sparse) → IsWorld s w → r < w.plan.ranks → next_of w r ≡ Some h → Moves s r h (system_of w) after → Agrees (matrices s) w.plan.acts (state_of w.first) after
agrees_on s w r h after sound inside next moves =
    let shapes_are : images (λ (m : Sparse). m.shape) (state_of w.first) ≡ started w.plan.starts = sound.fits.shapes in
    let passes : Passes w.plan.ranks (images (λ (m : Sparse). m.shape) (state_of w.first)) none_shut w.plan.acts = subst (λ x. Passes w.plan.ranks x none_shut w.plan.acts) (sym shapes_are) (passes_of s w sound) in
    let there : slice_get (project w.plan.starts w.plan.acts r) (rank_of w r).done ≡ Some h = rw (program_of w r (sound.ranks r inside)) at next in
    let there2 : slice_get (project_from (images (λ (m : Sparse). m.shape) (state_of w.first)) w.plan.acts r) (rank_of w r).done ≡ Some h = subst (λ x. slice_get (project_from x w.plan.acts r) (rank_of w r).done ≡ Some h) (sym shapes_are) there in
    step_agrees s w.plan.ranks w.plan.acts (state_of w.first) r h (system_of w) after passes there2 moves sound.agrees

-- the lanes after the one between two ranks has changed
module _ (w : WorldView) (ranks : List RankView) (f t : ℕ) (l : Lane Sparse) (inside : t < length w.boxes) where
  abbrev changed : WorldView
  changed = record w { ranks = ranks; boxes = with_lane_in w.boxes f t l }

  pub others : OtherLanesStay f t (system_of w) (system_of changed)
  others = record { by_sender = λ p q ne. lane_by_sender w.boxes f t p q l inside ne; by_addressee = λ p q ne. lane_by_addressee w.boxes f t p q l ne }

  rooms : f < length (box_in w.boxes t).lanes → l.capacity ≡ (lane_between w f t).capacity → (p q : ℕ) → (lane_between changed p q).capacity ≡ (lane_between w p q).capacity
  rooms h e p q =
      split (q == t)
      (λ u. split (p == f)
      (λ v. let eq : q ≡ t = grind (arith, nat_tests) in let ep : p ≡ f = grind (arith, nat_tests) in rw (eq, ep) (ap (λ (x : Lane Sparse). x.capacity) (lane_here w.boxes f t l inside h) ∙ e))
      (λ v. ap (λ (x : Lane Sparse). x.capacity) (lane_by_sender w.boxes f t p q l inside (grind (arith, nat_tests)))))
      (λ u. ap (λ (x : Lane Sparse). x.capacity) (lane_by_addressee w.boxes f t p q l (grind (arith, nat_tests))))

  are_lanes : f < length (box_in w.boxes t).lanes → IsLane f t l → (p q : ℕ) → IsLane p q (lane_between w p q) → IsLane p q (lane_between changed p q)
  are_lanes h new p q old =
      split (q == t)
      (λ u. split (p == f)
      (λ v. let eq : q ≡ t = grind (arith, nat_tests) in let ep : p ≡ f = grind (arith, nat_tests) in rw (eq, ep) (subst (IsLane f t) (sym (lane_here w.boxes f t l inside h)) new))
      (λ v. subst (IsLane p q) (sym (lane_by_sender w.boxes f t p q l inside (grind (arith, nat_tests)))) old))
      (λ u. subst (IsLane p q) (sym (lane_by_addressee w.boxes f t p q l (grind (arith, nat_tests)))) old)

  -- a mailbox keeps its number and its lanes
  pub has_box : f < length (box_in w.boxes t).lanes → l.capacity ≡ (lane_between w f t).capacity → IsLane f t l → (q : ℕ) → HasBox w q → HasBox changed q
  has_box h e new q has =
      let kept : ((box_in changed.boxes q).me ≡ (box_in w.boxes q).me) × (length (box_in changed.boxes q).lanes ≡ length (box_in w.boxes q).lanes) =
      split (q == t)
      (λ u.
      let same : q ≡ t = grind (arith, nat_tests) in
      let here = box_here w.boxes f t l inside in
      rw same (ap (λ (b : Inbox Sparse). b.me) here, ap (λ (b : Inbox Sparse). length b.lanes) here ∙ length-set (box_in w.boxes t).lanes f l))
      (λ u. let there = box_there w.boxes f t q l (grind (arith, nat_tests)) in (ap (λ (b : Inbox Sparse). b.me) there, ap (λ (b : Inbox Sparse). length b.lanes) there)) in
      record {
        number = kept.0 ∙ has.number;
        lanes = kept.1 ∙ has.lanes;
        capacity = λ p i ne. rooms h e p q ∙ has.capacity p i ne;
        sound = λ p i ne. are_lanes h new p q (has.sound p i ne);
      }

-- what is common to all halves of a rank
module _ (s : Arithmetic) (w : WorldView) (r : ℕ) (h : Half) (slots : List (Slot Sparse)) (refusals : ℕ) (boxes : List (Inbox Sparse)) (sound : IsWorld s w) (inside : r < w.plan.ranks) where
  abbrev rank : RankView
  rank = onward (rank_of w r) slots refusals

  abbrev then_is : WorldView
  then_is = with_rank w r rank boxes

  within : r < length w.ranks
  within = let c = sound.sizes.0 in omega arith

  pub rank_same : rank_of then_is r ≡ rank
  rank_same = get_or-set_same w.ranks r rank no_rank within

  pub rank_other : (q : ℕ) → q ≢ r → rank_of then_is q ≡ rank_of w q
  rank_other q ne = get_or-set_other w.ranks r q rank no_rank ne

  pub slots_same : (n : ℕ) → (system_of then_is).slots r n ≡ slot_at slots n
  slots_same n = ap (λ (x : RankView). slot_at x.slots n) rank_same

  pub refusals_same : (system_of then_is).refusals r ≡ refusals
  refusals_same = ap (λ (x : RankView). x.refusals) rank_same

  has_rank : IsRank rank → (q : ℕ) → HasRank w q → HasRank then_is q
  has_rank is q has =
      split (q == r)
      (λ u.
      let same : q ≡ r = grind (arith, nat_tests) in
      let old = sound.ranks r inside in
      rw same (record {
        plan = ap (λ (x : RankView). x.plan) rank_same ∙ old.plan;
        number = ap (λ (x : RankView). x.me) rank_same ∙ old.number;
        sound = subst (λ x. IsRank x) (sym rank_same) is;
      }))
      (λ u.
      let other = rank_other q (grind (arith, nat_tests)) in
      record {
        plan = ap (λ (x : RankView). x.plan) other ∙ has.plan;
        number = ap (λ (x : RankView). x.me) other ∙ has.number;
        sound = subst (λ x. IsRank x) (sym other) has.sound;
      })

  moves : (rank_of w r).refusals ≤ refusals → Did s r h (system_of w) (system_of then_is) → Moves s r h (system_of w) (system_of then_is)
  moves g did = record {
    done = ap (λ (x : RankView). x.done) rank_same;
    others_done = λ q ne. ap (λ (x : RankView). x.done) (rank_other q ne);
    others_slots = λ q n ne. ap (λ (x : RankView). slot_at x.slots n) (rank_other q ne);
    refusals = λ q. split (q == r)
        (λ u. let same : q ≡ r = grind (arith, nat_tests) in let e = ap (λ (x : RankView). x.refusals) rank_same in rw same (omega arith))
        (λ u. let ne : q ≢ r = grind (arith, nat_tests) in let e = ap (λ (x : RankView). x.refusals) (rank_other q ne) in omega arith);
    half = did;
  }

  pub goes_on : next_of w r ≡ Some h → IsRank rank → length boxes ≡ length w.boxes → ((q : ℕ) → HasBox w q → HasBox then_is q) → (rank_of w r).refusals ≤ refusals → Did s r h (system_of w) (system_of then_is) → IsWorld s then_is
  goes_on next is size has g did = record {
    checked = sound.checked;
    fits = sound.fits;
    few = sound.few;
    capacity = sound.capacity;
    sizes = (length-set w.ranks r rank ∙ sound.sizes.0, size ∙ sound.sizes.1);
    ranks = λ q l. has_rank is q (sound.ranks q l);
    boxes = λ q l. has q (sound.boxes q l);
    agrees = agrees_on s w r h (system_of then_is) sound inside next (moves g did);
  }

copy_grows : (me : ℕ) (x : Slot Sparse) (b : Body Sparse) (old new : ℕ) → IsCopy me x b old new → (old ≤ new) × (new ≤ old + 1)
copy_grows me (slot_is.Sheet m) (body_is.Sheet n) old new c = let e = c.1 in (omega arith, omega arith)
copy_grows me (slot_is.Sheet m) (body_is.Lost o) old new c = let e = c.1 in (omega arith, omega arith)
copy_grows me (slot_is.Sheet m) body_is.Close old new c = absurd c
copy_grows me (slot_is.Lost o) (body_is.Lost p) old new c = let e = c.1 in (omega arith, omega arith)
copy_grows me (slot_is.Lost o) (body_is.Sheet n) old new c = absurd c
copy_grows me (slot_is.Lost o) body_is.Close old new c = absurd c
copy_grows me slot_is.Empty b old new c = absurd c

work_grows : (s : Arithmetic) (me : ℕ) (op : Op) (slots : List (Slot Sparse)) (x : Slot Sparse) (old new : ℕ) → IsWork s me op slots x old new → old ≤ new
work_grows s me op slots x old new (inl e) = let k = e.1 in omega arith
work_grows s me op slots x old new (inr e) = let k = e.1 in omega arith

-- each rank has its mailbox among the world's, with a lane from each rank
has_place : (s : Arithmetic) (w : WorldView) (f t : ℕ) → IsWorld s w → f < w.plan.ranks → t < w.plan.ranks → (t < length w.boxes) × (f < length (box_in w.boxes t).lanes)
has_place s w f t sound i j = let n = sound.sizes.1 in let l = (sound.boxes t j).lanes in (omega arith, omega arith)

posts_keep : (s : Arithmetic) (w : WorldView) (r to : ℕ) (tag : Tag) (slot : ℕ) (body : Body Sparse) (refusals : ℕ) (sound : IsWorld s w) → r < w.plan.ranks → next_of w r ≡ Some (half_is.Post to tag slot) → IsCopy r (slot_at (rank_of w r).slots slot) body (rank_of w r).refusals refusals
    → IsWorld s (with_rank w r (onward (rank_of w r) (rank_of w r).slots refusals) (boxes_with w.boxes (letter_to w r to tag body)))
posts_keep s w r to tag slot body refusals sound inside next copy =
    let h : Half = half_is.Post to tag slot in
    let it = finds_half s w r h sound inside next in
    let place = has_place s w r to sound inside it.0 in
    let x : Letter Sparse = letter_to w r to tag body in
    let l : Lane Sparse = append (lane_between w r to) x in
    let slots : List (Slot Sparse) = (rank_of w r).slots in
    let boxes : List (Inbox Sparse) = with_lane_in w.boxes r to l in
    let ranks : List RankView = slice_set w.ranks r (onward (rank_of w r) slots refusals) in
    let grows = copy_grows r (slot_at slots slot) body (rank_of w r).refusals refusals copy in
    goes_on s w r h slots refusals boxes sound inside next
    (posts_on (rank_of w r) to tag slot refusals (sound.ranks r inside).sound next grows.1)
    (same_length w.boxes r to l)
    (has_box w ranks r to l place.0 place.1 refl (IsLane-append r to (lane_between w r to) x ((sound.boxes to it.0).sound r inside it.1) it.2 (record { sender = refl; addressee = refl; numbered = refl })))
    grows.0 (
      x,
      refl,
      rw (refusals_same s w r h slots refusals boxes sound inside) copy,
      record { addressed = record { sender = refl; addressee = refl; numbered = refl }; lane = lane_here w.boxes r to l place.0 place.1; others = others w ranks r to l place.0 },
      record { stay = slots_same s w r h slots refusals boxes sound inside },
    )

shuts_keep : (s : Arithmetic) (w : WorldView) (r to : ℕ) (sound : IsWorld s w) → r < w.plan.ranks → next_of w r ≡ Some (half_is.Shut to)
    → IsWorld s (with_rank w r (onward (rank_of w r) (rank_of w r).slots (rank_of w r).refusals) (boxes_with w.boxes (letter_to w r to mark_tag body_is.Close)))
shuts_keep s w r to sound inside next =
    let h : Half = half_is.Shut to in
    let it = finds_half s w r h sound inside next in
    let place = has_place s w r to sound inside it.0 in
    let x : Letter Sparse = letter_to w r to mark_tag body_is.Close in
    let l : Lane Sparse = append (lane_between w r to) x in
    let slots : List (Slot Sparse) = (rank_of w r).slots in
    let refusals : ℕ = (rank_of w r).refusals in
    let boxes : List (Inbox Sparse) = with_lane_in w.boxes r to l in
    let ranks : List RankView = slice_set w.ranks r (onward (rank_of w r) slots refusals) in
    goes_on s w r h slots refusals boxes sound inside next
    (shuts_on (rank_of w r) to (sound.ranks r inside).sound next)
    (same_length w.boxes r to l)
    (has_box w ranks r to l place.0 place.1 refl (IsLane-append r to (lane_between w r to) x ((sound.boxes to it.0).sound r inside it.1) it.2 (record { sender = refl; addressee = refl; numbered = refl })))
    (omega arith) (
      x,
      refl,
      refl,
      record { addressed = record { sender = refl; addressee = refl; numbered = refl }; lane = lane_here w.boxes r to l place.0 place.1; others = others w ranks r to l place.0 },
      record { stay = slots_same s w r h slots refusals boxes sound inside },
    )

one_taken : (n : ℕ) → 0 < n → min 1 n ≡ 1
one_taken n h = omega arith

oldest_of : (queue : List (Letter Sparse)) (x : Letter Sparse) → slice_get queue 0 ≡ Some x → (rest : List (Letter Sparse)) × (queue ≡ x ∷ rest)
oldest_of [] x e = cc
oldest_of (y ∷ ys) x e = (ys, let same = same_Some y x e in rw same refl)

-- a take from a lane on which a letter is queued
taken_lane : (l : Lane Sparse) (x : Letter Sparse) (rest : List (Letter Sparse)) → l.queue ≡ x ∷ rest → (l.queue ≡ x ∷ (after_take l).queue) × ((after_take l).taken ≡ l.taken + 1)
taken_lane l x rest e = (rw e refl, let some : 0 < length l.queue = rw e (omega arith) in ap (λ n. l.taken + n) (one_taken (length l.queue) some))

takes_keep : (s : Arithmetic) (w : WorldView) (r from : ℕ) (tag : Tag) (into : ℕ) (shape : Extent) (x : Letter Sparse) (sound : IsWorld s w) → r < w.plan.ranks → next_of w r ≡ Some (half_is.Take from tag into shape) → IsOldest w from r x
    → IsWorld s (with_rank w r (onward (rank_of w r) (slice_set (rank_of w r).slots into (slot_of_body x.body)) (rank_of w r).refusals) (boxes_after w.boxes from r))
takes_keep s w r from tag into shape x sound inside next oldest =
    let h : Half = half_is.Take from tag into shape in
    let it = finds_half s w r h sound inside next in
    let queue = oldest_of (lane_between w from r).queue x oldest in
    let place = has_place s w from r sound it.0 inside in
    let l : Lane Sparse = after_take (lane_between w from r) in
    let old : List (Slot Sparse) = (rank_of w r).slots in
    let slots : List (Slot Sparse) = slice_set old into (slot_of_body x.body) in
    let refusals : ℕ = (rank_of w r).refusals in
    let boxes : List (Inbox Sparse) = with_lane_in w.boxes from r l in
    let ranks : List RankView = slice_set w.ranks r (onward (rank_of w r) slots refusals) in
    let there = lane_here w.boxes from r l place.0 place.1 in
    let gone = taken_lane (lane_between w from r) x queue.0 queue.1 in
    let is = (sound.ranks r inside).sound in
    let low : into < length old = let i = it.2 in let size = is.size in omega arith in
    goes_on s w r h slots refusals boxes sound inside next
    (takes_on (rank_of w r) from tag into shape x.body is next (it.4 x queue.0 queue.1).2)
    (same_length w.boxes from r l)
    (has_box w ranks from r l place.0 place.1 refl (IsLane-take from r (lane_between w from r) ((sound.boxes r inside).sound from it.0 it.1)))
    (omega arith) (
      x,
      record { queue = gone.0 ∙ ap (λ (y : Lane Sparse). x ∷ y.queue) (sym there); taken = ap (λ (y : Lane Sparse). y.taken) there ∙ gone.1; closed = ap (λ (y : Lane Sparse). y.closed) there; others = others w ranks from r l place.0 },
      record {
        set = slots_same s w r h slots refusals boxes sound inside into ∙ get_or-set_same old into (slot_of_body x.body) slot_is.Empty low;
        stay = λ k ne. slots_same s w r h slots refusals boxes sound inside k ∙ get_or-set_other old into k (slot_of_body x.body) slot_is.Empty (λ e. ne (sym e));
      },
    )

ends_keep : (s : Arithmetic) (w : WorldView) (r from : ℕ) (x : Letter Sparse) (sound : IsWorld s w) → r < w.plan.ranks → next_of w r ≡ Some (half_is.End from) → IsOldest w from r x
    → IsWorld s (with_rank w r (onward (rank_of w r) (rank_of w r).slots (rank_of w r).refusals) (boxes_after w.boxes from r))
ends_keep s w r from x sound inside next oldest =
    let h : Half = half_is.End from in
    let it = finds_half s w r h sound inside next in
    let queue = oldest_of (lane_between w from r).queue x oldest in
    let place = has_place s w from r sound it.0 inside in
    let l : Lane Sparse = after_take (lane_between w from r) in
    let slots : List (Slot Sparse) = (rank_of w r).slots in
    let refusals : ℕ = (rank_of w r).refusals in
    let boxes : List (Inbox Sparse) = with_lane_in w.boxes from r l in
    let ranks : List RankView = slice_set w.ranks r (onward (rank_of w r) slots refusals) in
    let there = lane_here w.boxes from r l place.0 place.1 in
    let gone = taken_lane (lane_between w from r) x queue.0 queue.1 in
    goes_on s w r h slots refusals boxes sound inside next
    (ends_on (rank_of w r) from (sound.ranks r inside).sound next)
    (same_length w.boxes from r l)
    (has_box w ranks from r l place.0 place.1 refl (IsLane-take from r (lane_between w from r) ((sound.boxes r inside).sound from it.0 it.1)))
    (omega arith) (
      x,
      record { queue = gone.0 ∙ ap (λ (y : Lane Sparse). x ∷ y.queue) (sym there); taken = ap (λ (y : Lane Sparse). y.taken) there ∙ gone.1; closed = ap (λ (y : Lane Sparse). y.closed) there; others = others w ranks from r l place.0 },
      record { stay = slots_same s w r h slots refusals boxes sound inside },
    )

works_keep : (s : Arithmetic) (w : WorldView) (r : ℕ) (op : Op) (x : Slot Sparse) (refusals : ℕ) (sound : IsWorld s w) → r < w.plan.ranks → next_of w r ≡ Some (half_is.Work op) → IsWork s r op (rank_of w r).slots x (rank_of w r).refusals refusals
    → IsWorld s (with_rank w r (onward (rank_of w r) (slice_set (rank_of w r).slots (target_of op) x) refusals) w.boxes)
works_keep s w r op x refusals sound inside next work =
    let h : Half = half_is.Work op in
    let is = (sound.ranks r inside).sound in
    let old : List (Slot Sparse) = (rank_of w r).slots in
    let slots : List (Slot Sparse) = slice_set old (target_of op) x in
    let low : target_of op < length old = let i = finds_half s w r h sound inside next in let size = is.size in omega arith in
    goes_on s w r h slots refusals w.boxes sound inside next
    (works_on s (rank_of w r) op x refusals is next (subst (λ me. IsWork s me op old x (rank_of w r).refusals refusals) (sym (sound.ranks r inside).number) work))
    refl
    (λ q has. record { number = has.number; lanes = has.lanes; capacity = has.capacity; sound = has.sound })
    (work_grows s r op old x _ refusals work) (
      old,
      λ n. refl,
      (
        x,
        rw (refusals_same s w r h slots refusals w.boxes sound inside) work,
        record {
          set = slots_same s w r h slots refusals w.boxes sound inside (target_of op) ∙ get_or-set_same old (target_of op) x slot_is.Empty low;
          stay = λ k ne. slots_same s w r h slots refusals w.boxes sound inside k ∙ get_or-set_other old (target_of op) k x slot_is.Empty (λ e. ne (sym e));
        },
        λ p q. refl,
      ),
    )

-- after each half the world satisfies `IsWorld`
pub does_keep : (s : Arithmetic) (w after : WorldView) (r : ℕ) (h : Half) → IsWorld s w → r < w.plan.ranks → next_of w r ≡ Some h → DoesIn s r h w after → IsWorld s after
does_keep s w after r (half_is.Post to tag slot) sound inside next did =
    let me = (sound.ranks r inside).number in
    let copy = did.2.1 in
    let same : with_rank w r did.1 (boxes_with w.boxes (letter_to w r to tag did.0)) ≡ with_rank w r (onward (rank_of w r) (rank_of w r).slots did.1.refusals) (boxes_with w.boxes (letter_to w r to tag did.0)) = ap (λ x. with_rank w r x (boxes_with w.boxes (letter_to w r to tag did.0))) did.2.2 in
    subst (λ y. IsWorld s y) (sym (did.3 ∙ same))
    (posts_keep s w r to tag slot did.0 did.1.refusals sound inside next (subst (λ me. IsCopy me (slot_at (rank_of w r).slots slot) did.0 (rank_of w r).refusals did.1.refusals) me copy))
does_keep s w after r (half_is.Take from tag into shape) sound inside next did =
    subst (λ y. IsWorld s y) (sym did.3) (takes_keep s w r from tag into shape did.0 sound inside next did.1)
does_keep s w after r (half_is.Work op) sound inside next did =
    let me = (sound.ranks r inside).number in
    let it = did.1 in
    let same : with_rank w r did.0 w.boxes ≡ with_rank w r (onward (rank_of w r) (slice_set (rank_of w r).slots (target_of op) it.0) did.0.refusals) w.boxes = ap (λ x. with_rank w r x w.boxes) it.2 in
    subst (λ y. IsWorld s y) (sym (did.2 ∙ same))
    (works_keep s w r op it.0 did.0.refusals sound inside next (subst (λ me. IsWork s me op (rank_of w r).slots it.0 (rank_of w r).refusals did.0.refusals) me it.1))
does_keep s w after r (half_is.Shut to) sound inside next did =
    subst (λ y. IsWorld s y) (sym did) (shuts_keep s w r to sound inside next)
does_keep s w after r (half_is.End from) sound inside next did =
    subst (λ y. IsWorld s y) (sym did.3) (ends_keep s w r from did.0 sound inside next did.1)
