-- The ranks of a world, in step with ranks that each ran by itself.
use Rattle.std.proofs.Common.{◌≡◌, ◌≢◌, ℕ, ◌+◌, ◌<◌, true, false, List, [], ◌∷◌, ◌++◌, length, refl, sym, ◌∙◌, ap, subst, arith}
use Rattle.std.specs.Prelude.{Some, ◌==◌, if◌then◌else◌, slice_get, slice_set, drop}
use Rattle.std.proofs.lemmas.Bool.Decides.{nat_tests}
use Rattle.std.proofs.lemmas.List.{drop_more}
use Rattle.std.proofs.lemmas.Option.{slice_get_within, get_or_from_slice_get}
use Rattle.cb_semirings.specs.Arithmetic.{Arithmetic}
use Rattle.cb_matrix.specs.Sparse.{Sparse}
use Rattle.cb_letters.specs.declared.Letter.{Letter}
use Rattle.cb_letters.specs.declared.Body.{Body}
use Rattle.cb_letters.specs.declared.Body.TheVariants as body_is
use Rattle.cb_letters.specs.Letters.{mark_tag}
use Rattle.cb_letters.specs.Lane.{append, after_take}
use Rattle.cb_plan.specs.declared.acts.Op.{Op}
use Rattle.cb_plan.specs.declared.acts.Half.{Half}
use Rattle.cb_plan.specs.declared.acts.Half.TheVariants as half_is
use Rattle.cb_plan.specs.declared.stores.Slot.{Slot}
use Rattle.cb_plan.specs.Meaning.{target_of}
use Rattle.cb_rank.specs.Halves.{Course, DoesHalf, RunsTo, IsCopy, IsWork, slot_at, slot_of_body, with_letter}
use Rattle.cb_rank.specs.Ranks.{RankView, onward}
use Rattle.cb_plan.proofs.Effects.{split}
use Rattle.cb_rank_world.specs.Ends.{with_lane_in, boxes_with, boxes_after}
use Rattle.cb_rank_world.specs.EndLaws.{lane_here, lane_by_addressee, lane_by_sender}
use Rattle.cb_rank_world.specs.Worlds.{WorldView, IsWorld, rank_of, next_of, lane_between, CanDo}
use Rattle.cb_rank_world.specs.WorldSteps.{with_rank, letter_to, DoesIn}
use Rattle.cb_rank_world.proofs.NextHalf.{finds_half}
use Rattle.cb_rank_world.proofs.WorldAfterHalf.{rank_same, rank_other}
use Rattle.cb_rank_runs.proofs.Courses.{Extends, grows}
use Rattle.cb_rank_engines.proofs.LanesInStep.{LaneStandsAt, lane_stays, lane_posts, lane_takes, lane_counts, same_letter}

-- a rank of a world is where this course ends, and by itself goes on from there to its last
pub record RankStandsAt (s : Arithmetic) (r : ℕ) (x : RankView) (c last : Course) : Type 0 where
  pub slots : x.slots ≡ c.slots
  pub refusals : x.refusals ≡ c.refusals
  pub goes_on : RunsTo s r (drop x.done x.program) c last

-- so is each rank of a world, and each lane agrees with its two courses
pub record StandsAt (s : Arithmetic) (ranks : ℕ) (w : WorldView) (c last : ℕ → Course) : Type 0 where
  pub count : w.plan.ranks ≡ ranks
  pub each : (r : ℕ) → r < ranks → RankStandsAt s r (rank_of w r) (c r) (last r)
  pub lanes : (f t : ℕ) → f < ranks → t < ranks → f ≢ t → LaneStandsAt ((c f).posted t) ((c t).taken f) (lane_between w f t)

-- in the end all letters are taken
abbrev pub AllTaken : ℕ → (ℕ → Course) → Type 0
AllTaken ranks last = (f t : ℕ) → f < ranks → t < ranks → f ≢ t → (last t).taken f ≡ (last f).posted t

pub rank_stays : {s : Arithmetic} {r : ℕ} {x x' : RankView} {c c' last : Course} → x' ≡ x → c' ≡ c → RankStandsAt s r x c last → RankStandsAt s r x' c' last
rank_stays e f h = rw (e, f) h

-- one of the courses is this one
abbrev pub with_course : (ℕ → Course) → ℕ → Course → ℕ → Course
with_course c r x q = if q == r then x else c q

course_same : (c : ℕ → Course) (r : ℕ) (x : Course) → with_course c r x r ≡ x
course_same c r x = let t : (r == r) ≡ true = grind (arith, nat_tests) in rw t refl

course_other : (c : ℕ → Course) (r : ℕ) (x : Course) (q : ℕ) → q ≢ r → with_course c r x q ≡ c q
course_other c r x q ne = let f : (q == r) ≡ false = grind (arith, nat_tests) in rw f refl

with_letter_same : (lists : ℕ → List (Letter Sparse)) (j : ℕ) (x : Letter Sparse) → with_letter lists j x j ≡ lists j ++ x ∷ []
with_letter_same lists j x = let t : (j == j) ≡ true = grind (arith, nat_tests) in rw t refl

with_letter_other : (lists : ℕ → List (Letter Sparse)) (j : ℕ) (x : Letter Sparse) (k : ℕ) → k ≢ j → with_letter lists j x k ≡ lists k
with_letter_other lists j x k ne = let f : (j == k) ≡ false = grind (arith, nat_tests) in rw f refl

pub drop_next : {X : Type 0} (xs : List X) (k : ℕ) (x : X) → slice_get xs k ≡ Some x → drop k xs ≡ x ∷ drop (k + 1) xs
drop_next xs k x e = drop_more xs k x (slice_get_within xs k x e) ∙ ap (λ y. y ∷ drop (k + 1) xs) (get_or_from_slice_get xs k x x e)

-- a rank of a world does its next half as it did by itself: the world after it, and the courses
pub record Next (s : Arithmetic) (ranks : ℕ) (w : WorldView) (r : ℕ) (h : Half) (last : ℕ → Course) : Type 0 where
  pub after : WorldView
  pub courses : ℕ → Course
  pub did : DoesIn s r h w after
  pub stands : StandsAt s ranks after courses last

rank_by : (w : WorldView) (r : ℕ) (boxes : _) (slots slots' : List (Slot Sparse)) (refusals refusals' : ℕ) → slots ≡ slots' → refusals ≡ refusals' → with_rank w r (onward (rank_of w r) slots refusals) boxes ≡ with_rank w r (onward (rank_of w r) slots' refusals') boxes
rank_by w r boxes slots slots' refusals refusals' e f = rw (e, f) refl

copy_by : {me me' : ℕ} {slots slots' : List (Slot Sparse)} {old old' : ℕ} (k : ℕ) (b : Body Sparse) (new : ℕ) → me' ≡ me → slots' ≡ slots → old' ≡ old → IsCopy me (slot_at slots k) b old new → IsCopy me' (slot_at slots' k) b old' new
copy_by k b new e f g h = rw (e, f, g) h

work_by : (s : Arithmetic) {me me' : ℕ} {slots slots' : List (Slot Sparse)} {old old' : ℕ} (op : Op) (x : Slot Sparse) (new : ℕ) → me' ≡ me → slots' ≡ slots → old' ≡ old → IsWork s me op slots x old new → IsWork s me' op slots' x old' new
work_by s op x new e f g h = rw (e, f, g) h

some_letter : (queue : List (Letter Sparse)) → 0 < length queue → (y : Letter Sparse) × (rest : List (Letter Sparse)) × (queue ≡ y ∷ rest)
some_letter [] l = absurd (omega arith)
some_letter (y ∷ ys) l = (y, ys, refl)

module _ (s : Arithmetic) (ranks : ℕ) (w : WorldView) (r : ℕ) (h : Half) (c last : ℕ → Course) (mid : Course) (sound : IsWorld s w) (taken : AllTaken ranks last) (stands : StandsAt s ranks w c last) (l : r < ranks) (next : next_of w r ≡ Some h) (goes : RunsTo s r (drop ((rank_of w r).done + 1) (rank_of w r).program) mid (last r)) where
  inside : r < w.plan.ranks
  inside = let n = stands.count in omega arith

  within : (q : ℕ) → q < w.plan.ranks → q < ranks
  within q i = let n = stands.count in omega arith

  own : RankStandsAt s r (rank_of w r) (c r) (last r)
  own = stands.each r l

  abbrev then_courses : ℕ → Course
  then_courses = with_course c r mid

  -- the rank has done one more half, and no other rank has done any
  stand_on : (boxes : _) → ((f t : ℕ) → f < ranks → t < ranks → f ≢ t → LaneStandsAt ((then_courses f).posted t) ((then_courses t).taken f) (lane_between (with_rank w r (onward (rank_of w r) mid.slots mid.refusals) boxes) f t)) → StandsAt s ranks (with_rank w r (onward (rank_of w r) mid.slots mid.refusals) boxes) then_courses last
  stand_on boxes lanes =
      let mine : RankStandsAt s r (onward (rank_of w r) mid.slots mid.refusals) mid (last r) = record { slots = refl; refusals = refl; goes_on = goes } in
      let after : WorldView = with_rank w r (onward (rank_of w r) mid.slots mid.refusals) boxes in
      record {
        count = stands.count;
        each = λ q i. split (q == r)
            (λ u.
            let same : q ≡ r = grind (arith, nat_tests) in
            subst (λ k. RankStandsAt s k (rank_of after k) (then_courses k) (last k)) (sym same)
            (rank_stays (rank_same s w r h mid.slots mid.refusals boxes sound inside) (course_same c r mid) mine))
            (λ u.
            let ne : q ≢ r = grind (arith, nat_tests) in
            rank_stays (rank_other s w r h mid.slots mid.refusals boxes sound inside q ne) (course_other c r mid q ne) (stands.each q i));
        lanes = lanes;
      }

  -- if the rank posted nothing, or took nothing, nothing was posted, or taken
  posted_now : ((k : ℕ) → mid.posted k ≡ (c r).posted k) → (q k : ℕ) → (then_courses q).posted k ≡ (c q).posted k
  posted_now e q k = split (q == r) (λ u. let same : q ≡ r = grind (arith, nat_tests) in rw u (e k ∙ ap (λ z. (c z).posted k) (sym same))) (λ u. rw u refl)

  taken_now : ((k : ℕ) → mid.taken k ≡ (c r).taken k) → (q k : ℕ) → (then_courses q).taken k ≡ (c q).taken k
  taken_now e q k = split (q == r) (λ u. let same : q ≡ r = grind (arith, nat_tests) in rw u (e k ∙ ap (λ z. (c z).taken k) (sym same))) (λ u. rw u refl)

  module _ (to : ℕ) (x : Letter Sparse) (there : to < w.plan.ranks) (apart : r ≢ to) (posts : (k : ℕ) → mid.posted k ≡ with_letter (c r).posted to x k) (takes : (k : ℕ) → mid.taken k ≡ (c r).taken k) where
    abbrev posted_world : WorldView
    posted_world = with_rank w r (onward (rank_of w r) mid.slots mid.refusals) (with_lane_in w.boxes r to (append (lane_between w r to) x))

    posts_own : (k : ℕ) → (then_courses r).posted k ≡ with_letter (c r).posted to x k
    posts_own k = ap (λ (z : Course). z.posted k) (course_same c r mid) ∙ posts k

    lane_to : LaneStandsAt ((then_courses r).posted to) ((then_courses to).taken r) (lane_between posted_world r to)
    lane_to =
        let n = sound.sizes.1 in
        let m = (sound.boxes to there).lanes in
        lane_posts x (posts_own to ∙ with_letter_same (c r).posted to x) (taken_now takes to r)
        (lane_here w.boxes r to (append (lane_between w r to) x) (omega arith) (let z = inside in omega arith))
        (stands.lanes r to l (within to there) apart)

    own_lanes : (t : ℕ) → t < ranks → r ≢ t → LaneStandsAt ((then_courses r).posted t) ((then_courses t).taken r) (lane_between posted_world r t)
    own_lanes t i ne =
        split (t == to)
        (λ u.
        let same : t ≡ to = grind (arith, nat_tests) in
        subst (λ k. LaneStandsAt ((then_courses r).posted k) ((then_courses k).taken r) (lane_between posted_world r k)) (sym same) lane_to)
        (λ u.
        let other : t ≢ to = grind (arith, nat_tests) in
        lane_stays (posts_own t ∙ with_letter_other (c r).posted to x t other) (taken_now takes t r) (lane_by_addressee w.boxes r to r t (append (lane_between w r to) x) other) (stands.lanes r t l i ne))

    -- one more letter is on the lane to a rank
    lanes_posted : (f t : ℕ) → f < ranks → t < ranks → f ≢ t → LaneStandsAt ((then_courses f).posted t) ((then_courses t).taken f) (lane_between posted_world f t)
    lanes_posted f t i j ne =
        split (f == r)
        (λ u.
        let same : f ≡ r = grind (arith, nat_tests) in
        subst (λ k. LaneStandsAt ((then_courses k).posted t) ((then_courses t).taken k) (lane_between posted_world k t)) (sym same) (own_lanes t j (λ e. ne (same ∙ e))))
        (λ u.
        let other : f ≢ r = grind (arith, nat_tests) in
        let n = sound.sizes.1 in
        lane_stays (ap (λ (z : Course). z.posted t) (course_other c r mid f other)) (taken_now takes t f) (lane_by_sender w.boxes r to f t (append (lane_between w r to) x) (omega arith) other) (stands.lanes f t i j ne))

  module _ (from : ℕ) (x : Letter Sparse) (rest : List (Letter Sparse)) (there : from < w.plan.ranks) (apart : from ≢ r) (queue : (lane_between w from r).queue ≡ x ∷ rest) (posts : (k : ℕ) → mid.posted k ≡ (c r).posted k) (takes : (k : ℕ) → mid.taken k ≡ with_letter (c r).taken from x k) where
    abbrev taken_world : WorldView
    taken_world = with_rank w r (onward (rank_of w r) mid.slots mid.refusals) (with_lane_in w.boxes from r (after_take (lane_between w from r)))

    takes_own : (k : ℕ) → (then_courses r).taken k ≡ with_letter (c r).taken from x k
    takes_own k = ap (λ (z : Course). z.taken k) (course_same c r mid) ∙ takes k

    lane_from_it : LaneStandsAt ((then_courses from).posted r) ((then_courses r).taken from) (lane_between taken_world from r)
    lane_from_it =
        let n = sound.sizes.1 in
        let m = (sound.boxes r inside).lanes in
        lane_takes x rest queue (posted_now posts from r) (takes_own from ∙ with_letter_same (c r).taken from x)
        (lane_here w.boxes from r (after_take (lane_between w from r)) (let z = inside in omega arith) (omega arith))
        (stands.lanes from r (within from there) l apart)

    lanes_to_own : (f : ℕ) → f < ranks → f ≢ r → LaneStandsAt ((then_courses f).posted r) ((then_courses r).taken f) (lane_between taken_world f r)
    lanes_to_own f i ne =
        split (f == from)
        (λ u.
        let same : f ≡ from = grind (arith, nat_tests) in
        subst (λ k. LaneStandsAt ((then_courses k).posted r) ((then_courses r).taken k) (lane_between taken_world k r)) (sym same) lane_from_it)
        (λ u.
        let other : f ≢ from = grind (arith, nat_tests) in
        let n = sound.sizes.1 in
        lane_stays (posted_now posts f r) (takes_own f ∙ with_letter_other (c r).taken from x f other) (lane_by_sender w.boxes from r f r (after_take (lane_between w from r)) (let z = inside in omega arith) other) (stands.lanes f r i l ne))

    -- one letter fewer is on the lane from a rank
    lanes_taken : (f t : ℕ) → f < ranks → t < ranks → f ≢ t → LaneStandsAt ((then_courses f).posted t) ((then_courses t).taken f) (lane_between taken_world f t)
    lanes_taken f t i j ne =
        split (t == r)
        (λ u.
        let same : t ≡ r = grind (arith, nat_tests) in
        subst (λ k. LaneStandsAt ((then_courses f).posted k) ((then_courses k).taken f) (lane_between taken_world f k)) (sym same) (lanes_to_own f i (λ e. ne (e ∙ sym same))))
        (λ u.
        let other : t ≢ r = grind (arith, nat_tests) in
        lane_stays (posted_now posts f t) (ap (λ (z : Course). z.taken f) (course_other c r mid t other)) (lane_by_addressee w.boxes from r f t (after_take (lane_between w from r)) other) (stands.lanes f t i j ne))

  -- the letter that the rank took is the oldest on the lane
  same_oldest : (from : ℕ) (x y : Letter Sparse) (rest : List (Letter Sparse)) → from < w.plan.ranks → from ≢ r → (lane_between w from r).queue ≡ y ∷ rest → mid.taken from ≡ (c r).taken from ++ x ∷ [] → y ≡ x
  same_oldest from x y rest there apart queue took =
      let i = within from there in
      let sender = grows s from (drop (rank_of w from).done (rank_of w from).program) (c from) (last from) (stands.each from i).goes_on in
      let receiver = grows s r (drop ((rank_of w r).done + 1) (rank_of w r).program) mid (last r) goes in
      let more = receiver.taken from in
      let ahead : Extends ((c r).taken from ++ x ∷ []) ((last from).posted r) = (more.0, sym (taken from r i l apart) ∙ more.1 ∙ ap (λ xs. xs ++ more.0) took) in
      same_letter ((c from).posted r) ((c r).taken from) ((last from).posted r) (lane_between w from r) x y rest queue (stands.lanes from r i l apart) (sender.posted r) ahead

-- if a rank of a world can do its next half, it can do it as it did by itself
pub next_stands : (s : Arithmetic) (ranks : ℕ) (w : WorldView) (r : ℕ) (h : Half) (c last : ℕ → Course) (mid : Course) (sound : IsWorld s w) (taken : AllTaken ranks last) (stands : StandsAt s ranks w c last) (l : r < ranks) (next : next_of w r ≡ Some h) (goes : RunsTo s r (drop ((rank_of w r).done + 1) (rank_of w r).program) mid (last r)) → CanDo w r (Some h) → DoesHalf s r h (c r) mid → Next s ranks w r h last
next_stands s ranks w r (half_is.Post to tag slot) c last mid sound taken stands l next goes can d =
    let h : Half = half_is.Post to tag slot in
    let i = inside s ranks w r h c last mid sound taken stands l next goes in
    let it = finds_half s w r h sound i next in
    let at = stands.each r l in
    let x : Letter Sparse = letter_to w r to tag d.0 in
    let lane = stands.lanes r to l (within s ranks w r h c last mid sound taken stands l next goes to it.0) it.1 in
    let number = lane_counts ((c r).posted to) ((c to).taken r) (lane_between w r to) lane in
    let same : x ≡ record { from = r; to = to; number = length ((c r).posted to); tag = tag; body = d.0 } = ap (λ n. record { from = r; to = to; number = n; tag = tag; body = d.0 }) number in
    let posts : (k : ℕ) → mid.posted k ≡ with_letter (c r).posted to x k = λ k. ap (λ (z : Course). z.posted k) d.2 ∙ ap (λ y. with_letter (c r).posted to y k) (sym same) in
    let takes : (k : ℕ) → mid.taken k ≡ (c r).taken k = λ k. ap (λ (z : Course). z.taken k) d.2 in
    let slots : mid.slots ≡ (rank_of w r).slots = ap (λ (z : Course). z.slots) d.2 ∙ sym at.slots in
    record {
      after = with_rank w r (onward (rank_of w r) mid.slots mid.refusals) (boxes_with w.boxes x);
      courses = with_course c r mid;
      did = (
        d.0,
        onward (rank_of w r) mid.slots mid.refusals,
        (refl, copy_by slot d.0 mid.refusals (sound.ranks r i).number at.slots at.refusals d.1, ap (λ z. onward (rank_of w r) z mid.refusals) slots),
        refl,
      );
      stands = stand_on s ranks w r h c last mid sound taken stands l next goes (boxes_with w.boxes x) (lanes_posted s ranks w r h c last mid sound taken stands l next goes to x it.0 it.1 posts takes);
    }
next_stands s ranks w r (half_is.Shut to) c last mid sound taken stands l next goes can d =
    let h : Half = half_is.Shut to in
    let i = inside s ranks w r h c last mid sound taken stands l next goes in
    let it = finds_half s w r h sound i next in
    let at = stands.each r l in
    let x : Letter Sparse = letter_to w r to mark_tag body_is.Close in
    let lane = stands.lanes r to l (within s ranks w r h c last mid sound taken stands l next goes to it.0) it.1 in
    let number = lane_counts ((c r).posted to) ((c to).taken r) (lane_between w r to) lane in
    let same : x ≡ record { from = r; to = to; number = length ((c r).posted to); tag = mark_tag; body = body_is.Close } = ap (λ n. record { from = r; to = to; number = n; tag = mark_tag; body = body_is.Close }) number in
    let posts : (k : ℕ) → mid.posted k ≡ with_letter (c r).posted to x k = λ k. ap (λ (z : Course). z.posted k) d ∙ ap (λ y. with_letter (c r).posted to y k) (sym same) in
    let takes : (k : ℕ) → mid.taken k ≡ (c r).taken k = λ k. ap (λ (z : Course). z.taken k) d in
    let slots : mid.slots ≡ (rank_of w r).slots = ap (λ (z : Course). z.slots) d ∙ sym at.slots in
    let refusals : mid.refusals ≡ (rank_of w r).refusals = ap (λ (z : Course). z.refusals) d ∙ sym at.refusals in
    record {
      after = with_rank w r (onward (rank_of w r) mid.slots mid.refusals) (boxes_with w.boxes x);
      courses = with_course c r mid;
      did = rank_by w r (boxes_with w.boxes x) mid.slots (rank_of w r).slots mid.refusals (rank_of w r).refusals slots refusals;
      stands = stand_on s ranks w r h c last mid sound taken stands l next goes (boxes_with w.boxes x) (lanes_posted s ranks w r h c last mid sound taken stands l next goes to x it.0 it.1 posts takes);
    }
next_stands s ranks w r (half_is.Work op) c last mid sound taken stands l next goes can d =
    let h : Half = half_is.Work op in
    let i = inside s ranks w r h c last mid sound taken stands l next goes in
    let at = stands.each r l in
    let posts : (k : ℕ) → mid.posted k ≡ (c r).posted k = λ k. ap (λ (z : Course). z.posted k) d.2 in
    let takes : (k : ℕ) → mid.taken k ≡ (c r).taken k = λ k. ap (λ (z : Course). z.taken k) d.2 in
    let slots : mid.slots ≡ slice_set (rank_of w r).slots (target_of op) d.0 = ap (λ (z : Course). z.slots) d.2 ∙ ap (λ z. slice_set z (target_of op) d.0) (sym at.slots) in
    record {
      after = with_rank w r (onward (rank_of w r) mid.slots mid.refusals) w.boxes;
      courses = with_course c r mid;
      did = (
        onward (rank_of w r) mid.slots mid.refusals,
        (d.0, work_by s op d.0 mid.refusals (sound.ranks r i).number at.slots at.refusals d.1, ap (λ z. onward (rank_of w r) z mid.refusals) slots),
        refl,
      );
      stands = stand_on s ranks w r h c last mid sound taken stands l next goes w.boxes (λ f t a b ne.
          lane_stays (posted_now s ranks w r h c last mid sound taken stands l next goes posts f t) (taken_now s ranks w r h c last mid sound taken stands l next goes takes t f) refl (stands.lanes f t a b ne));
    }
next_stands s ranks w r (half_is.Take from tag into shape) c last mid sound taken stands l next goes can d =
    let h : Half = half_is.Take from tag into shape in
    let i = inside s ranks w r h c last mid sound taken stands l next goes in
    let it = finds_half s w r h sound i next in
    let at = stands.each r l in
    let first = some_letter (lane_between w from r).queue can in
    let x : Letter Sparse = d.0 in
    let posts : (k : ℕ) → mid.posted k ≡ (c r).posted k = λ k. ap (λ (z : Course). z.posted k) d.3 in
    let takes : (k : ℕ) → mid.taken k ≡ with_letter (c r).taken from x k = λ k. ap (λ (z : Course). z.taken k) d.3 in
    let same : first.0 ≡ x = same_oldest s ranks w r h c last mid sound taken stands l next goes from x first.0 first.1 it.0 it.1 first.2 (takes from ∙ with_letter_same (c r).taken from x) in
    let queue : (lane_between w from r).queue ≡ x ∷ first.1 = first.2 ∙ ap (λ y. y ∷ first.1) same in
    let found = it.4 x first.1 queue in
    let slots : mid.slots ≡ slice_set (rank_of w r).slots into (slot_of_body x.body) = ap (λ (z : Course). z.slots) d.3 ∙ ap (λ z. slice_set z into (slot_of_body x.body)) (sym at.slots) in
    let refusals : mid.refusals ≡ (rank_of w r).refusals = ap (λ (z : Course). z.refusals) d.3 ∙ sym at.refusals in
    record {
      after = with_rank w r (onward (rank_of w r) mid.slots mid.refusals) (boxes_after w.boxes from r);
      courses = with_course c r mid;
      did = (
        x,
        rw queue refl,
        (found.0.sender, found.0.addressee, found.1, found.2),
        rank_by w r (boxes_after w.boxes from r) mid.slots (slice_set (rank_of w r).slots into (slot_of_body x.body)) mid.refusals (rank_of w r).refusals slots refusals,
      );
      stands = stand_on s ranks w r h c last mid sound taken stands l next goes (boxes_after w.boxes from r) (lanes_taken s ranks w r h c last mid sound taken stands l next goes from x first.1 it.0 it.1 queue posts takes);
    }
next_stands s ranks w r (half_is.End from) c last mid sound taken stands l next goes can d =
    let h : Half = half_is.End from in
    let i = inside s ranks w r h c last mid sound taken stands l next goes in
    let it = finds_half s w r h sound i next in
    let at = stands.each r l in
    let first = some_letter (lane_between w from r).queue can in
    let x : Letter Sparse = d.0 in
    let posts : (k : ℕ) → mid.posted k ≡ (c r).posted k = λ k. ap (λ (z : Course). z.posted k) d.3 in
    let takes : (k : ℕ) → mid.taken k ≡ with_letter (c r).taken from x k = λ k. ap (λ (z : Course). z.taken k) d.3 in
    let same : first.0 ≡ x = same_oldest s ranks w r h c last mid sound taken stands l next goes from x first.0 first.1 it.0 it.1 first.2 (takes from ∙ with_letter_same (c r).taken from x) in
    let queue : (lane_between w from r).queue ≡ x ∷ first.1 = first.2 ∙ ap (λ y. y ∷ first.1) same in
    let slots : mid.slots ≡ (rank_of w r).slots = ap (λ (z : Course). z.slots) d.3 ∙ sym at.slots in
    let refusals : mid.refusals ≡ (rank_of w r).refusals = ap (λ (z : Course). z.refusals) d.3 ∙ sym at.refusals in
    record {
      after = with_rank w r (onward (rank_of w r) mid.slots mid.refusals) (boxes_after w.boxes from r);
      courses = with_course c r mid;
      did = (
        x,
        rw queue refl,
        d.1,
        rank_by w r (boxes_after w.boxes from r) mid.slots (rank_of w r).slots mid.refusals (rank_of w r).refusals slots refusals,
      );
      stands = stand_on s ranks w r h c last mid sound taken stands l next goes (boxes_after w.boxes from r) (lanes_taken s ranks w r h c last mid sound taken stands l next goes from x first.1 it.0 it.1 queue posts takes);
    }
