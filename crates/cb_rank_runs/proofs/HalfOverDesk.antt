-- A rank and its desk after each half of the rank's program.
use Rattle.std.proofs.Common.{◌≡◌, ◌≢◌, ℕ, zero, suc, ◌+◌, ◌-◌, ◌<◌, true, false, List, [], ◌∷◌, ◌++◌, length, refl, sym, ◌∙◌, ap, subst, arith, length-append, inl, inr}
use Rattle.std.specs.Prelude.{Option, Some, ◌==◌, ◌⊎◌, nat_le, slice_set, slice_index_or}
use Rattle.std.proofs.lemmas.Bool.Decides.{nat_tests}
use Rattle.std.proofs.lemmas.List.{length-map}
use Rattle.std.proofs.lemmas.Option.{slice_get_within}
use Rattle.std.proofs.Math.Seq.{get_or-append_seam}
use Rattle.cb_semirings.specs.Arithmetic.{Arithmetic}
use Rattle.cb_matrix.specs.Sparse.{Sparse}
use Rattle.cb_letters.specs.declared.Body.{Body}
use Rattle.cb_letters.specs.declared.Body.TheVariants as body_is
use Rattle.cb_letters.specs.declared.Letter.{Letter}
use Rattle.cb_letters.specs.declared.Tag.{Tag}
use Rattle.cb_letters.specs.declared.Taken.TheVariants as taken_is
use Rattle.cb_letters.specs.Letters.{is_close, mark_tag}
use Rattle.cb_letters.specs.Posted.{ends_closed}
use Rattle.cb_letters.specs.Standing.{next_letter}
use Rattle.cb_letters.proofs.Marks.{ends_closed-append}
use Rattle.cb_lanes.specs.declared.desk.Desk.{Desk}
use Rattle.cb_lanes.specs.Desks.{identity, capacity_to, posted_to, taken_from, is_stranger, standing, Posts, Takes}
use Rattle.cb_rings.specs.Ends.{outgoing_ring}
use Rattle.cb_rings.specs.Numbers.{AreNumbered}
use Rattle.cb_plan.specs.declared.acts.Half.{Half}
use Rattle.cb_plan.specs.declared.acts.Half.TheVariants as half_is
use Rattle.cb_plan.specs.declared.acts.Op.{Op}
use Rattle.cb_plan.specs.declared.stores.Slot.{Slot}
use Rattle.cb_plan.specs.Meaning.{target_of}
use Rattle.cb_rank.specs.declared.wants.Arrival.TheVariants as arrival_is
use Rattle.cb_rank.specs.Halves.{with_letter, slot_of_body}
use Rattle.cb_rank.specs.declared.wants.Want.TheVariants as want_is
use Rattle.cb_rank.specs.Ranks.{RankView, IsRank, next_half, want_of, onward, IsTakeOrEnd, IsAwaited, slots_with}
use Rattle.cb_rank.specs.Steps.{HandsOut, Works, WorksTimes}
use Rattle.cb_plan.proofs.Effects.{split}
use Rattle.cb_rank.proofs.WantedHalf.{wants_take, wants_end}
use Rattle.cb_rank_runs.specs.Runs.{course_of}
use Rattle.cb_rank_runs.specs.UnderWay.{IsUnderWay, DoesNext}
use Rattle.cb_rank_runs.proofs.Courses.{same_course}
use Rattle.cb_rank_runs.proofs.ShutLanes.{lanes_to, lanes_then, lanes_post, lanes_work, lanes_shut, lanes_take, lanes_end}

-- a desk keeps its rank
pub same_me : (d e : Desk Sparse) → identity e ≡ identity d → e.me ≡ d.me
same_me d e same = ap (λ i. i.me) same

-- a desk keeps its number of ranks
pub same_ranks : (d e : Desk Sparse) → identity e ≡ identity d → length e.outgoing.items ≡ length d.outgoing.items
same_ranks d e same = sym (length-map e.outgoing.items outgoing_ring) ∙ ap (λ i. length i.outgoing) same ∙ length-map d.outgoing.items outgoing_ring

-- lists of letters of which one grew
pub with_one : (old new : ℕ → List (Letter Sparse)) (to : ℕ) (x : Letter Sparse) → new to ≡ old to ++ x ∷ [] → ((k : ℕ) → k ≢ to → new k ≡ old k) → (k : ℕ) → new k ≡ with_letter old to x k
with_one old new to x grown same k =
    split (to == k)
    (λ t. let at : k ≡ to = grind (arith, nat_tests) in rw t (subst (λ n. new n ≡ old n ++ x ∷ []) (sym at) grown))
    (λ f. let ne : k ≢ to = grind (arith, nat_tests) in rw f (same k ne))

-- the lanes of a desk that posted to a rank hold as many letters as before
holds_as_much : (d e : Desk Sparse) (to : ℕ) → capacity_to e to ≡ capacity_to d to → ((k : ℕ) → k ≢ to → capacity_to e k ≡ capacity_to d k) → (k : ℕ) → capacity_to e k ≡ capacity_to d k
holds_as_much d e to there elsewhere k =
    split (to == k)
    (λ t. let at : to ≡ k = grind (arith, nat_tests) in subst (λ n. capacity_to e n ≡ capacity_to d n) at there)
    (λ f. let ne : k ≢ to = grind (arith, nat_tests) in elsewhere k ne)

-- a desk on which nothing was taken stays under way
pub still_under_way : (x y : RankView) (d e : Desk Sparse) (slots : List (Slot Sparse)) (refusals : ℕ) → IsUnderWay x d → y ≡ onward x slots refusals → identity e ≡ identity d → ((k : ℕ) → taken_from e k ≡ taken_from d k) → ((k : ℕ) → lanes_then x k ≡ lanes_to x k) → IsUnderWay y e
still_under_way x y d e slots refusals was onto same kept lanes = rw onto (record {
  me = same_me d e same ∙ was.me;
  ranks = same_ranks d e same ∙ was.ranks;
  numbered = λ k. rw (kept k) (was.numbered k);
  ends = λ k. ap ends_closed (kept k) ∙ was.ends k ∙ sym (lanes k);
})

onward_of : (x y : RankView) (slots : List (Slot Sparse)) (refusals : ℕ) → y ≡ onward x slots refusals → y ≡ onward x y.slots y.refusals
onward_of x y slots refusals e = e ∙ sym (rw e refl)

-- a rank after a Post
pub does_post : (s : Arithmetic) (x y : RankView) (d e : Desk Sparse) (to : ℕ) (tag : Tag) (slot : ℕ) (t : Tag) (body : Body Sparse) → IsRank x → IsUnderWay x d → next_half x ≡ Some (half_is.Post to tag slot)
    → HandsOut x (next_half x) t body y → Posts d to (next_letter (standing d to) to t body) e → DoesNext s x d y e
does_post s x y d e to tag slot t body is was next hands posts =
    let h = rw next at hands in
    let letter : Letter Sparse = record { from = x.me; to = to; number = length (posted_to d to); tag = tag; body = body } in
    let same : next_letter (standing d to) to t body ≡ letter = rw (was.me, h.0) refl in
    let slots : y.slots ≡ x.slots = ap (λ (z : RankView). z.slots) h.2 in
    record {
      half = half_is.Post to tag slot;
      next = next;
      does = (
        body,
        h.1,
        same_course (course_of y e) (record { slots = x.slots; refusals = y.refusals; posted = with_letter (posted_to d) to letter; taken = taken_from d }) slots refl
            (with_one (posted_to d) (posted_to e) to letter (posts.1.0 ∙ ap (λ z. posted_to d to ++ z ∷ []) same) (λ k ne. (posts.1.2 k ne).0)) posts.2,
      );
      one_more = onward_of x y x.slots y.refusals h.2;
      rings = posts.0;
      capacities = holds_as_much d e to posts.1.1 (λ k ne. (posts.1.2 k ne).2);
      under_way = still_under_way x y d e x.slots y.refusals was h.2 posts.0 posts.2 (lanes_post x to tag slot is next);
    }

-- a rank after a Shut
pub does_shut : (s : Arithmetic) (x y : RankView) (d e : Desk Sparse) (to : ℕ) → IsRank x → IsUnderWay x d → next_half x ≡ Some (half_is.Shut to)
    → y ≡ onward x x.slots x.refusals → Posts d to (next_letter (standing d to) to mark_tag body_is.Close) e → DoesNext s x d y e
does_shut s x y d e to is was next onto posts =
    let letter : Letter Sparse = record { from = x.me; to = to; number = length (posted_to d to); tag = mark_tag; body = body_is.Close } in
    let same : next_letter (standing d to) to mark_tag body_is.Close ≡ letter = rw was.me refl in
    record {
      half = half_is.Shut to;
      next = next;
      does = same_course (course_of y e) (record { slots = x.slots; refusals = x.refusals; posted = with_letter (posted_to d) to letter; taken = taken_from d }) (ap (λ (z : RankView). z.slots) onto) (ap (λ (z : RankView). z.refusals) onto)
          (with_one (posted_to d) (posted_to e) to letter (posts.1.0 ∙ ap (λ z. posted_to d to ++ z ∷ []) same) (λ k ne. (posts.1.2 k ne).0)) posts.2;
      one_more = onward_of x y x.slots x.refusals onto;
      rings = posts.0;
      capacities = holds_as_much d e to posts.1.1 (λ k ne. (posts.1.2 k ne).2);
      under_way = still_under_way x y d e x.slots x.refusals was onto posts.0 posts.2 (lanes_shut x to is next);
    }

-- a rank after a Work
pub does_work : (s : Arithmetic) (x y : RankView) (d : Desk Sparse) (op : _) → IsRank x → IsUnderWay x d → next_half x ≡ Some (half_is.Work op) → Works s x (next_half x) y → DoesNext s x d y d
does_work s x y d op is was next works =
    let w = rw next at works in
    let set : List (Slot Sparse) = slice_set x.slots (target_of op) w.0 in
    record {
      half = half_is.Work op;
      next = next;
      does = (w.0, w.1, same_course (course_of y d) (record { slots = set; refusals = y.refusals; posted = posted_to d; taken = taken_from d }) (ap (λ (z : RankView). z.slots) w.2) refl (λ k. refl) (λ k. refl));
      one_more = onward_of x y set y.refusals w.2;
      rings = refl;
      capacities = λ k. refl;
      under_way = still_under_way x y d d set y.refusals was w.2 refl (λ k. refl) (lanes_work x op is next);
    }

-- a rank that does an operation has it as its next half
pub works_next : (s : Arithmetic) (x : RankView) (h : Option Half) (y : RankView) → Works s x h y → (op : Op) × (h ≡ Some (half_is.Work op))
works_next s x (Some (half_is.Work op)) y works = (op, refl)
works_next s x _ y works = absurd works

-- a rank that does this many operations has done as many halves more of its program
pub works_further : (s : Arithmetic) (n : ℕ) (x y : RankView) → WorksTimes s n x y → (y.done ≡ x.done + n) × (y.program ≡ x.program)
works_further s zero x y same = (ap (λ (z : RankView). z.done) same ∙ (let e : x.done ≡ x.done + 0 = omega arith in e), ap (λ (z : RankView). z.program) same)
works_further s (suc n) x y times =
    let op = works_next s x (next_half x) times.0 times.2 in
    let w = rw op.1 at times.2 in
    let rest = works_further s n times.0 y times.3 in
    let one : times.0.done ≡ x.done + 1 = ap (λ (z : RankView). z.done) w.2 in
    let more : y.done ≡ times.0.done + n = rest.0 in
    ((let e : y.done ≡ x.done + suc n = omega arith in e), rest.1 ∙ ap (λ (z : RankView). z.program) w.2)

-- so fewer halves are left, if it does any
pub fewer_left : (s : Arithmetic) (n : ℕ) (x y : RankView) → 0 < n → WorksTimes s n x y → length y.program - y.done < length x.program - x.done
fewer_left s zero x y some times = absurd (omega arith)
fewer_left s (suc n) x y some times =
    let op = works_next s x (next_half x) times.0 times.2 in
    let inside = slice_get_within x.program x.done (half_is.Work op.0) op.1 in
    let further = works_further s (suc n) x y times in
    let done = further.0 in
    let size = ap length further.1 in
    omega arith

-- what was taken on each lane is numbered, if it is on the one that grew
numbered_then : (d e : Desk Sparse) (from : ℕ) → ((k : ℕ) → AreNumbered (taken_from d k)) → AreNumbered (taken_from e from) → ((k : ℕ) → k ≢ from → taken_from e k ≡ taken_from d k) → (k : ℕ) → AreNumbered (taken_from e k)
numbered_then d e from was now same k =
    split (from == k)
    (λ t. let at : from ≡ k = grind (arith, nat_tests) in subst (λ n. AreNumbered (taken_from e n)) at now)
    (λ f. let ne : k ≢ from = grind (arith, nat_tests) in rw (same k ne) (was k))

-- a rank after a Take, whose lane hasn't ended
pub does_take : (s : Arithmetic) (x y : RankView) (d e : Desk Sparse) (from : ℕ) (tag : Tag) (into : ℕ) (shape : _) (letter : Letter Sparse) → IsRank x → IsUnderWay x d → next_half x ≡ Some (half_is.Take from tag into shape)
    → IsAwaited (next_half x) x.me (arrival_is.Letter letter) → y ≡ onward x (slots_with (next_half x) (arrival_is.Letter letter) x.slots) x.refusals → Takes d from (taken_is.Letter letter) e → DoesNext s x d y e
does_take s x y d e from tag into shape letter is was next waits onto takes =
    let w = rw next at waits in
    let set : List (Slot Sparse) = slice_set x.slots into (slot_of_body letter.body) in
    let onto_set : y ≡ onward x set x.refusals = onto ∙ rw next refl in
    let lane = lanes_take x from tag into shape is next in
    let grown : taken_from e from ≡ taken_from d from ++ letter ∷ [] = takes.2.0.0 in
    record {
      half = half_is.Take from tag into shape;
      next = next;
      does = (
        letter,
        w.2,
        w.3,
        same_course (course_of y e) (record { slots = set; refusals = x.refusals; posted = posted_to d; taken = with_letter (taken_from d) from letter }) (ap (λ (z : RankView). z.slots) onto_set) (ap (λ (z : RankView). z.refusals) onto_set)
            (λ k. (takes.1 k).0) (with_one (taken_from d) (taken_from e) from letter grown takes.2.1),
      );
      one_more = onward_of x y set x.refusals onto_set;
      rings = takes.0;
      capacities = λ k. (takes.1 k).2;
      under_way = rw onto_set (record {
        me = same_me d e takes.0 ∙ was.me;
        ranks = same_ranks d e takes.0 ∙ was.ranks;
        numbered = numbered_then d e from was.numbered takes.5 takes.2.1;
        ends = λ k. split (from == k)
            (λ t. let at : from ≡ k = grind (arith, nat_tests) in subst (λ n. ends_closed (taken_from e n) ≡ lanes_then x n) at (sym takes.3 ∙ sym lane.1 ∙ sym (lane.0 from)))
            (λ f. let ne : k ≢ from = grind (arith, nat_tests) in ap ends_closed (takes.2.1 k ne) ∙ was.ends k ∙ sym (lane.0 k));
      });
    }

is_mark : (b : Body Sparse) → is_close b ≡ true → b ≡ body_is.Close
is_mark (body_is.Sheet m) e = cc
is_mark (body_is.Lost o) e = cc
is_mark body_is.Close e = refl

-- a close mark that was taken has tag 0
mark_tagged : (xs : List (Letter Sparse)) (x : Letter Sparse) → AreNumbered (xs ++ x ∷ []) → is_close x.body ≡ true → x.tag ≡ mark_tag
mark_tagged xs x h e =
    let size = length-append xs (x ∷ []) in
    let own : slice_index_or (xs ++ x ∷ []) (length xs) x ≡ x = get_or-append_seam xs x [] x in
    let it = (h (length xs) x (omega arith)).1 in
    let at : x.tag.0 ≡ 0 = subst (λ z. is_close z.body ≡ true → z.tag.0 ≡ 0) own it e in
    ap (λ n. record { 0 = n }) at

-- a take that returns `End` from a lane that hadn't ended took its close mark
took_mark : (old new : List (Letter Sparse)) → (new ≡ old) ⊎ ((x : Letter Sparse) × (new ≡ old ++ x ∷ [])) → ends_closed old ≡ false → ends_closed new ≡ true → AreNumbered new
    → (x : Letter Sparse) × (new ≡ old ++ x ∷ []) × (x.body ≡ body_is.Close) × (x.tag ≡ mark_tag)
took_mark old new (inl same) was now numbered = let both : ends_closed new ≡ ends_closed old = ap ends_closed same in cc
took_mark old new (inr grown) was now numbered =
    let closes : is_close grown.0.body ≡ true = sym (ends_closed-append old grown.0) ∙ sym (ap ends_closed grown.1) ∙ now in
    (grown.0, grown.1, is_mark grown.0.body closes, mark_tagged old grown.0 (subst AreNumbered grown.1 numbered) closes)

-- a rank after an End
pub does_end : (s : Arithmetic) (x y : RankView) (d e : Desk Sparse) (from : ℕ) → IsRank x → IsUnderWay x d → next_half x ≡ Some (half_is.End from)
    → y ≡ onward x (slots_with (next_half x) (arrival_is.End from) x.slots) x.refusals → Takes d from taken_is.End e → DoesNext s x d y e
does_end s x y d e from is was next onto takes =
    let onto_same : y ≡ onward x x.slots x.refusals = onto ∙ rw next refl in
    let lane = lanes_end x from is next in
    let mark = took_mark (taken_from d from) (taken_from e from) takes.2.0 (was.ends from ∙ lane.1) (sym takes.3) takes.5 in
    let here : (from == from) ≡ true = grind (arith, nat_tests) in
    record {
      half = half_is.End from;
      next = next;
      does = (
        mark.0,
        mark.2,
        mark.3,
        same_course (course_of y e) (record { slots = x.slots; refusals = x.refusals; posted = posted_to d; taken = with_letter (taken_from d) from mark.0 }) (ap (λ (z : RankView). z.slots) onto_same) (ap (λ (z : RankView). z.refusals) onto_same)
            (λ k. (takes.1 k).0) (with_one (taken_from d) (taken_from e) from mark.0 mark.1 takes.2.1),
      );
      one_more = onward_of x y x.slots x.refusals onto_same;
      rings = takes.0;
      capacities = λ k. (takes.1 k).2;
      under_way = rw onto_same (record {
        me = same_me d e takes.0 ∙ was.me;
        ranks = same_ranks d e takes.0 ∙ was.ranks;
        numbered = numbered_then d e from was.numbered takes.5 takes.2.1;
        ends = λ k. split (from == k)
            (λ t. let at : from ≡ k = grind (arith, nat_tests) in subst (λ n. ends_closed (taken_from e n) ≡ lanes_then x n) at (sym takes.3 ∙ sym (lane.0 from ∙ rw here refl)))
            (λ f. let ne : k ≢ from = grind (arith, nat_tests) in ap ends_closed (takes.2.1 k ne) ∙ was.ends k ∙ sym (lane.0 k ∙ rw f refl));
      });
    }

-- the next half waits for a letter from this rank, or for the end of the lane from it
abbrev pub WaitsOn : RankView → ℕ → Type 0
WaitsOn x from = (want_of (next_half x) ≡ want_is.Take from) ⊎ (want_of (next_half x) ≡ want_is.End from)

-- so it wants a letter or the end of a lane
pub is_waiting : (x : RankView) (from : ℕ) → WaitsOn x from → IsTakeOrEnd (want_of (next_half x))
is_waiting x from (inl w) = rw w tt
is_waiting x from (inr w) = rw w tt

-- a rank that has accepted a letter
pub does_letter : (s : Arithmetic) (x y : RankView) (d e : Desk Sparse) (from : ℕ) (letter : Letter Sparse) → IsRank x → IsUnderWay x d → WaitsOn x from → IsAwaited (next_half x) x.me (arrival_is.Letter letter)
    → y ≡ onward x (slots_with (next_half x) (arrival_is.Letter letter) x.slots) x.refusals → Takes d from (taken_is.Letter letter) e → DoesNext s x d y e
does_letter s x y d e from letter is was (inl w) waits onto takes =
    let it = wants_take (next_half x) from w in
    does_take s x y d e from it.0 it.1 it.2 letter is was it.3 waits onto takes
does_letter s x y d e from letter is was (inr w) waits onto takes = absurd (rw (wants_end (next_half x) from w) at waits)

-- a rank that has accepted the end of a lane
pub does_mark : (s : Arithmetic) (x y : RankView) (d e : Desk Sparse) (from : ℕ) → IsRank x → IsUnderWay x d → WaitsOn x from → IsAwaited (next_half x) x.me (arrival_is.End from)
    → y ≡ onward x (slots_with (next_half x) (arrival_is.End from) x.slots) x.refusals → Takes d from taken_is.End e → DoesNext s x d y e
does_mark s x y d e from is was (inl w) waits onto takes = absurd (rw (wants_take (next_half x) from w).3 at waits)
does_mark s x y d e from is was (inr w) waits onto takes = does_end s x y d e from is was (wants_end (next_half x) from w) onto takes

-- there is a lane from the rank that it waits for
pub is_lane : (x : RankView) (d : Desk Sparse) (from : ℕ) → IsUnderWay x d → from < x.plan.ranks → from ≢ x.me → is_stranger d from ≡ false
is_lane x d from was low ne =
    let me = was.me in
    let ranks = was.ranks in
    let other : (from == d.me) ≡ false = grind (arith, nat_tests) in
    let below : nat_le (length d.outgoing.items) from ≡ false = grind (arith, nat_tests) in
    rw (other, below) refl
