-- A rank after each half of its program.
use Rattle.std.proofs.Common.{◌≡◌, ◌≢◌, ℕ, ◌+◌, ◌<◌, ◌≤◌, List, [], ◌∷◌, ◌++◌, length, take, get_or, replicate, refl, sym, ap, subst, ◌∙◌, ⊎_elim, inl, inr, arith}
use Rattle.std.specs.Prelude.{Option, Some, None, slice_set}
use Rattle.std.proofs.lemmas.Bool.{cases_lt}
use Rattle.std.proofs.lemmas.List.{get_or-set_same, get_or-set_other, get_or-replicate, get_or_past, length-replicate, length-set}
use Rattle.cb_semirings.specs.Arithmetic.{Arithmetic}
use Rattle.cb_matrix.specs.Sparse.{Sparse, Extent}
use Rattle.cb_letters.specs.declared.Body.{Body}
use Rattle.cb_letters.specs.declared.Body.TheVariants as body_is
use Rattle.cb_letters.specs.declared.Letter.{Letter}
use Rattle.cb_letters.specs.declared.Tag.{Tag}
use Rattle.cb_letters.specs.Letters.{mark_tag}
use Rattle.cb_plan.specs.declared.acts.Half.{Half}
use Rattle.cb_plan.specs.declared.acts.Half.TheVariants as half_is
use Rattle.cb_plan.specs.declared.acts.Op.{Op}
use Rattle.cb_plan.specs.declared.stores.Slot.{Slot}
use Rattle.cb_plan.specs.Meaning.{target_of}
use Rattle.cb_plan.specs.Plans.{CheckedView}
use Rattle.cb_rank.specs.declared.wants.Arrival.TheVariants as arrival_is
use Rattle.cb_rank.specs.declared.wants.Want.TheVariants as want_is
use Rattle.cb_rank.specs.Halves.{RunsTo, with_letter, slot_of_body}
use Rattle.cb_rank.specs.Ranks.{RankView, IsRank, next_half, want_of, onward, new_rank, IsAwaited, slots_with}
use Rattle.cb_rank.specs.Steps.{HandsOut, Works}
use Rattle.cb_rank.proofs.WantedHalf.{wants_post_to, wants_shut_to, wants_take, wants_end, wants_work}
use Rattle.cb_rank.proofs.Ports.{waits_for}
use Rattle.cb_rank_runs.proofs.Courses.{same_course}
use Rattle.cb_rank_runs.proofs.OtherRanks.{posts_to_other, shuts_to_other}
use Rattle.cb_rank_runs.proofs.HalfOverDesk.{with_one}
use Rattle.cb_rank.proofs.LanesByHalves.{take-next}
use Rattle.cb_rank_runs.specs.Runs.{fresh}
use Rattle.cb_rank_runs.proofs.RunSoFar.{runs_to-append}
use Rattle.cb_rank_driven.specs.DrivenRanks.{DrivenView, IsDriven, HasDoneNothing, DoesNext, Posts, Takes, IsMark, WaitsFor, course_in}

-- a rank that has done its next half is one
pub does_next : (s : Arithmetic) (x y : DrivenView) → IsDriven s x → DoesNext s x y → IsRank y.rank → length y.posted ≡ length x.posted → length y.taken ≡ length x.taken → IsDriven s y
does_next s x y is does rank posts takes =
    let done : y.rank.done ≡ x.rank.done + 1 = ap (λ (v : RankView). v.done) does.one_more in
    let me : y.rank.me ≡ x.rank.me = ap (λ (v : RankView). v.me) does.one_more in
    let program : y.rank.program ≡ x.rank.program = ap (λ (v : RankView). v.program) does.one_more in
    let plan : y.rank.plan ≡ x.rank.plan = ap (λ (v : RankView). v.plan) does.one_more in
    let more : take y.rank.done y.rank.program ≡ take x.rank.done x.rank.program ++ does.half ∷ [] =
    ap (λ hs. take y.rank.done hs) program ∙ ap (λ n. take n x.rank.program) done ∙ take-next x.rank.program x.rank.done does.half does.next in
    let runs : RunsTo s x.rank.me (take x.rank.done x.rank.program ++ does.half ∷ []) (fresh x.first) (course_in y) =
    runs_to-append s x.rank.me (take x.rank.done x.rank.program) does.half (fresh x.first) (course_in x) (course_in y) is.ran does.does in
    let here : RunsTo s x.rank.me (take y.rank.done y.rank.program) (fresh x.first) (course_in y) = subst (λ hs. RunsTo s x.rank.me hs (fresh x.first) (course_in y)) (sym more) runs in
    let mine : RunsTo s y.rank.me (take y.rank.done y.rank.program) (fresh x.first) (course_in y) = subst (λ n. RunsTo s n (take y.rank.done y.rank.program) (fresh x.first) (course_in y)) (sym me) here in
    record {
      rank = rank;
      ran = subst (λ f. RunsTo s y.rank.me (take y.rank.done y.rank.program) (fresh f) (course_in y)) (sym does.first) mine;
      posts = posts ∙ is.posts ∙ sym (ap (λ v. v.ranks) plan);
      takes = takes ∙ is.takes ∙ sym (ap (λ v. v.ranks) plan);
    }

-- lists that are all empty
none_there : (lists : List (List (Letter Sparse))) (n k : ℕ) → lists ≡ replicate n [] → get_or lists k [] ≡ []
none_there lists n k e =
    ⊎_elim
    (λ (l : k < n). ap (λ ls. get_or ls k []) e ∙ get_or-replicate n k [] [] l)
    (λ (l : n ≤ k). ap (λ ls. get_or ls k []) e ∙ get_or_past (replicate n []) k [] (let size = length-replicate {A = List (Letter Sparse)} n [] in omega arith))
    (cases_lt k n)

-- a rank that has done nothing
pub begins : (p : CheckedView) (me : ℕ) (x : DrivenView) → x.rank ≡ new_rank p me x.first → x.posted ≡ replicate p.ranks [] → x.taken ≡ replicate p.ranks [] → HasDoneNothing p me x
begins p me x rank posted taken = record {
  rank = rank;
  posted = λ k. none_there x.posted p.ranks k posted;
  taken = λ k. none_there x.taken p.ranks k taken;
}

-- is one
pub is_new : (s : Arithmetic) (p : CheckedView) (me : ℕ) (x : DrivenView) → IsRank x.rank → x.rank ≡ new_rank p me x.first → x.posted ≡ replicate p.ranks [] → x.taken ≡ replicate p.ranks [] → IsDriven s x
is_new s p me x is rank posted taken =
    let new = begins p me x rank posted taken in
    let none : x.rank.done ≡ 0 = ap (λ (v : RankView). v.done) rank in
    let plan : x.rank.plan ≡ p = ap (λ (v : RankView). v.plan) rank in
    let course : course_in x ≡ fresh x.first = same_course (course_in x) (fresh x.first) (ap (λ (v : RankView). v.slots) rank) (ap (λ (v : RankView). v.refusals) rank) new.posted new.taken in
    record {
      rank = is;
      ran = rw none course;
      posts = ap length posted ∙ length-replicate p.ranks [] ∙ sym (ap (λ v. v.ranks) plan);
      takes = ap length taken ∙ length-replicate p.ranks [] ∙ sym (ap (λ v. v.ranks) plan);
    }

-- one list of several grew by a letter
pub one_grew : (old new : List (List (Letter Sparse))) (to : ℕ) (letter : Letter Sparse) → to < length old → new ≡ slice_set old to (get_or old to [] ++ letter ∷ [])
    → ((k : ℕ) → get_or new k [] ≡ with_letter (λ j. get_or old j []) to letter k) × (get_or new to [] ≡ get_or old to [] ++ letter ∷ []) × (length new ≡ length old)
one_grew old new to letter l e =
    let grown : get_or new to [] ≡ get_or old to [] ++ letter ∷ [] = ap (λ ls. get_or ls to []) e ∙ get_or-set_same old to (get_or old to [] ++ letter ∷ []) [] l in
    let same : (k : ℕ) → k ≢ to → get_or new k [] ≡ get_or old k [] = λ k ne. ap (λ ls. get_or ls k []) e ∙ get_or-set_other old to k (get_or old to [] ++ letter ∷ []) [] ne in
    (with_one (λ j. get_or old j []) (λ j. get_or new j []) to letter grown same, grown, ap length e ∙ length-set old to (get_or old to [] ++ letter ∷ []))

-- a rank that has done one half more
onward_of : (x y : RankView) (slots : List (Slot Sparse)) (refusals : ℕ) → y ≡ onward x slots refusals → y ≡ onward x y.slots y.refusals
onward_of x y slots refusals e = e ∙ sym (rw e refl)

-- a letter that a Take accepts is one for which it waits
awaited_waits : (h : Option Half) (me : ℕ) (letter : Letter Sparse) → IsAwaited h me (arrival_is.Letter letter) → WaitsFor h me letter
awaited_waits (Some (half_is.Take from tag into shape)) me letter is = is
awaited_waits (Some (half_is.Post to tag slot)) me letter is = absurd is
awaited_waits (Some (half_is.Work op)) me letter is = absurd is
awaited_waits (Some (half_is.Shut to)) me letter is = absurd is
awaited_waits (Some (half_is.End from)) me letter is = absurd is
awaited_waits None me letter is = absurd is

-- the number of a letter from this rank
number_of : (x : DrivenView) (from : ℕ) (letter : Letter Sparse) → letter.from ≡ from → letter.number ≡ length (get_or x.taken from []) → letter.number ≡ length (get_or x.taken letter.from [])
number_of x from letter sender number = subst (λ n. letter.number ≡ length (get_or x.taken n [])) (sym sender) number

module _ (s : Arithmetic) (x y : DrivenView) (first : y.first ≡ x.first) where
  -- a rank that posted a sheet
  post_done : (to : ℕ) (tag : Tag) (slot : ℕ) (t : Tag) (body : Body Sparse) (letter : Letter Sparse) → next_half x.rank ≡ Some (half_is.Post to tag slot) → HandsOut x.rank (next_half x.rank) t body y.rank
      → letter ≡ record { from = x.rank.me; to = to; number = length (get_or x.posted to []); tag = t; body = body } → to < length x.posted
      → y.posted ≡ slice_set x.posted to (get_or x.posted to [] ++ letter ∷ []) → y.taken ≡ x.taken → Posts s x letter y
  post_done to tag slot t body letter next_is hands is inside posted taken =
      let h = rw next_is at hands in
      let grew = one_grew x.posted y.posted to letter inside posted in
      let next : Letter Sparse = record { from = x.rank.me; to = to; number = length (get_or x.posted to []); tag = tag; body = body } in
      let same : letter ≡ next = is ∙ ap (λ (g : Tag). record { from = x.rank.me; to = to; number = length (get_or x.posted to []); tag = g; body = body }) h.0 in
      record {
        does = record {
          half = half_is.Post to tag slot;
          next = next_is;
          does = (
            body,
            h.1,
            same_course (course_in y) (record { slots = x.rank.slots; refusals = y.rank.refusals; posted = with_letter (λ j. get_or x.posted j []) to next; taken = λ j. get_or x.taken j [] }) (ap (λ (z : RankView). z.slots) h.2) refl
                (λ k. grew.0 k ∙ ap (λ l. with_letter (λ j. get_or x.posted j []) to l k) same) (λ k. ap (λ ls. get_or ls k []) taken),
          );
          one_more = onward_of x.rank y.rank x.rank.slots y.rank.refusals h.2;
          first = first;
        };
        posted = subst (λ n. get_or y.posted n [] ≡ get_or x.posted n [] ++ letter ∷ []) (sym (ap (λ (l : Letter Sparse). l.to) is)) grew.1;
      }

  pub posts_sheet : (to : ℕ) (t : Tag) (body : Body Sparse) (letter : Letter Sparse) → want_of (next_half x.rank) ≡ want_is.Post to → HandsOut x.rank (next_half x.rank) t body y.rank
      → letter ≡ record { from = x.rank.me; to = to; number = length (get_or x.posted to []); tag = t; body = body } → to < length x.posted
      → y.posted ≡ slice_set x.posted to (get_or x.posted to [] ++ letter ∷ []) → y.taken ≡ x.taken → Posts s x letter y
  posts_sheet to t body letter wants = let it = wants_post_to (next_half x.rank) to wants in post_done to it.0 it.1 t body letter it.2

  -- a rank that posted a close mark
  pub posts_mark : (to : ℕ) (letter : Letter Sparse) → want_of (next_half x.rank) ≡ want_is.Shut to → y.rank ≡ onward x.rank x.rank.slots x.rank.refusals
      → letter ≡ record { from = x.rank.me; to = to; number = length (get_or x.posted to []); tag = mark_tag; body = body_is.Close } → to < length x.posted
      → y.posted ≡ slice_set x.posted to (get_or x.posted to [] ++ letter ∷ []) → y.taken ≡ x.taken → Posts s x letter y
  posts_mark to letter wants onto is inside posted taken =
      let next = wants_shut_to (next_half x.rank) to wants in
      let grew = one_grew x.posted y.posted to letter inside posted in
      let mark : Letter Sparse = record { from = x.rank.me; to = to; number = length (get_or x.posted to []); tag = mark_tag; body = body_is.Close } in
      record {
        does = record {
          half = half_is.Shut to;
          next = next;
          does = same_course (course_in y) (record { slots = x.rank.slots; refusals = x.rank.refusals; posted = with_letter (λ j. get_or x.posted j []) to mark; taken = λ j. get_or x.taken j [] }) (ap (λ (z : RankView). z.slots) onto) (ap (λ (z : RankView). z.refusals) onto)
              (λ k. grew.0 k ∙ ap (λ l. with_letter (λ j. get_or x.posted j []) to l k) is) (λ k. ap (λ ls. get_or ls k []) taken);
          one_more = onward_of x.rank y.rank x.rank.slots x.rank.refusals onto;
          first = first;
        };
        posted = subst (λ n. get_or y.posted n [] ≡ get_or x.posted n [] ++ letter ∷ []) (sym (ap (λ (l : Letter Sparse). l.to) is)) grew.1;
      }

  -- a rank that took a sheet
  take_done : (from : ℕ) (tag : Tag) (into : ℕ) (shape : Extent) (letter : Letter Sparse) → next_half x.rank ≡ Some (half_is.Take from tag into shape) → IsAwaited (next_half x.rank) x.rank.me (arrival_is.Letter letter)
      → letter.number ≡ length (get_or x.taken from [])
      → y.rank ≡ onward x.rank (slots_with (next_half x.rank) (arrival_is.Letter letter) x.rank.slots) x.rank.refusals → from < length x.taken
      → y.taken ≡ slice_set x.taken from (get_or x.taken from [] ++ letter ∷ []) → y.posted ≡ x.posted → Takes s x letter y
  take_done from tag into shape letter next_is waits number onto inside taken posted =
      let w = rw next_is at waits in
      let set : List (Slot Sparse) = slice_set x.rank.slots into (slot_of_body letter.body) in
      let onto_set : y.rank ≡ onward x.rank set x.rank.refusals = onto ∙ rw next_is refl in
      let grew = one_grew x.taken y.taken from letter inside taken in
      record {
        next = (awaited_waits (next_half x.rank) x.rank.me letter waits, number_of x from letter w.0 number);
        does = record {
          half = half_is.Take from tag into shape;
          next = next_is;
          does = (
            letter,
            w.2,
            w.3,
            same_course (course_in y) (record { slots = set; refusals = x.rank.refusals; posted = λ j. get_or x.posted j []; taken = with_letter (λ j. get_or x.taken j []) from letter }) (ap (λ (z : RankView). z.slots) onto_set) (ap (λ (z : RankView). z.refusals) onto_set)
                (λ k. ap (λ ls. get_or ls k []) posted) grew.0,
          );
          one_more = onward_of x.rank y.rank set x.rank.refusals onto_set;
          first = first;
        };
        taken = subst (λ n. get_or y.taken n [] ≡ get_or x.taken n [] ++ letter ∷ []) (sym w.0) grew.1;
      }

  pub takes_sheet : (from : ℕ) (letter : Letter Sparse) → want_of (next_half x.rank) ≡ want_is.Take from → IsAwaited (next_half x.rank) x.rank.me (arrival_is.Letter letter)
      → letter.number ≡ length (get_or x.taken from [])
      → y.rank ≡ onward x.rank (slots_with (next_half x.rank) (arrival_is.Letter letter) x.rank.slots) x.rank.refusals → from < length x.taken
      → y.taken ≡ slice_set x.taken from (get_or x.taken from [] ++ letter ∷ []) → y.posted ≡ x.posted → Takes s x letter y
  takes_sheet from letter wants = let it = wants_take (next_half x.rank) from wants in take_done from it.0 it.1 it.2 letter it.3

  -- a rank that took a close mark
  end_done : (from : ℕ) (letter : Letter Sparse) → next_half x.rank ≡ Some (half_is.End from) → IsMark from x.rank.me letter → letter.number ≡ length (get_or x.taken from [])
      → y.rank ≡ onward x.rank (slots_with (next_half x.rank) (arrival_is.End from) x.rank.slots) x.rank.refusals → from < length x.taken
      → y.taken ≡ slice_set x.taken from (get_or x.taken from [] ++ letter ∷ []) → y.posted ≡ x.posted → Takes s x letter y
  end_done from letter next mark number onto inside taken posted =
      let onto_same : y.rank ≡ onward x.rank x.rank.slots x.rank.refusals = onto ∙ rw next refl in
      let grew = one_grew x.taken y.taken from letter inside taken in
      record {
        next = (rw next mark, number_of x from letter mark.0 number);
        does = record {
          half = half_is.End from;
          next = next;
          does = (
            letter,
            mark.3,
            ap (λ n. record { 0 = n }) mark.2,
            same_course (course_in y) (record { slots = x.rank.slots; refusals = x.rank.refusals; posted = λ j. get_or x.posted j []; taken = with_letter (λ j. get_or x.taken j []) from letter }) (ap (λ (z : RankView). z.slots) onto_same) (ap (λ (z : RankView). z.refusals) onto_same)
                (λ k. ap (λ ls. get_or ls k []) posted) grew.0,
          );
          one_more = onward_of x.rank y.rank x.rank.slots x.rank.refusals onto_same;
          first = first;
        };
        taken = subst (λ n. get_or y.taken n [] ≡ get_or x.taken n [] ++ letter ∷ []) (sym mark.0) grew.1;
      }

  pub takes_mark : (from : ℕ) (letter : Letter Sparse) → want_of (next_half x.rank) ≡ want_is.End from → IsMark from x.rank.me letter → letter.number ≡ length (get_or x.taken from [])
      → y.rank ≡ onward x.rank (slots_with (next_half x.rank) (arrival_is.End from) x.rank.slots) x.rank.refusals → from < length x.taken
      → y.taken ≡ slice_set x.taken from (get_or x.taken from [] ++ letter ∷ []) → y.posted ≡ x.posted → Takes s x letter y
  takes_mark from letter wants = end_done from letter (wants_end (next_half x.rank) from wants)

  -- a rank that did an operation
  work_done : (op : Op) → next_half x.rank ≡ Some (half_is.Work op) → Works s x.rank (next_half x.rank) y.rank → y.posted ≡ x.posted → y.taken ≡ x.taken → DoesNext s x y
  work_done op next_is did posted taken =
      let w = rw next_is at did in
      let set : List (Slot Sparse) = slice_set x.rank.slots (target_of op) w.0 in
      record {
        half = half_is.Work op;
        next = next_is;
        does = (
          w.0,
          w.1,
          same_course (course_in y) (record { slots = set; refusals = y.rank.refusals; posted = λ j. get_or x.posted j []; taken = λ j. get_or x.taken j [] }) (ap (λ (z : RankView). z.slots) w.2) refl (λ k. ap (λ ls. get_or ls k []) posted) (λ k. ap (λ ls. get_or ls k []) taken),
        );
        one_more = onward_of x.rank y.rank set y.rank.refusals w.2;
        first = first;
      }

  pub works : want_of (next_half x.rank) ≡ want_is.Work → Works s x.rank (next_half x.rank) y.rank → y.posted ≡ x.posted → y.taken ≡ x.taken → DoesNext s x y
  works wants = let it = wants_work (next_half x.rank) wants in work_done it.0 it.1

-- a rank that posts to another or takes from it has lists for it
pub is_inside : (s : Arithmetic) (x : DrivenView) (k : ℕ) → IsDriven s x → k < x.rank.plan.ranks → (k < length x.posted) × (k < length x.taken)
is_inside s x k is l = (let e = is.posts in omega arith, let e = is.takes in omega arith)

-- lists that didn't change but for one more letter
noted : (old mid new : List (List (Letter Sparse))) (k : ℕ) (x letter : Letter Sparse) → mid ≡ old → new ≡ slice_set mid k (get_or mid k [] ++ x ∷ []) → x ≡ letter → new ≡ slice_set old k (get_or old k [] ++ letter ∷ [])
noted old mid new k x letter same grown is = grown ∙ (λ i. slice_set (same i) k (get_or (same i) k [] ++ is i ∷ []))

-- as many lists
as_many : (old new : List (List (Letter Sparse))) (k : ℕ) (x : List (Letter Sparse)) → new ≡ slice_set old k x → length new ≡ length old
as_many old new k x e = ap length e ∙ length-set old k x

-- A driven rank x, seen as v, whose list of letters for another rank is among these lists, which are its own.
module _ (s : Arithmetic) (x v : DrivenView) (view : x ≡ v) (is : IsDriven s x) where
  -- there is a list for the rank that it posts to
  pub posts_inside : (to : ℕ) (mid : List (List (Letter Sparse))) → mid ≡ x.posted → want_of (next_half v.rank) ≡ want_is.Post to → to < length mid
  posts_inside to mid same wants =
      let here = subst (λ (z : DrivenView). want_of (next_half z.rank) ≡ want_is.Post to) (sym view) wants in
      subst (λ ls. to < length ls) (sym same) (is_inside s x to is (posts_to_other x.rank to is.rank here).0).0

  pub shuts_inside : (to : ℕ) (mid : List (List (Letter Sparse))) → mid ≡ x.posted → want_of (next_half v.rank) ≡ want_is.Shut to → to < length mid
  shuts_inside to mid same wants =
      let here = subst (λ (z : DrivenView). want_of (next_half z.rank) ≡ want_is.Shut to) (sym view) wants in
      subst (λ ls. to < length ls) (sym same) (is_inside s x to is (shuts_to_other x.rank to is.rank here).0).0

  -- and for the rank that it takes from
  pub takes_inside : (from : ℕ) (mid : List (List (Letter Sparse))) → mid ≡ x.taken → want_of (next_half v.rank) ≡ want_is.Take from → from < length mid
  takes_inside from mid same wants =
      let here = subst (λ (z : DrivenView). want_of (next_half z.rank) ≡ want_is.Take from) (sym view) wants in
      subst (λ ls. from < length ls) (sym same) (is_inside s x from is (waits_for x.rank from is.rank (inl here)).other.0).1

  pub ends_inside : (from : ℕ) (mid : List (List (Letter Sparse))) → mid ≡ x.taken → want_of (next_half v.rank) ≡ want_is.End from → from < length mid
  ends_inside from mid same wants =
      let here = subst (λ (z : DrivenView). want_of (next_half z.rank) ≡ want_is.End from) (sym view) wants in
      subst (λ ls. from < length ls) (sym same) (is_inside s x from is (waits_for x.rank from is.rank (inr here)).other.0).1

  -- What is known of the rank y after a half, from v: the same number, a driven rank, and what the half did.
  module _ (y : DrivenView) (first : y.first ≡ x.first) (rank : IsRank y.rank) where
    goes_on : DoesNext s x y → length y.posted ≡ length x.posted → length y.taken ≡ length x.taken → (x.rank.me ≡ y.rank.me) × IsDriven s y
    goes_on did posts takes = (sym (ap (λ (z : RankView). z.me) did.one_more), does_next s x y is did rank posts takes)

    -- an operation
    pub worked : want_of (next_half x.rank) ≡ want_is.Work → Works s x.rank (next_half x.rank) y.rank → y.posted ≡ x.posted → y.taken ≡ x.taken → (x.rank.me ≡ y.rank.me) × IsDriven s y × DoesNext s v y
    worked wants does posted taken =
        let did = works s x y first wants does posted taken in
        let on = goes_on did (ap length posted) (ap length taken) in
        (on.0, on.1, subst (λ z. DoesNext s z y) view did)

    -- a letter that it posts, as rank m, with the number n
    module _ (to : ℕ) (mid : List (List (Letter Sparse))) (m n : ℕ) (note : Letter Sparse) (m_is : m ≡ x.rank.me) (n_is : n ≡ length (get_or mid to [])) (same : mid ≡ x.posted)
        (grown : y.posted ≡ slice_set mid to (get_or mid to [] ++ note ∷ [])) (taken : y.taken ≡ x.taken) where
      posted_on : (t : Tag) (body : Body Sparse) → note ≡ record { from = m; to = to; number = n; tag = t; body = body }
          → (letter : Letter Sparse) → letter ≡ record { from = m; to = to; number = n; tag = t; body = body } → y.posted ≡ slice_set x.posted to (get_or x.posted to [] ++ letter ∷ [])
      posted_on t body is_note letter is_letter = noted x.posted mid y.posted to note letter same grown (is_note ∙ sym is_letter)

      pub posted_sheet : (t : Tag) (body : Body Sparse) → note ≡ record { from = m; to = to; number = n; tag = t; body = body } → want_of (next_half v.rank) ≡ want_is.Post to → HandsOut x.rank (next_half x.rank) t body y.rank
          → (m ≡ y.rank.me) × IsDriven s y × Posts s v (record { from = m; to = to; number = n; tag = t; body = body }) y
      posted_sheet t body is_note wants hands =
          let letter : Letter Sparse = record { from = m; to = to; number = n; tag = t; body = body } in
          let here = subst (λ (z : DrivenView). want_of (next_half z.rank) ≡ want_is.Post to) (sym view) wants in
          let all = posted_on t body is_note letter refl in
          let number : n ≡ length (get_or x.posted to []) = n_is ∙ ap (λ ls. length (get_or ls to [])) same in
          let did = posts_sheet s x y first to t body letter here hands (λ i. record { from = m_is i; to = to; number = number i; tag = t; body = body }) (posts_inside to x.posted refl wants) all taken in
          let on = goes_on did.does (as_many x.posted y.posted to _ all) (ap length taken) in
          (m_is ∙ on.0, on.1, subst (λ z. Posts s z letter y) view did)

      pub posted_mark : note ≡ record { from = m; to = to; number = n; tag = mark_tag; body = body_is.Close } → want_of (next_half v.rank) ≡ want_is.Shut to → y.rank ≡ onward x.rank x.rank.slots x.rank.refusals
          → (m ≡ y.rank.me) × IsDriven s y × Posts s v (record { from = m; to = to; number = n; tag = mark_tag; body = body_is.Close }) y
      posted_mark is_note wants onto =
          let letter : Letter Sparse = record { from = m; to = to; number = n; tag = mark_tag; body = body_is.Close } in
          let here = subst (λ (z : DrivenView). want_of (next_half z.rank) ≡ want_is.Shut to) (sym view) wants in
          let all = posted_on mark_tag body_is.Close is_note letter refl in
          let number : n ≡ length (get_or x.posted to []) = n_is ∙ ap (λ ls. length (get_or ls to [])) same in
          let did = posts_mark s x y first to letter here onto (λ i. record { from = m_is i; to = to; number = number i; tag = mark_tag; body = body_is.Close }) (shuts_inside to x.posted refl wants) all taken in
          let on = goes_on did.does (as_many x.posted y.posted to _ all) (ap length taken) in
          (m_is ∙ on.0, on.1, subst (λ z. Posts s z letter y) view did)

    -- a letter that it takes
    module _ (from : ℕ) (mid : List (List (Letter Sparse))) (letter note : Letter Sparse) (is_note : note ≡ letter) (n_is : letter.number ≡ length (get_or x.taken from [])) (same : mid ≡ x.taken)
        (grown : y.taken ≡ slice_set mid from (get_or mid from [] ++ note ∷ [])) (posted : y.posted ≡ x.posted) where
      all_taken : y.taken ≡ slice_set x.taken from (get_or x.taken from [] ++ letter ∷ [])
      all_taken = noted x.taken mid y.taken from note letter same grown is_note

      pub took_sheet : want_of (next_half v.rank) ≡ want_is.Take from → IsAwaited (next_half x.rank) x.rank.me (arrival_is.Letter letter)
          → y.rank ≡ onward x.rank (slots_with (next_half x.rank) (arrival_is.Letter letter) x.rank.slots) x.rank.refusals → (x.rank.me ≡ y.rank.me) × IsDriven s y × Takes s v letter y
      took_sheet wants waits onto =
          let here = subst (λ (z : DrivenView). want_of (next_half z.rank) ≡ want_is.Take from) (sym view) wants in
          let did = takes_sheet s x y first from letter here waits n_is onto (takes_inside from x.taken refl wants) all_taken posted in
          let on = goes_on did.does (ap length posted) (as_many x.taken y.taken from _ all_taken) in
          (on.0, on.1, subst (λ z. Takes s z letter y) view did)

      pub took_mark : want_of (next_half v.rank) ≡ want_is.End from → IsMark from x.rank.me letter
          → y.rank ≡ onward x.rank (slots_with (next_half x.rank) (arrival_is.End from) x.rank.slots) x.rank.refusals → (x.rank.me ≡ y.rank.me) × IsDriven s y × Takes s v letter y
      took_mark wants mark onto =
          let here = subst (λ (z : DrivenView). want_of (next_half z.rank) ≡ want_is.End from) (sym view) wants in
          let did = takes_mark s x y first from letter here mark n_is onto (ends_inside from x.taken refl wants) all_taken posted in
          let on = goes_on did.does (ap length posted) (as_many x.taken y.taken from _ all_taken) in
          (on.0, on.1, subst (λ z. Takes s z letter y) view did)
