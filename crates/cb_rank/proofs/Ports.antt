-- The ports of a rank, before a half and after it.
use Rattle.std.proofs.Common.{◌≡◌, ◌≢◌, ℕ, ◌+◌, ◌<◌, Bool, true, false, List, [], ◌∷◌, take, refl, sym, ◌∙◌, ap, subst, arith, inl, inr}
use Rattle.std.specs.Prelude.{◌⊎◌, Some, None, ◌==◌, ◌||◌}
use Rattle.std.proofs.lemmas.Bool.Decides.{nat_tests}
use Rattle.std.proofs.lemmas.List.{length-take-le}
use Rattle.cb_matrix.specs.Sparse.{Sparse}
use Rattle.cb_letters.specs.declared.Letter.{Letter}
use Rattle.cb_letters.specs.Letters.{is_close}
use Rattle.cb_letters.specs.Standing.{Standing, standing_refusal, stands_after}
use Rattle.cb_plan.specs.declared.acts.Half.{Half}
use Rattle.cb_plan.specs.declared.acts.Half.TheVariants as half_is
use Rattle.cb_plan.specs.declared.stores.Slot.{Slot}
use Rattle.cb_plan.specs.Checks.{none_shut, started}
use Rattle.cb_rank.specs.declared.wants.Want.TheVariants as want_is
use Rattle.cb_rank.specs.Ranks.{RankView, IsRank, ArePortsOf, want_of, next_half, onward, standing_by, posted_to, is_shut_to}
use Rattle.cb_plan.proofs.Effects.{split}
use Rattle.cb_rank.proofs.NextAct.{finds, lanes, passes}
use Rattle.cb_rank.proofs.RankAfterHalf.{few_halves}
use Rattle.cb_rank.proofs.WantedHalf.{wants_take, wants_end}
use Rattle.cb_rank.proofs.LanesByHalves.{take-next, posted_to-append, is_shut_to-append, lanes_by_halves, is_open}

abbrev done_halves : RankView → List Half
done_halves x = take x.done x.program

-- a lane that the next half posts on is open, as the halves before it left it
open_by : (x : RankView) (h : Half) (is : IsRank x) (next : next_half x ≡ Some h) (k : ℕ) → lanes x h is next x.me k ≡ false → is_shut_to k (done_halves x) ≡ false
open_by x h is next k e =
    let halves = lanes_by_halves x.plan.ranks none_shut x.plan.acts (started x.plan.starts) x.me x.done k (passes x h is next) in
    let same : is_shut_to k (done_halves x) ≡ is_shut_to k (take x.done _) = ap (λ hs. is_shut_to k (take x.done hs)) is.program in
    same ∙ sym halves ∙ e

-- what its ports say of that lane: it exists, and only want of room can refuse a post
pub record IsOpenTo (x : RankView) (k : ℕ) (s : Standing) : Type 0 where
  pub lane : s.is_stranger ≡ false
  pub none : standing_refusal s ≡ None
  pub unshut : is_shut_to k (done_halves x) ≡ false

may_post : (x : RankView) (h : Half) (is : IsRank x) (next : next_half x ≡ Some h) (standing : ℕ → Standing) (k : ℕ) → ArePortsOf x standing → k < x.plan.ranks → k ≢ x.me → lanes x h is next x.me k ≡ false → IsOpenTo x k (standing k)
may_post x h is next standing k ports low ne e =
    let same = ports k low ne in
    let unshut = open_by x h is next k e in
    let few = few_halves x is in
    let short = length-take-le x.done x.program is.progress in
    record {
      lane = ap (λ (s : Standing). s.is_stranger) same;
      none = ap standing_refusal same ∙ is_open x.me (done_halves x) k unshut (omega arith);
      unshut = unshut;
    }

-- the ports of a rank whose next half is a Post are open to the rank that it posts to
pub opens_post : (x : RankView) (to : ℕ) (tag : _) (slot : ℕ) (standing : ℕ → Standing) → IsRank x → next_half x ≡ Some (half_is.Post to tag slot) → ArePortsOf x standing → IsOpenTo x to (standing to)
opens_post x to tag slot standing is next ports =
    let h : Half = half_is.Post to tag slot in
    let f = finds x h is next in
    may_post x h is next standing to ports f.0 f.1 f.4

-- the ports of a rank whose next half is a Shut are open to the rank at the other end of the lane
pub opens_shut : (x : RankView) (to : ℕ) (standing : ℕ → Standing) → IsRank x → next_half x ≡ Some (half_is.Shut to) → ArePortsOf x standing → IsOpenTo x to (standing to)
opens_shut x to standing is next ports =
    let h : Half = half_is.Shut to in
    let f = finds x h is next in
    may_post x h is next standing to ports f.0 f.1 f.2

-- ports that stand as before are those of the rank still
pub ports_stay : (x : RankView) (standing after : ℕ → Standing) → ((k : ℕ) → after k ≡ standing k) → ArePortsOf x standing → ArePortsOf x after
ports_stay x standing after same ports k low ne = same k ∙ ports k low ne

-- halves that post nothing
abbrev pub IsQuiet : Half → Type 0
IsQuiet (half_is.Post to tag slot) = ⊥
IsQuiet (half_is.Take from tag into shape) = Unit {0}
IsQuiet (half_is.Work op) = Unit {0}
IsQuiet (half_is.Shut to) = ⊥
IsQuiet (half_is.End from) = Unit {0}

or_nothing : (b : Bool) → (b || false) ≡ b
or_nothing true = refl
or_nothing false = refl

quiet_posts : (h : Half) (k : ℕ) → IsQuiet h → (posted_to k (h ∷ []) ≡ 0) × (is_shut_to k (h ∷ []) ≡ false)
quiet_posts (half_is.Post to tag slot) k q = absurd q
quiet_posts (half_is.Take from tag into shape) k q = (refl, refl)
quiet_posts (half_is.Work op) k q = (refl, refl)
quiet_posts (half_is.Shut to) k q = absurd q
quiet_posts (half_is.End from) k q = (refl, refl)

-- how a lane stands after one more half
one_more : (x : RankView) (h : Half) (k : ℕ) → next_half x ≡ Some h →
    standing_by x.me (take (x.done + 1) x.program) k ≡ record { sender = x.me; is_stranger = false; is_closed = is_shut_to k (done_halves x) || is_shut_to k (h ∷ []); posted = posted_to k (done_halves x) + posted_to k (h ∷ []) }
one_more x h k next = rw (take-next x.program x.done h next, posted_to-append k (done_halves x) (h ∷ []), is_shut_to-append k (done_halves x) (h ∷ [])) refl

-- after a half that posts nothing, ports that stand as before are those of the rank
pub ports_quiet : (x : RankView) (h : Half) (slots : List (Slot Sparse)) (refusals : ℕ) (standing after : ℕ → Standing) → next_half x ≡ Some h → IsQuiet h → ((k : ℕ) → after k ≡ standing k) → ArePortsOf x standing → ArePortsOf (onward x slots refusals) after
ports_quiet x h slots refusals standing after next quiet same ports k low ne =
    let none = quiet_posts h k quiet in
    let count : posted_to k (done_halves x) + posted_to k (h ∷ []) ≡ posted_to k (done_halves x) = let z = none.0 in omega arith in
    let shut : (is_shut_to k (done_halves x) || is_shut_to k (h ∷ [])) ≡ is_shut_to k (done_halves x) = rw none.1 (or_nothing (is_shut_to k (done_halves x))) in
    same k ∙ ports k low ne ∙ sym (one_more x h k next ∙ rw (count, shut) refl)

-- after a letter is posted
module _ (x : RankView) (h : Half) (slots : List (Slot Sparse)) (refusals : ℕ) (to : ℕ) (y : Letter Sparse) (standing after : ℕ → Standing) (next : next_half x ≡ Some h) (one : posted_to to (h ∷ []) ≡ 1) (closes : is_shut_to to (h ∷ []) ≡ is_close y.body) (elsewhere : (k : ℕ) → k ≢ to → (posted_to k (h ∷ []) ≡ 0) × (is_shut_to k (h ∷ []) ≡ false)) (unshut : is_shut_to to (done_halves x) ≡ false) where
  pub ports_grow : after to ≡ stands_after y (standing to) → ((k : ℕ) → k ≢ to → after k ≡ standing k) → ArePortsOf x standing → ArePortsOf (onward x slots refusals) after
  ports_grow grown same ports k low ne =
      split (k == to)
      (λ t.
      let at : k ≡ to = grind (arith, nat_tests) in
      let was = ports k low ne in
      let was_to : standing to ≡ standing_by x.me (done_halves x) to = subst (λ n. standing n ≡ standing_by x.me (done_halves x) n) at was in
      subst (λ n. after n ≡ standing_by x.me (take (x.done + 1) x.program) n) (sym at) (grown ∙ ap (stands_after y) was_to ∙ sym (one_more x h to next ∙ rw (one, closes, unshut) refl)))
      (λ t.
      let other : k ≢ to = grind (arith, nat_tests) in
      let none = elsewhere k other in
      let count : posted_to k (done_halves x) + posted_to k (h ∷ []) ≡ posted_to k (done_halves x) = let z = none.0 in omega arith in
      let shut : (is_shut_to k (done_halves x) || is_shut_to k (h ∷ [])) ≡ is_shut_to k (done_halves x) = rw none.1 (or_nothing (is_shut_to k (done_halves x))) in
      same k other ∙ ports k low ne ∙ sym (one_more x h k next ∙ rw (count, shut) refl))

-- after a Post, ports are those of the rank if one lane stands as the letter left it, and the others as before
pub ports_post : (x : RankView) (to : ℕ) (tag : _) (slot : ℕ) (slots : List (Slot Sparse)) (refusals : ℕ) (y : Letter Sparse) (standing after : ℕ → Standing) → next_half x ≡ Some (half_is.Post to tag slot) → is_close y.body ≡ false → is_shut_to to (done_halves x) ≡ false
    → after to ≡ stands_after y (standing to) → ((k : ℕ) → k ≢ to → after k ≡ standing k) → ArePortsOf x standing → ArePortsOf (onward x slots refusals) after
ports_post x to tag slot slots refusals y standing after next kind unshut grown same ports =
    let own : (to == to) ≡ true = grind (arith, nat_tests) in
    ports_grow x (half_is.Post to tag slot) slots refusals to y standing after next (rw own refl) (sym kind) (λ k ne. let f : (to == k) ≡ false = grind (arith, nat_tests) in (rw f refl, refl)) unshut grown same ports

-- after a Shut, ports are those of the rank if one lane stands as the close mark left it, and the others as before
pub ports_shut : (x : RankView) (to : ℕ) (slots : List (Slot Sparse)) (refusals : ℕ) (y : Letter Sparse) (standing after : ℕ → Standing) → next_half x ≡ Some (half_is.Shut to) → is_close y.body ≡ true → is_shut_to to (done_halves x) ≡ false
    → after to ≡ stands_after y (standing to) → ((k : ℕ) → k ≢ to → after k ≡ standing k) → ArePortsOf x standing → ArePortsOf (onward x slots refusals) after
ports_shut x to slots refusals y standing after next kind unshut grown same ports =
    let own : (to == to) ≡ true = grind (arith, nat_tests) in
    ports_grow x (half_is.Shut to) slots refusals to y standing after next (rw own refl) (rw own (sym kind)) (λ k ne. let f : (to == k) ≡ false = grind (arith, nat_tests) in (rw f refl, rw f refl)) unshut grown same ports

-- a rank that waits for something: its next half posts nothing, and is from another rank that exists
pub record WaitsFor (x : RankView) (from : ℕ) : Type 0 where
  pub half : Half
  pub next : next_half x ≡ Some half
  pub quiet : IsQuiet half
  pub other : (from < x.plan.ranks) × (from ≢ x.me)

-- a rank that wants a letter or an end waits for it
pub waits_for : (x : RankView) (from : ℕ) → IsRank x → (want_of (next_half x) ≡ want_is.Take from) ⊎ (want_of (next_half x) ≡ want_is.End from) → WaitsFor x from
waits_for x from is (inl w) =
    let it = wants_take (next_half x) from w in
    let f = finds x (half_is.Take from it.0 it.1 it.2) is it.3 in
    record { half = half_is.Take from it.0 it.1 it.2; next = it.3; quiet = tt; other = (f.0, f.1) }
waits_for x from is (inr w) =
    let next = wants_end (next_half x) from w in
    record { half = half_is.End from; next = next; quiet = tt; other = finds x (half_is.End from) is next }
