-- Which lanes to a rank are shut before each of its halves.
use Rattle.std.proofs.Common.{◌≡◌, ℕ, ◌+◌, ◌-◌, ◌<◌, ◌≤◌, Bool, true, false, List, [], ◌∷◌, refl, ◌∙◌, ap, subst, arith}
use Rattle.std.specs.Prelude.{Some, nat_lt, ◌==◌, ◌&&◌, if◌then◌else◌}
use Rattle.std.proofs.lemmas.Bool.Decides.{nat_tests}
use Rattle.std.proofs.lemmas.Option.{same_Some}
use Rattle.cb_plan.specs.declared.acts.Act.{Act}
use Rattle.cb_plan.specs.declared.acts.Act.TheVariants as act_is
use Rattle.cb_plan.specs.declared.acts.Half.{Half}
use Rattle.cb_plan.specs.declared.acts.Half.TheVariants as half_is
use Rattle.cb_plan.specs.Checks.{IsSound, Lanes, shut_after, lanes_after, none_shut}
use Rattle.cb_plan.specs.PlanLetters.{count_of, before, next_act}
use Rattle.cb_rank.specs.Ranks.{RankView, IsRank, next_half}
use Rattle.cb_plan.proofs.Effects.{split}
use Rattle.cb_rank.proofs.OwnActs.{one_half}
use Rattle.cb_rank.proofs.Halves.{is_post, is_take, is_work, is_shut, is_end}
use Rattle.cb_rank.proofs.NextAct.{finds, lanes, outline, next_one, next_passes, not_true}

-- an act that a rank has no half of shuts no lane to it
quiet_shut : (a : Act) (shut : Lanes) (s r : ℕ) → count_of a r ≡ 0 → shut_after a shut s r ≡ shut s r
quiet_shut (act_is.Move from to tag slot into) shut s r h = refl
quiet_shut (act_is.Work rank op) shut s r h = refl
quiet_shut (act_is.Shut from to) shut s r h = let f : (from == s && to == r) ≡ false = grind (arith, nat_tests) in rw f refl

-- no lane to a rank is shut before its first half
pub lanes-before_next : (acts : List Act) (shut : Lanes) (s r : ℕ) → lanes_after (before acts r 0) shut s r ≡ shut s r
lanes-before_next [] shut s r = refl
lanes-before_next (a ∷ acts) shut s r =
    split (nat_lt 0 (count_of a r))
    (λ t. rw t refl)
    (λ f. rw f (let e : count_of a r ≡ 0 = grind (arith, nat_tests) in rw e (lanes-before_next acts (shut_after a shut) s r ∙ quiet_shut a shut s r e)))

-- the act of one more half counts too
lanes-next : (acts : List Act) (shut : Lanes) (s r k : ℕ) (a : Act) → next_act acts r k ≡ Some a → lanes_after (before acts r (k + 1)) shut s r ≡ shut_after a (lanes_after (before acts r k) shut) s r
lanes-next [] shut s r k a is = grind arith
lanes-next (b ∷ acts) shut s r k a is =
    split (nat_lt k (count_of b r))
    (λ t.
    let below : k < count_of b r = grind (arith, nat_tests) in
    let one : count_of b r ≤ 1 = one_half b r in
    let k0 : k + 1 - count_of b r ≡ 0 = omega arith in
    let f : nat_lt (k + 1) (count_of b r) ≡ false = grind (arith, nat_tests) in
    let same : Some b ≡ Some a = rw t at is in
    rw (f, t, k0) (lanes-before_next acts (shut_after b shut) s r ∙ ap (λ x. shut_after x shut s r) (same_Some _ _ same)))
    (λ f.
    let above : count_of b r ≤ k = grind (arith, nat_tests) in
    let g : nat_lt (k + 1) (count_of b r) ≡ false = grind (arith, nat_tests) in
    let e : k + 1 - count_of b r ≡ (k - count_of b r) + 1 = omega arith in
    let there : next_act acts r (k - count_of b r) ≡ Some a = rw f at is in
    rw (f, g, e) (lanes-next acts (shut_after b shut) s r (k - count_of b r) a there))

-- the lanes to a rank that are shut before its next half
abbrev pub lanes_to : RankView → ℕ → Bool
lanes_to x k = lanes_after (before x.plan.acts x.me x.done) none_shut k x.me

-- the lanes to a rank that are shut after its next half
abbrev pub lanes_then : RankView → ℕ → Bool
lanes_then x k = lanes_after (before x.plan.acts x.me (x.done + 1)) none_shut k x.me

module _ (x : RankView) (h : Half) (is : IsRank x) (next : next_half x ≡ Some h) where
  then_by : (b : Act) (k : ℕ) → (next_one x h is next).0 ≡ b → lanes_then x k ≡ shut_after b (lanes x h is next) k x.me
  then_by b k e = lanes-next x.plan.acts none_shut k x.me x.done (next_one x h is next).0 (next_one x h is next).1 ∙ ap (λ z. shut_after z (lanes x h is next) k x.me) e

-- a Post shuts no lane to its rank
pub lanes_post : (x : RankView) (to : ℕ) (tag : _) (slot : ℕ) → IsRank x → next_half x ≡ Some (half_is.Post to tag slot) → (k : ℕ) → lanes_then x k ≡ lanes_to x k
lanes_post x to tag slot is next k =
    let h : Half = half_is.Post to tag slot in
    let it = is_post (outline x h is next) (next_one x h is next).0 x.me to tag slot (next_one x h is next).2 in
    then_by x h is next (act_is.Move x.me to tag slot it.0) k it.1

-- a Work shuts no lane to its rank
pub lanes_work : (x : RankView) (op : _) → IsRank x → next_half x ≡ Some (half_is.Work op) → (k : ℕ) → lanes_then x k ≡ lanes_to x k
lanes_work x op is next k =
    let h : Half = half_is.Work op in
    then_by x h is next (act_is.Work x.me op) k (is_work (outline x h is next) (next_one x h is next).0 x.me op (next_one x h is next).2)

-- a Shut shuts no lane to its own rank: its lane leads to another
pub lanes_shut : (x : RankView) (to : ℕ) → IsRank x → next_half x ≡ Some (half_is.Shut to) → (k : ℕ) → lanes_then x k ≡ lanes_to x k
lanes_shut x to is next k =
    let h : Half = half_is.Shut to in
    let other = (finds x h is next).1 in
    let f : (x.me == k && to == x.me) ≡ false = grind (arith, nat_tests) in
    then_by x h is next (act_is.Shut x.me to) k (is_shut (outline x h is next) (next_one x h is next).0 x.me to (next_one x h is next).2) ∙ rw f refl

-- at a Take the lane is open, and stays open
pub lanes_take : (x : RankView) (from : ℕ) (tag : _) (into : ℕ) (shape : _) → IsRank x → next_half x ≡ Some (half_is.Take from tag into shape) → ((k : ℕ) → lanes_then x k ≡ lanes_to x k) × (lanes_to x from ≡ false)
lanes_take x from tag into shape is next =
    let h : Half = half_is.Take from tag into shape in
    let it = is_take (outline x h is next) (next_one x h is next).0 x.me from tag into shape (next_one x h is next).2 in
    let s = subst (λ b. IsSound x.plan.ranks (outline x h is next) (lanes x h is next) b) it.1 (next_passes x h is next) in
    (λ k. then_by x h is next (act_is.Move from x.me tag it.0 into) k it.1, not_true (lanes_to x from) s.open_lane)

-- at an End the lane is open, and it is the only one that the End shuts
pub lanes_end : (x : RankView) (from : ℕ) → IsRank x → next_half x ≡ Some (half_is.End from) → ((k : ℕ) → lanes_then x k ≡ (if from == k then true else lanes_to x k)) × (lanes_to x from ≡ false)
lanes_end x from is next =
    let h : Half = half_is.End from in
    let it = is_end (outline x h is next) (next_one x h is next).0 x.me from (next_one x h is next).2 in
    let s = subst (λ b. IsSound x.plan.ranks (outline x h is next) (lanes x h is next) b) it (next_passes x h is next) in
    let own : (x.me == x.me) ≡ true = grind (arith, nat_tests) in
    let both : (k : ℕ) → (from == k && x.me == x.me) ≡ (from == k) = λ k. split (from == k) (λ t. rw (t, own) refl) (λ f. rw f refl) in
    (λ k. then_by x h is next (act_is.Shut from x.me) k it ∙ rw (both k) refl, not_true (lanes_to x from) s.open_lane)
