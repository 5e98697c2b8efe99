-- A rank's next half: the act that it belongs to, and what the check says of that act.
use Rattle.std.proofs.Common.{◌≡◌, ◌≢◌, ℕ, zero, suc, ◌+◌, ◌-◌, ◌<◌, ◌≤◌, Bool, true, false, List, [], ◌∷◌, ◌++◌, length, refl, sym, ◌∙◌, subst, arith}
use Rattle.std.specs.Prelude.{Option, Some, None, IsSome, is_some, nat_lt, not, slice_get}
use Rattle.std.proofs.lemmas.Bool.Decides.{nat_tests}
use Rattle.std.proofs.lemmas.Option.{same_Some}
use Rattle.cb_matrix.specs.Sparse.{Extent}
use Rattle.cb_letters.specs.declared.Tag.{Tag}
use Rattle.cb_plan.specs.declared.acts.Act.{Act}
use Rattle.cb_plan.specs.declared.acts.Act.TheVariants as act_is
use Rattle.cb_plan.specs.declared.acts.Half.{Half}
use Rattle.cb_plan.specs.declared.acts.Half.TheVariants as half_is
use Rattle.cb_plan.specs.Algebras.{shapes}
use Rattle.cb_plan.specs.Checks.{IsSound, Passes, Lanes, shut_after, lanes_after, none_shut, started, all_below, all_filled, operands_of, shapes_agree}
use Rattle.cb_plan.specs.PlanLetters.{count_of, before, next_act}
use Rattle.cb_plan.specs.Meaning.{State, act, meaning, target_of}
use Rattle.cb_plan.specs.Programs.{halves_of, project_from}
use Rattle.cb_plan.proofs.PassingActs.{checked_passes}
use Rattle.cb_plan.proofs.ActOnStores.{first_below}
use Rattle.cb_rank.specs.Ranks.{RankView, IsRank, next_half, shapes_at}
use Rattle.cb_plan.proofs.Effects.{split}
use Rattle.cb_rank.proofs.OwnActs.{counted, one_half, meaning-next}
use Rattle.cb_rank.proofs.Halves.{is_post, is_take, is_work, is_shut, is_end}

-- an element of two lists that is past the first is one of the second
pub slice_get_right : {A : Type 0} (xs ys : List A) (k : ℕ) → length xs ≤ k → slice_get (xs ++ ys) k ≡ slice_get ys (k - length xs)
slice_get_right [] ys k h = let e : k - 0 ≡ k = omega arith in rw e refl
slice_get_right (x ∷ xs) ys zero h = absurd (omega arith)
slice_get_right (x ∷ xs) ys (suc k) h = let e : suc k - suc (length xs) ≡ k - length xs = omega arith in rw e (slice_get_right xs ys k (omega arith))

one_of : {A : Type 0} (xs ys : List A) (k : ℕ) (x : A) → length xs ≤ 1 → k < length xs → slice_get (xs ++ ys) k ≡ Some x → xs ≡ x ∷ []
one_of [] ys k x l b is = absurd (omega arith)
one_of (y ∷ []) ys zero x l b is = let e = same_Some y x is in rw e refl
one_of (y ∷ []) ys (suc k) x l b is = absurd (omega arith)
one_of (y ∷ (z ∷ zs)) ys k x l b is = absurd (omega arith)

-- the act of a half of the program
pub act_of_half : (ranks : ℕ) (shut : Lanes) (acts : List Act) (state : State Extent) (r k : ℕ) (h : Half) → Passes ranks state shut acts → slice_get (project_from state acts r) k ≡ Some h → (a : Act) × (next_act acts r k ≡ Some a) × (halves_of (meaning shapes (before acts r k) state) a r ≡ h ∷ [])
act_of_half ranks shut [] state r k h p is = cc
act_of_half ranks shut (b ∷ acts) state r k h p is =
    let size = counted ranks state shut b r p.0 in
    let one = one_half b r in
    split (nat_lt k (count_of b r))
    (λ t. let below : k < count_of b r = grind (arith, nat_tests) in
    (b, rw t refl, rw t (one_of (halves_of state b r) (project_from (act shapes b state) acts r) k h (omega arith) (omega arith) is)))
    (λ f.
    let past : count_of b r ≤ k = grind (arith, nat_tests) in
    let there : slice_get (project_from (act shapes b state) acts r) (k - count_of b r) ≡ Some h = subst (λ n. slice_get (project_from (act shapes b state) acts r) (k - n) ≡ Some h) size (sym (slice_get_right (halves_of state b r) (project_from (act shapes b state) acts r) k (omega arith)) ∙ is) in
    let it = act_of_half ranks (shut_after b shut) acts (act shapes b state) r (k - count_of b r) h p.1 there in
    (it.0, rw f it.1, rw f it.2))

-- a rank's next act has no fault if the acts before it leave the shapes and the lanes
pub next_sound : (ranks : ℕ) (shut : Lanes) (acts : List Act) (state : State Extent) (r k : ℕ) (a : Act) → Passes ranks state shut acts → next_act acts r k ≡ Some a → IsSound ranks (meaning shapes (before acts r k) state) (lanes_after (before acts r k) shut) a
next_sound ranks shut [] state r k a p is = cc
next_sound ranks shut (b ∷ acts) state r k a p is =
    split (nat_lt k (count_of b r))
    (λ t. let same : Some b ≡ Some a = rw t at is in rw t (subst (λ x. IsSound ranks state shut x) (same_Some b a same) p.0))
    (λ f. let there : next_act acts r (k - count_of b r) ≡ Some a = rw f at is in rw f (next_sound ranks (shut_after b shut) acts (act shapes b state) r (k - count_of b r) a p.1 there))

-- a sound Move is between two ranks
pub apart_of : (ranks : ℕ) (state : State Extent) (shut : Lanes) (from to : ℕ) (tag : Tag) (slot into : ℕ) → IsSound ranks state shut (act_is.Move from to tag slot into) → from ≢ to
apart_of ranks state shut from to tag slot into h = let e = h.apart in grind (arith, nat_tests)

-- a sound Shut is between two ranks
pub apart_of_shut : (ranks : ℕ) (state : State Extent) (shut : Lanes) (from to : ℕ) → IsSound ranks state shut (act_is.Shut from to) → from ≢ to
apart_of_shut ranks state shut from to h = let e = h.apart in grind (arith, nat_tests)

-- both of two numbers are below a limit if a list of them is
pub both_below : (ranks from to : ℕ) → all_below ranks (from ∷ to ∷ []) ≡ true → (from < ranks) × (to < ranks)
both_below ranks from to e = let f = first_below ranks from (to ∷ []) e in (f.0, (first_below ranks to [] f.1).0)

-- what isn't true is false
pub not_true : (b : Bool) → not b ≡ true → b ≡ false
not_true true e = cc
not_true false e = refl

pub some_of_test : (x : Option Extent) → is_some x ≡ true → IsSome x
some_of_test (Some v) e = refl
some_of_test None e = cc

module _ (x : RankView) (h : Half) (is : IsRank x) (next : next_half x ≡ Some h) where
  -- the acts before the half
  abbrev pub past : List Act
  past = before x.plan.acts x.me x.done

  -- the shapes that they leave
  abbrev pub outline : State Extent
  outline = meaning shapes past (started x.plan.starts)

  -- the lanes that they shut
  abbrev pub lanes : Lanes
  lanes = lanes_after past none_shut

  -- the plan of a rank passes its check
  pub passes : Passes x.plan.ranks (started x.plan.starts) none_shut x.plan.acts
  passes = checked_passes x.plan.ranks 0 (started x.plan.starts) none_shut x.plan.acts is.checked.no_fault

  -- the act of the next half, which is the only half of it that the rank has
  pub next_one : (a : Act) × (next_act x.plan.acts x.me x.done ≡ Some a) × (halves_of outline a x.me ≡ h ∷ [])
  next_one = act_of_half x.plan.ranks none_shut x.plan.acts (started x.plan.starts) x.me x.done h passes (rw is.program at next)

  -- that act is sound after the acts before it
  pub next_passes : IsSound x.plan.ranks outline lanes next_one.0
  next_passes = next_sound x.plan.ranks none_shut x.plan.acts (started x.plan.starts) x.me x.done next_one.0 passes next_one.1

  -- the shapes after the half are those that its act makes
  pub shapes_next : (n : ℕ) → shapes_at x.plan x.me (x.done + 1) n ≡ act shapes next_one.0 outline x.me n
  shapes_next n = meaning-next shapes x.plan.acts x.me x.done (started x.plan.starts) next_one.0 n next_one.1

-- what a rank's next half finds: the other rank exists and is another, the slots exist, and the lane that is posted on is open
abbrev pub Finds : RankView → (ℕ → Option Extent) → (ℕ → ℕ → Bool) → Half → Type 0
Finds x shape shut (half_is.Post to tag slot) = (to < x.plan.ranks) × (to ≢ x.me) × (slot < 256) × IsSome (shape slot) × (shut x.me to ≡ false)
Finds x found shut (half_is.Take from tag into shape) = (from < x.plan.ranks) × (from ≢ x.me) × (into < 256)
Finds x shape shut (half_is.Work op) = (all_below 256 (target_of op ∷ operands_of op) ≡ true) × (all_filled shape (operands_of op) ≡ true) × (shapes_agree shape op ≡ true)
Finds x shape shut (half_is.Shut to) = (to < x.plan.ranks) × (to ≢ x.me) × (shut x.me to ≡ false)
Finds x shape shut (half_is.End from) = (from < x.plan.ranks) × (from ≢ x.me)

-- what the act of a half is, and what the half finds
found : (x : RankView) (outline : State Extent) (lanes : Lanes) (a : Act) (h : Half) → IsSound x.plan.ranks outline lanes a → halves_of outline a x.me ≡ h ∷ [] → Finds x (outline x.me) lanes h
found x outline lanes a (half_is.Post to tag slot) sound e =
    let k = is_post outline a x.me to tag slot e in
    let s = subst (λ b. IsSound x.plan.ranks outline lanes b) k.1 sound in
    let apart = apart_of x.plan.ranks outline lanes x.me to tag slot k.0 s in
    ((both_below x.plan.ranks x.me to s.ranks_exist).1, (λ z. apart (sym z)), (first_below 256 slot (k.0 ∷ []) s.slots_exist).0, some_of_test (outline x.me slot) s.filled, not_true _ s.open_lane)
found x outline lanes a (half_is.Take from tag into shape) sound e =
    let k = is_take outline a x.me from tag into shape e in
    let s = subst (λ b. IsSound x.plan.ranks outline lanes b) k.1 sound in
    ((both_below x.plan.ranks from x.me s.ranks_exist).0, apart_of x.plan.ranks outline lanes from x.me tag k.0 into s, (both_below 256 k.0 into s.slots_exist).1)
found x outline lanes a (half_is.Work op) sound e =
    let k = is_work outline a x.me op e in
    let s = subst (λ b. IsSound x.plan.ranks outline lanes b) k sound in
    (s.slots_exist, s.filled, s.agree)
found x outline lanes a (half_is.Shut to) sound e =
    let k = is_shut outline a x.me to e in
    let s = subst (λ b. IsSound x.plan.ranks outline lanes b) k sound in
    let apart = apart_of_shut x.plan.ranks outline lanes x.me to s in
    ((both_below x.plan.ranks x.me to s.ranks_exist).1, (λ z. apart (sym z)), not_true _ s.open_lane)
found x outline lanes a (half_is.End from) sound e =
    let k = is_end outline a x.me from e in
    let s = subst (λ b. IsSound x.plan.ranks outline lanes b) k sound in
    ((both_below x.plan.ranks from x.me s.ranks_exist).0, apart_of_shut x.plan.ranks outline lanes from x.me s)

-- what the next half of a rank finds
pub finds : (x : RankView) (h : Half) (is : IsRank x) (next : next_half x ≡ Some h) → Finds x (shapes_at x.plan x.me x.done) (lanes x h is next) h
finds x h is next = found x (outline x h is next) (lanes x h is next) (next_one x h is next).0 h (next_passes x h is next) (next_one x h is next).2
