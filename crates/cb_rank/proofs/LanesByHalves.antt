-- How the lanes on which a rank posts stand, by the halves that it has done.
use Rattle.std.proofs.Common.{◌≡◌, ℕ, zero, suc, ◌+◌, ◌-◌, ◌<◌, ◌≤◌, ◌^◌, Bool, true, false, List, [], ◌∷◌, ◌++◌, length, take, refl, sym, ◌∙◌, ap, arith, add_assoc}
use Rattle.std.specs.Prelude.{Option, Some, None, nat_lt, ◌==◌, ◌||◌, if◌then◌else◌, slice_get}
use Rattle.std.proofs.lemmas.Bool.Decides.{nat_tests}
use Rattle.std.proofs.lemmas.Option.{same_Some}
use Rattle.cb_matrix.specs.Sparse.{Extent}
use Rattle.cb_letters.specs.Standing.{standing_refusal}
use Rattle.cb_plan.specs.declared.acts.Act.{Act}
use Rattle.cb_plan.specs.declared.acts.Act.TheVariants as act_is
use Rattle.cb_plan.specs.declared.acts.Half.{Half}
use Rattle.cb_plan.specs.declared.acts.Half.TheVariants as half_is
use Rattle.cb_plan.specs.Algebras.{shapes}
use Rattle.cb_plan.specs.Checks.{Passes, Lanes, shut_after, lanes_after}
use Rattle.cb_plan.specs.PlanLetters.{count_of, before}
use Rattle.cb_plan.specs.Meaning.{State, act}
use Rattle.cb_plan.specs.Programs.{take_of, halves_of, project_from}
use Rattle.cb_rank.specs.Ranks.{posted_to, is_shut_to, standing_by}
use Rattle.cb_plan.proofs.Effects.{split}
use Rattle.cb_rank.proofs.OwnActs.{counted, one_half}

-- letters posted by two lists of halves
pub posted_to-append : (k : ℕ) (xs ys : List Half) → posted_to k (xs ++ ys) ≡ posted_to k xs + posted_to k ys
posted_to-append k [] ys = omega arith
posted_to-append k (half_is.Post to tag slot ∷ xs) ys = rw (posted_to-append k xs ys) (sym (add_assoc (if to == k then 1 else 0) (posted_to k xs) (posted_to k ys)))
posted_to-append k (half_is.Take from tag into shape ∷ xs) ys = posted_to-append k xs ys
posted_to-append k (half_is.Work op ∷ xs) ys = posted_to-append k xs ys
posted_to-append k (half_is.Shut to ∷ xs) ys = rw (posted_to-append k xs ys) (sym (add_assoc (if to == k then 1 else 0) (posted_to k xs) (posted_to k ys)))
posted_to-append k (half_is.End from ∷ xs) ys = posted_to-append k xs ys

pub or_assoc : (a b c : Bool) → (a || (b || c)) ≡ ((a || b) || c)
or_assoc true b c = refl
or_assoc false b c = refl

-- a lane is shut by two lists of halves if one of them shuts it
pub is_shut_to-append : (k : ℕ) (xs ys : List Half) → is_shut_to k (xs ++ ys) ≡ (is_shut_to k xs || is_shut_to k ys)
is_shut_to-append k [] ys = refl
is_shut_to-append k (half_is.Post to tag slot ∷ xs) ys = is_shut_to-append k xs ys
is_shut_to-append k (half_is.Take from tag into shape ∷ xs) ys = is_shut_to-append k xs ys
is_shut_to-append k (half_is.Work op ∷ xs) ys = is_shut_to-append k xs ys
is_shut_to-append k (half_is.Shut to ∷ xs) ys = rw (is_shut_to-append k xs ys) (or_assoc (to == k) (is_shut_to k xs) (is_shut_to k ys))
is_shut_to-append k (half_is.End from ∷ xs) ys = is_shut_to-append k xs ys

-- a prefix with one more half
pub take-next : {A : Type 0} (xs : List A) (k : ℕ) (x : A) → slice_get xs k ≡ Some x → take (k + 1) xs ≡ take k xs ++ x ∷ []
take-next [] k x e = cc
take-next (y ∷ ys) zero x e = let same = same_Some y x e in rw same refl
take-next (y ∷ ys) (suc k) x e = let n : suc k + 1 ≡ suc (k + 1) = omega arith in rw n (ap (λ zs. y ∷ zs) (take-next ys k x e))

-- a prefix of two lists, past the end of the first
pub take_past : {A : Type 0} (xs ys : List A) (k : ℕ) → length xs ≤ k → take k (xs ++ ys) ≡ xs ++ take (k - length xs) ys
take_past [] ys k h = let e : k - 0 ≡ k = omega arith in rw e refl
take_past (x ∷ xs) ys zero h = absurd (omega arith)
take_past (x ∷ xs) ys (suc k) h = let e : suc k - suc (length xs) ≡ k - length xs = omega arith in rw e (ap (λ zs. x ∷ zs) (take_past xs ys k (omega arith)))

-- at most one letter is posted by each half
pub posted_to_few : (k : ℕ) (xs : List Half) → posted_to k xs ≤ length xs
posted_to_few k [] = omega arith
posted_to_few k (half_is.Post to tag slot ∷ xs) = let e = posted_to_few k xs in split (to == k) (λ t. rw t (omega arith)) (λ f. rw f (omega arith))
posted_to_few k (half_is.Take from tag into shape ∷ xs) = let e = posted_to_few k xs in omega arith
posted_to_few k (half_is.Work op ∷ xs) = let e = posted_to_few k xs in omega arith
posted_to_few k (half_is.Shut to ∷ xs) = let e = posted_to_few k xs in split (to == k) (λ t. rw t (omega arith)) (λ f. rw f (omega arith))
posted_to_few k (half_is.End from ∷ xs) = let e = posted_to_few k xs in omega arith

take_is_open : (k from : ℕ) (tag : _) (into : ℕ) (v : Option Extent) → is_shut_to k (take_of from tag into v) ≡ false
take_is_open k from tag into (Some v) = refl
take_is_open k from tag into None = refl

or_nothing : (b : Bool) → b ≡ (b || false)
or_nothing true = refl
or_nothing false = refl

or_already : (b : Bool) → true ≡ (b || (true || false))
or_already true = refl
or_already false = refl

-- the halves of an act shut the lanes that the act shuts
shut_by_halves : (state : State Extent) (shut : Lanes) (a : Act) (r k : ℕ) → shut_after a shut r k ≡ (shut r k || is_shut_to k (halves_of state a r))
shut_by_halves state shut (act_is.Move from to tag slot into) r k =
    split (from == r) (λ t. rw t (or_nothing (shut r k))) (λ f. rw f (split (to == r) (λ t. rw (t, take_is_open k from tag into (state from slot)) (or_nothing (shut r k))) (λ g. rw g (or_nothing (shut r k)))))
shut_by_halves state shut (act_is.Work rank op) r k =
    split (rank == r) (λ t. rw t (or_nothing (shut r k))) (λ f. rw f (or_nothing (shut r k)))
shut_by_halves state shut (act_is.Shut from to) r k =
    split (from == r)
    (λ t. rw t (split (to == k) (λ u. rw u (or_already (shut r k))) (λ u. rw u (or_nothing (shut r k)))))
    (λ f. rw f (split (to == r) (λ t. rw t (or_nothing (shut r k))) (λ g. rw g (or_nothing (shut r k)))))

-- the prefix of an empty list
pub take_none : (n : ℕ) → take {A = Half} n [] ≡ []
take_none zero = refl
take_none (suc n) = refl

-- the lanes from a rank that are shut before its next half are those that its halves shut
pub lanes_by_halves : (ranks : ℕ) (shut : Lanes) (acts : List Act) (state : State Extent) (r done k : ℕ) → Passes ranks state shut acts →
    lanes_after (before acts r done) shut r k ≡ (shut r k || is_shut_to k (take done (project_from state acts r)))
lanes_by_halves ranks shut [] state r done k p = rw (take_none done) (or_nothing (shut r k))
lanes_by_halves ranks shut (a ∷ acts) state r done k p =
    let size = counted ranks state shut a r p.0 in
    let one = one_half a r in
    let rest : List Half = project_from (act shapes a state) acts r in
    split (nat_lt done (count_of a r))
    (λ t. let z : done ≡ 0 = let below : done < count_of a r = grind (arith, nat_tests) in omega arith in rw (t, z) (or_nothing (shut r k)))
    (λ f.
    let past : count_of a r ≤ done = grind (arith, nat_tests) in
    let i = lanes_by_halves ranks (shut_after a shut) acts (act shapes a state) r (done - count_of a r) k p.1 in
    let cut = take_past (halves_of state a r) rest done (omega arith) in
    rw (f, cut, size, is_shut_to-append k (halves_of state a r) (take (done - count_of a r) rest)) (i ∙ ap (λ b. b || is_shut_to k (take (done - count_of a r) rest)) (shut_by_halves state shut a r k) ∙ sym (or_assoc (shut r k) (is_shut_to k (halves_of state a r)) (is_shut_to k (take (done - count_of a r) rest)))))

-- only want of room can refuse a post on an open lane, after so few halves
pub is_open : (me : ℕ) (halves : List Half) (k : ℕ) → is_shut_to k halves ≡ false → length halves < 2 ^ 64 - 1 → standing_refusal (standing_by me halves k) ≡ None
is_open me halves k e l =
    let few = posted_to_few k halves in
    let other : (posted_to k halves == 2 ^ 64 - 1) ≡ false = grind (arith, nat_tests) in
    rw (e, other) refl
