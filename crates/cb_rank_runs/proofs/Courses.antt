-- A rank's program only adds to what it posted and took, and can be done in parts.
use Rattle.std.proofs.Common.{◌≡◌, ℕ, ◌<◌, ◌≤◌, Bool, true, false, List, [], ◌∷◌, ◌++◌, length, refl, sym, ap, ◌∙◌, arith, append_assoc, append-nil, inl, inr}
use Rattle.std.specs.Prelude.{◌==◌, nat_lt}
use Rattle.std.proofs.lemmas.Bool.Decides.{nat_tests}
use Rattle.cb_semirings.specs.Arithmetic.{Arithmetic}
use Rattle.cb_matrix.specs.Sparse.{Sparse}
use Rattle.cb_letters.specs.declared.Letter.{Letter}
use Rattle.cb_letters.specs.declared.Body.{Body}
use Rattle.cb_letters.specs.declared.Body.TheVariants as body_is
use Rattle.cb_plan.specs.declared.acts.Op.{Op}
use Rattle.cb_plan.specs.declared.acts.Half.{Half}
use Rattle.cb_plan.specs.declared.acts.Half.TheVariants as half_is
use Rattle.cb_plan.specs.declared.stores.Slot.{Slot}
use Rattle.cb_plan.specs.declared.stores.Slot.TheVariants as slot_is
use Rattle.cb_rank.specs.Halves.{Course, DoesHalf, RunsTo, with_letter, IsCopy, IsWork}
use Rattle.cb_plan.proofs.Effects.{split}

-- courses that agree in every field are the same
pub same_course : (a b : Course) → a.slots ≡ b.slots → a.refusals ≡ b.refusals → ((k : ℕ) → a.posted k ≡ b.posted k) → ((k : ℕ) → a.taken k ≡ b.taken k) → a ≡ b
same_course a b e f g h = λ i. record { slots = e i; refusals = f i; posted = λ k. g k i; taken = λ k. h k i }

-- a list is a prefix of another
abbrev pub Extends : List (Letter Sparse) → List (Letter Sparse) → Type 0
Extends xs ys = (rest : List (Letter Sparse)) × (ys ≡ xs ++ rest)

-- what a rank posted and took is a prefix of what it posts and takes later, and its count of refusals doesn't fall
pub record Grows (old new : Course) : Type 0 where
  pub refusals : old.refusals ≤ new.refusals
  pub posted : (k : ℕ) → Extends (old.posted k) (new.posted k)
  pub taken : (k : ℕ) → Extends (old.taken k) (new.taken k)

same_list : (xs ys : List (Letter Sparse)) → ys ≡ xs → Extends xs ys
same_list xs ys e = ([], e ∙ sym (append-nil xs))

extends_trans : (xs ys zs : List (Letter Sparse)) → Extends xs ys → Extends ys zs → Extends xs zs
extends_trans xs ys zs h k = (h.0 ++ k.0, k.1 ∙ ap (λ l. l ++ k.0) h.1 ∙ append_assoc xs h.0 k.0)

with_letter_extends : (lists : ℕ → List (Letter Sparse)) (j : ℕ) (x : Letter Sparse) (k : ℕ) → Extends (lists k) (with_letter lists j x k)
with_letter_extends lists j x k = split (j == k) (λ t. (x ∷ [], rw t refl)) (λ f. ([], rw f (sym (append-nil (lists k)))))

grows_refl : (old new : Course) → new ≡ old → Grows old new
grows_refl old new e = rw e (record { refusals = omega arith; posted = λ k. same_list (old.posted k) (old.posted k) refl; taken = λ k. same_list (old.taken k) (old.taken k) refl })

grows_trans : (old mid new : Course) → Grows old mid → Grows mid new → Grows old new
grows_trans old mid new h k = record {
  refusals = let a = h.refusals in let b = k.refusals in omega arith;
  posted = λ j. extends_trans (old.posted j) (mid.posted j) (new.posted j) (h.posted j) (k.posted j);
  taken = λ j. extends_trans (old.taken j) (mid.taken j) (new.taken j) (h.taken j) (k.taken j);
}

copy_counts : (me : ℕ) (x : Slot Sparse) (b : Body Sparse) (old new : ℕ) → IsCopy me x b old new → old ≤ new
copy_counts me (slot_is.Sheet m) (body_is.Sheet n) old new h = let e = h.1 in omega arith
copy_counts me (slot_is.Sheet m) (body_is.Lost o) old new h = let e = h.1 in omega arith
copy_counts me (slot_is.Sheet m) body_is.Close old new h = absurd h
copy_counts me (slot_is.Lost o) (body_is.Lost p) old new h = let e = h.1 in omega arith
copy_counts me (slot_is.Lost o) (body_is.Sheet n) old new h = absurd h
copy_counts me (slot_is.Lost o) body_is.Close old new h = absurd h
copy_counts me slot_is.Empty b old new h = absurd h

work_counts : (s : Arithmetic) (me : ℕ) (op : Op) (slots : List (Slot Sparse)) (x : Slot Sparse) (old new : ℕ) → IsWork s me op slots x old new → old ≤ new
work_counts s me op slots x old new (inl h) = let e = h.1 in omega arith
work_counts s me op slots x old new (inr h) = let e = h.1 in omega arith

half_grows : (s : Arithmetic) (me : ℕ) (h : Half) (old new : Course) → DoesHalf s me h old new → Grows old new
half_grows s me (half_is.Post to tag slot) old new d = record {
  refusals = copy_counts me _ d.0 old.refusals new.refusals d.1;
  posted = λ k. rw (ap (λ (c : Course). c.posted k) d.2) (with_letter_extends old.posted to (record { from = me; to = to; number = length (old.posted to); tag = tag; body = d.0 }) k);
  taken = λ k. same_list (old.taken k) (new.taken k) (ap (λ (c : Course). c.taken k) d.2);
}
half_grows s me (half_is.Take from tag into shape) old new d = record {
  refusals = let e = ap (λ (c : Course). c.refusals) d.3 in omega arith;
  posted = λ k. same_list (old.posted k) (new.posted k) (ap (λ (c : Course). c.posted k) d.3);
  taken = λ k. rw (ap (λ (c : Course). c.taken k) d.3) (with_letter_extends old.taken from d.0 k);
}
half_grows s me (half_is.Work op) old new d = record {
  refusals = work_counts s me op old.slots d.0 old.refusals new.refusals d.1;
  posted = λ k. same_list (old.posted k) (new.posted k) (ap (λ (c : Course). c.posted k) d.2);
  taken = λ k. same_list (old.taken k) (new.taken k) (ap (λ (c : Course). c.taken k) d.2);
}
half_grows s me (half_is.Shut to) old new d = record {
  refusals = let e = ap (λ (c : Course). c.refusals) d in omega arith;
  posted = λ k. rw (ap (λ (c : Course). c.posted k) d) (with_letter_extends old.posted to _ k);
  taken = λ k. same_list (old.taken k) (new.taken k) (ap (λ (c : Course). c.taken k) d);
}
half_grows s me (half_is.End from) old new d = record {
  refusals = let e = ap (λ (c : Course). c.refusals) d.3 in omega arith;
  posted = λ k. same_list (old.posted k) (new.posted k) (ap (λ (c : Course). c.posted k) d.3);
  taken = λ k. rw (ap (λ (c : Course). c.taken k) d.3) (with_letter_extends old.taken from d.0 k);
}

-- a program extends a course
pub grows : (s : Arithmetic) (me : ℕ) (hs : List Half) (old new : Course) → RunsTo s me hs old new → Grows old new
grows s me [] old new h = grows_refl old new h
grows s me (x ∷ hs) old new h = grows_trans old h.0 new (half_grows s me x old h.0 h.1) (grows s me hs h.0 new h.2)

-- a program of two parts is done by doing the first and then the second
pub parts : (s : Arithmetic) (me : ℕ) (hs ks : List Half) (old new : Course) → RunsTo s me (hs ++ ks) old new → (mid : Course) × (RunsTo s me hs old mid × RunsTo s me ks mid new)
parts s me [] ks old new h = (old, (refl, h))
parts s me (x ∷ hs) ks old new h =
    let rest = parts s me hs ks h.0 new h.2 in
    (rest.0, ((h.0, h.1, rest.1.0), rest.1.1))

abbrev picked : {X : Type 0} (P : X → Type 0) (d : X) (b : Bool) → (b ≡ true → (x : X) × P x) → X
picked P d true f = (f refl).0
picked P d false f = d

picked_is : {X : Type 0} (P : X → Type 0) (d : X) (b : Bool) (f : b ≡ true → (x : X) × P x) → b ≡ true → P (picked P d b f)
picked_is P d true f e = (f refl).1
picked_is P d false f e = absurd (grind (arith, nat_tests))

below : (r n : ℕ) → nat_lt r n ≡ true → r < n
below r n e = grind (arith, nat_tests)

-- a function from what exists for each number below a limit
pub choose : {X : Type 0} (n : ℕ) (P : ℕ → X → Type 0) (d : X) → ((r : ℕ) → r < n → (x : X) × P r x) → (f : ℕ → X) × ((r : ℕ) → r < n → P r (f r))
choose n P d h = (
  λ r. picked (P r) d (nat_lt r n) (λ e. h r (below r n e)),
  λ r l. picked_is (P r) d (nat_lt r n) (λ e. h r (below r n e)) (grind (arith, nat_tests)),
)
