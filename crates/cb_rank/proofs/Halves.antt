-- The act of a half, and what a half makes of slots and letters.
use Rattle.std.proofs.Common.{◌≡◌, ℕ, ◌<◌, ◌≤◌, true, false, List, [], ◌∷◌, refl, sym, ◌∙◌, ap, arith, inl, inr}
use Rattle.std.specs.Prelude.{Option, Some, None, IsSome, is_some, ◌==◌, ◌⊎◌}
use Rattle.std.proofs.lemmas.Bool.Decides.{nat_tests}
use Rattle.cb_semirings.specs.Arithmetic.{Arithmetic}
use Rattle.cb_matrix.specs.Sparse.{Sparse, Extent}
use Rattle.cb_letters.specs.declared.Tag.{Tag}
use Rattle.cb_letters.specs.declared.Body.{Body}
use Rattle.cb_letters.specs.declared.Body.TheVariants as body_is
use Rattle.cb_plan.specs.declared.acts.Op.{Op}
use Rattle.cb_plan.specs.declared.acts.Act.{Act}
use Rattle.cb_plan.specs.declared.acts.Act.TheVariants as act_is
use Rattle.cb_plan.specs.declared.acts.Half.{Half}
use Rattle.cb_plan.specs.declared.acts.Half.TheVariants as half_is
use Rattle.cb_plan.specs.declared.stores.Slot.{Slot}
use Rattle.cb_plan.specs.declared.stores.Slot.TheVariants as slot_is
use Rattle.cb_plan.specs.Meaning.{State, one, result_of}
use Rattle.cb_plan.specs.Algebras.{matrices}
use Rattle.cb_plan.specs.Checks.{operands_of, all_filled}
use Rattle.cb_plan.specs.PlanLetters.{Sheet}
use Rattle.cb_plan.specs.Programs.{take_of, halves_of}
use Rattle.cb_plan.specs.Stores.{sheet_of, slot_of, sheets_in}
use Rattle.cb_rank.specs.Agreement.{IsSlotOf, IsBodyOf}
use Rattle.cb_rank.specs.Halves.{slot_at, origin_of, first_lost, reads_of, loss_or_result, IsCopy, IsWork, slot_of_body}
use Rattle.cb_plan.proofs.Effects.{split}
use Rattle.cb_rank.proofs.ByOperation.{AllSome, AreSame, same_result, some_result, lost_needs}

take_is : (from : ℕ) (tag : Tag) (into : ℕ) (x : Option Extent) (h : Half) → take_of from tag into x ≡ h ∷ [] → (v : Extent) × (x ≡ Some v) × (h ≡ half_is.Take from tag into v)
take_is from tag into (Some v) h e = (v, refl, cc)
take_is from tag into None h e = cc

-- an act whose half at a rank is a Post is a Move from there
pub is_post : (state : State Extent) (a : Act) (r to : ℕ) (tag : Tag) (slot : ℕ) → halves_of state a r ≡ half_is.Post to tag slot ∷ [] → (into : ℕ) × (a ≡ act_is.Move r to tag slot into)
is_post state (act_is.Move from to' tag' slot' into') r to tag slot h =
    split (from == r)
    (λ t. let e = rw t at h in let same : from ≡ r = grind (arith, nat_tests) in (into', cc))
    (λ f. let e = rw f at h in split (to' == r) (λ t. let e2 = rw t at e in let k = (take_is from tag' into' (state from slot') (half_is.Post to tag slot) e2).2 in cc) (λ g. let e2 = rw g at e in cc))
is_post state (act_is.Work rank op) r to tag slot h = split (rank == r) (λ t. let e = rw t at h in cc) (λ f. let e = rw f at h in cc)
is_post state (act_is.Shut from to') r to tag slot h =
    split (from == r) (λ t. let e = rw t at h in cc) (λ f. let e = rw f at h in split (to' == r) (λ t. let e2 = rw t at e in cc) (λ g. let e2 = rw g at e in cc))

-- an act whose half at a rank is a Take is a Move to there, of a slot that has the half's shape
pub is_take : (state : State Extent) (a : Act) (r from : ℕ) (tag : Tag) (into : ℕ) (shape : Extent) → halves_of state a r ≡ half_is.Take from tag into shape ∷ [] → (slot : ℕ) × (a ≡ act_is.Move from r tag slot into) × (state from slot ≡ Some shape)
is_take state (act_is.Move from' to' tag' slot' into') r from tag into shape h =
    split (from' == r)
    (λ t. let e = rw t at h in cc)
    (λ f. let e = rw f at h in split (to' == r)
    (λ t. let e2 = rw t at e in
    let k = take_is from' tag' into' (state from' slot') (half_is.Take from tag into shape) e2 in
    let there = k.1 in let half = k.2 in
    let f1 : from' ≡ from = cc in
    let f2 : tag' ≡ tag = cc in
    let f3 : into' ≡ into = cc in
    let f4 : k.0 ≡ shape = cc in
    let same : to' ≡ r = grind (arith, nat_tests) in (slot', rw (f1, f2, f3, same) refl, ap (λ x. state x slot') (sym f1) ∙ there ∙ ap Some f4))
    (λ g. let e2 = rw g at e in cc))
is_take state (act_is.Work rank op) r from tag into shape h = split (rank == r) (λ t. let e = rw t at h in cc) (λ f. let e = rw f at h in cc)
is_take state (act_is.Shut from' to') r from tag into shape h =
    split (from' == r) (λ t. let e = rw t at h in cc) (λ f. let e = rw f at h in split (to' == r) (λ t. let e2 = rw t at e in cc) (λ g. let e2 = rw g at e in cc))

-- an act whose half at a rank is a Work is that operation at the rank
pub is_work : (state : State Extent) (a : Act) (r : ℕ) (op : Op) → halves_of state a r ≡ half_is.Work op ∷ [] → a ≡ act_is.Work r op
is_work state (act_is.Move from' to' tag' slot' into') r op h =
    split (from' == r) (λ t. let e = rw t at h in cc) (λ f. let e = rw f at h in split (to' == r) (λ t. let e2 = rw t at e in let k = (take_is from' tag' into' (state from' slot') (half_is.Work op) e2).2 in cc) (λ g. let e2 = rw g at e in cc))
is_work state (act_is.Work rank op') r op h = split (rank == r) (λ t. let e = rw t at h in let same : rank ≡ r = grind (arith, nat_tests) in cc) (λ f. let e = rw f at h in cc)
is_work state (act_is.Shut from' to') r op h =
    split (from' == r) (λ t. let e = rw t at h in cc) (λ f. let e = rw f at h in split (to' == r) (λ t. let e2 = rw t at e in cc) (λ g. let e2 = rw g at e in cc))

-- an act whose half at a rank is a Shut shuts the lane from there
pub is_shut : (state : State Extent) (a : Act) (r to : ℕ) → halves_of state a r ≡ half_is.Shut to ∷ [] → a ≡ act_is.Shut r to
is_shut state (act_is.Move from' to' tag' slot' into') r to h =
    split (from' == r) (λ t. let e = rw t at h in cc) (λ f. let e = rw f at h in split (to' == r) (λ t. let e2 = rw t at e in let k = (take_is from' tag' into' (state from' slot') (half_is.Shut to) e2).2 in cc) (λ g. let e2 = rw g at e in cc))
is_shut state (act_is.Work rank op') r to h = split (rank == r) (λ t. let e = rw t at h in cc) (λ f. let e = rw f at h in cc)
is_shut state (act_is.Shut from' to') r to h =
    split (from' == r) (λ t. let e = rw t at h in let same : from' ≡ r = grind (arith, nat_tests) in cc) (λ f. let e = rw f at h in split (to' == r) (λ t. let e2 = rw t at e in cc) (λ g. let e2 = rw g at e in cc))

-- an act whose half at a rank is an End shuts the lane to there
pub is_end : (state : State Extent) (a : Act) (r from : ℕ) → halves_of state a r ≡ half_is.End from ∷ [] → a ≡ act_is.Shut from r
is_end state (act_is.Move from' to' tag' slot' into') r from h =
    split (from' == r) (λ t. let e = rw t at h in cc) (λ f. let e = rw f at h in split (to' == r) (λ t. let e2 = rw t at e in let k = (take_is from' tag' into' (state from' slot') (half_is.End from) e2).2 in cc) (λ g. let e2 = rw g at e in cc))
is_end state (act_is.Work rank op') r from h = split (rank == r) (λ t. let e = rw t at h in cc) (λ f. let e = rw f at h in cc)
is_end state (act_is.Shut from' to') r from h =
    split (from' == r) (λ t. let e = rw t at h in cc) (λ f. let e = rw f at h in split (to' == r) (λ t. let e2 = rw t at e in let same : to' ≡ r = grind (arith, nat_tests) in cc) (λ g. let e2 = rw g at e in cc))

-- an optional value that is there
pub some_of : {M : Type 0} (w : Option M) → IsSome w → (m : M) × (w ≡ Some m)
some_of (Some m) h = (m, refl)
some_of None h = cc

-- what is posted for a slot agrees with the block that the slot agrees with
pub copied : (refs refs' : ℕ → ℕ) (r : ℕ) (w : Option Sparse) (x : Slot Sparse) (b : Body Sparse) → ((o : ℕ) → refs o ≤ refs' o) → IsSome w → IsSlotOf refs w x → IsCopy r x b (refs r) (refs' r) → IsBodyOf refs' (Sheet w) b
copied refs refs' r w (slot_is.Sheet m) (body_is.Sheet n) g some h c = rw (h, c.0) refl
copied refs refs' r w (slot_is.Sheet m) (body_is.Lost o) g some h c = ((m, rw h refl), let e = c.1 in rw c.0 (omega arith))
copied refs refs' r w (slot_is.Lost o) (body_is.Lost p) g some h c =
    let it = some_of w some in
    let k = g o in let l = h.1 in
    ((it.0, ap Sheet it.1), rw c.0 (omega arith))
copied refs refs' r w (slot_is.Sheet m) body_is.Close g some h c = absurd c
copied refs refs' r w (slot_is.Lost o) (body_is.Sheet n) g some h c = absurd c
copied refs refs' r w (slot_is.Lost o) body_is.Close g some h c = absurd c
copied refs refs' r w slot_is.Empty b g some h c = absurd c

-- what a letter leaves in a slot agrees with the block that the letter agrees with
pub arrived_slot : (refs : ℕ → ℕ) (w : Option Sparse) (b : Body Sparse) → IsBodyOf refs (Sheet w) b → IsSlotOf refs w (slot_of_body b)
arrived_slot refs w (body_is.Sheet m) h = cc
arrived_slot refs w (body_is.Lost o) h = let e = h.0.1 in let m = h.0.0 in let is : w ≡ Some m = cc in (rw is refl, h.1)
arrived_slot refs w body_is.Close h = cc

some_shaped : (x : Option Sparse) → is_some (one (λ (m : Sparse). m.shape) x) ≡ true → IsSome x
some_shaped (Some m) e = refl
some_shaped None e = cc

-- a slot that has a shape is filled
pub some_by_shape : (v : Option Extent) (x : Option Sparse) → v ≡ one (λ (m : Sparse). m.shape) x → is_some v ≡ true → IsSome x
some_by_shape v x e h = some_shaped x (ap is_some (sym e) ∙ h)

-- slots that all have a shape are all filled
pub all_some : (v : ℕ → Option Extent) (f : ℕ → Option Sparse) (ns : List ℕ) → ((n : ℕ) → v n ≡ one (λ (m : Sparse). m.shape) (f n)) → all_filled v ns ≡ true → AllSome f ns
all_some v f [] e h = tt
all_some v f (n ∷ ns) e h =
    split (is_some (v n))
    (λ t. let rest : all_filled v ns ≡ true = rw t at h in (some_by_shape (v n) (f n) (e n) t, all_some v f ns e rest))
    (λ u. let none : false ≡ true = rw u at h in cc)

origin_here : (refs : ℕ → ℕ) (w : Option Sparse) (x : Slot Sparse) (later : Option ℕ) (o : ℕ) → IsSlotOf refs w x → origin_of x later ≡ Some o → (0 < refs o) ⊎ (later ≡ Some o)
origin_here refs w slot_is.Empty later o h e = inr e
origin_here refs w (slot_is.Sheet m) later o h e = inr e
origin_here refs w (slot_is.Lost p) later o h e = let same : p ≡ o = cc in let l = h.1 in inl (rw (← same) l)

lost_origin : (refs : ℕ → ℕ) (f : ℕ → Option Sparse) (slots : List (Slot Sparse)) (ns : List ℕ) (o : ℕ) → ((n : ℕ) → IsSlotOf refs (f n) (slot_at slots n)) → first_lost slots ns ≡ Some o → 0 < refs o
lost_origin refs f slots [] o h e = cc
lost_origin refs f slots (n ∷ ns) o h e =
    elim (origin_here refs (f n) (slot_at slots n) (first_lost slots ns) o (h n) e) [
      | inl l ↦ l
      | inr k ↦ lost_origin refs f slots ns o h k
    ]

none_here : (refs : ℕ → ℕ) (w : Option Sparse) (x : Slot Sparse) (later : Option ℕ) → IsSlotOf refs w x → origin_of x later ≡ None → (sheet_of x ≡ w) × (later ≡ None)
none_here refs w slot_is.Empty later h e = (sym h, e)
none_here refs w (slot_is.Sheet m) later h e = (sym h, e)
none_here refs w (slot_is.Lost p) later h e = cc

none_lost : (refs : ℕ → ℕ) (f : ℕ → Option Sparse) (slots : List (Slot Sparse)) (ns : List ℕ) → ((n : ℕ) → IsSlotOf refs (f n) (slot_at slots n)) → first_lost slots ns ≡ None → AreSame (sheets_in slots) f ns
none_lost refs f slots [] h e = tt
none_lost refs f slots (n ∷ ns) h e =
    let k = none_here refs (f n) (slot_at slots n) (first_lost slots ns) (h n) e in
    (k.0, none_lost refs f slots ns h k.1)

pub held_by : {M : Type 0} (refs : ℕ → ℕ) (w : Option M) → IsSlotOf refs w (slot_of w)
held_by refs None = refl
held_by refs (Some m) = refl

result_stands : (s : Arithmetic) (refs : ℕ → ℕ) (op : Op) (f : ℕ → Option Sparse) (slots : List (Slot Sparse)) (found : Option ℕ) → AllSome f (operands_of op) → ((n : ℕ) → IsSlotOf refs (f n) (slot_at slots n)) → first_lost slots (reads_of op) ≡ found → IsSlotOf refs (result_of (matrices s) op f) (loss_or_result s op slots found)
result_stands s refs op f slots (Some o) filled h e = (some_result (matrices s) op f (lost_needs op slots o e) filled, lost_origin refs f slots (reads_of op) o h e)
result_stands s refs op f slots None filled h e =
    let same = same_result (matrices s) op (sheets_in slots) f (none_lost refs f slots (reads_of op) h e) in
    rw same (held_by refs (result_of (matrices s) op f))

-- the slot that an operation sets
pub worked : (s : Arithmetic) (refs refs' : ℕ → ℕ) (r : ℕ) (op : Op) (f : ℕ → Option Sparse) (slots : List (Slot Sparse)) (x : Slot Sparse) → AllSome f (operands_of op) → ((n : ℕ) → IsSlotOf refs' (f n) (slot_at slots n)) → IsWork s r op slots x (refs r) (refs' r) → IsSlotOf refs' (result_of (matrices s) op f) x
worked s refs refs' r op f slots x filled h (inl e) =
    let it = result_stands s refs' op f slots (first_lost slots (reads_of op)) filled h refl in
    rw e.0 it
worked s refs refs' r op f slots x filled h (inr e) =
    let more = e.1 in
    rw e.0 (some_result (matrices s) op f e.2 filled, omega arith)
