-- A rank after each of its halves: its slots still have the shapes that the check gives them.
use Rattle.std.proofs.Common.{◌≡◌, ◌≢◌, ℕ, ◌+◌, ◌<◌, ◌≤◌, Bool, true, false, List, [], ◌∷◌, length, length-append, get_or, refl, sym, ◌∙◌, ap, subst, arith, inl, inr}
use Rattle.std.specs.Prelude.{Option, Some, None, IfSome, IsSome, ◌==◌, if◌then◌else◌, slice_set}
use Rattle.std.specs.Int.{from_bool}
use Rattle.std.proofs.lemmas.Bool.Decides.{nat_tests}
use Rattle.std.proofs.lemmas.Option.{slice_get_within}
use Rattle.std.proofs.lemmas.List.{get_or-set_same, get_or-set_other}
use Rattle.std.proofs.Math.ListN.{length-set}
use Rattle.cb_semirings.specs.Arithmetic.{Arithmetic}
use Rattle.cb_matrix.specs.Sparse.{Sparse, Extent}
use Rattle.cb_letters.specs.declared.Tag.{Tag}
use Rattle.cb_letters.specs.Letters.{is_close}
use Rattle.cb_letters.specs.declared.Body.{Body}
use Rattle.cb_letters.specs.declared.Body.TheVariants as body_is
use Rattle.cb_plan.specs.declared.acts.Op.{Op}
use Rattle.cb_plan.specs.declared.acts.Act.{Act}
use Rattle.cb_plan.specs.declared.acts.Act.TheVariants as act_is
use Rattle.cb_plan.specs.declared.acts.Half.{Half}
use Rattle.cb_plan.specs.declared.acts.Half.TheVariants as half_is
use Rattle.cb_plan.specs.declared.stores.Slot.{Slot}
use Rattle.cb_plan.specs.declared.stores.Slot.TheVariants as slot_is
use Rattle.cb_plan.specs.Algebras.{matrices, shapes}
use Rattle.cb_plan.specs.declared.acts.Start.{Start}
use Rattle.cb_plan.specs.Checks.{Lanes, Passes, all_filled, none_shut, operands_of, shut_after, started}
use Rattle.cb_plan.specs.Plans.{CheckedView, IsChecked}
use Rattle.cb_plan.specs.Programs.{halves_of, project_from}
use Rattle.cb_plan.proofs.PassingActs.{checked_passes}
use Rattle.cb_plan.specs.Meaning.{State, act, one, needs_memory, result_of, target_of}
use Rattle.cb_plan.specs.Stores.{Fits, sheet_of, sheets_in, shapes_in, slot_of, is_filled, is_lost}
use Rattle.cb_plan.proofs.ActOnStores.{first_below}
use Rattle.cb_plan.proofs.ShapesOfMeaning.{shape_turns, act_turns}
use Rattle.cb_rank.specs.Halves.{slot_at, asks_memory, is_whole, first_lost, reads_of, loss_or_result, work_result, origin_of, IsCopy, IsWork, slot_of_body, HasKind}
use Rattle.cb_rank.specs.declared.wants.Arrival.{Arrival}
use Rattle.cb_rank.specs.declared.wants.Arrival.TheVariants as arrival_is
use Rattle.cb_rank.specs.Ranks.{RankView, IsRank, HasShape, FitsAt, HasSlot, IsAwaited, next_half, new_rank, onward, shapes_at, slots_with}
use Rattle.cb_rank.specs.Steps.{HandsOut, Works}
use Rattle.cb_plan.proofs.Effects.{split}
use Rattle.cb_rank.proofs.OwnActs.{counted, one_half, meaning-before_next}
use Rattle.cb_rank.proofs.ByOperation.{AreSame, same_result, some_result, lost_needs, filled_slots}
use Rattle.cb_rank.proofs.Halves.{is_post, is_take, is_work, is_shut, is_end}
use Rattle.cb_rank.proofs.NextAct.{next_one, outline, shapes_next, finds}

-- the slots have the shapes that an act leaves at this rank
abbrev pub HaveShapes : RankView → State Extent → Act → List (Slot Sparse) → Type 0
HaveShapes x outline a slots = (n : ℕ) → HasShape (act shapes a outline x.me n) (slot_at slots n)

-- one more half
pub goes_on : (x : RankView) (h : Half) (slots : List (Slot Sparse)) (refusals : ℕ) (is : IsRank x) (next : next_half x ≡ Some h) → refusals ≤ x.refusals + 1 → length slots ≡ 256 →
    HaveShapes x (outline x h is next) (next_one x h is next).0 slots → IsRank (onward x slots refusals)
goes_on x h slots refusals is next few size have = record {
  checked = is.checked;
  number = is.number;
  program = is.program;
  progress = let l = slice_get_within x.program x.done h next in omega arith;
  refusals = let l = is.refusals in omega arith;
  size = size;
  shapes = λ n. subst (λ v. HasShape v (slot_at slots n)) (sym (shapes_next x h is next n)) (have n);
}

-- a half that sets no slot
module _ (x : RankView) (h : Half) (is : IsRank x) (next : next_half x ≡ Some h) where
  abbrev o : State Extent
  o = outline x h is next

  abbrev a : Act
  a = (next_one x h is next).0

  moved_away : (to : ℕ) (tag : Tag) (slot into : ℕ) → a ≡ act_is.Move x.me to tag slot into → to ≢ x.me → HaveShapes x o a x.slots
  moved_away to tag slot into e ne n =
      let f : (to == x.me) ≡ false = grind (arith, nat_tests) in
      subst (λ v. HasShape v (slot_at x.slots n)) (let same : act shapes a o x.me n ≡ o x.me n = rw (e, f) refl in sym same) (is.shapes n)

  shut_here : (from to : ℕ) → a ≡ act_is.Shut from to → HaveShapes x o a x.slots
  shut_here from to e n = subst (λ v. HasShape v (slot_at x.slots n)) (let same : act shapes a o x.me n ≡ o x.me n = rw e refl in sym same) (is.shapes n)

  -- a half that sets a slot
  set_slot : (t : ℕ) (y : Slot Sparse) → t < 256 → HasShape (act shapes a o x.me t) y → ((n : ℕ) → n ≢ t → act shapes a o x.me n ≡ o x.me n) → HaveShapes x o a (slice_set x.slots t y)
  set_slot t y l has other n =
      split (n == t)
      (λ u. let same : n ≡ t = grind (arith, nat_tests) in
      let size = is.size in
      let at : slot_at (slice_set x.slots t y) t ≡ y = get_or-set_same x.slots t y slot_is.Empty (omega arith) in
      subst (λ k. HasShape (act shapes a o x.me k) (slot_at (slice_set x.slots t y) k)) (sym same) (subst (λ z. HasShape (act shapes a o x.me t) z) (sym at) has))
      (λ u. let ne : n ≢ t = grind (arith, nat_tests) in
      let at : slot_at (slice_set x.slots t y) n ≡ slot_at x.slots n = get_or-set_other x.slots t n y slot_is.Empty ne in
      rw (at, other n ne) (is.shapes n))

-- after a Post a rank is still one, with at most one more refusal
pub posts_on : (x : RankView) (to : ℕ) (tag : Tag) (slot refusals : ℕ) → IsRank x → next_half x ≡ Some (half_is.Post to tag slot) → refusals ≤ x.refusals + 1 → IsRank (onward x x.slots refusals)
posts_on x to tag slot refusals is next few =
    let h : Half = half_is.Post to tag slot in
    let k = is_post (outline x h is next) (next_one x h is next).0 x.me to tag slot (next_one x h is next).2 in
    goes_on x h x.slots refusals is next few is.size (moved_away x h is next to tag slot k.0 k.1 (finds x h is next).1)

-- after a Shut a rank is still one
pub shuts_on : (x : RankView) (to : ℕ) → IsRank x → next_half x ≡ Some (half_is.Shut to) → IsRank (onward x x.slots x.refusals)
shuts_on x to is next =
    let h : Half = half_is.Shut to in
    goes_on x h x.slots x.refusals is next (omega arith) is.size (shut_here x h is next x.me to (is_shut (outline x h is next) (next_one x h is next).0 x.me to (next_one x h is next).2))

-- after an End a rank is still one
pub ends_on : (x : RankView) (from : ℕ) → IsRank x → next_half x ≡ Some (half_is.End from) → IsRank (onward x x.slots x.refusals)
ends_on x from is next =
    let h : Half = half_is.End from in
    goes_on x h x.slots x.refusals is next (omega arith) is.size (shut_here x h is next from x.me (is_end (outline x h is next) (next_one x h is next).0 x.me from (next_one x h is next).2))

-- a body of a Take's kind has its shape
kind_shape : (shape : Extent) (b : Body Sparse) → HasKind shape b → HasShape (Some shape) (slot_of_body b)
kind_shape shape (body_is.Sheet m) h = ap Some (sym h)
kind_shape shape (body_is.Lost o) h = refl
kind_shape shape body_is.Close h = absurd h

-- after a Take a rank is still one, as its slot has the half's shape or is lost
pub takes_on : (x : RankView) (from : ℕ) (tag : Tag) (into : ℕ) (shape : Extent) (b : Body Sparse) → IsRank x → next_half x ≡ Some (half_is.Take from tag into shape) → HasKind shape b → IsRank (onward x (slice_set x.slots into (slot_of_body b)) x.refusals)
takes_on x from tag into shape b is next kind =
    let h : Half = half_is.Take from tag into shape in
    let o = outline x h is next in
    let a = (next_one x h is next).0 in
    let k = is_take o a x.me from tag into shape (next_one x h is next).2 in
    let own : (x.me == x.me) ≡ true = grind (arith, nat_tests) in
    let here : (into == into) ≡ true = grind (arith, nat_tests) in
    let at : act shapes a o x.me into ≡ Some shape = rw (k.1, own, here) k.2 in
    goes_on x h (slice_set x.slots into (slot_of_body b)) x.refusals is next (omega arith) (length-set x.slots into (slot_of_body b) ∙ is.size)
    (set_slot x h is next into (slot_of_body b) (finds x h is next).2 (subst (λ v. HasShape v (slot_of_body b)) (sym at) (kind_shape shape b kind))
    (λ n ne. let f : (into == n) ≡ false = grind (arith, nat_tests) in rw (k.1, own, f) refl))

shape_here : (v : Option Extent) (y : Slot Sparse) (later : Option ℕ) → HasShape v y → origin_of y later ≡ None → (one (λ (m : Sparse). m.shape) (sheet_of y) ≡ v) × (later ≡ None)
shape_here v slot_is.Empty later h e = (sym h, e)
shape_here v (slot_is.Sheet m) later h e = (sym h, e)
shape_here v (slot_is.Lost p) later h e = cc

-- slots of which none is lost have the shapes that the check gives them
pub none_lost_shapes : (v : ℕ → Option Extent) (slots : List (Slot Sparse)) (ns : List ℕ) → ((n : ℕ) → HasShape (v n) (slot_at slots n)) → first_lost slots ns ≡ None → AreSame (shapes_in slots) v ns
none_lost_shapes v slots [] h e = tt
none_lost_shapes v slots (n ∷ ns) h e =
    let k = shape_here (v n) (slot_at slots n) (first_lost slots ns) (h n) e in
    (k.0, none_lost_shapes v slots ns h k.1)

held_shape : (v : Option Sparse) → HasShape (one (λ (m : Sparse). m.shape) v) (slot_of v)
held_shape None = refl
held_shape (Some m) = refl

-- the shape of a result is the result of the shapes
result_shape : (s : Arithmetic) (op : Op) (slots : List (Slot Sparse)) → one (λ (m : Sparse). m.shape) (result_of (matrices s) op (sheets_in slots)) ≡ result_of shapes op (shapes_in slots)
result_shape s op slots =
    let all : State Sparse = λ r. sheets_in slots in
    let own : (target_of op == target_of op) ≡ true = grind (arith, nat_tests) in
    let turned = act_turns (λ (m : Sparse). m.shape) (matrices s) shapes (shape_turns s) (act_is.Work 0 op) all 0 (target_of op) in
    rw own at turned

result_has : (s : Arithmetic) (op : Op) (v : ℕ → Option Extent) (slots : List (Slot Sparse)) (lost : Option ℕ) → all_filled v (operands_of op) ≡ true → ((n : ℕ) → HasShape (v n) (slot_at slots n)) → first_lost slots (reads_of op) ≡ lost → HasShape (result_of shapes op v) (loss_or_result s op slots lost)
result_has s op v slots (Some o) filled has e = some_result shapes op v (lost_needs op slots o e) (filled_slots v (operands_of op) filled)
result_has s op v slots None filled has e =
    let same = same_result shapes op (shapes_in slots) v (none_lost_shapes v slots (reads_of op) has e) in
    let turns = result_shape s op slots in
    subst (λ z. HasShape z (slot_of (result_of (matrices s) op (sheets_in slots)))) (turns ∙ same) (held_shape (result_of (matrices s) op (sheets_in slots)))

work_has : (s : Arithmetic) (me : ℕ) (op : Op) (v : ℕ → Option Extent) (slots : List (Slot Sparse)) (y : Slot Sparse) (old new : ℕ) → all_filled v (operands_of op) ≡ true → ((n : ℕ) → HasShape (v n) (slot_at slots n)) → IsWork s me op slots y old new → HasShape (result_of shapes op v) y
work_has s me op v slots y old new filled has (inl e) = subst (λ z. HasShape (result_of shapes op v) z) (sym e.0) (result_has s op v slots (first_lost slots (reads_of op)) filled has refl)
work_has s me op v slots y old new filled has (inr e) = subst (λ z. HasShape (result_of shapes op v) z) (sym e.0) (some_result shapes op v e.2 (filled_slots v (operands_of op) filled))

work_few : (s : Arithmetic) (me : ℕ) (op : Op) (slots : List (Slot Sparse)) (y : Slot Sparse) (old new : ℕ) → IsWork s me op slots y old new → new ≤ old + 1
work_few s me op slots y old new (inl e) = let k = e.1 in omega arith
work_few s me op slots y old new (inr e) = let k = e.1 in omega arith

-- after a Work a rank is still one, as its slot has what the operation leaves or is lost
pub works_on : (s : Arithmetic) (x : RankView) (op : Op) (y : Slot Sparse) (refusals : ℕ) → IsRank x → next_half x ≡ Some (half_is.Work op) → IsWork s x.me op x.slots y x.refusals refusals → IsRank (onward x (slice_set x.slots (target_of op) y) refusals)
works_on s x op y refusals is next work =
    let h : Half = half_is.Work op in
    let o = outline x h is next in
    let a = (next_one x h is next).0 in
    let e = is_work o a x.me op (next_one x h is next).2 in
    let f = finds x h is next in
    let own : (x.me == x.me) ≡ true = grind (arith, nat_tests) in
    let here : (target_of op == target_of op) ≡ true = grind (arith, nat_tests) in
    let at : act shapes a o x.me (target_of op) ≡ result_of shapes op (o x.me) = rw (e, own, here) refl in
    let low : target_of op < 256 = (first_below 256 (target_of op) (operands_of op) f.0).0 in
    goes_on x h (slice_set x.slots (target_of op) y) refusals is next (work_few s x.me op x.slots y x.refusals refusals work) (length-set x.slots (target_of op) y ∙ is.size)
    (set_slot x h is next (target_of op) y low (subst (λ v. HasShape v y) (sym at) (work_has s x.me op (o x.me) x.slots y x.refusals refusals f.1 is.shapes work))
    (λ n ne. let g : (target_of op == n) ≡ false = grind (arith, nat_tests) in rw (e, own, g) refl))

-- a rank that has done nothing is one
pub starts_as : (plan : CheckedView) (me : ℕ) (slots : List (Slot Sparse)) → IsChecked plan → me < plan.ranks → FitsAt plan.starts me slots → IsRank (new_rank plan me slots)
starts_as plan me slots checked inside fits = record {
  checked = checked;
  number = inside;
  program = refl;
  progress = omega arith;
  refusals = omega arith;
  size = fits.size;
  shapes = λ n.
      let begins : shapes_at plan me 0 n ≡ started plan.starts me n = meaning-before_next shapes plan.acts me (started plan.starts) n in
      subst (λ v. HasShape v (slot_at slots n)) (fits.shapes n ∙ sym begins) (whole_shape (slot_at slots n) (fits.none_lost n));
}
  where
    whole_shape : (y : Slot Sparse) → is_lost y ≡ false → HasShape (one (λ (m : Sparse). m.shape) (sheet_of y)) y
    whole_shape slot_is.Empty e = refl
    whole_shape (slot_is.Sheet m) e = refl
    whole_shape (slot_is.Lost o) e = cc

-- a store's part of stores that fit
pub fits_at : (ranks : ℕ) (starts : List Start) (stores : List (List (Slot Sparse))) (r : ℕ) → Fits ranks starts stores → r < ranks → FitsAt starts r (get_or stores r [])
fits_at ranks starts stores r fits inside = record {
  size = fits.table.cols r inside;
  shapes = λ n. ap (λ (f : State Extent). f r n) fits.shapes;
  none_lost = λ n. fits.none_lost r n;
}

-- what has arrived and is awaited
pub accepts_on : (x : RankView) (h : Half) (arrival : Arrival Sparse) → IsRank x → next_half x ≡ Some h → IsAwaited (Some h) x.me arrival → IsRank (onward x (slots_with (Some h) arrival x.slots) x.refusals)
accepts_on x (half_is.Take from tag into shape) (arrival_is.Letter y) is next e = takes_on x from tag into shape y.body is next e.3
accepts_on x (half_is.End from) (arrival_is.End k) is next e = ends_on x from is next
accepts_on x _ arrival is next e = absurd e

-- a slot that is filled for the check is filled
pub filled_slot : (v : Option Extent) (y : Slot Sparse) → IsSome v → HasShape v y → is_filled y ≡ true
filled_slot v slot_is.Empty some h = let none : IsSome {T = Extent} None = subst (λ x. IsSome x) h some in absurd (grind (arith, nat_tests))
filled_slot v (slot_is.Sheet m) some h = refl
filled_slot v (slot_is.Lost o) some h = refl

-- no rank's program is longer than the plan
pub short_program : (ranks : ℕ) (shut : Lanes) (acts : List Act) (state : State Extent) (r : ℕ) → Passes ranks state shut acts → length (project_from state acts r) ≤ length acts
short_program ranks shut [] state r p = omega arith
short_program ranks shut (a ∷ acts) state r p =
    let size = counted ranks state shut a r p.0 in
    let one = one_half a r in
    let rest = short_program ranks (shut_after a shut) acts (act shapes a state) r p.1 in
    let all = length-append (halves_of state a r) (project_from (act shapes a state) acts r) in
    omega arith

-- a program is no longer than the longest plan
pub few_halves : (x : RankView) → IsRank x → length x.program ≤ 4294967295
few_halves x is =
    let size = short_program x.plan.ranks none_shut x.plan.acts (started x.plan.starts) x.me (checked_passes x.plan.ranks 0 (started x.plan.starts) none_shut x.plan.acts is.checked.no_fault) in
    let few = is.checked.few in
    let same = ap length is.program in
    omega arith

-- a rank's count: its refusals so far, and one more if it was refused
pub copy_counts : (me : ℕ) (y : Slot Sparse) (b : Body Sparse) (n k : ℕ) → IsCopy me y b 0 k → IsCopy me y b n (n + k)
copy_counts me (slot_is.Sheet m) (body_is.Sheet p) n k c = let e = c.1 in (c.0, omega arith)
copy_counts me (slot_is.Sheet m) (body_is.Lost o) n k c = let e = c.1 in (c.0, omega arith)
copy_counts me (slot_is.Lost o) (body_is.Lost p) n k c = let e = c.1 in (c.0, omega arith)
copy_counts me _ b n k c = absurd c

-- a close mark is no copy
pub copy_is_open : (me : ℕ) (y : Slot Sparse) (b : Body Sparse) (old new : ℕ) → IsCopy me y b old new → is_close b ≡ false
copy_is_open me y (body_is.Sheet p) old new c = refl
copy_is_open me y (body_is.Lost o) old new c = refl
copy_is_open me slot_is.Empty body_is.Close old new c = absurd c
copy_is_open me _ b old new c = absurd c

-- a truth value as a number is at most one
pub bool_few : (b : Bool) → from_bool b ≤ 1
bool_few true = omega arith
bool_few false = omega arith

-- a rank after it has handed out a copy, made or refused
pub hands_of : (x : RankView) (to : ℕ) (tag : Tag) (slot : ℕ) (body : Body Sparse) (b : Bool) → next_half x ≡ Some (half_is.Post to tag slot) → IsCopy x.me (slot_at x.slots slot) body 0 (from_bool b) → HandsOut x (next_half x) tag body (onward x x.slots (x.refusals + from_bool b))
hands_of x to tag slot body b next copy = rw next (refl, copy_counts x.me (slot_at x.slots slot) body x.refusals (from_bool b) copy, refl)

-- if it was refused whenever it asked for memory, its count is one more
pub starves : (x : RankView) (h : Half) (n : ℕ) (b : Bool) → next_half x ≡ Some h → n ≡ from_bool b → (asks_memory x.slots h ≡ true → b ≡ true) → IfSome (next_half x) (λ h. asks_memory x.slots h ≡ true → x.refusals + n ≡ x.refusals + 1)
starves x h n b next count refused = rw next (λ asks. let e : from_bool b ≡ 1 = rw (refused asks) refl in omega arith)

-- an operation asks for memory if it needs some and no operand is lost
pub asks : (needs : Bool) (lost : Option ℕ) → (if needs then is_whole lost else false) ≡ true → (needs ≡ true) × (lost ≡ None)
asks true None e = (refl, refl)
asks true (Some o) e = cc
asks false lost e = cc

-- an operation that was done, or refused
pub worked_by : (s : Arithmetic) (me : ℕ) (op : Op) (old new : List (Slot Sparse)) (n : ℕ) (b : Bool) → (b ≡ false → new ≡ slice_set old (target_of op) (work_result s op old)) → (b ≡ true → new ≡ slice_set old (target_of op) (slot_is.Lost me))
    → (b ≡ true → (needs_memory op ≡ true) × (first_lost old (reads_of op) ≡ None)) → (y : Slot Sparse) × IsWork s me op old y n (n + from_bool b) × (new ≡ slice_set old (target_of op) y)
worked_by s me op old new n true done lost cause = (slot_is.Lost me, inr (refl, refl, (cause refl).0, (cause refl).1), lost refl)
worked_by s me op old new n false done lost cause = (work_result s op old, inl (refl, omega arith), done refl)

-- a rank after its operation, done or refused
pub works_of : (s : Arithmetic) (x : RankView) (op : Op) (new : List (Slot Sparse)) (b : Bool) → IsRank x → next_half x ≡ Some (half_is.Work op) → (b ≡ false → new ≡ slice_set x.slots (target_of op) (work_result s op x.slots)) → (b ≡ true → new ≡ slice_set x.slots (target_of op) (slot_is.Lost x.me))
    → (b ≡ true → (needs_memory op ≡ true) × (first_lost x.slots (reads_of op) ≡ None)) → Works s x (next_half x) (onward x new (x.refusals + from_bool b)) × IsRank (onward x new (x.refusals + from_bool b))
works_of s x op new b is next done lost cause =
    let it = worked_by s x.me op x.slots new x.refusals b done lost cause in
    let after : onward x new (x.refusals + from_bool b) ≡ onward x (slice_set x.slots (target_of op) it.0) (x.refusals + from_bool b) = ap (λ z. onward x z (x.refusals + from_bool b)) it.2 in
    (rw next (it.0, it.1, after), subst (λ y. IsRank y) (sym after) (works_on s x op it.0 (x.refusals + from_bool b) is next it.1))

-- the slot that a Take fills exists
pub slot_exists : (x : RankView) (h : Half) → IsRank x → next_half x ≡ Some h → HasSlot h
slot_exists x (half_is.Take from tag into shape) is next = (finds x (half_is.Take from tag into shape) is next).2
slot_exists x _ is next = tt
