-- The shapes with which slots begin.
use Rattle.std.proofs.Common.{◌≡◌, ℕ, ◌+◌, ◌<◌, ◌≤◌, true, false, List, [], ◌∷◌, ◌++◌, length, take, get_or, refl, sym, ap, ◌∙◌, ⊎_elim, arith}
use Rattle.std.specs.Prelude.{Option, Some, None, All, ◌==◌, ◌&&◌}
use Rattle.std.proofs.lemmas.Bool.{cases_lt}
use Rattle.std.proofs.lemmas.Bool.Decides.{nat_tests}
use Rattle.std.proofs.lemmas.List.{take_more, get_or_past}
use Rattle.std.proofs.lemmas.List.Elements.{All-head, All-tail}
use Rattle.cb_matrix.specs.Sparse.{Sparse, Extent}
use Rattle.cb_plan.specs.declared.acts.Start.{Start}
use Rattle.cb_plan.specs.declared.stores.Slot.{Slot}
use Rattle.cb_plan.specs.declared.stores.Slot.TheVariants as slot_is
use Rattle.cb_plan.specs.Checks.{started, started_from, with_start}
use Rattle.cb_plan.specs.Meaning.{State, one}
use Rattle.cb_plan.specs.Plans.{CheckedView, IsChecked}
use Rattle.cb_plan.specs.Stores.{sheet_of, shapes_in, is_lost}
use Rattle.cb_rank.specs.Halves.{slot_at}
use Rattle.cb_rank.specs.Ranks.{FitsAt}
use Rattle.cb_rank_driven.specs.FirstStores.{HoldsShape}

-- one more start
one_more : (ss : List Start) (s : Start) (state : State Extent) → started_from (ss ++ s ∷ []) state ≡ with_start s (started_from ss state)
one_more [] s state = refl
one_more (x ∷ ss) s state = one_more ss s (with_start x state)

started_more : (ss : List Start) (k : ℕ) (d : Start) → k < length ss → started (take (k + 1) ss) ≡ with_start (get_or ss k d) (started (take k ss))
started_more ss k d l = ap started (take_more ss k d l) ∙ one_more (take k ss) (get_or ss k d) (λ _ _. None)

-- the next start is of this slot
pub found_next : (ss : List Start) (k r n : ℕ) (d s : Start) → k < length ss → s ≡ get_or ss k d → (s.rank == r && s.slot == n) ≡ true → Some s.shape ≡ started (take (k + 1) ss) r n
found_next ss k r n d s l is t =
    let here : with_start s (started (take k ss)) r n ≡ Some s.shape = rw t refl in
    sym here ∙ ap (λ x. with_start x (started (take k ss)) r n) is ∙ sym (ap (λ (f : State Extent). f r n) (started_more ss k d l))

-- it is of another
pub kept_next : (ss : List Start) (k r n : ℕ) (d s : Start) (found : Option Extent) → k < length ss → s ≡ get_or ss k d → (s.rank == r && s.slot == n) ≡ false → found ≡ started (take k ss) r n → found ≡ started (take (k + 1) ss) r n
kept_next ss k r n d s found l is other so_far =
    let here : with_start s (started (take k ss)) r n ≡ started (take k ss) r n = rw other refl in
    so_far ∙ sym here ∙ ap (λ x. with_start x (started (take k ss)) r n) is ∙ sym (ap (λ (f : State Extent). f r n) (started_more ss k d l))

-- a slot that doesn't exist has no start
no_start : (ss : List Start) (state : State Extent) (ranks r n : ℕ) → All (λ (s : Start). (s.rank < ranks) × (s.slot < 256)) ss → 256 ≤ n → started_from ss state r n ≡ state r n
no_start [] state ranks r n exist past = refl
no_start (s ∷ ss) state ranks r n exist past =
    let low = (All-head (λ (x : Start). (x.rank < ranks) × (x.slot < 256)) s ss exist).1 in
    let f : (s.rank == r && s.slot == n) ≡ false = grind (arith, nat_tests) in
    no_start ss (with_start s state) ranks r n (All-tail (λ (x : Start). (x.rank < ranks) × (x.slot < 256)) s ss exist) past ∙ rw f refl

-- what a slot holds, in the words of the check
shape_held : (shape : Option Extent) (x : Slot Sparse) → HoldsShape shape x → (one (λ (m : Sparse). m.shape) (sheet_of x) ≡ shape) × (is_lost x ≡ false)
shape_held shape slot_is.Empty h = (sym h, refl)
shape_held shape (slot_is.Sheet m) h = (sym h, refl)
shape_held shape (slot_is.Lost o) h = absurd h

pub held_shape : (shape : Option Extent) (x : Slot Sparse) → one (λ (m : Sparse). m.shape) (sheet_of x) ≡ shape → is_lost x ≡ false → HoldsShape shape x
held_shape shape slot_is.Empty e f = sym e
held_shape shape (slot_is.Sheet m) e f = sym e
held_shape shape (slot_is.Lost o) e f = let never : true ≡ false = f in cc

-- slots that all hold their shapes are those with which the plan begins
pub all_fit : (p : CheckedView) (me : ℕ) (slots : List (Slot Sparse)) → IsChecked p → length slots ≡ 256 → ((n : ℕ) → n < 256 → HoldsShape (started p.starts me n) (slot_at slots n)) → FitsAt p.starts me slots
all_fit p me slots checked size holds =
    let each : (n : ℕ) → (shapes_in slots n ≡ started p.starts me n) × (is_lost (slot_at slots n) ≡ false) = λ n.
    ⊎_elim
    (λ (l : n < 256). shape_held (started p.starts me n) (slot_at slots n) (holds n l))
    (λ (l : 256 ≤ n).
    let none : slot_at slots n ≡ slot_is.Empty = get_or_past slots n slot_is.Empty (omega arith) in
    (ap (λ x. one (λ (m : Sparse). m.shape) (sheet_of x)) none ∙ sym (no_start p.starts (λ _ _. None) p.ranks me n checked.exist l), ap is_lost none))
    (cases_lt n 256) in
    record { size = size; shapes = λ n. (each n).0; none_lost = λ n. (each n).1 }
