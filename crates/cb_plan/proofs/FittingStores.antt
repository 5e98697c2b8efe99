-- Stores that fit a plan: each start finds its block, and as many slots are filled as there are starts.
use Rattle.std.proofs.Common.{◌≡◌, ℕ, suc, ◌<◌, true, false, List, [], ◌∷◌, length, refl, sym, ap, ◌∙◌, arith}
use Rattle.std.specs.Prelude.{Option, Some, None, ◌==◌, ◌&&◌, All, AllPairs, IsTrue, ◌↔◌}
use Rattle.std.proofs.lemmas.Bool.Decides.{nat_tests}
use Rattle.std.proofs.lemmas.List.Elements.{All-head, All-tail}
use Rattle.cb_matrix.specs.Sparse.{Sparse, Extent}
use Rattle.cb_plan.specs.declared.acts.Start.{Start}
use Rattle.cb_plan.specs.declared.stores.Slot.{Slot}
use Rattle.cb_plan.specs.declared.stores.Slot.TheVariants as slot_is
use Rattle.cb_plan.specs.Meaning.{State, one}
use Rattle.cb_plan.specs.Checks.{started, started_from, with_start, same_shape}
use Rattle.cb_plan.specs.Plans.{CheckedView, IsChecked, IsElsewhere}
use Rattle.cb_plan.specs.Stores.{Fits, sheet_of, shapes_of, is_lost, is_filled, is_shape, stands, all_stand, count_filled, NoneLost}
use Rattle.cb_plan.specs.PlanTables.{IsTable, cell, cell_set}
use Rattle.cb_plan.proofs.Cells.{cell_after_set, set_is_table}
use Rattle.cb_plan.proofs.SlotCounts.{count_emptied, none_filled, all_empty}
use Rattle.cb_plan.proofs.Effects.{split, same_state}

pairs_head : {X : Type 0} (R : X → X → Type 0) (x : X) (xs : List X) → AllPairs R (x ∷ xs) → All (R x) xs
pairs_head R x xs h = λ k d l. h 0 (suc k) d (omega arith) (omega arith)

pairs_tail : {X : Type 0} (R : X → X → Type 0) (x : X) (xs : List X) → AllPairs R (x ∷ xs) → AllPairs R xs
pairs_tail R x xs h = λ i j d l m. h (suc i) (suc j) d (omega arith) (omega arith)

-- two starts elsewhere name no slot both
apart : (s x : Start) → IsElsewhere s x → (s.rank == x.rank && s.slot == x.slot) ≡ false
apart s x h = grind (arith, nat_tests)

one_place : (s x : Start) (r n : ℕ) → IsElsewhere s x → (s.rank == r && s.slot == n) ≡ true → (x.rank == r && x.slot == n) ≡ false
one_place s x r n h t = grind (arith, nat_tests)

with_both : (s x : Start) (state : State Extent) → IsElsewhere s x → with_start x (with_start s state) ≡ with_start s (with_start x state)
with_both s x state h = same_state (with_start x (with_start s state)) (with_start s (with_start x state)) (λ r n. split (s.rank == r && s.slot == n)
    (λ t. let f = one_place s x r n h t in rw (t, f) refl)
    (λ t. rw t refl))

-- the first start may come last
first_last : (s : Start) (ss : List Start) (state : State Extent) → All (IsElsewhere s) ss → started_from ss (with_start s state) ≡ with_start s (started_from ss state)
first_last s [] state h = refl
first_last s (x ∷ ss) state h =
    ap (started_from ss) (with_both s x state (All-head (IsElsewhere s) x ss h)) ∙ first_last s ss (with_start x state) (All-tail (IsElsewhere s) x ss h)

no_start : (s : Start) (ss : List Start) (state : State Extent) → All (IsElsewhere s) ss → started_from ss state s.rank s.slot ≡ state s.rank s.slot
no_start s [] state h = refl
no_start s (x ∷ ss) state h =
    let f : (x.rank == s.rank && x.slot == s.slot) ≡ false = let g = All-head (IsElsewhere s) x ss h in grind (arith, nat_tests) in
    no_start s ss (with_start x state) (All-tail (IsElsewhere s) x ss h) ∙ rw f refl

same_extent : (a b : Extent) → same_shape a b ≡ true → a ≡ b
same_extent a b h =
    let e : a.rows ≡ b.rows = grind (arith, nat_tests) in
    let f : a.cols ≡ b.cols = grind (arith, nat_tests) in
    λ i. record { rows = e i; cols = f i }

shape_found : (e : Extent) (x : Option Extent) → is_shape e x ≡ true → x ≡ Some e
shape_found e None h = absurd (grind (arith, nat_tests))
shape_found e (Some f) h = ap Some (same_extent f e h)

shape_there : (e : Extent) (x : Option Extent) → x ≡ Some e → is_shape e x ≡ true
shape_there e x h = rw h (grind (arith, nat_tests))

-- a slot with a shape is filled, and not lost
has_shape : (x : Slot Sparse) (e : Extent) → one (λ (m : Sparse). m.shape) (sheet_of x) ≡ Some e → (is_filled x ≡ true) × (is_lost x ≡ false)
has_shape slot_is.Empty e h = absurd (grind arith)
has_shape (slot_is.Sheet m) e h = (refl, refl)
has_shape (slot_is.Lost o) e h = absurd (grind arith)

no_shape : (x : Slot Sparse) → one (λ (m : Sparse). m.shape) (sheet_of x) ≡ None → is_lost x ≡ false → x ≡ slot_is.Empty
no_shape slot_is.Empty h k = refl
no_shape (slot_is.Sheet m) h k = absurd (grind arith)
no_shape (slot_is.Lost o) h k = absurd (grind (arith, nat_tests))

module _ (ranks : ℕ) where
  abbrev Exists : Start → Type 0
  Exists s = (s.rank < ranks) × (s.slot < 256)

  -- the stores without the block of a start
  module _ (s : Start) (t : List (List (Slot Sparse))) (table : IsTable ranks 256 t) (exists : Exists s) where
    abbrev rest : List (List (Slot Sparse))
    rest = cell_set t s.rank s.slot slot_is.Empty

    cell_there : (r n : ℕ) → (s.rank == r && s.slot == n) ≡ true → (cell slot_is.Empty rest r n ≡ slot_is.Empty) × (cell slot_is.Empty t r n ≡ cell slot_is.Empty t s.rank s.slot)
    cell_there r n u =
        let e : s.rank ≡ r = grind (arith, nat_tests) in
        let f : s.slot ≡ n = grind (arith, nat_tests) in
        (cell_after_set slot_is.Empty ranks 256 t s.rank s.slot slot_is.Empty table exists.0 exists.1 r n ∙ rw u refl, ap (λ q. cell slot_is.Empty t q n) (sym e) ∙ ap (cell slot_is.Empty t s.rank) (sym f))

    cell_elsewhere : (r n : ℕ) → (s.rank == r && s.slot == n) ≡ false → cell slot_is.Empty rest r n ≡ cell slot_is.Empty t r n
    cell_elsewhere r n u = cell_after_set slot_is.Empty ranks 256 t s.rank s.slot slot_is.Empty table exists.0 exists.1 r n ∙ rw u refl

    same_stands : (ss : List Start) → All (IsElsewhere s) ss → all_stand rest ss ≡ all_stand t ss
    same_stands [] h = refl
    same_stands (x ∷ ss) h =
        let e = cell_elsewhere x.rank x.slot (apart s x (All-head (IsElsewhere s) x ss h)) in
        ap (λ y. is_shape x.shape (one (λ (m : Sparse). m.shape) (sheet_of y)) && all_stand rest ss) e
        ∙ ap (λ b. stands t x && b) (same_stands ss (All-tail (IsElsewhere s) x ss h))

  -- if each start finds its block and nothing else is filled, the shapes are those at the start
  pub fits_by_count : (starts : List Start) (t : List (List (Slot Sparse))) → IsTable ranks 256 t → All Exists starts → AllPairs IsElsewhere starts → all_stand t starts ≡ true → count_filled t ≡ length starts →
      (shapes_of t ≡ started starts) × NoneLost t
  fits_by_count [] t table exist once stand count = (
    same_state (shapes_of t) (started []) (λ r n. ap (λ x. one (λ (m : Sparse). m.shape) (sheet_of x)) (none_filled t r n count)),
    λ r n. ap is_lost (none_filled t r n count),
  )
  fits_by_count (s ∷ ss) t table exist once stand count =
      let here : Exists s = All-head Exists s ss exist in
      let others : All (IsElsewhere s) ss = pairs_head IsElsewhere s ss once in
      let first : stands t s ≡ true = grind (arith, nat_tests) in
      let later : all_stand t ss ≡ true = grind (arith, nat_tests) in
      let found : shapes_of t s.rank s.slot ≡ Some s.shape = shape_found s.shape (shapes_of t s.rank s.slot) first in
      let is = has_shape (cell slot_is.Empty t s.rank s.slot) s.shape found in
      let fewer = count_emptied ranks t s.rank s.slot table here.0 here.1 is.0 in
      let tail = fits_by_count ss (rest s t table here) (set_is_table ranks 256 t s.rank s.slot slot_is.Empty table here.0) (All-tail Exists s ss exist) (pairs_tail IsElsewhere s ss once)
      (same_stands s t table here ss others ∙ later) (omega (arith, fewer, count)) in (
        same_state (shapes_of t) (with_start s (started ss)) (λ r n. split (s.rank == r && s.slot == n)
            (λ u. rw u (ap (λ x. one (λ (m : Sparse). m.shape) (sheet_of x)) (cell_there s t table here r n u).1 ∙ found))
            (λ u. rw u (ap (λ x. one (λ (m : Sparse). m.shape) (sheet_of x)) (sym (cell_elsewhere s t table here r n u)) ∙ ap (λ (f : State Extent). f r n) tail.0)))
            ∙ sym (first_last s ss (λ _ _. None) others),
        λ r n. split (s.rank == r && s.slot == n)
            (λ u. ap is_lost (cell_there s t table here r n u).1 ∙ is.1)
            (λ u. ap is_lost (sym (cell_elsewhere s t table here r n u)) ∙ tail.1 r n),
      )

  -- and the other way round
  pub count_by_fits : (starts : List Start) (t : List (List (Slot Sparse))) → IsTable ranks 256 t → All Exists starts → AllPairs IsElsewhere starts → shapes_of t ≡ started starts → NoneLost t →
      (all_stand t starts ≡ true) × (count_filled t ≡ length starts)
  count_by_fits [] t table exist once shapes none = (refl, all_empty t (λ r n. no_shape (cell slot_is.Empty t r n) (ap (λ (f : State Extent). f r n) shapes) (none r n)))
  count_by_fits (s ∷ ss) t table exist once shapes none =
      let here : Exists s = All-head Exists s ss exist in
      let others : All (IsElsewhere s) ss = pairs_head IsElsewhere s ss once in
      let last : shapes_of t ≡ with_start s (started ss) = shapes ∙ first_last s ss (λ _ _. None) others in
      let self : (s.rank == s.rank && s.slot == s.slot) ≡ true = grind (arith, nat_tests) in
      let found : shapes_of t s.rank s.slot ≡ Some s.shape = ap (λ (f : State Extent). f s.rank s.slot) last ∙ rw self refl in
      let is = has_shape (cell slot_is.Empty t s.rank s.slot) s.shape found in
      let fewer = count_emptied ranks t s.rank s.slot table here.0 here.1 is.0 in
      let rest_shapes : shapes_of (rest s t table here) ≡ started ss = same_state (shapes_of (rest s t table here)) (started ss) (λ r n. split (s.rank == r && s.slot == n)
      (λ u.
      let e : s.rank ≡ r = grind (arith, nat_tests) in
      let f : s.slot ≡ n = grind (arith, nat_tests) in
      ap (λ x. one (λ (m : Sparse). m.shape) (sheet_of x)) (cell_there s t table here r n u).0 ∙ sym (ap (λ q. started ss q n) (sym e) ∙ ap (started ss s.rank) (sym f) ∙ no_start s ss (λ _ _. None) others))
      (λ u. ap (λ x. one (λ (m : Sparse). m.shape) (sheet_of x)) (cell_elsewhere s t table here r n u) ∙ ap (λ (f : State Extent). f r n) last ∙ rw u refl)) in
      let rest_none : NoneLost (rest s t table here) = λ r n. split (s.rank == r && s.slot == n)
      (λ u. ap is_lost (cell_there s t table here r n u).0)
      (λ u. ap is_lost (cell_elsewhere s t table here r n u) ∙ none r n) in
      let tail = count_by_fits ss (rest s t table here) (set_is_table ranks 256 t s.rank s.slot slot_is.Empty table here.0) (All-tail Exists s ss exist) (pairs_tail IsElsewhere s ss once) rest_shapes rest_none in
      let first : stands t s ≡ true = shape_there s.shape (shapes_of t s.rank s.slot) found in
      let later : all_stand t ss ≡ true = sym (same_stands s t table here ss others) ∙ tail.0 in
      (rw (first, later) refl, omega (arith, fewer, tail.1))

to_table : (ranks : ℕ) (t : List (List (Slot Sparse))) → length t ≡ ranks → All (λ (slots : List (Slot Sparse)). length slots ≡ 256) t → IsTable ranks 256 t
to_table ranks t e h = record { rows = e; cols = λ r l. h r [] (omega arith) }

-- if each start finds its block, the result is whether the count is right
pub fits_then : (p : CheckedView) (t : List (List (Slot Sparse))) (starts : List Start) (count : ℕ) → IsChecked p → length t ≡ p.ranks → All (λ (slots : List (Slot Sparse)). length slots ≡ 256) t →
    starts ≡ p.starts → all_stand t starts ≡ true → count ≡ count_filled t → IsTrue (count == length starts) ↔ Fits p.ranks p.starts t
fits_then p t starts count checked rows sizes same stand is =
    let table = to_table p.ranks t rows sizes in
    let stand' : all_stand t p.starts ≡ true = rw same at stand in
    let same_length : length starts ≡ length p.starts = ap length same in (
      λ h.
          let n : count_filled t ≡ length p.starts = grind (arith, nat_tests) in
          let both = fits_by_count p.ranks p.starts t table checked.exist checked.once stand' n in
          record { table = table; shapes = both.0; none_lost = both.1 },
      λ fits.
          let n = (count_by_fits p.ranks p.starts t table checked.exist checked.once fits.shapes fits.none_lost).1 in
          grind (arith, nat_tests),
    )

-- if one doesn't, the result is false
pub fits_else : (p : CheckedView) (t : List (List (Slot Sparse))) (starts : List Start) → IsChecked p → starts ≡ p.starts → all_stand t starts ≡ false → ¬ Fits p.ranks p.starts t
fits_else p t starts checked same stand fits =
    let yes = (count_by_fits p.ranks p.starts t fits.table checked.exist checked.once fits.shapes fits.none_lost).0 in
    let no : all_stand t p.starts ≡ false = rw same at stand in
    absurd (grind (arith, nat_tests))
