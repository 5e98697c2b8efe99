-- How many slots aren't empty once one is emptied.
use Rattle.std.proofs.Common.{◌≡◌, ℕ, ◌+◌, ◌<◌, ◌≤◌, true, false, cond, List, [], length, get_or, set, refl, ap, ◌∙◌, arith}
use Rattle.std.specs.Prelude.{sum_by, count_by, All}
use Rattle.std.proofs.lemmas.Bool.Decides.{nat_tests}
use Rattle.std.proofs.lemmas.List.{get_or_past, get_or_default}
use Rattle.std.proofs.lemmas.List.Sums.{sum_by-set, get_or-le-sum_by, sum_by-le}
use Rattle.cb_matrix.specs.Sparse.{Sparse}
use Rattle.cb_plan.specs.declared.stores.Slot.{Slot}
use Rattle.cb_plan.specs.declared.stores.Slot.TheVariants as slot_is
use Rattle.cb_plan.specs.Stores.{is_filled, count_filled}
use Rattle.cb_plan.specs.PlanTables.{IsTable, cell, cell_set}
use Rattle.cb_plan.proofs.Effects.{split}

-- one slot fewer
pub count_emptied : (height : ℕ) (t : List (List (Slot Sparse))) (r n : ℕ) → IsTable height 256 t → r < height → n < 256 → is_filled (cell slot_is.Empty t r n) ≡ true → count_filled (cell_set t r n slot_is.Empty) + 1 ≡ count_filled t
count_emptied height t r n is l m filled =
    let row : List (Slot Sparse) = get_or t r [] in
    let inside : r < length t = let h = is.rows in omega arith in
    let within : n < length row = let h = is.cols r l in omega arith in
    let outer = sum_by-set (count_by is_filled) t r (set row n slot_is.Empty) [] inside in
    let inner : count_by is_filled (set row n slot_is.Empty) + cond (is_filled (get_or row n slot_is.Empty)) 1 0 ≡ count_by is_filled row + 0 = sum_by-set (λ (x : Slot Sparse). cond (is_filled x) 1 0) row n slot_is.Empty slot_is.Empty within in
    let inner' = rw filled at inner in
    omega (arith, outer, inner')

-- if there is none, each is empty
not_filled : (x : Slot Sparse) → is_filled x ≡ false → x ≡ slot_is.Empty
not_filled slot_is.Empty h = refl
not_filled (slot_is.Sheet m) h = absurd (grind (arith, nat_tests))
not_filled (slot_is.Lost o) h = absurd (grind (arith, nat_tests))

none_in_row : (row : List (Slot Sparse)) (n : ℕ) → count_by is_filled row ≡ 0 → get_or row n slot_is.Empty ≡ slot_is.Empty
none_in_row row n h = split (Rattle.std.specs.Prelude.nat_lt n (length row))
    (λ t.
    let l : n < length row = grind (arith, nat_tests) in
    let e : cond (is_filled (get_or row n slot_is.Empty)) 1 0 ≤ count_by is_filled row = get_or-le-sum_by (λ (x : Slot Sparse). cond (is_filled x) 1 0) row n slot_is.Empty l in
    not_filled (get_or row n slot_is.Empty) (grind (arith, nat_tests)))
    (λ f. get_or_past row n slot_is.Empty (grind (arith, nat_tests)))

-- if the count is 0, each slot is empty
pub none_filled : (t : List (List (Slot Sparse))) (r n : ℕ) → count_filled t ≡ 0 → cell slot_is.Empty t r n ≡ slot_is.Empty
none_filled t r n h = split (Rattle.std.specs.Prelude.nat_lt r (length t))
    (λ u.
    let l : r < length t = grind (arith, nat_tests) in
    let e : count_by is_filled (get_or t r []) ≤ count_filled t = get_or-le-sum_by (count_by is_filled) t r [] l in
    none_in_row (get_or t r []) n (omega (arith, e, h)))
    (λ f. ap (λ row. get_or row n slot_is.Empty) (get_or_past t r [] (grind (arith, nat_tests))))

-- if each is empty, there is none
pub all_empty : (t : List (List (Slot Sparse))) → ((r n : ℕ) → cell slot_is.Empty t r n ≡ slot_is.Empty) → count_filled t ≡ 0
all_empty t h =
    let rows : (r : ℕ) (d : List (Slot Sparse)) → r < length t → count_by is_filled (get_or t r d) ≤ 0 = λ r d l.
    let e : get_or t r d ≡ get_or t r [] = get_or_default t r d [] l in
    let cells : (n : ℕ) (x : Slot Sparse) → n < length (get_or t r []) → cond (is_filled (get_or (get_or t r []) n x)) 1 0 ≤ 0 = λ n x m.
    (let f : get_or (get_or t r []) n x ≡ slot_is.Empty = get_or_default (get_or t r []) n x slot_is.Empty m ∙ h r n in rw f (omega arith)) in
    rw e (let g = sum_by-le (λ (x : Slot Sparse). cond (is_filled x) 1 0) 0 (get_or t r []) cells in omega (arith, g)) in
    let g = sum_by-le (count_by is_filled) 0 t rows in
    omega (arith, g)
