-- A binary search in a part of some rows.
use Rattle.std.proofs.Common.{◌≡◌, ℕ, ◌+◌, ◌-◌, ◌<◌, ◌≤◌, Ok, Err, List, length, drop, get_or, ap, ◌∙◌, ⊎_elim, arith, length-take, length-drop}
use Rattle.std.specs.Prelude.{AllPairs, slice_range}
use Rattle.std.specs.Ordering.{nat_cmp}
use Rattle.std.specs.List.Sorted.{IsBinarySearchResult}
use Rattle.std.proofs.lemmas.Bool.{cases_lt}
use Rattle.std.proofs.lemmas.List.{get_or-take, get_or-drop}
use Rattle.std.proofs.lemmas.List.Sorted.{searched}

module _ (rows : List ℕ) (up : AllPairs (λ i j. i < j) rows) (from end : ℕ) (order : from ≤ end) (within : end ≤ length rows) where
  part_long : length (slice_range rows from end) ≡ end - from
  part_long = simp (length-take, length-drop) (omega arith)

  part_at : (k : ℕ) → k < end - from → get_or (slice_range rows from end) k 0 ≡ get_or rows (from + k) 0
  part_at k l = get_or-take (end - from) (drop from rows) k 0 l ∙ get_or-drop from rows k 0

  part_rises : (i j : ℕ) → i ≤ j → j < length (slice_range rows from end) → get_or (slice_range rows from end) i 0 ≤ get_or (slice_range rows from end) j 0
  part_rises i j l m =
      let size = part_long in
      let p = part_at i (omega arith) in
      let q = part_at j (omega arith) in
      ⊎_elim
      (λ (k : i < j). let b : get_or rows (from + i) 0 < get_or rows (from + j) 0 = up (from + i) (from + j) 0 (omega arith) (omega arith) in omega arith)
      (λ (k : j ≤ i). let e : i ≡ j = omega arith in let w = ap (λ n. get_or rows (from + n) 0) e in omega arith)
      (cases_lt i j)

  -- the row before one that is found is below it
  pub below_found : (row n : ℕ) → IsBinarySearchResult (λ y. nat_cmp y row) (slice_range rows from end) (Ok n) → 0 < n → get_or rows (from + n - 1) 0 < row
  below_found row n h some =
      let found = searched (slice_range rows from end) row (Ok n) h part_rises in
      let size = part_long in
      let l = found.0 in
      let here = part_at n (omega arith) in
      let is : get_or (slice_range rows from end) n 0 ≡ row = found.1 in
      let less : get_or rows (from + n - 1) 0 < get_or rows (from + n) 0 = up (from + n - 1) (from + n) 0 (omega arith) (omega arith) in
      omega arith

  -- and so is the row before the place of one that isn't there
  pub below_missed : (row n : ℕ) → IsBinarySearchResult (λ y. nat_cmp y row) (slice_range rows from end) (Err n) → 0 < n → get_or rows (from + n - 1) 0 < row
  below_missed row n h some =
      let found = searched (slice_range rows from end) row (Err n) h part_rises in
      let size = part_long in
      let l = found.0 in
      let here = part_at (n - 1) (omega arith) in
      let same : from + (n - 1) ≡ from + n - 1 = omega arith in
      let e = ap (λ k. get_or rows k 0) same in
      let less = found.1 (n - 1) (omega arith) in
      omega arith
