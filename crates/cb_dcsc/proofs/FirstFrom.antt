-- Where the numbers from a bound on begin, of numbers that ascend.
use Rattle.std.proofs.Common.{◌≡◌, ℕ, ◌<◌, ◌≤◌, Err, List, length, get_or, arith, ⊎_elim}
use Rattle.std.specs.Prelude.{AllPairs}
use Rattle.std.specs.Ordering.{nat_cmp}
use Rattle.std.specs.declared.cmp.Ordering.TheVariants.{Equal}
use Rattle.std.specs.List.Sorted.{IsBinarySearchResult}
use Rattle.std.proofs.lemmas.Bool.{cases_lt}
use Rattle.std.proofs.lemmas.List.Sorted.{searched}
use Rattle.cb_dcsc.proofs.Held.{same_number}

-- numbers that ascend rise
pub rising : (xs : List ℕ) → AllPairs (λ i j. i < j) xs → (i j : ℕ) → i ≤ j → j < length xs → get_or xs i 0 ≤ get_or xs j 0
rising xs up i j l m = ⊎_elim (λ (k : i < j). let h : get_or xs i 0 < get_or xs j 0 = up i j 0 k m in omega arith) (λ (k : j ≤ i). let e : i ≡ j = omega arith in rw e (omega arith)) (cases_lt i j)

module _ (xs : List ℕ) (x n : ℕ) (up : AllPairs (λ i j. i < j) xs) where
  -- if the bound is found, the numbers before it are below
  pub found_below : n < length xs → nat_cmp (get_or xs n 0) x ≡ Equal → (k : ℕ) → k < n → get_or xs k 0 < x
  found_below l h k m = let e = same_number (get_or xs n 0) x h in let less : get_or xs k 0 < get_or xs n 0 = up k n 0 m l in omega arith

  -- and those from it on are not
  pub found_from : n < length xs → nat_cmp (get_or xs n 0) x ≡ Equal → (k : ℕ) → n ≤ k → k < length xs → x ≤ get_or xs k 0
  found_from l h k m b = let e = same_number (get_or xs n 0) x h in let more = rising xs up n k m b in omega arith

  -- if it isn't found, the numbers before its place are below
  pub missed_below : IsBinarySearchResult (λ y. nat_cmp y x) xs (Err n) → (k : ℕ) → k < n → get_or xs k 0 < x
  missed_below h k m = (searched xs x (Err n) h (rising xs up)).1 k m

  -- and those from there on are not
  pub missed_from : IsBinarySearchResult (λ y. nat_cmp y x) xs (Err n) → (k : ℕ) → n ≤ k → k < length xs → x ≤ get_or xs k 0
  missed_from h k m b = let more = (searched xs x (Err n) h (rising xs up)).2 k m b in omega arith
