-- Where the columns of a range are among those that have entries.
use Rattle.std.proofs.Common.{◌≡◌, ℕ, ◌+◌, ◌-◌, ◌<◌, ◌≤◌, true, List, length, get_or, drop, ap, ◌∙◌, subst, ⊎_elim, arith, length-drop}
use Rattle.std.specs.Prelude.{◌↔◌, All, AllPairs, Contains, IsTrue, Some, nat_lt, slice_get, slice_range}
use Rattle.std.proofs.lemmas.Option.{slice_get_within, get_or_from_slice_get}
use Rattle.std.proofs.lemmas.Bool.{cases_lt, ltb-true, lt-ltb}
use Rattle.std.proofs.lemmas.List.{length-take-le, get_or-take, get_or-drop, get_or_default}
use Rattle.std.proofs.lemmas.List.Elements.{All-weaker, Contains-get_or}
use Rattle.cb_matrix.specs.Sparse.{Sparse}
use Rattle.cb_product.specs.InColumns.{is_among, only_columns}
use Rattle.cb_product.proofs.OnlyColumns.{among_from, among_holds}
use Rattle.cb_shares.specs.Shares.{columns_from}
use Rattle.cb_shares.proofs.Ranges.{range_holds, range_has, same_answer, same_columns}

-- ---- numbers that ascend
-- numbers that ascend rise
pub rising : (xs : List ℕ) → AllPairs (λ i j. i < j) xs → (i j : ℕ) → i ≤ j → j < length xs → get_or xs i 0 ≤ get_or xs j 0
rising xs up i j l m = ⊎_elim (λ (k : i < j). let h : get_or xs i 0 < get_or xs j 0 = up i j 0 k m in omega arith) (λ (k : j ≤ i). let e : i ≡ j = omega arith in rw e (omega arith)) (cases_lt i j)

-- ---- the columns of a range
module _ (xs : List ℕ) (first end low high : ℕ) (l : low ≤ high) (m : high ≤ length xs) (before : (k : ℕ) → k < low → get_or xs k 0 < first)
    (from : (k : ℕ) → low ≤ k → k < length xs → first ≤ get_or xs k 0) (inside : (k : ℕ) → low ≤ k → k < high → get_or xs k 0 < end) (after : (k : ℕ) → high ≤ k → k < length xs → end ≤ get_or xs k 0) where
  abbrev some : List ℕ
  some = slice_range xs low high

  length_some : length some ≡ high - low
  length_some = let e = length-drop low xs in length-take-le (high - low) (drop low xs) (omega arith)

  some_at : (k d : ℕ) → k < high - low → get_or some k d ≡ get_or xs (low + k) d
  some_at k d h = get_or-take (high - low) (drop low xs) k d h ∙ get_or-drop low xs k d

  some_in_range : (c : ℕ) → is_among some c ≡ true → is_among (columns_from first end) c ≡ true
  some_in_range c h =
      let k = among_holds some c h in
      let kl = k.1 in
      let long = length_some in
      let same : get_or some k.0 c ≡ c = k.2 in
      let at : get_or some k.0 c ≡ get_or xs (low + k.0) c = some_at k.0 c (omega arith) in
      let zeroed : get_or xs (low + k.0) c ≡ get_or xs (low + k.0) 0 = get_or_default xs (low + k.0) c 0 (omega arith) in
      let f = from (low + k.0) (omega arith) (omega arith) in
      let i = inside (low + k.0) (omega arith) (omega arith) in
      range_has first end c (omega arith) (omega arith)

  range_in_some : (c : ℕ) → Contains xs c → is_among (columns_from first end) c ≡ true → is_among some c ≡ true
  range_in_some c has h =
      let r = range_holds first end c h in
      let r0 = r.0 in
      let r1 = r.1 in
      let k = has.0 in
      let kl = has.1 in
      let same : get_or xs k c ≡ c = has.2 in
      let zeroed : get_or xs k c ≡ get_or xs k 0 = get_or_default xs k c 0 kl in
      let above : low ≤ k = ⊎_elim (λ (t : k < low). let b = before k t in absurd (omega arith)) (λ (t : low ≤ k). t) (cases_lt k low) in
      let below : k < high = ⊎_elim (λ (t : k < high). t) (λ (t : high ≤ k). let b = after k t kl in absurd (omega arith)) (cases_lt k high) in
      let long = length_some in
      let at : get_or some (k - low) c ≡ get_or xs (low + (k - low)) c = some_at (k - low) c (omega arith) in
      let place : low + (k - low) ≡ k = omega arith in
      let here : get_or some (k - low) c ≡ c = at ∙ ap (λ n. get_or xs n c) place ∙ same in
      among_from some c (subst (Contains some) here (Contains-get_or some (k - low) c (omega arith)))

  -- they leave of a matrix what the range leaves
  pub some_columns : (b : Sparse) → All (λ e. Contains xs e.column) b.entries → only_columns some b ≡ only_columns (columns_from first end) b
  some_columns b all =
      same_columns some (columns_from first end) b
      (All-weaker (λ e. Contains xs e.column) (λ e. is_among some e.column ≡ is_among (columns_from first end) e.column)
      (λ e has. same_answer _ _ (some_in_range e.column) (range_in_some e.column has)) b.entries all)

-- ---- one list before another
-- the last of some numbers, which ascend, is below the first of others just where all are below all
pub last_before : (xs ys : List ℕ) (x y : ℕ) → AllPairs (λ c d. c < d) xs → AllPairs (λ c d. c < d) ys → slice_get xs (length xs - 1) ≡ Some x → slice_get ys 0 ≡ Some y
    → IsTrue (nat_lt x y) ↔ All (λ c. All (λ d. c < d) ys) xs
last_before xs ys x y up_x up_y is_x is_y =
    let l = slice_get_within xs (length xs - 1) x is_x in
    let m = slice_get_within ys 0 y is_y in
    let e = get_or_from_slice_get xs (length xs - 1) x 0 is_x in
    let f = get_or_from_slice_get ys 0 y 0 is_y in (
      (λ t i d k j d' n.
          let less : x < y = ltb-true x y t in
          let a = rising xs up_x i (length xs - 1) (omega arith) l in
          let b = rising ys up_y 0 j (omega arith) n in
          let p = get_or_default xs i d 0 k in
          let q = get_or_default ys j d' 0 n in
          omega arith),
      (λ h.
          let k : get_or xs (length xs - 1) 0 < get_or ys 0 0 = h (length xs - 1) 0 l 0 0 m in
          lt-ltb x y (omega arith)),
    )
