-- Numbers of a list that fell when edges were relaxed in it.
use Rattle.std.proofs.Common.{◌≡◌, ℕ, ◌+◌, ◌^◌, ◌<◌, ◌≤◌, ⊎_elim, List, length, sym, ◌∙◌, arith}
use Rattle.std.specs.Prelude.{min, map, slice_index_or, Result, Ok, Err, OnOk}
use Rattle.std.specs.List.{range_with_len}
use Rattle.std.proofs.lemmas.Bool.{cases_lt, cond-true, cond-false, lt-ltb, le-ltb}
use Rattle.std.proofs.lemmas.List.{get_or_default}
use Rattle.cb_semirings.specs.Tables.{min_plus}
use Rattle.cb_matrix.specs.Sparse.{Sparse, at}
use Rattle.cb_matrix.specs.Values.{total, product, product_shape}
use Rattle.cb_matrix.proofs.Made.{at-outside, IsMatrix-matrix_of}
use Rattle.cb_searches.specs.Walks.{infinite}
use Rattle.cb_searches.specs.Numbers.{fallen}
use Rattle.cb_searches.proofs.NumberColumns.{listed_fits, listed_past}
use Rattle.cb_searches.proofs.TurnedProducts.{total_stops}

-- what holds of every result of a call holds of its values
pub made : {X E P : Type 0} (r : Result X E) → P → OnOk r P
made (Ok x) p = p
made (Err e) p = tt

module _ (before now : List ℕ) (v : ℕ) where
  -- a number below what it was before fell
  pub fallen_here : slice_index_or now v infinite < slice_index_or before v infinite → fallen before now v ≡ slice_index_or now v infinite
  fallen_here l = cond-true _ _ _ (lt-ltb (slice_index_or now v infinite) (slice_index_or before v infinite) l)

  -- no other one did
  pub fallen_not : slice_index_or before v infinite ≤ slice_index_or now v infinite → fallen before now v ≡ infinite
  fallen_not l = cond-false _ _ _ (le-ltb (slice_index_or now v infinite) (slice_index_or before v infinite) l)

-- a number that fell is at most infinite
pub fallen_fits : (before now : List ℕ) → ((i : ℕ) → slice_index_or now i 0 < 2 ^ 64) → (v : ℕ) → fallen before now v ≤ infinite
fallen_fits before now small v =
    ⊎_elim
    (λ (l : slice_index_or now v infinite < slice_index_or before v infinite). omega (arith, fallen_here before now v l, listed_fits now small v))
    (λ (l : slice_index_or before v infinite ≤ slice_index_or now v infinite). omega (arith, fallen_not before now v l))
    (cases_lt (slice_index_or now v infinite) (slice_index_or before v infinite))

-- past the end of the list none fell
pub fallen_past : (before now : List ℕ) (n : ℕ) → length before ≡ n → length now ≡ n → (v : ℕ) → n ≤ v → fallen before now v ≡ infinite
fallen_past before now n len same v l = fallen_not before now v (omega (arith, listed_past before n len v l, listed_past now n same v l))

-- a number that is read from the lists
module _ (before now : List ℕ) (i : ℕ) (inside : i < length now) (also : i < length before) where
  -- it fell if it is below the number from before
  pub read_fallen : slice_index_or now i 0 < slice_index_or before i 0 → slice_index_or now i 0 ≡ fallen before now i
  read_fallen l =
      let x = get_or_default now i 0 infinite inside in
      let y = get_or_default before i 0 infinite also in
      x ∙ sym (fallen_here before now i (omega (arith, x, y)))

  -- otherwise it didn't
  pub read_not : slice_index_or before i 0 ≤ slice_index_or now i 0 → fallen before now i ≡ infinite
  read_not l =
      let x = get_or_default now i 0 infinite inside in
      let y = get_or_default before i 0 infinite also in
      fallen_not before now i (omega (arith, x, y))

-- the numbers of a list, from before, are lowered to what edges reach from the numbers of a column
abbrev pub RelaxesTo : Sparse → List ℕ → List ℕ → Sparse → Type 0
RelaxesTo a before now x = (i : ℕ) → i < a.shape.rows → slice_index_or now i infinite ≡ min (slice_index_or before i infinite) (at min_plus (product min_plus a x) i 0)

-- the edges of a block are relaxed from the numbers x
module _ (a x : Sparse) where
  abbrev reached : ℕ → ℕ
  reached v = at min_plus (product min_plus a x) v 0

  reached_past : (v : ℕ) → a.shape.rows ≤ v → reached v ≡ infinite
  reached_past v l =
      at-outside infinite (product_shape a x) (product min_plus a x).entries v 0
      (IsMatrix-matrix_of min_plus (product_shape a x) (λ i j. total min_plus (map (λ k. min (at min_plus a i k + at min_plus x k j) infinite) (range_with_len 0 a.shape.cols)))
      (λ i j _ _. let h = total_stops (λ k. min (at min_plus a i k + at min_plus x k j) infinite) 0 a.shape.cols in omega arith)).inside
      (λ m _. omega arith)

  module _ (before now : List ℕ) (len : length before ≡ a.shape.rows) (same : length now ≡ length before) (sums : RelaxesTo a before now x) where
    -- each number is the least of what it was before and what is reached
    pub relaxed_least : (v : ℕ) → slice_index_or now v infinite ≡ min (slice_index_or before v infinite) (reached v)
    relaxed_least v =
        ⊎_elim
        (λ (l : v < a.shape.rows). sums v l)
        (λ (l : a.shape.rows ≤ v). omega (arith, listed_past before a.shape.rows len v l, listed_past now a.shape.rows (same ∙ len) v l, reached_past v l))
        (cases_lt v a.shape.rows)

    -- what is reached below what a number was is what it fell to
    pub relaxed_new : (v : ℕ) → reached v < slice_index_or before v infinite → fallen before now v ≡ reached v
    relaxed_new v l = let h = relaxed_least v in fallen_here before now v (omega arith) ∙ omega (arith, h)

    -- elsewhere none fell
    pub relaxed_old : (v : ℕ) → slice_index_or before v infinite ≤ reached v → fallen before now v ≡ infinite
    relaxed_old v l = let h = relaxed_least v in fallen_not before now v (omega arith)
