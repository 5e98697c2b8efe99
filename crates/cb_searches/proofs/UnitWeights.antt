-- Levels are distances in the same matrix as one of weights, since its stored values are 1.
use Rattle.std.proofs.Common.{◌≡◌, ◌≢◌, ℕ, ◌^◌, ◌<◌, ◌≤◌, Bool, true, false, cond, List, [], ◌∷◌, length, refl, ◌∙◌, arith}
use Rattle.std.specs.Prelude.{All}
use Rattle.std.specs.List.{sum_by}
use Rattle.std.proofs.lemmas.List.Sums.{sum-map, sum_by-cons}
use Rattle.std.proofs.lemmas.List.Elements.{All-head, All-tail, All-weaker}
use Rattle.cb_semirings.specs.Tables.{min_plus, or_and}
use Rattle.cb_matrix.specs.declared.Entry.{Entry}
use Rattle.cb_matrix.specs.Sparse.{Sparse, IsMatrix, at, value_at, is_at}
use Rattle.cb_searches.specs.Walks.{IsWalk, pairs, steps, cost, weight, infinite}
use Rattle.cb_searches.specs.Walks.{AreLevels, AreDistances}
use Rattle.cb_searches.proofs.ShortWalks.{short_walk}
use Rattle.cb_searches.proofs.TurnedProducts.{inside_square}

abbrev pub IsUnit : Entry → Type 0
IsUnit e = e.value ≡ 1

-- the stored values of a matrix of bits are 1
pub ones_stored : (a : Sparse) → IsMatrix or_and a → All IsUnit a.entries
ones_stored a is k e l = let bit = is.values k e l in let some = is.not_zero k e l in omega (arith, bit, some)

-- it is a matrix of weights
pub weights_there : (a : Sparse) → IsMatrix or_and a → IsMatrix min_plus a
weights_there a is = record {
  ascending = is.ascending;
  inside = is.inside;
  values = All-weaker IsUnit (λ e. e.value < 2 ^ 64) (λ e o. omega (arith, o)) a.entries (ones_stored a is);
  not_zero = All-weaker IsUnit (λ e. e.value ≢ infinite) (λ e o n. omega (arith, o, n)) a.entries (ones_stored a is);
}

-- its values are weights other than infinity
pub weights_stored : (a : Sparse) → IsMatrix or_and a → All (λ e. (e.value < 2 ^ 64) × (e.value ≢ infinite)) a.entries
weights_stored a is = All-weaker IsUnit (λ e. (e.value < 2 ^ 64) × (e.value ≢ infinite)) (λ e o. (omega (arith, o), λ n. omega (arith, o, n))) a.entries (ones_stored a is)

abbrev pub Unit_value : ℕ → ℕ → Type 0
Unit_value bit unit = (bit ≡ 0 → unit ≡ infinite) × (bit ≢ 0 → unit ≡ 1)

-- the value of an entry, as a bit and as a weight
pub unit_value : (es : List Entry) (i j : ℕ) → All IsUnit es → Unit_value (value_at 0 es i j) (value_at infinite es i j)
unfolding value_at
unit_value [] i j h = (λ _. refl, λ n. absurd (n refl))
unit_value (e ∷ es) i j h =
    let o : e.value ≡ 1 = All-head IsUnit e es h in
    elim (is_at i j e) as (λ (b : Bool). Unit_value (cond b e.value (value_at 0 es i j)) (cond b e.value (value_at infinite es i j))) [
      | true ↦ (λ z. omega (arith, o, z), λ _. o)
      | false ↦ unit_value es i j (All-tail IsUnit e es h)
    ]

ones : {X : Type 0} (f : X → ℕ) (xs : List X) → All (λ x. f x ≡ 1) xs → sum_by f xs ≡ length xs
ones f [] h = refl
ones f (x ∷ xs) h = let r = ones f xs (All-tail (λ x. f x ≡ 1) x xs h) in let k = All-head (λ x. f x ≡ 1) x xs h in sum_by-cons f x xs ∙ omega arith

module _ (a : Sparse) (is : IsMatrix or_and a) (square : a.shape.rows ≡ a.shape.cols) (fits : a.shape.rows < infinite) (source : ℕ) (l : source < a.shape.rows) where
  -- the value of an entry is 1
  pub unit_at : (i j : ℕ) → Unit_value (at or_and a i j) (at min_plus a i j)
  unit_at i j = unit_value a.entries i j (ones_stored a is)

  -- a walk is one of weights
  pub to_unit : (v : ℕ) (w : List ℕ) → IsWalk or_and a source v w → IsWalk min_plus a source v w
  to_unit v w walk = record {
    begins = walk.begins;
    ends = walk.ends;
    stored = All-weaker (λ (p : ℕ × ℕ). at or_and a p.0 p.1 ≢ 0) (λ (p : ℕ × ℕ). at min_plus a p.0 p.1 ≢ infinite) (λ p n e. let k = (unit_at p.0 p.1).1 n in omega arith) (pairs w) walk.stored;
  }

  -- and the other way round
  pub from_unit : (v : ℕ) (w : List ℕ) → IsWalk min_plus a source v w → IsWalk or_and a source v w
  from_unit v w walk = record {
    begins = walk.begins;
    ends = walk.ends;
    stored = All-weaker (λ (p : ℕ × ℕ). at min_plus a p.0 p.1 ≢ infinite) (λ (p : ℕ × ℕ). at or_and a p.0 p.1 ≢ 0) (λ p n e. n ((unit_at p.0 p.1).0 e)) (pairs w) walk.stored;
  }

  -- and costs as much as it has steps
  pub unit_cost : (v : ℕ) (w : List ℕ) → IsWalk or_and a source v w → cost a w ≡ steps w
  unit_cost v w walk =
      sum-map (λ (p : ℕ × ℕ). at min_plus a p.0 p.1) (pairs w)
      ∙ ones (λ (p : ℕ × ℕ). at min_plus a p.0 p.1) (pairs w) (All-weaker (λ (p : ℕ × ℕ). at or_and a p.0 p.1 ≢ 0) (λ (p : ℕ × ℕ). at min_plus a p.0 p.1 ≡ 1) (λ p n. (unit_at p.0 p.1).1 n) (pairs w) walk.stored)

  -- its distances are its levels
  pub levels_are : (column : Sparse) → AreDistances a source column → AreLevels a source column
  levels_are column h = record {
    shape = h.shape;
    levels = λ v m n.
        let least = h.distances v m n in
        let w : (walk : List ℕ) × IsWalk min_plus a source v walk × (weight a walk ≡ at min_plus column v 0) = least.reached in
        let walk : IsWalk or_and a source v w.0 = from_unit v w.0 w.1 in
        record {
          reached = (w.0, walk, omega (arith, unit_cost v w.0 walk, w.2, n));
          least = λ u k. omega (arith, unit_cost v u k, least.least u (to_unit v u k));
        };
    none = λ v m e u k.
        let p : (us : List ℕ) × IsWalk min_plus a source v us × (steps us < a.shape.rows) × (cost a us ≤ cost a u) = short_walk a a.shape.rows (inside_square a (weights_there a is) square) source v u l (to_unit v u k) in
        omega (arith, fits, p.2, unit_cost v p.0 (from_unit v p.0 p.1), h.none v m e p.0 p.1);
  }
