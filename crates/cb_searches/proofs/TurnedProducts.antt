-- One round: the product of the turned matrix by a column.
use Rattle.std.proofs.Common.{◌≡◌, ◌≢◌, ℕ, suc, zero, ◌+◌, ◌<◌, ◌≤◌, ⊎_elim, map, refl, ap, ◌∙◌, arith}
use Rattle.std.specs.Prelude.{min}
use Rattle.std.specs.List.{range_with_len}
use Rattle.std.proofs.lemmas.Bool.{cases_eq, cases_lt}
use Rattle.cb_semirings.specs.Tables.{min_plus}
use Rattle.cb_matrix.specs.Sparse.{Sparse, at, IsMatrix}
use Rattle.cb_matrix.specs.Values.{total, product, product_shape}
use Rattle.cb_matrix.proofs.Made.{at-matrix_of, at-outside, IsMatrix-matrix_of}
use Rattle.cb_searches.specs.Walks.{infinite}
use Rattle.cb_matrix.specs.Operations.{transposed}
use Rattle.cb_searches.proofs.NumbersByRound.{IsRound}

-- the least of some numbers is none above any, and one of them unless it is infinite
pub total_low : (f : ℕ → ℕ) (a n k : ℕ) → a ≤ k → k < a + n → total min_plus (map f (range_with_len a n)) ≤ f k
unfolding total
total_low f a zero k l m = absurd (omega arith)
total_low f a (suc n) k l m =
    ⊎_elim
    (λ (e : a ≡ k). let z : f a ≡ f k = ap f e in omega arith)
    (λ (ne : a ≡ k → ⊥). let p : a ≢ k = ne in let r = total_low f (a + 1) n k (omega arith) (omega arith) in omega arith)
    (cases_eq a k)

pub total_stops : (f : ℕ → ℕ) (a n : ℕ) → total min_plus (map f (range_with_len a n)) ≤ infinite
unfolding total
total_stops f a zero = omega arith
total_stops f a (suc n) = let r = total_stops f (a + 1) n in omega arith

pub total_some : (f : ℕ → ℕ) (a n : ℕ) → total min_plus (map f (range_with_len a n)) ≢ infinite → (k : ℕ) × (k < a + n) × (total min_plus (map f (range_with_len a n)) ≡ f k)
unfolding total
total_some f a zero h = absurd (h refl)
total_some f a (suc n) h =
    let rest = total min_plus (map f (range_with_len (a + 1) n)) in
    ⊎_elim
    (λ (l : f a < rest). (a, omega arith, omega arith))
    (λ (l : rest ≤ f a).
    let same : min (f a) rest ≡ rest = omega arith in
    let p = total_some f (a + 1) n (λ e. h (same ∙ e)) in
    (p.0, omega (arith, p.1), same ∙ p.2))
    (cases_lt (f a) rest)

-- an entry's column is inside the square
pub inside_square : (a : Sparse) → IsMatrix min_plus a → a.shape.rows ≡ a.shape.cols → (i j : ℕ) → at min_plus a i j ≢ infinite → j < a.shape.rows
inside_square a is_a square i j h = ⊎_elim (λ (l : j < a.shape.rows). l) (λ (l : a.shape.rows ≤ j). absurd (h (at-outside infinite a.shape a.entries i j is_a.inside (λ _ m. omega arith)))) (cases_lt j a.shape.rows)

module _ (a x : Sparse) (is_a : IsMatrix min_plus a) (is_x : IsMatrix min_plus x) (square : a.shape.rows ≡ a.shape.cols) (rows : x.shape.rows ≡ a.shape.rows) (column : x.shape.cols ≡ 1) where
  y : ℕ → ℕ
  y v = at min_plus (product min_plus (transposed min_plus a) x) v 0

  part : ℕ → ℕ → ℕ
  part v k = min (at min_plus (transposed min_plus a) v k + at min_plus x k 0) infinite

  unfolding_y : (v : ℕ) → v < a.shape.rows → y v ≡ total min_plus (map (part v) (range_with_len 0 a.shape.rows))
  unfolding y part
  unfolding_y v l = at-matrix_of min_plus (product_shape (transposed min_plus a) x) (λ i j. total min_plus (map (λ k. min (at min_plus (transposed min_plus a) i k + at min_plus x k j) infinite) (range_with_len 0 a.shape.rows))) v 0 (omega (arith, square)) (omega arith)

  part_is : (v k : ℕ) → v < a.shape.rows → k < a.shape.rows → part v k ≡ min (at min_plus a k v + at min_plus x k 0) infinite
  unfolding part
  part_is v k l m = ap (λ (n : ℕ). min (n + at min_plus x k 0) infinite) (at-matrix_of min_plus (record { rows = a.shape.cols; cols = a.shape.rows }) (λ i j. at min_plus a j i) v k (omega (arith, square)) m)

  y_outside : (v : ℕ) → a.shape.rows ≤ v → y v ≡ infinite
  unfolding y
  y_outside v l =
      at-outside infinite (product_shape (transposed min_plus a) x) (product min_plus (transposed min_plus a) x).entries v 0
      (IsMatrix-matrix_of min_plus (product_shape (transposed min_plus a) x) (λ i j. total min_plus (map (λ k. min (at min_plus (transposed min_plus a) i k + at min_plus x k j) infinite) (range_with_len 0 a.shape.rows)))
      (λ i j _ _. let h = total_stops (λ k. min (at min_plus (transposed min_plus a) i k + at min_plus x k j) infinite) 0 a.shape.rows in omega arith)).inside
      (λ m _. omega (arith, square))

  -- the product of the turned matrix and a column is a round from that column
  pub is_round : IsRound a (λ u. at min_plus x u 0) (λ v. at min_plus (product min_plus (transposed min_plus a) x) v 0)
  unfolding y
  is_round = record {
    stops = λ v. ⊎_elim
        (λ (l : v < a.shape.rows). let h = total_stops (part v) 0 a.shape.rows in omega (arith, unfolding_y v l))
        (λ (l : a.shape.rows ≤ v). omega (arith, y_outside v l))
        (cases_lt v a.shape.rows);
    low = λ u v. ⊎_elim
        (λ (l : v < a.shape.rows). ⊎_elim
        (λ (m : u < a.shape.rows). let h = total_low (part v) 0 a.shape.rows u (omega arith) (omega arith) in omega (arith, unfolding_y v l, part_is v u l m))
        (λ (m : a.shape.rows ≤ u). let h = total_stops (part v) 0 a.shape.rows in omega (arith, unfolding_y v l, at-outside infinite a.shape a.entries u v is_a.inside (λ k _. omega arith)))
        (cases_lt u a.shape.rows))
        (λ (l : a.shape.rows ≤ v). omega (arith, y_outside v l, at-outside infinite a.shape a.entries u v is_a.inside (λ _ k. omega arith)))
        (cases_lt v a.shape.rows);
    some = λ v h. ⊎_elim
        (λ (l : v < a.shape.rows).
        let p = total_some (part v) 0 a.shape.rows (λ e. h (unfolding_y v l ∙ e)) in
        (p.0, omega (arith, unfolding_y v l, p.2, part_is v p.0 l (omega (arith, p.1)), h)))
        (λ (l : a.shape.rows ≤ v). absurd (h (y_outside v l)))
        (cases_lt v a.shape.rows);
  }
