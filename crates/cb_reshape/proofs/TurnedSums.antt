-- The sums of the rows of a matrix are those of the columns of its transpose, transposed.
use Rattle.std.proofs.Common.{◌≡◌, ℕ, zero, suc, ◌+◌, ◌<◌, ◌≤◌, map, refl, ap, ◌∙◌, arith}
use Rattle.std.specs.List.{range_with_len}
use Rattle.cb_semirings.specs.Arithmetic.{Arithmetic}
use Rattle.cb_matrix.specs.Sparse.{Sparse, at}
use Rattle.cb_matrix.specs.Values.{total}
use Rattle.cb_matrix.specs.Operations.{transposed, column_sums, row_sums}
use Rattle.cb_matrix.proofs.Made.{at-matrix_of, same_matrix_of}

-- the sum of values that agree for the numbers of a range
total_below : (s : Arithmetic) (f g : ℕ → ℕ) (a n : ℕ) → ((k : ℕ) → a ≤ k → k < a + n → f k ≡ g k) → total s (map f (range_with_len a n)) ≡ total s (map g (range_with_len a n))
unfolding total
total_below s f g a zero h = refl
total_below s f g a (suc n) h =
    ap (λ x. s.add x (total s (map f (range_with_len (a + 1) n)))) (h a (omega arith) (omega arith))
    ∙ ap (s.add (g a)) (total_below s f g (a + 1) n (λ k l m. h k (omega arith) (omega arith)))

pub turned_sums : (s : Arithmetic) (a : Sparse) → transposed s (column_sums s (transposed s a)) ≡ row_sums s a
turned_sums s a =
    let m = a.shape.rows in
    let n = a.shape.cols in
    let turned = transposed s a in
    same_matrix_of s (record { rows = m; cols = 1 }) (λ i j. at s (column_sums s turned) j i) (λ i j. total s (map (λ k. at s a i k) (range_with_len 0 n))) (λ i j l h.
    at-matrix_of s (record { rows = 1; cols = m }) (λ i j. total s (map (λ k. at s turned k j) (range_with_len 0 n))) j i h l
    ∙ total_below s (λ k. at s turned k i) (λ k. at s a i k) 0 n (λ k _ b. at-matrix_of s (record { rows = n; cols = m }) (λ i j. at s a j i) k i (omega arith) l))
