-- Some columns of a Kronecker product are made of some columns of its first factor.
use Rattle.std.proofs.Common.{◌≡◌, ℕ, ◌*◌, ◌/◌, ◌%◌, ◌<◌, ◌≤◌, ap, ⊎_elim, arith, subst}
use Rattle.std.specs.Prelude.{max}
use Rattle.std.proofs.lemmas.Bool.{cases_lt}
use Rattle.cb_semirings.specs.Arithmetic.{Arithmetic, IsSemiring}
use Rattle.cb_matrix.specs.Sparse.{Sparse, IsMatrix, at}
use Rattle.cb_matrix.proofs.Totals.{value_at-value}
use Rattle.cb_operations.specs.SelectionAnswers.{kronecker, pair_shape}
use Rattle.cb_product.specs.InColumns.{only_columns}
use Rattle.cb_product.proofs.OnlyColumns.{only_matrix, only_value}
use Rattle.cb_shares.specs.Shares.{columns_from, panel}
use Rattle.cb_shares.proofs.ColumnValues.{only_same}
use Rattle.cb_shares.proofs.Ranges.{range_holds, range_has}

pub kronecker_panel : (s : Arithmetic) → IsSemiring s → (a b : Sparse) → IsMatrix s a → IsMatrix s b → (width first end low high : ℕ) → width ≡ max b.shape.cols 1
    → ((j : ℕ) → first ≤ j → j < end → (low ≤ j / width) × (j / width < high)) → panel (kronecker s (panel a low high) b) first end ≡ panel (kronecker s a b) first end
kronecker_panel s laws a b is_a is_b width first end low high wide outer =
    let w = b.shape.cols in
    let h = b.shape.rows in
    let cs = columns_from low high in
    only_same s laws (pair_shape a b) (λ i j. s.mul (at s a (i / h) (j / w)) (at s b (i % h) (j % w))) (λ i j. s.mul (at s (only_columns cs a) (i / h) (j / w)) (at s b (i % h) (j % w))) (columns_from first end)
    (λ i j _ _. laws.mul_value _ _ (value_at-value s laws a.entries (i / h) (j / w) is_a.values) (value_at-value s laws b.entries (i % h) (j % w) is_b.values))
    (λ i j _ _. laws.mul_value _ _ (value_at-value s laws (only_columns cs a).entries (i / h) (j / w) (only_matrix s cs a is_a).values) (value_at-value s laws b.entries (i % h) (j % w) is_b.values))
    (λ i j l t.
    let among = range_holds first end j t in
    let some : 0 < w = ⊎_elim
    (λ (p : 0 < w). p)
    (λ (z : w ≤ 0). let none : w ≡ 0 = omega arith in let e : a.shape.cols * w ≡ a.shape.cols * 0 = ap (λ k. a.shape.cols * k) none in absurd (omega arith))
    (cases_lt 0 w) in
    let same : width ≡ w = omega arith in
    let o = subst (λ k. (low ≤ j / k) × (j / k < high)) same (outer j among.0 among.1) in
    ap (λ x. s.mul x (at s b (i % h) (j % w))) (only_value s.zero cs a (i / h) (j / w) (range_has low high (j / w) o.0 o.1)))
