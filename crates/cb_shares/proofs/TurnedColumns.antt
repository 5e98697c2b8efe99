-- Some columns of a transpose are the transpose of the same rows.
use Rattle.std.proofs.Common.{◌≡◌, ℕ, ◌<◌, ◌≤◌, true, false, ⊎_elim, sym, arith, ◌∙◌}
use Rattle.std.specs.Prelude.{min}
use Rattle.std.proofs.lemmas.Bool.{cases_lt}
use Rattle.cb_semirings.specs.Arithmetic.{Arithmetic, IsSemiring}
use Rattle.cb_matrix.specs.Sparse.{Sparse, IsMatrix, at}
use Rattle.cb_matrix.specs.Operations.{transposed}
use Rattle.cb_matrix.proofs.Made.{at-outside}
use Rattle.cb_matrix.proofs.Totals.{value_at-value}
use Rattle.cb_reshape.specs.Rows.{rows_within}
use Rattle.cb_reshape.proofs.Within.{row_in, row_out, within_value, within_none}
use Rattle.cb_shares.specs.Shares.{columns_from, panel}
use Rattle.cb_shares.proofs.Ranges.{range_holds, range_has}
use Rattle.cb_shares.proofs.ColumnValues.{only_of}

-- the rows may be fewer: those that the matrix has
pub turned_columns : (s : Arithmetic) → IsSemiring s → (m : Sparse) → IsMatrix s m → (first end low high : ℕ) → high ≡ min end m.shape.rows → low ≡ min first high
    → transposed s (rows_within (low, high) m) ≡ panel (transposed s m) first end
turned_columns s laws m is first end low high is_high is_low =
    only_of s laws (record { rows = m.shape.cols; cols = m.shape.rows }) (λ i j. at s m j i) (λ i j. at s (rows_within (low, high) m) j i) (columns_from first end)
    (λ i j _ _. value_at-value s laws m.entries j i is.values)
    (λ i j t.
    let among = range_holds first end j t in
    let from : first ≤ j = among.0 in
    let below : j < end = among.1 in
    ⊎_elim
    (λ (l : j < m.shape.rows). within_value s.zero (low, high) m.entries j i (row_in (low, high) j (omega arith) (omega arith)))
    (λ (l : m.shape.rows ≤ j).
    within_none s.zero (low, high) m.entries j i (row_out (low, high) j (λ a b. omega arith)) ∙ sym (at-outside s.zero m.shape m.entries j i is.inside (λ k _. omega arith)))
    (cases_lt j m.shape.rows))
    (λ i j u. within_none s.zero (low, high) m.entries j i (row_out (low, high) j (λ a b. true_false (sym (range_has first end j (omega arith) (omega arith)) ∙ u))))
  where
    true_false : true ≡ false → ⊥
    true_false e = cc
