-- The transposed matrix of bits, as one of weights.
use Rattle.std.proofs.Common.{◌≡◌, ℕ, ◌<◌, ⊎_elim, sym, refl, ◌∙◌}
use Rattle.std.proofs.lemmas.Bool.{cases_eq}
use Rattle.cb_semirings.specs.Tables.{min_plus, or_and}
use Rattle.cb_semirings.specs.Laws.{or_and_is_semiring, min_plus_is_semiring}
use Rattle.cb_matrix.specs.Sparse.{Sparse, IsMatrix, at}
use Rattle.cb_matrix.specs.Operations.{transposed}
use Rattle.cb_matrix.proofs.Made.{at-matrix_of, IsMatrix-matrix_of, same_matrix}
use Rattle.cb_matrix.proofs.Totals.{value_at-value}
use Rattle.cb_searches.proofs.UnitWeights.{Unit_value, ones_stored, unit_value, weights_there}

module _ (a : Sparse) (is : IsMatrix or_and a) where
  abbrev turned : Sparse
  turned = transposed or_and a

  -- it is a matrix
  pub turned_bits : IsMatrix or_and (transposed or_and a)
  turned_bits = IsMatrix-matrix_of or_and (record { rows = a.shape.cols; cols = a.shape.rows }) (λ i j. at or_and a j i) (λ i j _ _. value_at-value or_and or_and_is_semiring a.entries j i is.values)

  turned_weights : IsMatrix min_plus (transposed min_plus a)
  turned_weights = IsMatrix-matrix_of min_plus (record { rows = a.shape.cols; cols = a.shape.rows }) (λ i j. at min_plus a j i) (λ i j _ _. value_at-value min_plus min_plus_is_semiring a.entries j i (weights_there a is).values)

  same_values : (i j : ℕ) → i < a.shape.cols → j < a.shape.rows → at min_plus turned i j ≡ at min_plus (transposed min_plus a) i j
  same_values i j l k =
      let bits : at or_and turned i j ≡ at or_and a j i = at-matrix_of or_and (record { rows = a.shape.cols; cols = a.shape.rows }) (λ i j. at or_and a j i) i j l k in
      let weights : at min_plus (transposed min_plus a) i j ≡ at min_plus a j i = at-matrix_of min_plus (record { rows = a.shape.cols; cols = a.shape.rows }) (λ i j. at min_plus a j i) i j l k in
      let here : Unit_value (at or_and turned i j) (at min_plus turned i j) = unit_value turned.entries i j (ones_stored turned turned_bits) in
      let there : Unit_value (at or_and a j i) (at min_plus a j i) = unit_value a.entries j i (ones_stored a is) in
      ⊎_elim
      (λ (z : at or_and a j i ≡ 0). here.0 (bits ∙ z) ∙ sym (weights ∙ there.0 z))
      (λ (n : at or_and a j i ≡ 0 → ⊥). here.1 (λ z. n (sym bits ∙ z)) ∙ sym (weights ∙ there.1 n))
      (cases_eq (at or_and a j i) 0)

  -- transposed as bits or as weights, it has the same entries
  pub turned_same : transposed or_and a ≡ transposed min_plus a
  turned_same = same_matrix min_plus (transposed or_and a) (transposed min_plus a) (weights_there (transposed or_and a) turned_bits) turned_weights refl same_values
