-- A matrix of bits as one of weights: its parts, and its levels.
use Rattle.std.proofs.Common.{◌≡◌, ℕ, ◌+◌, ◌-◌, ◌<◌, ⊎_elim, sym, refl, ◌∙◌}
use Rattle.std.proofs.lemmas.Bool.{cases_eq}
use Rattle.cb_semirings.specs.Tables.{min_plus, or_and}
use Rattle.cb_semirings.specs.Laws.{or_and_is_semiring, min_plus_is_semiring}
use Rattle.cb_matrix.specs.Sparse.{Extent, Sparse, IsMatrix, at}
use Rattle.cb_matrix.specs.Operations.{cut}
use Rattle.cb_matrix.proofs.Made.{at-matrix_of, IsMatrix-matrix_of, same_matrix}
use Rattle.cb_matrix.proofs.Totals.{value_at-value}
use Rattle.cb_searches.specs.Walks.{infinite}
use Rattle.cb_searches.proofs.UnitWeights.{Unit_value, levels_are, ones_stored, unit_value, weights_there}
use Rattle.cb_search_columns.specs.SearchColumns.{DistancesAreLevels}

module _ (a : Sparse) (is : IsMatrix or_and a) where
  module _ (rows cols : ℕ × ℕ) where
    abbrev shape : Extent
    shape = record { rows = rows.1 - rows.0; cols = cols.1 - cols.0 }

    -- a part is a matrix
    pub cut_bits : IsMatrix or_and (cut or_and rows cols a)
    cut_bits = IsMatrix-matrix_of or_and shape (λ i j. at or_and a (rows.0 + i) (cols.0 + j)) (λ i j _ _. value_at-value or_and or_and_is_semiring a.entries (rows.0 + i) (cols.0 + j) is.values)

    weights_matrix : IsMatrix min_plus (cut min_plus rows cols a)
    weights_matrix = IsMatrix-matrix_of min_plus shape (λ i j. at min_plus a (rows.0 + i) (cols.0 + j)) (λ i j _ _. value_at-value min_plus min_plus_is_semiring a.entries (rows.0 + i) (cols.0 + j) (weights_there a is).values)

    same_values : (i j : ℕ) → i < shape.rows → j < shape.cols → at min_plus (cut or_and rows cols a) i j ≡ at min_plus (cut min_plus rows cols a) i j
    same_values i j l k =
        let x = rows.0 + i in
        let y = cols.0 + j in
        let bits : at or_and (cut or_and rows cols a) i j ≡ at or_and a x y = at-matrix_of or_and shape (λ i j. at or_and a (rows.0 + i) (cols.0 + j)) i j l k in
        let weights : at min_plus (cut min_plus rows cols a) i j ≡ at min_plus a x y = at-matrix_of min_plus shape (λ i j. at min_plus a (rows.0 + i) (cols.0 + j)) i j l k in
        let here : Unit_value (at or_and (cut or_and rows cols a) i j) (at min_plus (cut or_and rows cols a) i j) = unit_value (cut or_and rows cols a).entries i j (ones_stored (cut or_and rows cols a) cut_bits) in
        let there : Unit_value (at or_and a x y) (at min_plus a x y) = unit_value a.entries x y (ones_stored a is) in
        ⊎_elim
        (λ (z : at or_and a x y ≡ 0). here.0 (bits ∙ z) ∙ sym (weights ∙ there.0 z))
        (λ (n : at or_and a x y ≡ 0 → ⊥). here.1 (λ z. n (sym bits ∙ z)) ∙ sym (weights ∙ there.1 n))
        (cases_eq (at or_and a x y) 0)

    -- a part, as bits or as weights, has the same entries
    pub cut_weights : cut or_and rows cols a ≡ cut min_plus rows cols a
    cut_weights = same_matrix min_plus (cut or_and rows cols a) (cut min_plus rows cols a) (weights_there (cut or_and rows cols a) cut_bits) weights_matrix refl same_values

  -- the distances in it are its levels
  pub distances_levels : a.shape.rows ≡ a.shape.cols → a.shape.rows < infinite → DistancesAreLevels a
  distances_levels square fits source column l h = levels_are a is square fits source l column h
