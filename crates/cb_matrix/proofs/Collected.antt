-- Combined entries are the matrix of the sums.
use Rattle.std.proofs.Common.{◌≡◌, ℕ, List, map, filter, refl, ap, ◌∙◌}
use Rattle.std.specs.Prelude.{All, IsPermutation}
use Rattle.std.proofs.lemmas.List.Sorted.{All-permutation}
use Rattle.cb_semirings.specs.Arithmetic.{Arithmetic, IsValue, IsSemiring}
use Rattle.cb_matrix.specs.declared.Entry.{Entry}
use Rattle.cb_matrix.specs.Sparse.{Extent, IsMatrix, is_at, IsInside}
use Rattle.cb_matrix.specs.Values.{total, values_at, collected}
use Rattle.cb_matrix.specs.Combined.{IsCombined}
use Rattle.cb_matrix.proofs.Made.{is_matrix_of}
use Rattle.cb_matrix.proofs.Totals.{total_value, values_at-values}

module _ (s : Arithmetic) (laws : IsSemiring s) (shape : Extent) (given sorted kept : List Entry) (inside : All (IsInside shape) given) (values : All (λ e. IsValue s e.value) given) (moved : IsPermutation given sorted) (combined : IsCombined s sorted kept) where
  -- they make a matrix
  pub collected_matrix : IsMatrix s (record { shape = shape; entries = kept })
  collected_matrix = record {
    ascending = combined.ascending;
    inside = combined.inside shape (All-permutation (IsInside shape) given sorted moved inside);
    values = combined.values;
    not_zero = combined.not_zero;
  }

  -- it is the one that has the sum of the values given at each place
  pub collected_is : ((i j : ℕ) → filter (is_at i j) sorted ≡ filter (is_at i j) given) → record { shape = shape; entries = kept } ≡ collected s shape given
  collected_is same =
      is_matrix_of s (record { shape = shape; entries = kept }) shape (λ i j. total s (values_at given i j)) collected_matrix refl
      (λ i j _ _. total_value s laws (values_at given i j) (values_at-values s laws given i j values))
      (λ i j _ _. combined.sums i j ∙ ap (λ (es : List Entry). total s (map (λ (e : Entry). e.value) es)) (same i j))
