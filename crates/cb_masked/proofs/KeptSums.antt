-- The sums other than zero, which are copied row by row.
use Rattle.std.proofs.Common.{◌≡◌, ◌≢◌, ℕ, ◌+◌, ◌<◌, ◌≤◌, None, List, [], ◌∷◌, ◌++◌, length, get_or, sym, ap, ◌∙◌, arith}
use Rattle.std.specs.Prelude.{All, AllPairs}
use Rattle.std.proofs.lemmas.List.Elements.{All-nil, All-weaker, All-get_or}
use Rattle.cb_semirings.specs.Arithmetic.{Arithmetic, IsValue, IsSemiring}
use Rattle.cb_matrix.proofs.Pairs.{AllPairs-nil}
use Rattle.cb_dcsc.specs.Columns.{row_value}
use Rattle.cb_product.specs.SparseColumn.{SparseColumn, IsSparseColumn, one_value, rest_value}
use Rattle.cb_product.proofs.RowValues.{row_value-value, one_value-value, scaled_value, scaled_split, scaled_end}
use Rattle.cb_product.proofs.ColumnSoFar.{IsColumnSoFar, so_far_start, so_far_more, so_far_all, kept_none, kept_column, kept_sum, kept_rows}

abbrev column : List ℕ → List ℕ → SparseColumn
column rows values = record { rows = rows; values = values }

-- a sparse column with the sums of the rows before the n-th
pub record AreKeptSoFar (s : Arithmetic) (rows sums : List ℕ) (n : ℕ) (kept values : List ℕ) : Type 0 where
  pub sparse : IsSparseColumn s kept values
  pub so_far : IsColumnSoFar s (row_value s.zero rows sums) (column kept values) (rest_value s.zero rows sums n)
  pub before : n < length rows → All (λ i. i < get_or rows n 0) kept

module _ (s : Arithmetic) (laws : IsSemiring s) (rows sums : List ℕ) (same : length sums ≡ length rows) (values_are : All (IsValue s) sums) where
  -- each sum is a value
  pub sum_value : (n : ℕ) → n < length rows → IsValue s (get_or sums n 0)
  sum_value n l = All-get_or (IsValue s) sums n 0 (omega arith) values_are

  -- without entries, before the first row
  pub kept_start : (kept values : List ℕ) → kept ≡ [] → values ≡ [] → AreKeptSoFar s rows sums 0 kept values
  kept_start kept values p q = record {
    sparse = record {
      same_length = ap length q ∙ sym (ap length p);
      ascending = rw p (AllPairs-nil (λ i j. i < j));
      are_values = rw q (All-nil (IsValue s));
      not_zero = rw q (All-nil (λ v. v ≢ s.zero));
    };
    so_far = so_far_start s laws (row_value s.zero rows sums) (column kept values) p (λ i. row_value-value s laws rows sums i values_are);
    before = λ _. rw p (All-nil (λ i. i < get_or rows 0 0));
  }

  module _ (up : AllPairs (λ i j. i < j) rows) (n : ℕ) (l : n < length rows) (kept values : List ℕ) (h : AreKeptSoFar s rows sums n kept values) (v : ℕ) (v_is : v ≡ get_or sums n 0) (is_v : IsValue s v) where
    split : (i : ℕ) → rest_value s.zero rows sums n i ≡ s.add (one_value s.zero (get_or rows n 0, v) i) (rest_value s.zero rows sums (n + 1) i)
    split i = scaled_split s laws rows sums None same values_are tt n i up l ∙ ap (λ x. s.add (one_value s.zero (get_or rows n 0, x) i) (rest_value s.zero rows sums (n + 1) i)) (sym v_is)

    next : n + 1 < length rows → get_or rows n 0 < get_or rows (n + 1) 0
    next m = up n (n + 1) 0 (omega arith) m

    more : (kept' values' : List ℕ) → ((i : ℕ) → row_value s.zero kept' values' i ≡ s.add (row_value s.zero kept values i) (one_value s.zero (get_or rows n 0, v) i)) → IsColumnSoFar s (row_value s.zero rows sums) (column kept' values') (rest_value s.zero rows sums (n + 1))
    more kept' values' step =
        so_far_more s laws (row_value s.zero rows sums) (column kept values) (column kept' values') (rest_value s.zero rows sums n) (one_value s.zero (get_or rows n 0, v)) (rest_value s.zero rows sums (n + 1)) h.so_far split
        (λ i. one_value-value s laws (get_or rows n 0, v) i is_v) (λ i. scaled_value s laws rows sums None same values_are tt (n + 1) i) step

    -- a sum of zero isn't copied
    pub kept_zero : v ≡ s.zero → AreKeptSoFar s rows sums (n + 1) kept values
    kept_zero zero = record {
      sparse = h.sparse;
      so_far = more kept values (kept_none s laws kept values h.sparse (get_or rows n 0) v is_v zero);
      before = λ m. let less = next m in All-weaker (λ i. i < get_or rows n 0) (λ i. i < get_or rows (n + 1) 0) (λ i k. omega arith) kept (h.before l);
    }

    -- any other sum is
    pub kept_more : v ≢ s.zero → AreKeptSoFar s rows sums (n + 1) (kept ++ get_or rows n 0 ∷ []) (values ++ v ∷ [])
    kept_more some = record {
      sparse = kept_column s laws kept values h.sparse (get_or rows n 0) v is_v (h.before l) some;
      so_far = more (kept ++ get_or rows n 0 ∷ []) (values ++ v ∷ []) (kept_sum s laws kept values h.sparse (get_or rows n 0) v is_v (h.before l));
      before = λ m. kept_rows s laws kept values h.sparse (get_or rows n 0) v is_v (h.before l) (get_or rows (n + 1) 0) (next m);
    }

  -- past the last row the column has the sums
  pub kept_all : (n : ℕ) (kept values : List ℕ) → length rows ≤ n → AreKeptSoFar s rows sums n kept values → (i : ℕ) → row_value s.zero kept values i ≡ row_value s.zero rows sums i
  kept_all n kept values l h i = so_far_all s laws (row_value s.zero rows sums) (column kept values) (rest_value s.zero rows sums n) h.so_far (λ i. scaled_end s laws rows sums None same values_are tt n i l) i
