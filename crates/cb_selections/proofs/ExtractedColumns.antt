-- Rows and columns by their numbers.
use Rattle.std.proofs.Common.{◌≡◌, ℕ, ◌<◌, List, length, get_or, ap, refl, sym, ◌∙◌, arith}
use Rattle.std.specs.Prelude.{All}
use Rattle.std.specs.List.{range_with_len}
use Rattle.std.proofs.lemmas.List.{get_or_default}
use Rattle.std.proofs.lemmas.List.Elements.{All-get_or}
use Rattle.std.proofs.lemmas.List.FromFn.{length-range_with_len, get_or-range_with_len}
use Rattle.cb_semirings.specs.Arithmetic.{Arithmetic, IsSemiring}
use Rattle.cb_matrix.specs.Sparse.{Sparse, Extent, IsMatrix, at}
use Rattle.cb_matrix.specs.Values.{matrix_of}
use Rattle.cb_matrix.specs.Operations.{transposed}
use Rattle.cb_matrix.proofs.Made.{at-matrix_of, same_matrix_of}
use Rattle.cb_operations.specs.Regions.{where_true}
use Rattle.cb_selections.specs.Extracted.{extracted, rows_by, columns_by, is_between, extracted_between, columns_between}
use Rattle.cb_selections.proofs.ListedRows.{all_listed, value_for}
use Rattle.cb_selections.proofs.RangedColumns.{ranged_whole}

-- the rows of the columns
pub extracted_is : (s : Arithmetic) (a : Sparse) (rows cols : List ℕ) → All (λ i. i < a.shape.rows) rows → rows_by s rows (columns_by s cols a) ≡ extracted s rows cols a
extracted_is s a rows cols inside =
    same_matrix_of s (record { rows = length rows; cols = length cols }) (λ i j. at s (columns_by s cols a) (get_or rows i 0) j) (λ i j. at s a (get_or rows i 0) (get_or cols j 0)) (λ i j l m.
    at-matrix_of s (record { rows = a.shape.rows; cols = length cols }) (λ i j. at s a i (get_or cols j 0)) (get_or rows i 0) j (All-get_or (λ i. i < a.shape.rows) rows i 0 l inside) m)

-- rows are the columns of the transpose
pub rows_are : (s : Arithmetic) (a : Sparse) (rows : List ℕ) → All (λ i. i < a.shape.rows) rows → transposed s (columns_by s rows (transposed s a)) ≡ rows_by s rows a
rows_are s a rows inside =
    let turned = transposed s a in
    same_matrix_of s (record { rows = length rows; cols = a.shape.cols }) (λ i j. at s (columns_by s rows turned) j i) (λ i j. at s a (get_or rows i 0) j) (λ i j l m.
    let low : get_or rows i 0 < a.shape.rows = All-get_or (λ i. i < a.shape.rows) rows i 0 l inside in
    at-matrix_of s (record { rows = a.shape.cols; cols = length rows }) (λ i j. at s turned i (get_or rows j 0)) j i m l
    ∙ at-matrix_of s (record { rows = a.shape.cols; cols = a.shape.rows }) (λ i j. at s a j i) j (get_or rows i 0) m low)

-- the rows of some columns
pub between_is : (s : Arithmetic) (a : Sparse) (rows cols : List ℕ) (first end : ℕ) → All (λ i. i < a.shape.rows) rows → rows_by s rows (columns_between s cols first end a) ≡ extracted_between s rows cols first end a
between_is s a rows cols first end inside =
    let extent : Extent = record { rows = a.shape.rows; cols = length cols } in
    let some : ℕ → ℕ → ℕ = λ i j. where_true s.zero (is_between first end j) (at s a i (get_or cols j 0)) in
    same_matrix_of s (record { rows = length rows; cols = length cols }) (λ i j. at s (matrix_of s extent some) (get_or rows i 0) j) (λ i j. some (get_or rows i 0) j) (λ i j l m.
    at-matrix_of s extent some (get_or rows i 0) j (All-get_or (λ i. i < a.shape.rows) rows i 0 l inside) m)

-- the nth of all numbers below a bound
nth : (n i : ℕ) → i < n → get_or (range_with_len 0 n) i 0 ≡ i
nth n i l = omega (arith, get_or-range_with_len 0 n i 0 l)

module _ (s : Arithmetic) (a : Sparse) where
  -- columns are those of all rows
  pub columns_of_all : (cols : List ℕ) → columns_by s cols a ≡ extracted s (range_with_len 0 a.shape.rows) cols a
  columns_of_all cols =
      let all = range_with_len 0 a.shape.rows in
      let count = length-range_with_len 0 a.shape.rows in
      same_matrix_of s (record { rows = a.shape.rows; cols = length cols }) (λ i j. at s a i (get_or cols j 0)) (λ i j. at s a (get_or all i 0) (get_or cols j 0)) (λ i j l _. ap (λ r. at s a r (get_or cols j 0)) (sym (nth a.shape.rows i l)))
      ∙ (λ z. matrix_of s (record { rows = sym count z; cols = length cols }) (λ i j. at s a (get_or all i 0) (get_or cols j 0)))

  -- so are some columns, where a list has all rows
  pub between_rows : (rows cols : List ℕ) (first end : ℕ) → length rows ≡ a.shape.rows → ((i : ℕ) → i < length rows → get_or rows i 0 ≡ i) → columns_between s cols first end a ≡ extracted_between s rows cols first end a
  between_rows rows cols first end count own =
      same_matrix_of s (record { rows = a.shape.rows; cols = length cols }) (λ i j. where_true s.zero (is_between first end j) (at s a i (get_or cols j 0))) (λ i j. where_true s.zero (is_between first end j) (at s a (get_or rows i 0) (get_or cols j 0)))
      (λ i j l _. ap (λ r. where_true s.zero (is_between first end j) (at s a r (get_or cols j 0))) (sym (own i (omega (arith, l, count)))))
      ∙ (λ z. matrix_of s (record { rows = sym count z; cols = length cols }) (λ i j. where_true s.zero (is_between first end j) (at s a (get_or rows i 0) (get_or cols j 0))))

  pub between_all : (cols : List ℕ) (first end : ℕ) → columns_between s cols first end a ≡ extracted_between s (range_with_len 0 a.shape.rows) cols first end a
  between_all cols first end =
      let count = length-range_with_len 0 a.shape.rows in
      between_rows (range_with_len 0 a.shape.rows) cols first end count (λ i l. nth a.shape.rows i (omega (arith, l, count)))

  -- the columns at all places are all of them
  pub columns_whole : (cols : List ℕ) → columns_between s cols 0 (length cols) a ≡ columns_by s cols a
  columns_whole cols = ranged_whole s (record { rows = a.shape.rows; cols = length cols }) (λ i j. at s a i (get_or cols j 0)) 0 (length cols) refl refl

  pub both_whole : (rows cols : List ℕ) → extracted_between s rows cols 0 (length cols) a ≡ extracted s rows cols a
  both_whole rows cols = ranged_whole s (record { rows = length rows; cols = length cols }) (λ i j. at s a (get_or rows i 0) (get_or cols j 0)) 0 (length cols) refl refl

  -- a row that is listed has a place below the number of rows
  pub both_listed : (is : IsMatrix s a) (rows cols : List ℕ) (first end : ℕ)
      → matrix_of s (record { rows = length rows; cols = length cols }) (λ i j. where_true s.zero (is_between first end j) (value_for s a is rows i (get_or cols j 0))) ≡ extracted_between s rows cols first end a
  both_listed is rows cols first end =
      same_matrix_of s (record { rows = length rows; cols = length cols }) (λ i j. where_true s.zero (is_between first end j) (value_for s a is rows i (get_or cols j 0))) (λ i j. where_true s.zero (is_between first end j) (at s a (get_or rows i 0) (get_or cols j 0)))
      (λ i j l _. ap (λ r. where_true s.zero (is_between first end j) (at s a r (get_or cols j 0))) (get_or_default rows i a.shape.rows 0 l))

  -- and rows those of all columns
  pub rows_of_all : (rows : List ℕ) → rows_by s rows a ≡ extracted s rows (range_with_len 0 a.shape.cols) a
  rows_of_all rows =
      let all = range_with_len 0 a.shape.cols in
      let count = length-range_with_len 0 a.shape.cols in
      same_matrix_of s (record { rows = length rows; cols = a.shape.cols }) (λ i j. at s a (get_or rows i 0) j) (λ i j. at s a (get_or rows i 0) (get_or all j 0)) (λ i j _ m. ap (at s a (get_or rows i 0)) (sym (nth a.shape.cols j m)))
      ∙ (λ z. matrix_of s (record { rows = length rows; cols = sym count z }) (λ i j. at s a (get_or rows i 0) (get_or all j 0)))

  -- a matrix has all of its rows and columns
  pub whole_is : IsSemiring s → IsMatrix s a → a ≡ extracted s (range_with_len 0 a.shape.rows) (range_with_len 0 a.shape.cols) a
  whole_is laws is =
      let all = range_with_len 0 a.shape.rows in
      let count = length-range_with_len 0 a.shape.rows in
      all_listed s a is all laws count (λ i l. nth a.shape.rows i (omega (arith, l, count))) ∙ rows_of_all all
