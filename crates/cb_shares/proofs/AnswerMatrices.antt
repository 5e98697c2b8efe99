-- What is computed of matrices is a matrix.
use Rattle.std.proofs.Common.{◌≡◌, ℕ, ◌<◌, ◌+◌, ◌-◌, ◌/◌, ◌%◌, zero, suc, Bool, cond, not, ◌==◌, true, false, List, [], ◌∷◌, map, refl, subst}
use Rattle.std.specs.Prelude.{All, min}
use Rattle.std.specs.List.{range_with_len}
use Rattle.std.specs.Int.NonZero.{non_zero_u32_get}
use Rattle.std.proofs.lemmas.List.Elements.{All-head, All-tail}
use Rattle.cb_semirings.specs.Arithmetic.{Arithmetic, IsSemiring, IsValue}
use Rattle.cb_matrix.specs.Sparse.{Sparse, Extent, IsMatrix, at}
use Rattle.cb_matrix.specs.Values.{product, product_shape, total}
use Rattle.cb_matrix.specs.Operations.{has_entry, is_covered}
use Rattle.cb_matrix.specs.Passing.{passes}
use Rattle.cb_matrix.proofs.Made.{IsMatrix-matrix_of}
use Rattle.cb_matrix.proofs.Totals.{total_value, each_value, value_at-value}
use Rattle.cb_layout.proofs.GrownBlocks.{empty_is_matrix}
use Rattle.cb_operations.specs.declared.operations.Operation.{Operation}
use Rattle.cb_operations.specs.declared.operations.Operation.TheVariants.{Multiply, MultiplyMasked, MultiplyVector, Transpose, RowSums, ColumnSums, Add, Times, Prune}
use Rattle.cb_operations.specs.OperationAnswers as operations
use Rattle.cb_operations.specs.OperationAnswers.{extent_at, matrix_at, shapes_in}
use Rattle.cb_operations.specs.declared.functions.Function.{Function}
use Rattle.cb_operations.specs.declared.functions.Function.TheVariants.{Constant, Sum, LeftProduct, RightProduct, Row, Column}
use Rattle.cb_operations.specs.declared.selections.Selection.{Selection}
use Rattle.cb_operations.specs.declared.selections.Selection.TheVariants.{Select, Apply, Diagonal, DiagonalMatrix, Power, Part, Kronecker, Assign, Exclude}
use Rattle.cb_operations.specs.SelectionAnswers as selections
use Rattle.cb_operations.specs.declared.computations.Computation.{Computation}
use Rattle.cb_operations.specs.declared.computations.Computation.TheVariants as of
use Rattle.cb_operations.specs.Computations.{Suits, answer_of}
use Rattle.cb_operations.specs.Functions.{TakesValues, function_value, operand_of}
use Rattle.cb_operations.specs.Regions.{is_in}
use Rattle.cb_operations.specs.SelectionAnswers.{times_itself, pair_shape, excluded}
use Rattle.cb_elementwise.specs.RuleLaws.{function_value-value}

module _ (s : Arithmetic) (laws : IsSemiring s) where
  -- each place of a matrix has a value
  value : (a : Sparse) → IsMatrix s a → (i j : ℕ) → IsValue s (at s a i j)
  value a is i j = value_at-value s laws a.entries i j is.values

  either : (b : Bool) (x y : ℕ) → IsValue s x → IsValue s y → IsValue s (cond b x y)
  either b x y is_x is_y = elim b as (λ b. IsValue s (cond b x y)) [ true ↦ is_x | false ↦ is_y ]

  -- sums of values are values
  summed : (f : ℕ → ℕ) → ((k : ℕ) → IsValue s (f k)) → (n : ℕ) → IsValue s (total s (map f (range_with_len 0 n)))
  summed f are n = total_value s laws (map f (range_with_len 0 n)) (each_value s laws f are (range_with_len 0 n))

  product_matrix : (a b : Sparse) → ((i j : ℕ) → IsValue s (at s a i j)) → ((i j : ℕ) → IsValue s (at s b i j)) → IsMatrix s (product s a b)
  product_matrix a b are_a are_b =
      IsMatrix-matrix_of s (product_shape a b) (λ i j. total s (map (λ k. s.mul (at s a i k) (at s b k j)) (range_with_len 0 a.shape.cols)))
      (λ i j _ _. summed (λ k. s.mul (at s a i k) (at s b k j)) (λ k. laws.mul_value (at s a i k) (at s b k j) (are_a i k) (are_b k j)) a.shape.cols)

  -- each of listed matrices is one, also the matrix without entries that stands after them
  matrix_in : (ms : List Sparse) → All (IsMatrix s) ms → (n : ℕ) → IsMatrix s (matrix_at ms n)
  matrix_in [] are n = empty_is_matrix s (record { rows = 0; cols = 0 })
  matrix_in (m ∷ ms) are zero = All-head (IsMatrix s) m ms are
  matrix_in (m ∷ ms) are (suc n) = matrix_in ms (All-tail (IsMatrix s) m ms are) n

  -- a matrix without the entries at the places of a mask
  excluded_matrix : (a m : Sparse) → IsMatrix s a → IsMatrix s (excluded s a m)
  excluded_matrix a m is =
      IsMatrix-matrix_of s a.shape (λ i j. cond (has_entry s m i j) s.zero (at s a i j))
      (λ i j _ _. either (has_entry s m i j) s.zero (at s a i j) laws.zero_value (value a is i j))

  -- the result of an operation, by the values at the places of the operands
  operation_matrix : (operation : Operation) (ms : List Sparse) → ((n i j : ℕ) → IsValue s (at s (matrix_at ms n) i j)) → IsMatrix s (operations.answer_of operation s ms)
  operation_matrix Multiply ms are = product_matrix (matrix_at ms 0) (matrix_at ms 1) (are 0) (are 1)
  operation_matrix MultiplyMasked ms are =
      let p : Sparse = product s (matrix_at ms 0) (matrix_at ms 1) in
      let is_p = product_matrix (matrix_at ms 0) (matrix_at ms 1) (are 0) (are 1) in
      IsMatrix-matrix_of s p.shape (λ i j. cond (has_entry s (matrix_at ms 2) i j) (at s p i j) s.zero)
      (λ i j _ _. either (has_entry s (matrix_at ms 2) i j) (at s p i j) s.zero (value p is_p i j) laws.zero_value)
  operation_matrix MultiplyVector ms are = product_matrix (matrix_at ms 0) (matrix_at ms 1) (are 0) (are 1)
  operation_matrix Transpose ms are =
      let a : Sparse = matrix_at ms 0 in
      IsMatrix-matrix_of s (record { rows = a.shape.cols; cols = a.shape.rows }) (λ i j. at s a j i) (λ i j _ _. are 0 j i)
  operation_matrix RowSums ms are =
      let a : Sparse = matrix_at ms 0 in
      IsMatrix-matrix_of s (record { rows = a.shape.rows; cols = 1 }) (λ i j. total s (map (λ k. at s a i k) (range_with_len 0 a.shape.cols)))
      (λ i j _ _. summed (λ k. at s a i k) (λ k. are 0 i k) a.shape.cols)
  operation_matrix ColumnSums ms are =
      let a : Sparse = matrix_at ms 0 in
      IsMatrix-matrix_of s (record { rows = 1; cols = a.shape.cols }) (λ i j. total s (map (λ k. at s a k j) (range_with_len 0 a.shape.rows)))
      (λ i j _ _. summed (λ k. at s a k j) (λ k. are 0 k j) a.shape.rows)
  operation_matrix Add ms are =
      IsMatrix-matrix_of s (matrix_at ms 0).shape (λ i j. s.add (at s (matrix_at ms 0) i j) (at s (matrix_at ms 1) i j))
      (λ i j _ _. laws.add_value (at s (matrix_at ms 0) i j) (at s (matrix_at ms 1) i j) (are 0 i j) (are 1 i j))
  operation_matrix Times ms are =
      IsMatrix-matrix_of s (matrix_at ms 0).shape (λ i j. s.mul (at s (matrix_at ms 0) i j) (at s (matrix_at ms 1) i j))
      (λ i j _ _. laws.mul_value (at s (matrix_at ms 0) i j) (at s (matrix_at ms 1) i j) (are 0 i j) (are 1 i j))
  operation_matrix (Prune test) ms are =
      let a : Sparse = matrix_at ms 0 in
      IsMatrix-matrix_of s a.shape (λ i j. cond (passes test (at s a i j)) s.zero (at s a i j))
      (λ i j _ _. either (passes test (at s a i j)) s.zero (at s a i j) laws.zero_value (are 0 i j))

  -- the number that a function takes at a place inside the shape
  taken : (f : Function) (shape : Extent) (i j : ℕ) → i < shape.rows → j < shape.cols → TakesValues s f shape → IsValue s (operand_of f i j)
  taken (Constant n) shape i j l m takes = takes
  taken (Sum n) shape i j l m takes = takes
  taken (LeftProduct n) shape i j l m takes = takes
  taken (RightProduct n) shape i j l m takes = takes
  taken Row shape i j l m takes = takes i l
  taken Column shape i j l m takes = takes j m

  -- the shape of the first of listed matrices
  first_shape : (ms : List Sparse) → extent_at (shapes_in ms) 0 ≡ (matrix_at ms 0).shape
  first_shape [] = refl
  first_shape (m ∷ ms) = refl

  -- a product of equal factors
  power_matrix : (a : Sparse) → IsMatrix s a → (n : ℕ) → IsMatrix s (times_itself s a n)
  unfolding times_itself
  power_matrix a is zero = is
  power_matrix a is (suc n) = product_matrix (times_itself s a n) a (value (times_itself s a n) (power_matrix a is n)) (value a is)

  -- the result of a selection
  selection_matrix : (selection : Selection) (ms : List Sparse) → selections.Suits selection s (shapes_in ms) → All (IsMatrix s) ms → IsMatrix s (selections.answer_of selection s ms)
  selection_matrix (Select region) ms suits are =
      let a : Sparse = matrix_at ms 0 in
      IsMatrix-matrix_of s a.shape (λ i j. cond (is_in region i j) (at s a i j) s.zero)
      (λ i j _ _. either (is_in region i j) (at s a i j) s.zero (value a (matrix_in ms are 0) i j) laws.zero_value)
  selection_matrix (Apply f) ms suits are =
      let a : Sparse = matrix_at ms 0 in
      let takes = subst (TakesValues s f) (first_shape ms) suits in
      IsMatrix-matrix_of s a.shape (λ i j. cond (not (at s a i j == s.zero)) (function_value s f i j (at s a i j)) s.zero)
      (λ i j l m. either (not (at s a i j == s.zero)) (function_value s f i j (at s a i j)) s.zero (function_value-value s laws f i j (at s a i j) (taken f a.shape i j l m takes) (value a (matrix_in ms are 0) i j)) laws.zero_value)
  selection_matrix Diagonal ms suits are =
      let a : Sparse = matrix_at ms 0 in
      IsMatrix-matrix_of s (record { rows = min a.shape.rows a.shape.cols; cols = 1 }) (λ i j. at s a i i) (λ i j _ _. value a (matrix_in ms are 0) i i)
  selection_matrix DiagonalMatrix ms suits are =
      let a : Sparse = matrix_at ms 0 in
      IsMatrix-matrix_of s (record { rows = a.shape.rows; cols = a.shape.rows }) (λ i j. cond (i == j) (at s a j 0) s.zero)
      (λ i j _ _. either (i == j) (at s a j 0) s.zero (value a (matrix_in ms are 0) j 0) laws.zero_value)
  selection_matrix (Power factors) ms suits are = power_matrix (matrix_at ms 0) (matrix_in ms are 0) (non_zero_u32_get factors - 1)
  selection_matrix (Part rows cols) ms suits are =
      let a : Sparse = matrix_at ms 0 in
      IsMatrix-matrix_of s (record { rows = rows.1 - rows.0; cols = cols.1 - cols.0 }) (λ i j. at s a (rows.0 + i) (cols.0 + j))
      (λ i j _ _. value a (matrix_in ms are 0) (rows.0 + i) (cols.0 + j))
  selection_matrix Kronecker ms suits are =
      let a : Sparse = matrix_at ms 0 in
      let b : Sparse = matrix_at ms 1 in
      let f : ℕ → ℕ → ℕ = λ i j. at s a (i / b.shape.rows) (j / b.shape.cols) in
      let g : ℕ → ℕ → ℕ = λ i j. at s b (i % b.shape.rows) (j % b.shape.cols) in
      IsMatrix-matrix_of s (pair_shape a b) (λ i j. s.mul (f i j) (g i j))
      (λ i j _ _. laws.mul_value (f i j) (g i j) (value a (matrix_in ms are 0) _ _) (value b (matrix_in ms are 1) _ _))
  selection_matrix (Assign corner) ms suits are =
      let a : Sparse = matrix_at ms 0 in
      let b : Sparse = matrix_at ms 1 in
      IsMatrix-matrix_of s a.shape (λ i j. cond (is_covered corner b.shape i j) (at s b (i - corner.0) (j - corner.1)) (at s a i j))
      (λ i j _ _. either (is_covered corner b.shape i j) (at s b (i - corner.0) (j - corner.1)) (at s a i j) (value b (matrix_in ms are 1) (i - corner.0) (j - corner.1)) (value a (matrix_in ms are 0) i j))
  selection_matrix Exclude ms suits are = excluded_matrix (matrix_at ms 0) (matrix_at ms 1) (matrix_in ms are 0)

  -- the result of any computation that suits the matrices
  pub answer_matrix : (computation : Computation) (ms : List Sparse) → Suits computation s (shapes_in ms) → All (IsMatrix s) ms → IsMatrix s (answer_of computation s ms)
  answer_matrix (of.Operation operation) ms suits are = operation_matrix operation ms (λ n i j. value (matrix_at ms n) (matrix_in ms are n) i j)
  answer_matrix (of.Selection selection) ms suits are = selection_matrix selection ms suits are
  answer_matrix of.MultiplyOutside ms suits are =
      let a : Sparse = matrix_at ms 0 in
      let b : Sparse = matrix_at ms 1 in
      excluded_matrix (product s a b) (matrix_at ms 2) (product_matrix a b (value a (matrix_in ms are 0)) (value b (matrix_in ms are 1)))
