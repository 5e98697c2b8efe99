-- Operations that have at each place only what their operands have there: some columns of the answer are the answer to these
-- columns of the operands.
use Rattle.std.proofs.Common.{◌≡◌, ℕ, ◌<◌, Bool, true, false, cond, List, [], ◌∷◌, map, refl, arith, ap, ◌∙◌}
use Rattle.std.specs.Prelude.{◌==◌, not, Some, None}
use Rattle.std.specs.List.{range_with_len}
use Rattle.std.proofs.lemmas.Bool.{eq-eqb}
use Rattle.cb_semirings.specs.Arithmetic.{Arithmetic, IsValue, IsSemiring}
use Rattle.cb_matrix.specs.Sparse.{Sparse, Extent, IsMatrix, at}
use Rattle.cb_matrix.specs.Values.{matrix_of, product, total}
use Rattle.cb_matrix.specs.Operations.{sum_of, times_of, pruned, masked, column_sums}
use Rattle.cb_matrix.proofs.Totals.{value_at-value, total_value, each_value, total-same, total-zero}
use Rattle.cb_operations.specs.declared.regions.Region.{Region}
use Rattle.cb_operations.specs.declared.functions.Function.{Function}
use Rattle.cb_operations.specs.declared.functions.Function.TheVariants.{Constant, Sum, LeftProduct, RightProduct, Row, Column}
use Rattle.cb_operations.specs.Functions.{TakesValues, function_value, operand_of}
use Rattle.cb_operations.specs.Regions.{is_in}
use Rattle.cb_operations.specs.declared.operations.Operation.TheVariants.{MultiplyMasked, ColumnSums, Add, Times, Prune}
use Rattle.cb_operations.specs.declared.selections.Selection.TheVariants.{Select, Apply, Exclude}
use Rattle.cb_operations.specs.declared.computations.Computation.{Computation}
use Rattle.cb_operations.specs.declared.computations.Computation.TheVariants.{Operation, Selection, MultiplyOutside}
use Rattle.cb_operations.specs.Computations.{operand_count_of, Suits, answer_of}
use Rattle.cb_operations.specs.OperationAnswers.{shapes_in}
use Rattle.cb_matrix.specs.Passing.{passes}
use Rattle.cb_operations.specs.SelectionAnswers.{selected, applied, excluded}
use Rattle.cb_elementwise.specs.RuleLaws.{function_value-value}
use Rattle.cb_product.specs.InColumns.{only_columns}
use Rattle.cb_product.proofs.OnlyColumns.{only_value}
use Rattle.cb_selections.specs.declared.updates.WriteBack.{WriteBack}
use Rattle.cb_selections.specs.Updates.{updated, allows, written}
use Rattle.cb_shares.proofs.ColumnValues.{only_none, only_of, only_product, product_matrix}
use Rattle.cb_shares.specs.ByColumns.{IsByColumns}

module _ (s : Arithmetic) (laws : IsSemiring s) (cs : List ℕ) where
  -- an operation on three matrices, which has zero where none has an entry
  pub by_columns : (shape : Extent) (g : ℕ → ℕ → ℕ → ℕ → ℕ → ℕ) (a b m : Sparse) → ((i j : ℕ) → g i j s.zero s.zero s.zero ≡ s.zero)
      → ((i j : ℕ) → i < shape.rows → j < shape.cols → IsValue s (g i j (at s a i j) (at s b i j) (at s m i j)))
      → matrix_of s shape (λ i j. g i j (at s (only_columns cs a) i j) (at s (only_columns cs b) i j) (at s (only_columns cs m) i j)) ≡ only_columns cs (matrix_of s shape (λ i j. g i j (at s a i j) (at s b i j) (at s m i j)))
  by_columns shape g a b m none values =
      only_of s laws shape (λ i j. g i j (at s a i j) (at s b i j) (at s m i j)) (λ i j. g i j (at s (only_columns cs a) i j) (at s (only_columns cs b) i j) (at s (only_columns cs m) i j)) cs values
      (λ i j t x. g i j (only_value s.zero cs a i j t x) (only_value s.zero cs b i j t x) (only_value s.zero cs m i j t x))
      (λ i j u. (λ x. g i j (only_none s cs a i j u x) (only_none s cs b i j u x) (only_none s cs m i j u x)) ∙ none i j)

  -- each place has a value
  value : (a : Sparse) → IsMatrix s a → (i j : ℕ) → IsValue s (at s a i j)
  value a is i j = value_at-value s laws a.entries i j is.values

  either : (b : Bool) (x y : ℕ) → IsValue s x → IsValue s y → IsValue s (cond b x y)
  either b x y is_x is_y = elim b as (λ b. IsValue s (cond b x y)) [ true ↦ is_x | false ↦ is_y ]

  both_zero : (b : Bool) → cond b s.zero s.zero ≡ s.zero
  both_zero b = elim b as (λ b. cond b s.zero s.zero ≡ s.zero) [ true ↦ refl | false ↦ refl ]

  -- the number that a function takes at a place inside the shape
  taken : (f : Function) (shape : Extent) (i j : ℕ) → i < shape.rows → j < shape.cols → TakesValues s f shape → IsValue s (operand_of f i j)
  taken (Constant n) shape i j l m takes = takes
  taken (Sum n) shape i j l m takes = takes
  taken (LeftProduct n) shape i j l m takes = takes
  taken (RightProduct n) shape i j l m takes = takes
  taken Row shape i j l m takes = takes i l
  taken Column shape i j l m takes = takes j m

  module _ (a : Sparse) (is_a : IsMatrix s a) where
    pub pruned_columns : (passes : ℕ → Bool) → pruned s passes (only_columns cs a) ≡ only_columns cs (pruned s passes a)
    pruned_columns passes =
        by_columns a.shape (λ i j x y z. cond (passes x) s.zero x) a a a (λ i j. both_zero (passes s.zero))
        (λ i j _ _. either (passes (at s a i j)) s.zero (at s a i j) laws.zero_value (value a is_a i j))

    pub summed_columns : column_sums s (only_columns cs a) ≡ only_columns cs (column_sums s a)
    summed_columns =
        only_of s laws (record { rows = 1; cols = a.shape.cols }) (λ i j. total s (map (λ k. at s a k j) (range_with_len 0 a.shape.rows))) (λ i j. total s (map (λ k. at s (only_columns cs a) k j) (range_with_len 0 a.shape.rows))) cs
        (λ i j _ _. total_value s laws _ (each_value s laws (λ k. at s a k j) (λ k. value a is_a k j) (range_with_len 0 a.shape.rows)))
        (λ i j t. total-same s laws (λ k. at s (only_columns cs a) k j) (λ k. at s a k j) (λ k. only_value s.zero cs a k j t) (range_with_len 0 a.shape.rows))
        (λ i j u. total-zero s laws (λ k. at s (only_columns cs a) k j) 0 a.shape.rows (λ k _. only_none s cs a k j u))

    pub selected_columns : (region : Region) → selected s region (only_columns cs a) ≡ only_columns cs (selected s region a)
    selected_columns region =
        by_columns a.shape (λ i j x y z. cond (is_in region i j) x s.zero) a a a (λ i j. both_zero (is_in region i j))
        (λ i j _ _. either (is_in region i j) (at s a i j) s.zero (value a is_a i j) laws.zero_value)

    pub applied_columns : (f : Function) → TakesValues s f a.shape → applied s f (only_columns cs a) ≡ only_columns cs (applied s f a)
    applied_columns f takes =
        by_columns a.shape (λ i j x y z. cond (not (x == s.zero)) (function_value s f i j x) s.zero) a a a
        (λ i j. let same = eq-eqb s.zero s.zero refl in rw same refl)
        (λ i j l m. either (not (at s a i j == s.zero)) (function_value s f i j (at s a i j)) s.zero (function_value-value s laws f i j (at s a i j) (taken f a.shape i j l m takes) (value a is_a i j)) laws.zero_value)

    module _ (b : Sparse) (is_b : IsMatrix s b) where
      pub sum_columns : sum_of s (only_columns cs a) (only_columns cs b) ≡ only_columns cs (sum_of s a b)
      sum_columns =
          by_columns a.shape (λ i j x y z. s.add x y) a b b (λ i j. laws.zero_add s.zero laws.zero_value)
          (λ i j _ _. laws.add_value (at s a i j) (at s b i j) (value a is_a i j) (value b is_b i j))

      pub times_columns : times_of s (only_columns cs a) (only_columns cs b) ≡ only_columns cs (times_of s a b)
      times_columns =
          by_columns a.shape (λ i j x y z. s.mul x y) a b b (λ i j. laws.zero_mul s.zero laws.zero_value)
          (λ i j _ _. laws.mul_value (at s a i j) (at s b i j) (value a is_a i j) (value b is_b i j))

      pub excluded_columns : excluded s (only_columns cs a) (only_columns cs b) ≡ only_columns cs (excluded s a b)
      excluded_columns =
          by_columns a.shape (λ i j x y z. cond (not (y == s.zero)) s.zero x) a b b (λ i j. both_zero (not (s.zero == s.zero)))
          (λ i j _ _. either (not (at s b i j == s.zero)) s.zero (at s a i j) laws.zero_value (value a is_a i j))

      -- ---- updates
      written_value : (how : WriteBack) (b : Bool) (x y : ℕ) → IsValue s x → IsValue s y → IsValue s (written s how b x y)
      written_value how b x y is_x is_y =
          either b _ _ (either how.accumulate (s.add x y) y (laws.add_value x y is_x is_y) is_y) (either how.replace s.zero x laws.zero_value is_x)

      written_none : (how : WriteBack) (b : Bool) → written s how b s.zero s.zero ≡ s.zero
      written_none how b =
          (λ t. cond b (cond how.accumulate (laws.zero_add s.zero laws.zero_value t) s.zero) (both_zero how.replace t))
          ∙ (λ t. cond b (both_zero how.accumulate t) s.zero)
          ∙ both_zero b

      pub updated_columns : (how : WriteBack) → updated s how None (only_columns cs a) (only_columns cs b) ≡ only_columns cs (updated s how None a b)
      updated_columns how =
          by_columns a.shape (λ i j x y z. written s how (allows s how.complement None i j) x y) a b b (λ i j. written_none how (allows s how.complement None i j))
          (λ i j _ _. written_value how _ (at s a i j) (at s b i j) (value a is_a i j) (value b is_b i j))

      pub updated_columns_under : (how : WriteBack) (m : Sparse) → updated s how (Some (only_columns cs m)) (only_columns cs a) (only_columns cs b) ≡ only_columns cs (updated s how (Some m) a b)
      updated_columns_under how m =
          let is_allowed : ℕ → Bool = λ z. cond how.complement (not (not (z == s.zero))) (not (z == s.zero)) in
          by_columns a.shape (λ i j x y z. written s how (is_allowed z) x y) a b m (λ i j. written_none how (is_allowed s.zero))
          (λ i j _ _. written_value how _ (at s a i j) (at s b i j) (value a is_a i j) (value b is_b i j))

      -- ---- products
      -- under these columns of a mask, with these columns of the right factor
      pub masked_columns : (m : Sparse) → masked s (product s a (only_columns cs b)) (only_columns cs m) ≡ only_columns cs (masked s (product s a b) m)
      masked_columns m =
          let p : Sparse = product s a b in
          ap (λ (x : Sparse). masked s x (only_columns cs m)) (only_product s laws a b is_a is_b cs)
          ∙ by_columns p.shape (λ i j x y z. cond (not (y == s.zero)) x s.zero) p m m (λ i j. both_zero (not (s.zero == s.zero)))
          (λ i j _ _. either (not (at s m i j == s.zero)) (at s p i j) s.zero (value p (product_matrix s laws a b is_a is_b) i j) laws.zero_value)

  -- ---- by the value of a computation
  pub one_columns : (a : Sparse) → IsMatrix s a → (computation : Computation) → operand_count_of computation ≡ 1 → IsByColumns computation → Suits computation s (shapes_in (a ∷ []))
      → answer_of computation s (only_columns cs a ∷ []) ≡ only_columns cs (answer_of computation s (a ∷ []))
  one_columns a is (Operation ColumnSums) count by suits = summed_columns a is
  one_columns a is (Operation (Prune test)) count by suits = pruned_columns a is (passes test)
  one_columns a is (Operation Add) count by suits = let c : 2 ≡ 1 = count in absurd (omega (arith, c))
  one_columns a is (Operation Times) count by suits = let c : 2 ≡ 1 = count in absurd (omega (arith, c))
  one_columns a is (Selection (Select region)) count by suits = selected_columns a is region
  one_columns a is (Selection (Apply function)) count by suits = applied_columns a is function suits
  one_columns a is (Selection Exclude) count by suits = let c : 2 ≡ 1 = count in absurd (omega (arith, c))
  one_columns a is _ count by suits = absurd by

  pub two_columns : (a : Sparse) → IsMatrix s a → (b : Sparse) → IsMatrix s b → (computation : Computation) → operand_count_of computation ≡ 2 → IsByColumns computation
      → answer_of computation s (only_columns cs a ∷ only_columns cs b ∷ []) ≡ only_columns cs (answer_of computation s (a ∷ b ∷ []))
  two_columns a is b is_b (Operation Add) count by = sum_columns a is b is_b
  two_columns a is b is_b (Operation Times) count by = times_columns a is b is_b
  two_columns a is b is_b (Operation ColumnSums) count by = let c : 1 ≡ 2 = count in absurd (omega (arith, c))
  two_columns a is b is_b (Operation (Prune test)) count by = let c : 1 ≡ 2 = count in absurd (omega (arith, c))
  two_columns a is b is_b (Selection Exclude) count by = excluded_columns a is b is_b
  two_columns a is b is_b (Selection (Select region)) count by = let c : 1 ≡ 2 = count in absurd (omega (arith, c))
  two_columns a is b is_b (Selection (Apply function)) count by = let c : 1 ≡ 2 = count in absurd (omega (arith, c))
  two_columns a is b is_b _ count by = absurd by

  pub three_columns : (a : Sparse) → IsMatrix s a → (b : Sparse) → IsMatrix s b → (m : Sparse) → IsMatrix s m → (computation : Computation) → operand_count_of computation ≡ 3
      → answer_of computation s (a ∷ only_columns cs b ∷ only_columns cs m ∷ []) ≡ only_columns cs (answer_of computation s (a ∷ b ∷ m ∷ []))
  three_columns a is b is_b m is_m (Operation MultiplyMasked) count = masked_columns a is b is_b m
  three_columns a is b is_b m is_m MultiplyOutside count =
      ap (λ (x : Sparse). excluded s x (only_columns cs m)) (only_product s laws a b is is_b cs)
      ∙ excluded_columns (product s a b) (product_matrix s laws a b is is_b) m is_m
  three_columns a is b is_b m is_m (Selection Exclude) count = let c : 2 ≡ 3 = count in absurd (omega (arith, c))
  three_columns a is b is_b m is_m _ count = absurd (omega (arith, count))
