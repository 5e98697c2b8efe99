-- The sum of two columns, each times a factor, entry by entry.
use Rattle.std.proofs.Common.{◌≡◌, ℕ, ◌+◌, ◌<◌, Option, List, [], length, get_or, ap, ◌∙◌}
use Rattle.std.specs.Prelude.{All, AllPairs, IfSome}
use Rattle.cb_semirings.specs.Arithmetic.{Arithmetic, IsValue, IsSemiring}
use Rattle.cb_matrix.proofs.Totals.{swap_middle}
use Rattle.cb_matrix.proofs.Permuted.{swap_two}
use Rattle.cb_product.specs.SparseColumn.{SparseColumn, value_in, one_value, rest_value, scaled}
use Rattle.cb_product.proofs.ColumnSoFar.{IsColumnSoFar}
use Rattle.cb_dcsc.specs.Columns.{row_value}
use Rattle.cb_product.proofs.RowValues.{row_value-none, row_value-value, one_value-value, one_value-add, nth_product, scaled_value, scaled_split}

module _ (s : Arithmetic) (laws : IsSemiring s) (own_rows own_values : List ℕ) (own_scale : Option ℕ) (own_same : length own_values ≡ length own_rows) (own_all : All (IsValue s) own_values) (own_up : AllPairs (λ i j. i < j) own_rows) (is_own_scale : IfSome own_scale (IsValue s))
    (rows values : List ℕ) (scale : Option ℕ) (same : length values ≡ length rows) (all : All (IsValue s) values) (up : AllPairs (λ i j. i < j) rows) (is_scale : IfSome scale (IsValue s)) where
  abbrev own : ℕ → ℕ → ℕ
  own x i = scaled s (rest_value s.zero own_rows own_values x i) own_scale

  abbrev other : ℕ → ℕ → ℕ
  other y i = scaled s (rest_value s.zero rows values y i) scale

  own_value : (x i : ℕ) → IsValue s (own x i)
  own_value x i = scaled_value s laws own_rows own_values own_scale own_same own_all is_own_scale x i

  other_value : (y i : ℕ) → IsValue s (other y i)
  other_value y i = scaled_value s laws rows values scale same all is_scale y i

  -- the entries left in both add up to a value
  pub left_value : (x y i : ℕ) → IsValue s (s.add (own x i) (other y i))
  left_value x y i = laws.add_value _ _ (own_value x i) (other_value y i)

  -- each entry of the first column has a value, times its factor
  pub own_is : (x : ℕ) → x < length own_rows → IsValue s (scaled s (get_or own_values x 0) own_scale)
  own_is x l = nth_product s laws own_rows own_values own_scale own_same own_all is_own_scale x l

  -- and so has each entry of the second
  pub other_is : (y : ℕ) → y < length rows → IsValue s (scaled s (get_or values y 0) scale)
  other_is y l = nth_product s laws rows values scale same all is_scale y l

  own_split : (x i : ℕ) → x < length own_rows → own x i ≡ s.add (one_value s.zero (get_or own_rows x 0, scaled s (get_or own_values x 0) own_scale) i) (own (x + 1) i)
  own_split x i l = scaled_split s laws own_rows own_values own_scale own_same own_all is_own_scale x i own_up l

  other_split : (y i : ℕ) → y < length rows → other y i ≡ s.add (one_value s.zero (get_or rows y 0, scaled s (get_or values y 0) scale) i) (other (y + 1) i)
  other_split y i l = scaled_split s laws rows values scale same all is_scale y i up l

  -- the next entry is the first column's
  pub first_next : (x y i : ℕ) → x < length own_rows → s.add (own x i) (other y i) ≡ s.add (one_value s.zero (get_or own_rows x 0, scaled s (get_or own_values x 0) own_scale) i) (s.add (own (x + 1) i) (other y i))
  first_next x y i l = ap (λ t. s.add t (other y i)) (own_split x i l) ∙ laws.add_assoc _ _ _ (one_value-value s laws (get_or own_rows x 0, scaled s (get_or own_values x 0) own_scale) i (own_is x l)) (own_value (x + 1) i) (other_value y i)

  -- the next entry is the second column's
  pub other_next : (x y i : ℕ) → y < length rows → s.add (own x i) (other y i) ≡ s.add (one_value s.zero (get_or rows y 0, scaled s (get_or values y 0) scale) i) (s.add (own x i) (other (y + 1) i))
  other_next x y i l = ap (s.add (own x i)) (other_split y i l) ∙ swap_two s laws (own x i) (one_value s.zero (get_or rows y 0, scaled s (get_or values y 0) scale) i) (other (y + 1) i) (own_value x i) (one_value-value s laws (get_or rows y 0, scaled s (get_or values y 0) scale) i (other_is y l)) (other_value (y + 1) i)

  -- both next entries are at the same row
  pub both_next : (x y i : ℕ) → x < length own_rows → y < length rows → get_or own_rows x 0 ≡ get_or rows y 0 → s.add (own x i) (other y i) ≡ s.add (one_value s.zero (get_or rows y 0, s.add (scaled s (get_or own_values x 0) own_scale) (scaled s (get_or values y 0) scale)) i) (s.add (own (x + 1) i) (other (y + 1) i))
  both_next x y i lx ly e =
      (λ t. s.add (own_split x i lx t) (other_split y i ly t))
      ∙ swap_middle s laws _ _ _ _ (one_value-value s laws (get_or own_rows x 0, scaled s (get_or own_values x 0) own_scale) i (own_is x lx)) (own_value (x + 1) i) (one_value-value s laws (get_or rows y 0, scaled s (get_or values y 0) scale) i (other_is y ly)) (other_value (y + 1) i)
      ∙ ap (λ t. s.add t (s.add (own (x + 1) i) (other (y + 1) i))) (ap (λ r. s.add (one_value s.zero (r, scaled s (get_or own_values x 0) own_scale) i) (one_value s.zero (get_or rows y 0, scaled s (get_or values y 0) scale) i)) e ∙ one_value-add s laws (get_or rows y 0) (scaled s (get_or own_values x 0) own_scale) (scaled s (get_or values y 0) scale) i)

  -- the entries left in both are appended
  pub joined_all : (f : ℕ → ℕ) (c first last : SparseColumn) (x y : ℕ) → IsColumnSoFar s f c (λ i. s.add (own x i) (other y i)) → ((i : ℕ) → value_in s.zero first i ≡ s.add (value_in s.zero c i) (own x i)) → ((i : ℕ) → value_in s.zero last i ≡ s.add (value_in s.zero first i) (other y i)) → (i : ℕ) → value_in s.zero last i ≡ f i
  joined_all f c first last x y h p q i = q i ∙ ap (λ t. s.add t (other y i)) (p i) ∙ laws.add_assoc _ _ _ (h.values i) (own_value x i) (other_value y i) ∙ h.sums i

-- the first column, to which terms are added
pub joined_start : (s : Arithmetic) → IsSemiring s → (rows values : List ℕ) → All (IsValue s) values → (cleared made : SparseColumn) (rest : ℕ → ℕ) → cleared.rows ≡ [] → ((i : ℕ) → value_in s.zero made i ≡ s.add (value_in s.zero cleared i) (rest_value s.zero rows values 0 i)) → IsColumnSoFar s (λ i. s.add (row_value s.zero rows values i) (rest i)) made rest
joined_start s laws rows values all cleared made rest none step =
    let is = λ (i : ℕ). row_value-value s laws rows values i all in
    let same : (i : ℕ) → value_in s.zero made i ≡ row_value s.zero rows values i = λ i.
    step i ∙ ap (λ t. s.add t (row_value s.zero rows values i)) (row_value-none s.zero cleared.rows cleared.values i none) ∙ laws.zero_add _ (is i) in
    record { values = λ i. rw (same i) (is i); sums = λ i. ap (λ x. s.add x (rest i)) (same i) }
