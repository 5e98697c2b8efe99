-- Products with some columns are some columns of products, also under a mask and outside one.
use Rattle.std.proofs.Common.{◌≡◌, ℕ, ◌<◌, true, false, cond, List, sym, refl, ap, ◌∙◌, ⊎_elim}
use Rattle.std.specs.Prelude.{◌==◌, not}
use Rattle.std.specs.List.{range_with_len}
use Rattle.std.proofs.lemmas.Bool.{cases_Bool, cond-true, cond-false, eq-eqb}
use Rattle.cb_semirings.specs.Arithmetic.{Arithmetic, IsValue, IsSemiring}
use Rattle.cb_matrix.specs.Sparse.{Sparse, Extent, IsMatrix, at}
use Rattle.cb_matrix.specs.Values.{matrix_of, product, product_shape}
use Rattle.cb_matrix.specs.Operations.{has_entry, masked}
use Rattle.cb_matrix.proofs.Made.{at-matrix_of, IsMatrix-matrix_of}
use Rattle.cb_matrix.proofs.Equal.{matrix_is}
use Rattle.cb_matrix.proofs.Totals.{value_at-value, total-same, total-zero}
use Rattle.cb_operations.specs.SelectionAnswers.{excluded}
use Rattle.cb_product.specs.InColumns.{is_among, only_columns}
use Rattle.cb_product.proofs.ColumnsMade.{absent_value}
use Rattle.cb_product.proofs.OnlyColumns.{not_among, only_in, only_matrix, only_value}
use Rattle.cb_product.proofs.ProductColumns.{inner, inner_value}

-- a column that isn't listed has no values
pub only_none : (s : Arithmetic) (cs : List ℕ) (m : Sparse) (i j : ℕ) → is_among cs j ≡ false → at s (only_columns cs m) i j ≡ s.zero
only_none s cs m i j f = absent_value s.zero (only_columns cs m).entries cs i j (only_in cs m) (not_among cs j f)

-- listed columns of the matrix of f are the matrix of g, if inside the shape g has the values of f in these columns and zeros
-- elsewhere
pub only_inside : (s : Arithmetic) → IsSemiring s → (shape : Extent) (f g : ℕ → ℕ → ℕ) (cs : List ℕ) → ((i j : ℕ) → i < shape.rows → j < shape.cols → IsValue s (f i j))
    → ((i j : ℕ) → j < shape.cols → is_among cs j ≡ true → g i j ≡ f i j) → ((i j : ℕ) → is_among cs j ≡ false → g i j ≡ s.zero) → matrix_of s shape g ≡ only_columns cs (matrix_of s shape f)
only_inside s laws shape f g cs are same none =
    let whole : Sparse = matrix_of s shape f in
    sym
    (matrix_is s laws (only_columns cs whole) shape g (only_matrix s cs whole (IsMatrix-matrix_of s shape f are)) refl
    (λ i j li lj. ⊎_elim
    (λ (t : is_among cs j ≡ true). only_value s.zero cs whole i j t ∙ at-matrix_of s shape f i j li lj ∙ sym (same i j lj t))
    (λ (u : is_among cs j ≡ false). only_none s cs whole i j u ∙ sym (none i j u))
    (cases_Bool (is_among cs j))))

-- if it has these values everywhere
pub only_of : (s : Arithmetic) → IsSemiring s → (shape : Extent) (f g : ℕ → ℕ → ℕ) (cs : List ℕ) → ((i j : ℕ) → i < shape.rows → j < shape.cols → IsValue s (f i j))
    → ((i j : ℕ) → is_among cs j ≡ true → g i j ≡ f i j) → ((i j : ℕ) → is_among cs j ≡ false → g i j ≡ s.zero) → matrix_of s shape g ≡ only_columns cs (matrix_of s shape f)
only_of s laws shape f g cs are same none = only_inside s laws shape f g cs are (λ i j _ t. same i j t) none

-- matrices of functions that agree in listed columns have the same of these
pub only_same : (s : Arithmetic) → IsSemiring s → (shape : Extent) (f g : ℕ → ℕ → ℕ) (cs : List ℕ) → ((i j : ℕ) → i < shape.rows → j < shape.cols → IsValue s (f i j)) → ((i j : ℕ) → i < shape.rows → j < shape.cols → IsValue s (g i j))
    → ((i j : ℕ) → j < shape.cols → is_among cs j ≡ true → g i j ≡ f i j) → only_columns cs (matrix_of s shape g) ≡ only_columns cs (matrix_of s shape f)
only_same s laws shape f g cs are are' same =
    let some : ℕ → ℕ → ℕ = λ i j. cond (is_among cs j) (f i j) s.zero in
    sym (only_inside s laws shape g some cs are' (λ i j l t. cond-true (is_among cs j) (f i j) s.zero t ∙ sym (same i j l t)) (λ i j u. cond-false (is_among cs j) (f i j) s.zero u))
    ∙ only_inside s laws shape f some cs are (λ i j _ t. cond-true (is_among cs j) (f i j) s.zero t) (λ i j u. cond-false (is_among cs j) (f i j) s.zero u)

module _ (s : Arithmetic) (laws : IsSemiring s) (a b : Sparse) (is_a : IsMatrix s a) (is_b : IsMatrix s b) where
  -- a product is a matrix
  pub product_matrix : IsMatrix s (product s a b)
  product_matrix = IsMatrix-matrix_of s (product_shape a b) (inner s a b) (λ i j _ _. inner_value s laws a b is_a is_b i j)

  -- with some columns of the second matrix, it is these columns of the product
  pub only_product : (cs : List ℕ) → product s a (only_columns cs b) ≡ only_columns cs (product s a b)
  only_product cs =
      only_of s laws (product_shape a b) (inner s a b) (inner s a (only_columns cs b)) cs (λ i j _ _. inner_value s laws a b is_a is_b i j)
      (λ i j t. total-same s laws (λ k. s.mul (at s a i k) (at s (only_columns cs b) k j)) (λ k. s.mul (at s a i k) (at s b k j)) (λ k. ap (s.mul (at s a i k)) (only_value s.zero cs b k j t)) (range_with_len 0 a.shape.cols))
      (λ i j u. total-zero s laws (λ k. s.mul (at s a i k) (at s (only_columns cs b) k j)) 0 a.shape.cols
      (λ k _. ap (s.mul (at s a i k)) (only_none s cs b k j u) ∙ laws.mul_zero (at s a i k) (value_at-value s laws a.entries i k is_a.values)))

  module _ (m : Sparse) where
    -- under some columns of a mask it is these columns of the product under the mask
    pub only_masked : (cs : List ℕ) → masked s (product s a b) (only_columns cs m) ≡ only_columns cs (masked s (product s a b) m)
    only_masked cs =
        let p : Sparse = product s a b in
        only_of s laws (product_shape a b) (λ i j. cond (has_entry s m i j) (at s p i j) s.zero) (λ i j. cond (has_entry s (only_columns cs m) i j) (at s p i j) s.zero) cs
        (λ i j _ _. elim (has_entry s m i j) as (λ b. IsValue s (cond b (at s p i j) s.zero)) [ true ↦ value_at-value s laws p.entries i j (product_matrix).values | false ↦ laws.zero_value ])
        (λ i j t. ap (λ x. cond (not (x == s.zero)) (at s p i j) s.zero) (only_value s.zero cs m i j t))
        (λ i j u. let none = eq-eqb (at s (only_columns cs m) i j) s.zero (only_none s cs m i j u) in rw none refl)

    -- and some of the product outside the mask
    pub only_excluded : (cs : List ℕ) → excluded s (product s a (only_columns cs b)) m ≡ only_columns cs (excluded s (product s a b) m)
    only_excluded cs =
        let p : Sparse = product s a b in
        ap (λ (q : Sparse). excluded s q m) (only_product cs)
        ∙ only_of s laws (product_shape a b) (λ i j. cond (has_entry s m i j) s.zero (at s p i j)) (λ i j. cond (has_entry s m i j) s.zero (at s (only_columns cs p) i j)) cs
        (λ i j _ _. elim (has_entry s m i j) as (λ b. IsValue s (cond b s.zero (at s p i j))) [ true ↦ laws.zero_value | false ↦ value_at-value s laws p.entries i j (product_matrix).values ])
        (λ i j t. ap (cond (has_entry s m i j) s.zero) (only_value s.zero cs p i j t))
        (λ i j u. ap (cond (has_entry s m i j) s.zero) (only_none s cs p i j u) ∙ elim (has_entry s m i j) as (λ b. cond b s.zero s.zero ≡ s.zero) [ true ↦ refl | false ↦ refl ])
