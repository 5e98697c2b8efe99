-- Products with listed columns of the right matrix, appended to one another.
use Rattle.std.proofs.Common.{◌≡◌, ℕ, ◌<◌, true, false, inl, Result, Ok, Err, List, [], ◌++◌, sym, refl, ap, ◌∙◌, ⊎_elim, subst}
use Rattle.std.specs.Prelude.{IfOk, All, AllPairs}
use Rattle.std.proofs.lemmas.Bool.{cases_Bool}
use Rattle.std.specs.List.{range_with_len}
use Rattle.std.proofs.lemmas.List.Elements.{All-weaker}
use Rattle.cb_semirings.specs.Arithmetic.{Arithmetic, IsSemiring}
use Rattle.cb_matrix.specs.Sparse.{Sparse, IsMatrix, IsBefore, at}
use Rattle.cb_matrix.specs.Values.{product, product_shape}
use Rattle.cb_matrix.proofs.Places.{value_at-append_left, value_at-append_right}
use Rattle.cb_matrix.proofs.Made.{columns_all, at-matrix_of, IsMatrix-matrix_of}
use Rattle.cb_matrix.proofs.Equal.{matrix_is}
use Rattle.cb_matrix.proofs.Totals.{total-same}
use Rattle.cb_dcsc.specs.Columns.{in_column, rows_of, values_of, with_entries}
use Rattle.cb_dcsc.proofs.Appended.{matrix_append}
use Rattle.cb_product.specs.InColumns.{AreInColumns, is_among, only_columns}
use Rattle.cb_product.specs.Terms.{column_sum}
use Rattle.cb_product.proofs.AbsentColumns.{nothing_there}
use Rattle.cb_product.proofs.ColumnParts.{ahead, apart, among_first, among_second, among_neither, none_in}
use Rattle.cb_product.proofs.OnlyColumns.{not_among, only_in, only_matrix, only_value, only_all}
use Rattle.cb_product.proofs.ProductColumns.{inner, inner_value, stored_sum}

module _ (s : Arithmetic) (laws : IsSemiring s) (a b : Sparse) (p : IsMatrix s a) (q : IsMatrix s b) (agree : a.shape.cols ≡ b.shape.rows) where
  -- the product with these columns
  abbrev panel : List ℕ → Sparse
  panel cs = product s a (only_columns cs b)

  panel_matrix : (cs : List ℕ) → IsMatrix s (panel cs)
  panel_matrix cs = IsMatrix-matrix_of s (product_shape a b) (inner s a (only_columns cs b)) (λ i j _ _. inner_value s laws a (only_columns cs b) p (only_matrix s cs b q) i j)

  -- it is zero in a column that isn't listed
  no_sum : (cs : List ℕ) (i j : ℕ) → is_among cs j ≡ false → inner s a (only_columns cs b) i j ≡ s.zero
  unfolding column_sum
  no_sum cs i j f =
      let none : in_column j (only_columns cs b).entries ≡ [] = sym (nothing_there j (only_columns cs b).entries cs (only_in cs b) (not_among cs j f)) in
      sym (stored_sum s laws a a (only_columns cs b) p p (only_matrix s cs b q) agree i j) ∙ ap (λ es. column_sum s a i (rows_of es) (values_of es)) none

  panel_columns : (cs : List ℕ) → All (λ e. is_among cs e.column ≡ true) (panel cs).entries
  panel_columns cs =
      columns_all s.zero (inner s a (only_columns cs b)) (λ e. is_among cs e.column ≡ true) a.shape.rows b.shape.cols
      (λ i j _ _ some. ⊎_elim (λ (t : is_among cs j ≡ true). t) (λ (f : is_among cs j ≡ false). absurd (some (no_sum cs i j f))) (cases_Bool (is_among cs j)))

  -- a listed column doesn't depend on which others are listed
  same_sum : (xs zs : List ℕ) (i j : ℕ) → is_among xs j ≡ true → is_among zs j ≡ true → inner s a (only_columns xs b) i j ≡ inner s a (only_columns zs b) i j
  same_sum xs zs i j x z =
      total-same s laws (λ k. s.mul (at s a i k) (at s (only_columns xs b) k j)) (λ k. s.mul (at s a i k) (at s (only_columns zs b) k j))
      (λ k. ap (s.mul (at s a i k)) (only_value s.zero xs b k j x ∙ sym (only_value s.zero zs b k j z))) (range_with_len 0 a.shape.cols)

  module _ (xs ys : List ℕ) (up : AllPairs (λ c d. c < d) (xs ++ ys)) where
    -- two adjacent panels, one appended to the other, are a matrix
    pub panels_matrix : IsMatrix s (with_entries (panel xs) (panel ys).entries)
    panels_matrix =
        matrix_append s (panel xs) (panel ys).entries (panel_matrix xs) (panel_matrix ys)
        (All-weaker (λ d. is_among xs d.column ≡ true) (λ d. All (IsBefore d) (panel ys).entries)
        (λ d x. All-weaker (λ e. is_among ys e.column ≡ true) (IsBefore d) (λ e y. inl (ahead xs ys d.column e.column up x y)) (panel ys).entries (panel_columns ys))
        (panel xs).entries (panel_columns xs))

    -- which is the product with the columns of both
    pub panels_joined : with_entries (panel xs) (panel ys).entries ≡ panel (xs ++ ys)
    panels_joined =
        matrix_is s laws (with_entries (panel xs) (panel ys).entries) (product_shape a b) (inner s a (only_columns (xs ++ ys) b)) panels_matrix refl
        (λ i j li lj. ⊎_elim
        (λ (y : is_among ys j ≡ true).
        value_at-append_right s.zero (panel xs).entries (panel ys).entries i j (none_in xs (panel xs).entries i j (panel_columns xs) (apart xs ys j up y))
        ∙ at-matrix_of s (product_shape a b) (inner s a (only_columns ys b)) i j li lj
        ∙ same_sum ys (xs ++ ys) i j y (among_second xs ys j y))
        (λ (n : is_among ys j ≡ false).
        value_at-append_left s.zero (panel xs).entries (panel ys).entries i j (none_in ys (panel ys).entries i j (panel_columns ys) n)
        ∙ at-matrix_of s (product_shape a b) (inner s a (only_columns xs b)) i j li lj
        ∙ ⊎_elim
        (λ (x : is_among xs j ≡ true). same_sum xs (xs ++ ys) i j x (among_first xs ys j x))
        (λ (x : is_among xs j ≡ false). no_sum xs i j x ∙ sym (no_sum (xs ++ ys) i j (among_neither xs ys j x n)))
        (cases_Bool (is_among xs j)))
        (cases_Bool (is_among ys j)))

    module _ (zs : List ℕ) (all : zs ≡ xs ++ ys) (front back : Sparse) (first : front ≡ panel xs) (last : back ≡ panel ys) where
      -- the same for matrices that equal these panels
      pub both_matrix : IsMatrix s (with_entries front back.entries)
      both_matrix = subst (λ (m : Sparse). IsMatrix s m) (sym (λ t. with_entries (first t) (last t).entries)) panels_matrix

      pub both_joined : with_entries front back.entries ≡ panel zs
      both_joined = (λ t. with_entries (first t) (last t).entries) ∙ panels_joined ∙ ap panel (sym all)

-- with all nonempty columns listed, it is the whole product
pub whole_panel : {E : Type 0} (s : Arithmetic) (a b : Sparse) (cs : List ℕ) (result : Result Sparse E) → AreInColumns cs b.entries → IfOk result (λ m. m ≡ product s a (only_columns cs b)) → IfOk result (λ m. m ≡ product s a b)
whole_panel s a b cs (Ok m) all h = h ∙ ap (product s a) (only_all cs b all)
whole_panel s a b cs (Err x) all h = tt
