-- The columns of a Kronecker product.
use Rattle.std.proofs.Common.{◌≡◌, ◌≢◌, ℕ, ◌+◌, ◌*◌, ◌/◌, ◌%◌, ◌<◌, ◌≤◌, List, length, get_or, sym, ap, ◌∙◌, ⊎_elim, arith, subst}
use Rattle.std.specs.Prelude.{All, AllPairs}
use Rattle.std.proofs.Math.Nat.{mul-le-mul_right}
use Rattle.std.proofs.lemmas.Bool.{cases_lt}
use Rattle.std.proofs.lemmas.Nat.{div-mul-add, mod-mul-add, le-div}
use Rattle.std.proofs.lemmas.List.{get_or_default}
use Rattle.std.proofs.lemmas.List.Elements.{All-get_or}
use Rattle.cb_semirings.specs.Arithmetic.{Arithmetic, IsSemiring}
use Rattle.cb_matrix.specs.Sparse.{Sparse, IsMatrix, at}
use Rattle.cb_matrix.specs.Values.{empty_matrix}
use Rattle.cb_matrix.proofs.Made.{at-outside}
use Rattle.cb_matrix.proofs.Totals.{value_at-value}
use Rattle.cb_dcsc.specs.Columns.{in_column, rows_of, values_of, row_value}
use Rattle.cb_product.specs.InColumns.{AreInColumns}
use Rattle.cb_product.proofs.ProductColumns.{own_column}
use Rattle.cb_product.proofs.StoredColumn.{AddsColumn}
use Rattle.cb_operations.specs.SelectionAnswers.{pair_shape, pair_value, kronecker}
use Rattle.cb_selections.specs.KernelSteps.{IsPaired}
use Rattle.cb_product.proofs.ColumnsMade.{IsMadeTo, made_none, made_past, made_more, made_all, absent_value}
use Rattle.cb_selections.proofs.NumberPairs.{pairs_none, pairs_next, pairs_all, pair_none, pair_next, pair_all}
use Rattle.cb_selections.proofs.PairedRows.{pair_left, pair_right}

module _ (s : Arithmetic) (laws : IsSemiring s) (a b : Sparse) (is : IsMatrix s a) (is' : IsMatrix s b) (cs ds : List ℕ) (cs_up : AllPairs (λ c d. c < d) cs) (ds_up : AllPairs (λ c d. c < d) ds) (cs_in : All (λ c. c < a.shape.cols) cs) (ds_in : All (λ d. d < b.shape.cols) ds) (cs_all : AreInColumns cs a.entries) (ds_all : AreInColumns ds b.entries) where
  abbrev w : ℕ
  w = b.shape.cols

  -- the value at a place
  abbrev pub product_at : ℕ → ℕ → ℕ
  product_at i j = pair_value s b.shape.rows (λ k. at s a k (j / b.shape.cols)) (λ k. at s b k (j % b.shape.cols)) i

  outer : (j : ℕ) → All (λ c. c ≢ j / w) cs → (i : ℕ) → product_at i j ≡ s.zero
  outer j others i =
      pair_left s laws b.shape.rows (λ k. at s a k (j / w)) (λ k. at s b k (j % w)) i (value_at-value s laws b.entries (i % b.shape.rows) (j % w) is'.values) (absent_value s.zero a.entries cs (i / b.shape.rows) (j / w) cs_all others)

  inner : (j : ℕ) → All (λ d. d ≢ j % w) ds → (i : ℕ) → product_at i j ≡ s.zero
  inner j others i =
      pair_right s laws b.shape.rows (λ k. at s a k (j / w)) (λ k. at s b k (j % w)) i (value_at-value s laws a.entries (i / b.shape.rows) (j / w) is.values) (absent_value s.zero b.entries ds (i % b.shape.rows) (j % w) ds_all others)

  module _ (out : Sparse) where
    abbrev P : ℕ → Type 0
    P c = IsMadeTo s (pair_shape a b) product_at c out

    past : (c d : ℕ) → c ≤ d → ((j : ℕ) → c ≤ j → j < d → (i : ℕ) → product_at i j ≡ s.zero) → P c → P d
    past c d l nothing h = made_past s (pair_shape a b) product_at out c d l (λ i j low high. nothing j low high i) h

    -- none yet
    pub columns_none : IsMatrix s out → out ≡ empty_matrix (pair_shape a b) → P (get_or cs 0 a.shape.cols * w)
    columns_none m e = pairs_none P (λ j. (i : ℕ) → product_at i j ≡ s.zero) past cs ds a.shape.cols w cs_up ds_up cs_in ds_in outer inner (made_none s (pair_shape a b) product_at out m e)

    -- all
    pub columns_all : (n : ℕ) → length cs ≤ n → P (get_or cs n a.shape.cols * w) → out ≡ kronecker s a b
    columns_all n l h = made_all s (pair_shape a b) product_at laws out (pairs_all P (λ j. (i : ℕ) → product_at i j ≡ s.zero) past cs ds a.shape.cols w cs_up ds_up cs_in ds_in outer inner n l h)

    -- those of the n-th column of the first are begun
    pub column_none : (n : ℕ) → n < length cs → P (get_or cs n a.shape.cols * w) → P (get_or cs n 0 * w + get_or ds 0 w)
    column_none n l h =
        pair_none P (λ j. (i : ℕ) → product_at i j ≡ s.zero) past cs ds a.shape.cols w cs_up ds_up cs_in ds_in outer inner (get_or cs n 0) (subst (λ x. P (x * w)) (get_or_default cs n a.shape.cols 0 l) h)

    -- they are done
    pub column_all : (n m : ℕ) → n < length cs → length ds ≤ m → P (get_or cs n 0 * w + get_or ds m w) → P (get_or cs (n + 1) a.shape.cols * w)
    column_all n m l k h =
        pairs_next P (λ j. (i : ℕ) → product_at i j ≡ s.zero) past cs ds a.shape.cols w cs_up ds_up cs_in ds_in outer inner n l
        (pair_all P (λ j. (i : ℕ) → product_at i j ≡ s.zero) past cs ds a.shape.cols w cs_up ds_up cs_in ds_in outer inner (get_or cs n 0) m k h)

  -- the value at a place of the n-th column of the first with the m-th of the second
  pub product_is : (n m : ℕ) → m < length ds → (i : ℕ) → product_at i (get_or cs n 0 * w + get_or ds m 0) ≡ pair_value s b.shape.rows (λ k. at s a k (get_or cs n 0)) (λ k. at s b k (get_or ds m 0)) i
  product_is n m l i =
      let low : get_or ds m 0 < w = All-get_or (λ d. d < w) ds m 0 l ds_in in
      λ t. pair_value s b.shape.rows (λ k. at s a k (div-mul-add (get_or cs n 0) w (get_or ds m 0) low t)) (λ k. at s b k (mod-mul-add (get_or cs n 0) w (get_or ds m 0) low t)) i

  -- one more column
  pub column_more : (old new : Sparse) (n m : ℕ) (g : ℕ → ℕ) → m < length ds → AddsColumn s (get_or cs n 0 * w + get_or ds m 0) g old new → ((i : ℕ) → g i ≡ pair_value s b.shape.rows (λ k. at s a k (get_or cs n 0)) (λ k. at s b k (get_or ds m 0)) i)
      → IsMadeTo s (pair_shape a b) product_at (get_or cs n 0 * w + get_or ds m w) old → IsMadeTo s (pair_shape a b) product_at (get_or cs n 0 * w + get_or ds (m + 1) w) new
  column_more old new n m g l adds same h =
      pair_next (P new) (λ j. (i : ℕ) → product_at i j ≡ s.zero) (past new) cs ds a.shape.cols w cs_up ds_up cs_in ds_in outer inner (get_or cs n 0) m l
      (made_more s (pair_shape a b) product_at old new (get_or cs n 0 * w + get_or ds m 0) g adds (λ i. same i ∙ sym (product_is n m l i))
      (subst (λ x. IsMadeTo s (pair_shape a b) product_at (get_or cs n 0 * w + x) old) (get_or_default ds m w 0 l) h))

  -- what is stored comes before the next column
  pub column_before : (old : Sparse) (n m : ℕ) → m < length ds → IsMadeTo s (pair_shape a b) product_at (get_or cs n 0 * w + get_or ds m w) old → All (λ e. e.column < get_or cs n 0 * w + get_or ds m 0) old.entries
  column_before old n m l h = subst (λ x. All (λ e. e.column < get_or cs n 0 * w + x) old.entries) (get_or_default ds m w 0 l) h.before

  -- its number is inside the shape
  pub column_low : (n m : ℕ) → n < length cs → m < length ds → get_or cs n 0 * w + get_or ds m 0 < a.shape.cols * w
  column_low n m l k =
      let c : get_or cs n 0 < a.shape.cols = All-get_or (λ c. c < a.shape.cols) cs n 0 l cs_in in
      let d : get_or ds m 0 < w = All-get_or (λ d. d < w) ds m 0 k ds_in in
      let up : get_or cs n 0 + 1 ≤ a.shape.cols = omega arith in
      let more = mul-le-mul_right w up in
      omega (arith, more)

  -- past the last row it has no value
  pub pair_past : (c d i : ℕ) → a.shape.rows * b.shape.rows ≤ i → pair_value s b.shape.rows (λ k. at s a k c) (λ k. at s b k d) i ≡ s.zero
  pair_past c d i l =
      let h = b.shape.rows in
      ⊎_elim
      (λ (p : 0 < h).
      let high = le-div a.shape.rows i h p l in
      pair_left s laws h (λ k. at s a k c) (λ k. at s b k d) i (value_at-value s laws b.entries (i % h) d is'.values) (at-outside s.zero a.shape a.entries (i / h) c is.inside (λ x _. omega arith)))
      (λ (z : h ≤ 0). pair_right s laws h (λ k. at s a k c) (λ k. at s b k d) i (value_at-value s laws a.entries (i / h) c is.values) (at-outside s.zero b.shape b.entries (i % h) d is'.inside (λ x _. omega arith)))
      (cases_lt 0 h)

-- a column that pairs column p of the first with column q of the second has the product's values
pub paired_has : {h : ℕ} (s : Arithmetic) (a b : Sparse) (p q : ℕ) (left_rows left_values rows values ks ws : List ℕ)
    → left_rows ≡ rows_of (in_column p a.entries) → left_values ≡ values_of (in_column p a.entries) → rows ≡ rows_of (in_column q b.entries) → values ≡ values_of (in_column q b.entries)
    → h ≡ b.shape.rows → IsPaired s h left_rows left_values rows values ks ws → (i : ℕ) → row_value s.zero ks ws i ≡ pair_value s b.shape.rows (λ k. at s a k p) (λ k. at s b k q) i
paired_has s a b p q left_rows left_values rows values ks ws left_rows_are left_values_are rows_are values_are height_is paired i =
    paired i ∙ ap (λ h. pair_value s h (row_value s.zero left_rows left_values) (row_value s.zero rows values) i) height_is
    ∙ (λ t. s.mul (own_column s a p left_rows left_values left_rows_are left_values_are (i / b.shape.rows) t) (own_column s b q rows values rows_are values_are (i % b.shape.rows) t))
