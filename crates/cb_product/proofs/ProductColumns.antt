-- The product, column by column.
use Rattle.std.proofs.Common.{◌≡◌, ◌≢◌, ℕ, ◌+◌, ◌<◌, ◌≤◌, true, false, cond, inl, inr, Result, Ok, Err, List, [], ◌∷◌, length, map, get_or, sym, refl, ap, ◌∙◌, ◌⊎◌, ⊎_elim, arith}
use Rattle.std.specs.Prelude.{IfOk, All, AllPairs, ◌==◌}
use Rattle.std.specs.List.{range_with_len}
use Rattle.std.proofs.lemmas.Bool.{cases_Bool, eqb-true, eqb-false, cond-false}
use Rattle.std.proofs.lemmas.List.Elements.{All-head, All-tail, All-nil, All-weaker}
use Rattle.cb_semirings.specs.Arithmetic.{Arithmetic, IsValue, IsSemiring}
use Rattle.cb_matrix.specs.declared.Entry.{Entry}
use Rattle.cb_matrix.specs.Sparse.{Sparse, IsMatrix, is_at, at, value_at, IsBefore, IsInside}
use Rattle.cb_matrix.specs.Values.{total, product, product_shape, empty_matrix, matrix_of}
use Rattle.cb_matrix.proofs.Pairs.{AllPairs-head, AllPairs-tail}
use Rattle.cb_matrix.proofs.Places.{NoneAt, is_at-parts, is_at-own, value_at-before, value_at-none, IsPlaceBefore}
use Rattle.cb_matrix.proofs.Made.{at-matrix_of, same_matrix_of}
use Rattle.cb_matrix.proofs.Totals.{add_zero, mul_add-zero, total_value, total-add, total-single, total-zero, total-same, each_value, value_at-value}
use Rattle.cb_dcsc.specs.Columns.{in_column, rows_of, values_of}
use Rattle.cb_dcsc.specs.Columns.{row_value}
use Rattle.cb_dcsc.proofs.Lookup.{column_value}
use Rattle.cb_product.specs.InColumns.{AreInColumns, is_among, only_columns}
use Rattle.cb_product.specs.Terms.{column_sum}
use Rattle.cb_product.proofs.AbsentColumns.{all_columns, nothing_there}
use Rattle.cb_product.proofs.OnlyColumns.{among_at, only_in, only_matrix, only_column, only_all}
use Rattle.cb_product.proofs.StoredColumn.{AddsColumn}
use Rattle.cb_product.proofs.ColumnsMade.{IsMadeTo, walk_none, walk_more, walk_all}
use Rattle.cb_matrix.specs.Operations.{sum_of}

-- the value of `acc` at (i, j), plus the sum of the products of a(i, k) and b(k, j)
abbrev pub accumulated : Arithmetic → Sparse → Sparse → Sparse → ℕ → ℕ → ℕ
accumulated s acc a b i j = s.add (at s acc i j) (total s (map (λ k. s.mul (at s a i k) (at s b k j)) (range_with_len 0 a.shape.cols)))

-- `out` has the columns before the n-th of these, accumulated
abbrev pub IsSumSoFar : Arithmetic → Sparse → Sparse → Sparse → List ℕ → ℕ → Sparse → Type 0
IsSumSoFar s acc a b columns n out = IsMadeTo s (product_shape a b) (accumulated s acc a (only_columns columns b)) (get_or columns n b.shape.cols) out

-- ---- the sum over the inner dimension is the sum over the entries of the column
module _ (s : Arithmetic) (laws : IsSemiring s) (a : Sparse) (is : IsMatrix s a) (i j n : ℕ) where
  abbrev Val : Entry → Type 0
  Val e = IsValue s e.value

  left_value : (k : ℕ) → IsValue s (at s a i k)
  left_value k = value_at-value s laws a.entries i k is.values

  abbrev one : Entry → ℕ → ℕ
  one e k = cond (is_at k j e) e.value s.zero

  one_value : (e : Entry) (k : ℕ) → Val e → IsValue s (one e k)
  one_value e k v = elim (is_at k j e) as (λ b. IsValue s (cond b e.value s.zero)) [ true ↦ v | false ↦ laws.zero_value ]

  split : (e : Entry) (es : List Entry) (k : ℕ) → Val e → All Val es → All (IsBefore e) es → value_at s.zero (e ∷ es) k j ≡ s.add (one e k) (value_at s.zero es k j)
  unfolding value_at
  split e es k v vs after =
      elim (is_at k j e) as (λ b. is_at k j e ≡ b → cond b e.value (value_at s.zero es k j) ≡ s.add (cond b e.value s.zero) (value_at s.zero es k j)) [
        | true ↦ λ t.
            let q = is_at-parts e k j t in
            let none : value_at s.zero es k j ≡ s.zero = value_at-before s.zero es k j (All-weaker (IsBefore e) (IsPlaceBefore k j) (λ g b. ⊎_elim (λ m. inl (omega arith)) (λ m. inr (omega arith, omega arith)) b) es after) in
            rw none (sym (add_zero s laws e.value v))
        | false ↦ λ _. sym (laws.zero_add _ (value_at-value s laws es k j vs))
      ] refl

  -- at each place, an entry or the later ones have zero
  one_there : (e : Entry) (es : List Entry) (k : ℕ) → All (IsBefore e) es → (one e k ≡ s.zero) ⊎ (value_at s.zero es k j ≡ s.zero)
  one_there e es k after =
      ⊎_elim
      (λ (t : is_at k j e ≡ true).
      let q = is_at-parts e k j t in
      inr (value_at-before s.zero es k j (All-weaker (IsBefore e) (IsPlaceBefore k j) (λ g b. ⊎_elim (λ m. inl (omega arith)) (λ m. inr (omega arith, omega arith)) b) es after)))
      (λ (f : is_at k j e ≡ false). inl (cond-false _ e.value s.zero f))
      (cases_Bool (is_at k j e))

  terms : (es : List Entry) → ℕ → ℕ
  terms es k = s.mul (at s a i k) (value_at s.zero es k j)

  one_sum : (e : Entry) → Val e → e.row < n → total s (map (λ k. s.mul (at s a i k) (one e k)) (range_with_len 0 n)) ≡ cond (e.column == j) (s.mul (at s a i e.row) e.value) s.zero
  one_sum e v l = ⊎_elim
      (λ (t : (e.column == j) ≡ true).
      let c : e.column ≡ j = eqb-true e.column j t in
      let own : is_at e.row j e ≡ true = is_at-own e e.row j refl (sym c) in
      total-single s laws (λ k. s.mul (at s a i k) (one e k)) 0 n e.row (λ k. laws.mul_value _ _ (left_value k) (one_value e k v)) (omega arith) (omega arith)
      (λ k ne. let off : is_at k j e ≡ false = ⊎_elim (λ (q : is_at k j e ≡ true). absurd (ne ((is_at-parts e k j q).0))) (λ (q : is_at k j e ≡ false). q) (cases_Bool (is_at k j e)) in rw off (laws.mul_zero _ (left_value k)))
      ∙ rw (own, t) refl)
      (λ (f : (e.column == j) ≡ false).
      total-zero s laws (λ k. s.mul (at s a i k) (one e k)) 0 n
      (λ k _. let off : is_at k j e ≡ false = ⊎_elim (λ (q : is_at k j e ≡ true). absurd (eqb-false e.column j f (sym (is_at-parts e k j q).1))) (λ (q : is_at k j e ≡ false). q) (cases_Bool (is_at k j e)) in rw off (laws.mul_zero _ (left_value k)))
      ∙ rw f refl)
      (cases_Bool (e.column == j))

  pub column_total : (es : List Entry) → All Val es → AllPairs IsBefore es → All (λ e. e.row < n) es
      → column_sum s a i (rows_of (in_column j es)) (values_of (in_column j es)) ≡ total s (map (λ k. s.mul (at s a i k) (value_at s.zero es k j)) (range_with_len 0 n))
  unfolding column_sum
  column_total [] v up l = sym (total-zero s laws (λ k. s.mul (at s a i k) (value_at s.zero [] k j)) 0 n (λ k _. ap (s.mul (at s a i k)) (value_at-none s.zero [] k j (All-nil (λ e. is_at k j e ≡ false))) ∙ laws.mul_zero _ (left_value k)))
  column_total (e ∷ es) v up l =
      let ve = All-head Val e es v in
      let vs = All-tail Val e es v in
      let rest = column_total es vs (AllPairs-tail IsBefore e es up) (All-tail (λ e. e.row < n) e es l) in
      let rest_sum = total s (map (λ k. s.mul (at s a i k) (value_at s.zero es k j)) (range_with_len 0 n)) in
      let rest_value : IsValue s rest_sum = total_value s laws _ (each_value s laws (λ k. s.mul (at s a i k) (value_at s.zero es k j)) (λ k. laws.mul_value _ _ (left_value k) (value_at-value s laws es k j vs)) (range_with_len 0 n)) in
      let whole : total s (map (λ k. s.mul (at s a i k) (value_at s.zero (e ∷ es) k j)) (range_with_len 0 n)) ≡ s.add (cond (e.column == j) (s.mul (at s a i e.row) e.value) s.zero) rest_sum =
      total-same s laws (λ k. s.mul (at s a i k) (value_at s.zero (e ∷ es) k j)) (λ k. s.add (s.mul (at s a i k) (one e k)) (s.mul (at s a i k) (value_at s.zero es k j)))
      (λ k. ap (s.mul (at s a i k)) (split e es k ve vs (AllPairs-head IsBefore e es up)) ∙ mul_add-zero s laws _ _ _ (left_value k) (one_value e k ve) (value_at-value s laws es k j vs) (one_there e es k (AllPairs-head IsBefore e es up))) (range_with_len 0 n)
      ∙ total-add s laws (λ k. s.mul (at s a i k) (one e k)) (λ k. s.mul (at s a i k) (value_at s.zero es k j)) (λ k. laws.mul_value _ _ (left_value k) (one_value e k ve)) (λ k. laws.mul_value _ _ (left_value k) (value_at-value s laws es k j vs)) (range_with_len 0 n)
      ∙ ap (λ x. s.add x rest_sum) (one_sum e ve (All-head (λ e. e.row < n) e es l)) in
      sym (whole ∙ elim (e.column == j) as (λ b. s.add (cond b (s.mul (at s a i e.row) e.value) s.zero) rest_sum ≡ column_sum s a i (rows_of (cond b (e ∷ in_column j es) (in_column j es))) (values_of (cond b (e ∷ in_column j es) (in_column j es)))) [
        | true ↦ ap (s.add (s.mul (at s a i e.row) e.value)) (sym rest)
        | false ↦ laws.zero_add rest_sum rest_value ∙ sym rest
      ])

abbrev pub inner : Arithmetic → Sparse → Sparse → ℕ → ℕ → ℕ
inner s a b i j = total s (map (λ k. s.mul (at s a i k) (at s b k j)) (range_with_len 0 a.shape.cols))

pub inner_value : (s : Arithmetic) → IsSemiring s → (a b : Sparse) → IsMatrix s a → IsMatrix s b → (i j : ℕ) → IsValue s (inner s a b i j)
inner_value s laws a b p q i j = total_value s laws _ (each_value s laws (λ k. s.mul (at s a i k) (at s b k j)) (λ k. laws.mul_value _ _ (value_at-value s laws a.entries i k p.values) (value_at-value s laws b.entries k j q.values)) (range_with_len 0 a.shape.cols))

no_entry_at : (es : List Entry) (i j : ℕ) → All (λ e. e.column ≢ j) es → NoneAt i j es
no_entry_at es i j h = All-weaker (λ e. e.column ≢ j) (λ e. is_at i j e ≡ false) (λ e n. ⊎_elim (λ (t : is_at i j e ≡ true). absurd (n (sym (is_at-parts e i j t).1))) (λ (f : is_at i j e ≡ false). f) (cases_Bool (is_at i j e))) es h

module _ (s : Arithmetic) (laws : IsSemiring s) (acc a b : Sparse) (r : IsMatrix s acc) (p : IsMatrix s a) (q : IsMatrix s b) (agree : a.shape.cols ≡ b.shape.rows) where
  -- the value of a product is the sum over the right column's entries
  pub stored_sum : (i j : ℕ) → column_sum s a i (rows_of (in_column j b.entries)) (values_of (in_column j b.entries)) ≡ inner s a b i j
  stored_sum i j =
      column_total s laws a p i j a.shape.cols b.entries q.values q.ascending (All-weaker (IsInside b.shape) (λ e. e.row < a.shape.cols) (λ e k. let l = k.0 in rw agree l) b.entries q.inside)

  -- in a column without entries of either, the sum is zero
  pub absent_sum : (columns : List ℕ) (i j : ℕ) → AreInColumns columns acc.entries → AreInColumns columns b.entries → All (λ c. c ≢ j) columns → accumulated s acc a b i j ≡ s.zero
  unfolding column_sum
  absent_sum columns i j acc_in b_in h =
      let none : in_column j b.entries ≡ [] = sym (nothing_there j b.entries columns b_in h) in
      let left : at s acc i j ≡ s.zero = value_at-none s.zero acc.entries i j (no_entry_at acc.entries i j (all_columns (λ c. c ≢ j) columns acc.entries acc_in h)) in
      let right : inner s a b i j ≡ s.zero = sym (stored_sum i j) ∙ ap (λ es. column_sum s a i (rows_of es) (values_of es)) none in
      (λ t. s.add (left t) (right t)) ∙ laws.zero_add s.zero laws.zero_value

module _ (s : Arithmetic) (laws : IsSemiring s) (acc a b : Sparse) (r : IsMatrix s acc) (p : IsMatrix s a) (q : IsMatrix s b) (agree : a.shape.cols ≡ b.shape.rows) where
  module _ (cs : List ℕ) (up : AllPairs (λ c d. c < d) cs) (within : All (λ c. c < b.shape.cols) cs) (acc_in : AreInColumns cs acc.entries) where
    abbrev part : Sparse
    part = only_columns cs b

    part_matrix : IsMatrix s part
    part_matrix = only_matrix s cs b q

    -- in a listed column, it is that of the product with the listed columns
    here_sum : (i j : ℕ) → is_among cs j ≡ true → column_sum s a i (rows_of (in_column j b.entries)) (values_of (in_column j b.entries)) ≡ inner s a part i j
    here_sum i j h = ap (λ es. column_sum s a i (rows_of es) (values_of es)) (sym (only_column cs b j h)) ∙ stored_sum s laws acc a part r p part_matrix agree i j

    no_sum : (i j : ℕ) → All (λ c. c ≢ j) cs → accumulated s acc a part i j ≡ s.zero
    no_sum i j h = absent_sum s laws acc a part r p part_matrix agree cs i j acc_in (only_in cs b) h

    -- a matrix without entries has the sums of the columns before the first
    pub sum_start : acc.shape ≡ product_shape a b → (out : Sparse) → IsMatrix s out → out ≡ empty_matrix acc.shape → IsSumSoFar s acc a b cs 0 out
    sum_start shape out is e = walk_none s (product_shape a b) (accumulated s acc a part) cs up within no_sum out is (e ∙ ap empty_matrix shape)

    -- with the sum of the n-th column added, it has those of the columns up to that one
    pub sum_more : (old new : Sparse) (n : ℕ) (f : ℕ → ℕ) → n < length cs → IsSumSoFar s acc a b cs n old → AddsColumn s (get_or cs n 0) f old new
        → ((i : ℕ) → f i ≡ s.add (at s acc i (get_or cs n 0)) (column_sum s a i (rows_of (in_column (get_or cs n 0) b.entries)) (values_of (in_column (get_or cs n 0) b.entries))))
        → IsSumSoFar s acc a b cs (n + 1) new
    sum_more old new n f l h adds sums =
        walk_more s (product_shape a b) (accumulated s acc a part) cs up within no_sum old new n f l adds
        (λ i. sums i ∙ ap (s.add (at s acc i (get_or cs n 0))) (here_sum i (get_or cs n 0) (among_at cs n 0 l))) h

    -- past the last column it is the sum of the accumulator and the product
    pub sum_all : (out : Sparse) (n : ℕ) → acc.shape ≡ product_shape a b → length cs ≤ n → IsSumSoFar s acc a b cs n out → out ≡ sum_of s acc (product s a (only_columns cs b))
    sum_all out n shape l h =
        let f : ℕ → ℕ → ℕ = λ i j. s.add (at s acc i j) (at s (product s a part) i j) in
        walk_all s (product_shape a b) (accumulated s acc a part) cs up within no_sum laws out n l h
        ∙ same_matrix_of s (product_shape a b) (accumulated s acc a part) f
        (λ i j li lj. ap (s.add (at s acc i j)) (sym (at-matrix_of s (product_shape a b) (inner s a part) i j li lj)))
        ∙ ap (λ e. matrix_of s e f) (sym shape)

-- the accumulator's own column
pub own_column : (s : Arithmetic) (acc : Sparse) (j : ℕ) (rs vs : List ℕ) → rs ≡ rows_of (in_column j acc.entries) → vs ≡ values_of (in_column j acc.entries) → (i : ℕ) → row_value s.zero rs vs i ≡ at s acc i j
own_column s acc j rs vs p q i = (λ t. row_value s.zero (p t) (q t) i) ∙ column_value s.zero acc.entries i j

-- a sum with the empty matrix is the other summand
pub sum_from_nothing : (s : Arithmetic) → IsSemiring s → (a b : Sparse) → IsMatrix s a → IsMatrix s b → sum_of s (empty_matrix (product_shape a b)) (product s a b) ≡ product s a b
unfolding value_at
sum_from_nothing s laws a b p q =
    same_matrix_of s (product_shape a b) (λ i j. s.add s.zero (at s (product s a b) i j)) (inner s a b)
    (λ i j li lj. ap (s.add s.zero) (at-matrix_of s (product_shape a b) (inner s a b) i j li lj) ∙ laws.zero_add (inner s a b i j) (inner_value s laws a b p q i j))

-- a result that is the sum of an empty accumulator and the product is the product
pub multiplied : {E : Type 0} (s : Arithmetic) → IsSemiring s → (acc a b : Sparse) (result : Result Sparse E) → IsMatrix s a → IsMatrix s b → acc ≡ empty_matrix (product_shape a b) → IfOk result (λ m. m ≡ sum_of s acc (product s a b)) → IfOk result (λ m. m ≡ product s a b)
multiplied s laws acc a b (Ok m) p q e h = h ∙ ap (λ x. sum_of s x (product s a b)) e ∙ sum_from_nothing s laws a b p q
multiplied s laws acc a b (Err x) p q e h = tt

-- if all entries of the second matrix are in the listed columns, the product with these is the whole product
pub of_all : {E : Type 0} (s : Arithmetic) (acc a b : Sparse) (cs : List ℕ) (result : Result Sparse E) → AreInColumns cs b.entries → IfOk result (λ m. m ≡ sum_of s acc (product s a (only_columns cs b))) → IfOk result (λ m. m ≡ sum_of s acc (product s a b))
of_all s acc a b cs (Ok m) all h = h ∙ ap (λ x. sum_of s acc (product s a x)) (only_all cs b all)
of_all s acc a b cs (Err x) all h = tt
