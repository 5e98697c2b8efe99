-- Sums of the mask's rows, to which columns are added.
use Rattle.std.proofs.Common.{◌≡◌, ◌≢◌, ℕ, ◌+◌, ◌<◌, ◌≤◌, false, Some, List, [], ◌∷◌, length, take, drop, get_or, set, sym, ap, ◌∙◌, ⊎_elim, arith}
use Rattle.std.specs.Prelude.{All, AllPairs, ◌==◌}
use Rattle.std.proofs.lemmas.Bool.{cases_eq, cases_lt, eq-eqb, ne_eqb, cond-true, cond-false}
use Rattle.std.proofs.lemmas.List.{drop_more, drop_all, get_or_default, get_or-set_same, get_or-set_other, length-set, length-take, get_or-take}
use Rattle.std.proofs.lemmas.List.Elements.{All-head, All-tail, All-take, All-drop, All-get_or, All-set, All-weaker}
use Rattle.cb_semirings.specs.Arithmetic.{Arithmetic, IsValue, IsSemiring}
use Rattle.cb_matrix.specs.Sparse.{Sparse, IsMatrix, at}
use Rattle.cb_matrix.proofs.Totals.{add_zero, value_at-value}
use Rattle.cb_dcsc.specs.Columns.{in_column, rows_of, values_of, row_value}
use Rattle.cb_dcsc.proofs.Lookup.{column_value}
use Rattle.cb_product.specs.SparseColumn.{one_value, rest_value}
use Rattle.cb_product.specs.Terms.{column_sum}
use Rattle.cb_product.proofs.RowValues.{one_value-value, nth_product, scaled_value, scaled_split, scaled_end}
use Rattle.cb_masked.specs.RowSums.{AreSums, AddsEach, HaveEach}
use Rattle.cb_masked.proofs.AscendingPlaces.{same_place}

-- f is added to the sums of the rows before the n-th, and the others are unchanged
pub record AreAddedSoFar (s : Arithmetic) (rows : List ℕ) (f : ℕ → ℕ) (n : ℕ) (old new : List ℕ) : Type 0 where
  pub added : (k : ℕ) → k < n → k < length rows → get_or new k s.zero ≡ s.add (get_or old k s.zero) (f (get_or rows k 0))
  pub others : (k : ℕ) → n ≤ k → get_or new k s.zero ≡ get_or old k s.zero

module _ (s : Arithmetic) (laws : IsSemiring s) (rows : List ℕ) where
  -- each sum is a value
  pub nth_sum : (sums : List ℕ) (n d : ℕ) → AreSums s rows sums → n < length rows → IsValue s (get_or sums n d)
  nth_sum sums n d are l = let long = are.one_more in All-get_or (IsValue s) sums n d (omega arith) are.are_values

  -- with another value in place of the n-th, they are still sums
  pub sums_with : (sums : List ℕ) (n x : ℕ) → AreSums s rows sums → IsValue s x → AreSums s rows (set sums n x)
  sums_with sums n x are is = record {
    one_more = length-set sums n x ∙ are.one_more;
    are_values = All-set (IsValue s) sums n x is are.are_values;
  }

  -- a zero for each row
  pub zero_sums : (sums : List ℕ) → length sums ≡ length rows + 1 → All (λ x. x ≡ s.zero) sums → AreSums s rows sums
  zero_sums sums long none = record {
    one_more = long;
    are_values = All-weaker (λ x. x ≡ s.zero) (IsValue s) (λ x e. rw e laws.zero_value) sums none;
  }

  -- adding zeros changes nothing
  pub adds_nothing : (f : ℕ → ℕ) (sums : List ℕ) → ((n : ℕ) → n < length rows → f (get_or rows n 0) ≡ s.zero) → AreSums s rows sums → AddsEach s rows f sums sums
  adds_nothing f sums none are n l = sym (ap (s.add (get_or sums n s.zero)) (none n l) ∙ add_zero s laws _ (nth_sum sums n s.zero are l))

  -- the same, with equal summands
  pub adds_as : (f g : ℕ → ℕ) (old new : List ℕ) → ((i : ℕ) → f i ≡ g i) → AddsEach s rows f old new → AddsEach s rows g old new
  adds_as f g old new same adds n l = adds n l ∙ ap (s.add (get_or old n s.zero)) (same (get_or rows n 0))

  -- ---- a value is added to the sum of a row
  module _ (sums : List ℕ) (are : AreSums s rows sums) (row value : ℕ) where
    unadded : (n : ℕ) → n < length rows → get_or rows n 0 ≢ row → get_or sums n s.zero ≡ s.add (get_or sums n s.zero) (one_value s.zero (row, value) (get_or rows n 0))
    unadded n l other =
        let away : (row == get_or rows n 0) ≡ false = ne_eqb row (get_or rows n 0) (λ e. other (sym e)) in
        sym (ap (s.add (get_or sums n s.zero)) (cond-false _ value s.zero away) ∙ add_zero s laws _ (nth_sum sums n s.zero are l))

    -- it is added to the sum of the n-th row, if that is its row, or to the sum past all rows, if none is
    pub one_added : (n : ℕ) → AllPairs (λ i j. i < j) rows → n ≤ length rows → (n < length rows → get_or rows n 0 ≡ row) → (n ≡ length rows → (k : ℕ) → k < length rows → get_or rows k 0 ≢ row) → AddsEach s rows (one_value s.zero (row, value)) sums (set sums n (s.add (get_or sums n 0) value))
    one_added n up within here none k l =
        let x = s.add (get_or sums n 0) value in
        let long = are.one_more in
        let inside : n < length sums = omega arith in
        ⊎_elim
        (λ (e : n ≡ k).
        let now : get_or (set sums n x) k s.zero ≡ x = ap (λ m. get_or (set sums n x) m s.zero) (sym e) ∙ get_or-set_same sums n x s.zero inside in
        let was : get_or sums n 0 ≡ get_or sums k s.zero = get_or_default sums n 0 s.zero inside ∙ ap (λ m. get_or sums m s.zero) e in
        let there : row ≡ get_or rows k 0 = sym (here (omega arith)) ∙ ap (λ m. get_or rows m 0) e in
        let one : one_value s.zero (row, value) (get_or rows k 0) ≡ value = cond-true _ value s.zero (eq-eqb row (get_or rows k 0) there) in
        now ∙ ap (λ y. s.add y value) was ∙ ap (s.add (get_or sums k s.zero)) (sym one))
        (λ (e : n ≡ k → ⊥).
        get_or-set_other sums n k x s.zero (λ same. e (sym same)) ∙ unadded k l (⊎_elim
        (λ (b : n < length rows). λ same. e (same_place rows n k up b l (here b ∙ sym same)))
        (λ (b : length rows ≤ n). none (omega arith) k l)
        (cases_lt n (length rows))))
        (cases_eq n k)

  -- ---- a column, times a factor, is added entry by entry
  module _ (column_rows values : List ℕ) (factor : ℕ) (same : length values ≡ length column_rows) (values_are : All (IsValue s) values) (is_factor : IsValue s factor) where
    abbrev rest : ℕ → ℕ → ℕ
    rest n i = s.mul (rest_value s.zero column_rows values n i) factor

    -- with one more entry
    pub entry_more : AllPairs (λ i j. i < j) column_rows → (n : ℕ) (old new : List ℕ) (T : ℕ → ℕ) → n < length column_rows → AreSums s rows old
        → AddsEach s rows (one_value s.zero (get_or column_rows n 0, s.mul (get_or values n 0) factor)) old new
        → ((k : ℕ) → k < length rows → s.add (get_or old k s.zero) (rest n (get_or rows k 0)) ≡ T k)
        → (k : ℕ) → k < length rows → s.add (get_or new k s.zero) (rest (n + 1) (get_or rows k 0)) ≡ T k
    entry_more up n old new T l are adds so_far k lk =
        let i = get_or rows k 0 in
        let v = s.mul (get_or values n 0) factor in
        let is_v : IsValue s v = nth_product s laws column_rows values (Some factor) same values_are is_factor n l in
        ap (λ y. s.add y (rest (n + 1) i)) (adds k lk)
        ∙ laws.add_assoc _ _ _ (nth_sum old k s.zero are lk) (one_value-value s laws (get_or column_rows n 0, v) i is_v) (scaled_value s laws column_rows values (Some factor) same values_are is_factor (n + 1) i)
        ∙ ap (s.add (get_or old k s.zero)) (sym (scaled_split s laws column_rows values (Some factor) same values_are is_factor n i up l))
        ∙ so_far k lk

    -- with all of them, the sums are complete
    pub entries_end : (n : ℕ) (sums : List ℕ) (T : ℕ → ℕ) → length column_rows ≤ n → AreSums s rows sums
        → ((k : ℕ) → k < length rows → s.add (get_or sums k s.zero) (rest n (get_or rows k 0)) ≡ T k)
        → (k : ℕ) → k < length rows → get_or sums k s.zero ≡ T k
    entries_end n sums T l are so_far k lk =
        sym (add_zero s laws _ (nth_sum sums k s.zero are lk))
        ∙ ap (s.add (get_or sums k s.zero)) (sym (scaled_end s laws column_rows values (Some factor) same values_are is_factor n (get_or rows k 0) l))
        ∙ so_far k lk

  -- ---- f is added row by row
  -- with one more row
  pub row_more : (f : ℕ → ℕ) (n v : ℕ) (old sums : List ℕ) → n < length rows → AreSums s rows sums → v ≡ f (get_or rows n 0) → AreAddedSoFar s rows f n old sums → AreAddedSoFar s rows f (n + 1) old (set sums n (s.add (get_or sums n 0) v))
  row_more f n v old sums l are is so_far =
      let x = s.add (get_or sums n 0) v in
      let long = are.one_more in
      let inside : n < length sums = omega arith in
      record {
        added = λ k b lk. ⊎_elim
            (λ (e : k ≡ n).
            let now : get_or (set sums n x) k s.zero ≡ x = ap (λ m. get_or (set sums n x) m s.zero) e ∙ get_or-set_same sums n x s.zero inside in
            let was : get_or sums n 0 ≡ get_or old k s.zero = get_or_default sums n 0 s.zero inside ∙ so_far.others n (omega arith) ∙ ap (λ m. get_or old m s.zero) (sym e) in
            now ∙ ap (λ y. s.add y v) was ∙ ap (s.add (get_or old k s.zero)) (is ∙ ap (λ m. f (get_or rows m 0)) (sym e)))
            (λ (e : k ≡ n → ⊥). let ne : k ≢ n = e in get_or-set_other sums n k x s.zero e ∙ so_far.added k (omega arith) lk)
            (cases_eq k n);
        others = λ k b. let ne : k ≢ n = λ e. absurd (omega arith) in get_or-set_other sums n k x s.zero ne ∙ so_far.others k (omega arith);
      }

-- ---- columns of a matrix, each times a factor, are added one after another
module _ (s : Arithmetic) (laws : IsSemiring s) (a : Sparse) where
  -- the value of a term, given the column's rows and values
  pub term_is : (column_rows values : List ℕ) (j k factor i : ℕ) → column_rows ≡ rows_of (in_column k a.entries) → values ≡ values_of (in_column k a.entries) → k ≡ j → s.mul (row_value s.zero column_rows values i) factor ≡ s.mul (at s a i j) factor
  term_is column_rows values j k factor i p q e = ap (λ x. s.mul x factor) ((λ t. row_value s.zero (p t) (q t) i) ∙ column_value s.zero a.entries i k ∙ ap (at s a i) e)

  -- a column without entries has zeros only
  pub term_absent : (j factor i : ℕ) → IsValue s factor → [] ≡ in_column j a.entries → s.mul (at s a i j) factor ≡ s.zero
  unfolding row_value
  term_absent j factor i v none = ap (λ x. s.mul x factor) (sym (column_value s.zero a.entries i j) ∙ ap (λ es. row_value s.zero (rows_of es) (values_of es) i) (sym none)) ∙ laws.zero_mul factor v

module _ (s : Arithmetic) (laws : IsSemiring s) (a : Sparse) (is : IsMatrix s a) (rows : List ℕ) where
  pub column_sum-value : (i : ℕ) (ks vs : List ℕ) → All (IsValue s) vs → IsValue s (column_sum s a i ks vs)
  unfolding column_sum
  column_sum-value i [] vs h = laws.zero_value
  column_sum-value i (k ∷ ks) [] h = laws.zero_value
  column_sum-value i (k ∷ ks) (v ∷ vs) h = laws.add_value _ _ (laws.mul_value _ v (value_at-value s laws a.entries i k is.values) (All-head (IsValue s) v vs h)) (column_sum-value i ks vs (All-tail (IsValue s) v vs h))

  module _ (inner factors : List ℕ) (same : length factors ≡ length inner) (factors_are : All (IsValue s) factors) where
    abbrev left : ℕ → ℕ → ℕ
    left n i = column_sum s a i (drop n inner) (drop n factors)

    left_split : (n i : ℕ) → n < length inner → left n i ≡ s.add (s.mul (at s a i (get_or inner n 0)) (get_or factors n 0)) (left (n + 1) i)
    unfolding column_sum
    left_split n i l = ap (λ ks. column_sum s a i ks (drop n factors)) (drop_more inner n 0 l) ∙ ap (column_sum s a i (get_or inner n 0 ∷ drop (n + 1) inner)) (drop_more factors n 0 (omega arith))

    -- before the first column
    pub terms_start : (sums : List ℕ) → length sums ≡ length rows + 1 → All (λ x. x ≡ s.zero) sums → (k : ℕ) → k < length rows → s.add (get_or sums k s.zero) (left 0 (get_or rows k 0)) ≡ column_sum s a (get_or rows k 0) inner factors
    terms_start sums long none k lk =
        let zero : get_or sums k s.zero ≡ s.zero = All-get_or (λ x. x ≡ s.zero) sums k s.zero (omega arith) none in
        ap (λ x. s.add x (column_sum s a (get_or rows k 0) inner factors)) zero ∙ laws.zero_add _ (column_sum-value (get_or rows k 0) inner factors factors_are)

    -- with one more column
    pub terms_more : (n : ℕ) (old new : List ℕ) (T : ℕ → ℕ) → n < length inner → AreSums s rows old
        → AddsEach s rows (λ i. s.mul (at s a i (get_or inner n 0)) (get_or factors n 0)) old new
        → ((k : ℕ) → k < length rows → s.add (get_or old k s.zero) (left n (get_or rows k 0)) ≡ T k)
        → (k : ℕ) → k < length rows → s.add (get_or new k s.zero) (left (n + 1) (get_or rows k 0)) ≡ T k
    terms_more n old new T l are adds so_far k lk =
        let i = get_or rows k 0 in
        let factor : IsValue s (get_or factors n 0) = All-get_or (IsValue s) factors n 0 (omega arith) factors_are in
        ap (λ y. s.add y (left (n + 1) i)) (adds k lk)
        ∙ laws.add_assoc _ _ _ (nth_sum s laws rows old k s.zero are lk) (laws.mul_value _ _ (value_at-value s laws a.entries i (get_or inner n 0) is.values) factor) (column_sum-value i (drop (n + 1) inner) (drop (n + 1) factors) (All-drop (IsValue s) (n + 1) factors factors_are))
        ∙ ap (s.add (get_or old k s.zero)) (sym (left_split n i l))
        ∙ so_far k lk

    -- with all of them, the sums are complete
    pub terms_end : (n : ℕ) (sums : List ℕ) (T : ℕ → ℕ) → length inner ≤ n → AreSums s rows sums
        → ((k : ℕ) → k < length rows → s.add (get_or sums k s.zero) (left n (get_or rows k 0)) ≡ T k)
        → (k : ℕ) → k < length rows → get_or sums k s.zero ≡ T k
    unfolding column_sum
    terms_end n sums T l are so_far k lk =
        sym (add_zero s laws _ (nth_sum s laws rows sums k s.zero are lk))
        ∙ ap (λ ks. s.add (get_or sums k s.zero) (column_sum s a (get_or rows k 0) ks (drop n factors))) (sym (drop_all n inner l))
        ∙ so_far k lk

-- ---- the sum past all rows is dropped
module _ (s : Arithmetic) (rows sums : List ℕ) (are : AreSums s rows sums) where
  pub front_length : length (take (length rows) sums) ≡ length rows
  front_length = let long = are.one_more in let front = length-take (length rows) sums in omega arith

  pub front_values : All (IsValue s) (take (length rows) sums)
  front_values = All-take (IsValue s) (length rows) sums are.are_values

  pub front_sums : (f : ℕ → ℕ) → HaveEach s rows f sums → HaveEach s rows f (take (length rows) sums)
  front_sums f have n l = get_or-take (length rows) sums n s.zero l ∙ have n l
