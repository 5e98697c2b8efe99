-- The columns that have entries, each times the vector's value at its number, added to dense sums one after another.
use Rattle.std.proofs.Common.{◌≡◌, ◌≢◌, ℕ, zero, suc, ◌+◌, ◌-◌, ◌<◌, ◌≤◌, List, [], ◌∷◌, length, map, drop, get_or, refl, sym, ap, subst, ◌∙◌, ⊎_elim, arith}
use Rattle.std.specs.Prelude.{All, AllPairs, Contains, slice_range}
use Rattle.std.specs.List.{range_with_len}
use Rattle.std.proofs.lemmas.Bool.{cases_eq, cases_lt}
use Rattle.std.proofs.lemmas.List.{drop_more, drop_all, get_or_default, length-map}
use Rattle.std.proofs.lemmas.List.Edits.{length-between, get_or-between}
use Rattle.std.proofs.lemmas.List.Elements.{All-nil, All-cons, All-head, All-tail, All-get_or, All-weaker, All-take, All-drop}
use Rattle.std.proofs.lemmas.Slice.{between_to_end}
use Rattle.cb_semirings.specs.Arithmetic.{Arithmetic, IsValue, IsSemiring}
use Rattle.cb_matrix.specs.declared.Entry.{Entry}
use Rattle.cb_matrix.specs.Sparse.{Sparse, IsMatrix, IsInside, at}
use Rattle.cb_matrix.specs.Values.{total, product, product_shape}
use Rattle.cb_matrix.proofs.Made.{at-matrix_of}
use Rattle.cb_matrix.proofs.Pairs.{AllPairs-head, AllPairs-tail}
use Rattle.cb_matrix.proofs.Totals.{add_zero, value_at-value, total_value, each_value, total-zero}
use Rattle.cb_dcsc.specs.Columns.{in_column, rows_of, values_of, row_value, columns_with_entries}
use Rattle.cb_dcsc.proofs.Lookup.{column_value, column_values, column_ascends, row_value-found, row_value-absent}
use Rattle.cb_dcsc.proofs.ColumnEntries.{in_column-all}
use Rattle.cb_product.specs.InColumns.{AreInColumns, only_columns}
use Rattle.cb_product.proofs.ColumnsMade.{absent_value}
use Rattle.cb_product.proofs.OnlyColumns.{among_at, only_all, only_in, only_matrix, only_value}

-- a number above all ascending rows before the n-th, and below the n-th, isn't one of them
pub not_among : (rows : List ℕ) (n j : ℕ) → AllPairs (λ c d. c < d) rows → ((k : ℕ) → k < n → get_or rows k 0 < j) → (n < length rows → j < get_or rows n 0) → All (λ c. c ≢ j) rows
not_among rows n j up before after = λ k d l same.
    let here : get_or rows k d ≡ get_or rows k 0 = get_or_default rows k d 0 l in
    ⊎_elim
    (λ (b : k < n). let w = before k b in absurd (omega arith))
    (λ (b : n ≤ k).
    let w = after (omega arith) in
    ⊎_elim
    (λ (e : k ≡ n). let at_n = ap (λ x. get_or rows x 0) e in absurd (omega arith))
    (λ (e : k ≡ n → ⊥). let ne : k ≢ n = e in let later : get_or rows n 0 < get_or rows k 0 = up n k 0 (omega arith) l in absurd (omega arith))
    (cases_eq k n))
    (cases_lt k n)

module _ (s : Arithmetic) (laws : IsSemiring s) where
  -- a sum over a range is that over an ascending list, if all others are zero
  total_listed : (f : ℕ → ℕ) (a n : ℕ) (xs : List ℕ) → ((k : ℕ) → IsValue s (f k)) → AllPairs (λ i j. i < j) xs → All (λ x. a ≤ x) xs → All (λ x. x < a + n) xs → ((v : ℕ) → a ≤ v → All (λ x. x ≢ v) xs → f v ≡ s.zero)
      → total s (map f (range_with_len a n)) ≡ total s (map f xs)
  unfolding total
  total_listed f a n [] are up low high none = total-zero s laws f a n (λ k l. none k l (All-nil (λ x. x ≢ k)))
  total_listed f a zero (x ∷ xs) are up low high none = let l = All-head (λ x. a ≤ x) x xs low in let h = All-head (λ x. x < a + zero) x xs high in absurd (omega arith)
  total_listed f a (suc n) (x ∷ xs) are up low high none =
      let above : All (λ y. x < y) xs = AllPairs-head (λ i j. i < j) x xs up in
      let here : a ≤ x = All-head (λ x. a ≤ x) x xs low in
      let within : All (λ y. y < a + 1 + n) (x ∷ xs) = All-weaker (λ y. y < a + suc n) (λ y. y < a + 1 + n) (λ y l. omega arith) (x ∷ xs) high in
      ⊎_elim
      (λ (same : a ≡ x).
      ap (λ y. s.add (f y) (total s (map f (range_with_len (a + 1) n)))) same
      ∙ ap (s.add (f x)) (total_listed f (a + 1) n xs are (AllPairs-tail (λ i j. i < j) x xs up) (All-weaker (λ y. x < y) (λ y. a + 1 ≤ y) (λ y l. omega arith) xs above) (All-tail (λ y. y < a + 1 + n) x xs within) (λ v l others. none v (omega arith) (All-cons (λ y. y ≢ v) x xs (λ e. absurd (omega (arith, e, same, l))) others))))
      (λ (other : a ≡ x → ⊥).
      let o : a ≢ x = other in
      let later : All (λ y. a + 1 ≤ y) (x ∷ xs) = All-cons (λ y. a + 1 ≤ y) x xs (omega arith) (All-weaker (λ y. x < y) (λ y. a + 1 ≤ y) (λ y l. omega arith) xs above) in
      ap (λ y. s.add y (total s (map f (range_with_len (a + 1) n)))) (none a (omega arith) (All-weaker (λ y. a + 1 ≤ y) (λ y. y ≢ a) (λ y l e. absurd (omega (arith, l, e))) (x ∷ xs) later))
      ∙ laws.zero_add (total s (map f (range_with_len (a + 1) n))) (total_value s laws (map f (range_with_len (a + 1) n)) (each_value s laws f are (range_with_len (a + 1) n)))
      ∙ total_listed f (a + 1) n (x ∷ xs) are up later within (λ v l others. none v (omega arith) others))
      (cases_eq a x)

-- ---- a vector as two lists
module _ (s : Arithmetic) (x : Sparse) (is : IsMatrix s x) (one : x.shape.cols ≡ 1) where
  all_in_one : in_column 0 x.entries ≡ x.entries
  all_in_one = in_column-all 0 x.entries (All-weaker (IsInside x.shape) (λ e. e.column ≡ 0) (λ e k. let c = k.1 in omega (arith, one)) x.entries is.inside)

  -- its rows ascend
  pub rows_ascend : (rows : List ℕ) → rows ≡ rows_of x.entries → AllPairs (λ i j. i < j) rows
  rows_ascend rows e = subst (AllPairs (λ i j. i < j)) (ap rows_of all_in_one ∙ sym e) (column_ascends 0 x.entries is.ascending)

  -- its values are those of the semiring
  pub values_are : (values : List ℕ) → values ≡ values_of x.entries → All (IsValue s) values
  values_are values e = column_values s x 0 values is (e ∙ ap values_of (sym all_in_one))

  -- its value at a row is that of the lists
  listed_value : (rows values : List ℕ) → rows ≡ rows_of x.entries → values ≡ values_of x.entries → (k : ℕ) → row_value s.zero rows values k ≡ at s x k 0
  listed_value rows values p q k = (λ t. row_value s.zero (p t) (q t) k) ∙ ap (λ es. row_value s.zero (rows_of es) (values_of es) k) (sym all_in_one) ∙ column_value s.zero x.entries k 0

  -- the lists are of one length
  pub same_length : (rows values : List ℕ) → rows ≡ rows_of x.entries → values ≡ values_of x.entries → length values ≡ length rows
  same_length rows values p q = ap length q ∙ length-map x.entries (λ (e : Entry). e.value) ∙ sym (length-map x.entries (λ (e : Entry). e.row)) ∙ sym (ap length p)

  module _ (rows values : List ℕ) (p : rows ≡ rows_of x.entries) (q : values ≡ values_of x.entries) (n k : ℕ) where
    -- at the n-th row it is the n-th value
    pub value_there : n < length rows → get_or rows n 0 ≡ k → get_or values n 0 ≡ at s x k 0
    value_there l e = sym (row_value-found s.zero rows values n k (same_length rows values p q) (rows_ascend rows p) l e) ∙ listed_value rows values p q k

    -- between two rows it is zero
    pub value_between : ((m : ℕ) → m < n → get_or rows m 0 < k) → (n < length rows → k < get_or rows n 0) → at s x k 0 ≡ s.zero
    value_between before after = sym (listed_value rows values p q k) ∙ row_value-absent s.zero rows values k (λ m l. not_among rows n k (rows_ascend rows p) before after m 0 l)

-- ---- the sum over the columns that are left
-- the product of row i's value in column k and the vector's value at row k
abbrev pub part : Arithmetic → Sparse → Sparse → ℕ → ℕ → ℕ
part s a x i k = s.mul (at s a i k) (at s x k 0)

-- the sum of these products over columns
abbrev pub listed_sum : Arithmetic → Sparse → Sparse → ℕ → List ℕ → ℕ
listed_sum s a x i columns = total s (map (part s a x i) columns)

module _ (s : Arithmetic) (laws : IsSemiring s) (a x : Sparse) (is : IsMatrix s a) (is_x : IsMatrix s x) where
  part_value : (i k : ℕ) → IsValue s (part s a x i k)
  part_value i k = laws.mul_value _ _ (value_at-value s laws a.entries i k is.values) (value_at-value s laws x.entries k 0 is_x.values)

  -- over all columns that have entries it is the product
  pub listed_product : (columns : List ℕ) → AllPairs (λ c d. c < d) columns → All (λ c. c < a.shape.cols) columns → AreInColumns columns a.entries → x.shape.cols ≡ 1 → (i : ℕ) → i < a.shape.rows → listed_sum s a x i columns ≡ at s (product s a x) i 0
  listed_product columns up inside all one i l =
      sym (total_listed s laws (part s a x i) 0 a.shape.cols columns (part_value i) up (All-weaker (λ c. c < a.shape.cols) (λ c. 0 ≤ c) (λ c _. omega arith) columns inside) (All-weaker (λ c. c < a.shape.cols) (λ c. c < 0 + a.shape.cols) (λ c l. omega arith) columns inside)
      (λ k _ others. ap (λ y. s.mul y (at s x k 0)) (absent_value s.zero a.entries columns i k all others) ∙ laws.zero_mul (at s x k 0) (value_at-value s laws x.entries k 0 is_x.values)))
      ∙ sym (at-matrix_of s (product_shape a x) (λ i j. total s (map (λ k. s.mul (at s a i k) (at s x k j)) (range_with_len 0 a.shape.cols))) i 0 l (omega (arith, one)))

  module _ (columns : List ℕ) where
    left_value : (n i : ℕ) → IsValue s (listed_sum s a x i (drop n columns))
    left_value n i = total_value s laws (map (part s a x i) (drop n columns)) (each_value s laws (part s a x i) (part_value i) (drop n columns))

    -- it is the n-th column's part, plus the sum over the columns after it
    left_split : (n i : ℕ) → n < length columns → listed_sum s a x i (drop n columns) ≡ s.add (part s a x i (get_or columns n 0)) (listed_sum s a x i (drop (n + 1) columns))
    unfolding total
    left_split n i l = ap (listed_sum s a x i) (drop_more columns n 0 l)

    module _ (n : ℕ) (l : n < length columns) (T : ℕ → ℕ) where
      abbrev k : ℕ
      k = get_or columns n 0

      -- the n-th column is added
      pub column_added : (old new rows values : List ℕ) (factor : ℕ) → rows ≡ rows_of (in_column k a.entries) → values ≡ values_of (in_column k a.entries) → factor ≡ at s x k 0 → All (IsValue s) old
          → ((i : ℕ) → i < length old → get_or new i s.zero ≡ s.add (get_or old i s.zero) (s.mul (row_value s.zero rows values i) factor))
          → ((i : ℕ) → i < length old → s.add (get_or old i s.zero) (listed_sum s a x i (drop n columns)) ≡ T i)
          → (i : ℕ) → i < length old → s.add (get_or new i s.zero) (listed_sum s a x i (drop (n + 1) columns)) ≡ T i
      column_added old new rows values factor p q f old_values step so_far i li =
          let here : row_value s.zero rows values i ≡ at s a i k = (λ t. row_value s.zero (p t) (q t) i) ∙ column_value s.zero a.entries i k in
          ap (λ y. s.add y (listed_sum s a x i (drop (n + 1) columns))) (step i li ∙ ap (s.add (get_or old i s.zero)) (λ t. s.mul (here t) (f t)))
          ∙ laws.add_assoc (get_or old i s.zero) (part s a x i k) (listed_sum s a x i (drop (n + 1) columns)) (All-get_or (IsValue s) old i s.zero li old_values) (part_value i k) (left_value (n + 1) i)
          ∙ ap (s.add (get_or old i s.zero)) (sym (left_split n i l)) ∙ so_far i li

      -- where the vector has zero, nothing is added
      pub column_passed : (sums : List ℕ) → at s x k 0 ≡ s.zero
          → ((i : ℕ) → i < length sums → s.add (get_or sums i s.zero) (listed_sum s a x i (drop n columns)) ≡ T i)
          → (i : ℕ) → i < length sums → s.add (get_or sums i s.zero) (listed_sum s a x i (drop (n + 1) columns)) ≡ T i
      column_passed sums none so_far i li =
          let whole : listed_sum s a x i (drop n columns) ≡ listed_sum s a x i (drop (n + 1) columns) =
          left_split n i l ∙ ap (λ y. s.add (s.mul (at s a i k) y) (listed_sum s a x i (drop (n + 1) columns))) none
          ∙ ap (λ y. s.add y (listed_sum s a x i (drop (n + 1) columns))) (laws.mul_zero (at s a i k) (value_at-value s laws a.entries i k is.values)) ∙ laws.zero_add _ (left_value (n + 1) i) in
          ap (s.add (get_or sums i s.zero)) (sym whole) ∙ so_far i li

    -- past the last column, the sums are complete
    pub all_columns_added : (n : ℕ) (sums : List ℕ) (T : ℕ → ℕ) → length columns ≤ n → All (IsValue s) sums
        → ((i : ℕ) → i < length sums → s.add (get_or sums i s.zero) (listed_sum s a x i (drop n columns)) ≡ T i)
        → (i : ℕ) → i < length sums → get_or sums i s.zero ≡ T i
    unfolding total
    all_columns_added n sums T l sums_are so_far i li =
        sym (add_zero s laws (get_or sums i s.zero) (All-get_or (IsValue s) sums i s.zero li sums_are))
        ∙ ap (λ ks. s.add (get_or sums i s.zero) (listed_sum s a x i ks)) (sym (drop_all n columns l)) ∙ so_far i li

-- ---- some columns, by their places among all that have entries
module _ (xs : List ℕ) (low high : ℕ) (h : high ≤ length xs) where
  -- the nth of them
  pub some_at : (n d : ℕ) → n < length (slice_range xs low high) → get_or (slice_range xs low high) n d ≡ get_or xs (low + n) d
  some_at n d l = let long = length-between xs low high h in get_or-between xs low high n d (omega arith)

  -- they ascend
  pub some_ascend : AllPairs (λ c d. c < d) xs → AllPairs (λ c d. c < d) (slice_range xs low high)
  some_ascend up i j d l k =
      let long = length-between xs low high h in
      let e = get_or-between xs low high i d (omega arith) in
      let f = get_or-between xs low high j d (omega arith) in
      let less : get_or xs (low + i) d < get_or xs (low + j) d = up (low + i) (low + j) d (omega arith) (omega arith) in
      omega arith

  -- and are inside
  pub some_inside : (n : ℕ) → All (λ c. c < n) xs → All (λ c. c < n) (slice_range xs low high)
  some_inside n k = All-take (λ c. c < n) (high - low) (drop low xs) (All-drop (λ c. c < n) low xs k)

-- what is the same at each of some numbers
same_map : (f g : ℕ → ℕ) (ks : List ℕ) → All (λ k. f k ≡ g k) ks → map f ks ≡ map g ks
same_map f g [] h = refl
same_map f g (k ∷ ks) h =
    let first = All-head (λ k. f k ≡ g k) k ks h in
    let rest = same_map f g ks (All-tail (λ k. f k ≡ g k) k ks h) in
    λ i. first i ∷ rest i

module _ (s : Arithmetic) (laws : IsSemiring s) (a x : Sparse) (is : IsMatrix s a) (is_x : IsMatrix s x) where
  -- over listed columns it is the product with only these columns
  pub some_product : (columns : List ℕ) → AllPairs (λ c d. c < d) columns → All (λ c. c < a.shape.cols) columns → x.shape.cols ≡ 1 → (i : ℕ) → i < a.shape.rows → listed_sum s a x i columns ≡ at s (product s (only_columns columns a) x) i 0
  some_product columns up inside one i l =
      let only : Sparse = only_columns columns a in
      ap (total s) (same_map (part s a x i) (part s only x i) columns (λ n d k. ap (λ v. s.mul v (at s x (get_or columns n d) 0)) (sym (only_value s.zero columns a i (get_or columns n d) (among_at columns n d k)))))
      ∙ listed_product s laws only x (only_matrix s columns a is) is_x columns up inside (only_in columns a) one i l

-- all places are those of the whole matrix
pub all_places : (m : Sparse) (high : ℕ) (xs : List ℕ) → xs ≡ columns_with_entries m.entries → All (λ e. Contains xs e.column) m.entries → high ≡ length xs → only_columns (slice_range (columns_with_entries m.entries) 0 high) m ≡ m
all_places m high xs numbers all h =
    let whole : slice_range xs 0 high ≡ xs = between_to_end xs 0 high (omega (arith, h)) in
    only_all (slice_range (columns_with_entries m.entries) 0 high) m
    (subst (λ cs. AreInColumns cs m.entries) (sym (ap (λ cs. slice_range cs 0 high) (sym numbers) ∙ whole)) all)
