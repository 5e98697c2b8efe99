-- Sums over the columns of a matrix: those over neighbouring ranges, added up, are that over both.
use Rattle.std.proofs.Common.{◌≡◌, ◌≢◌, ℕ, ◌+◌, ◌-◌, ◌<◌, ◌≤◌, true, false, cond, inl, inr, ◌⊎◌, List, [], ◌∷◌, ◌++◌, length, get_or, set, map, take, drop, refl, sym, ap, subst, ◌∙◌, ⊎_elim, arith}
use Rattle.std.specs.Prelude.{◌==◌, ◌&&◌, All, AllPairs, slice_range}
use Rattle.std.specs.List.{range_with_len}
use Rattle.std.proofs.lemmas.Bool.{cases_eq, cases_lt, cond-true, cond-false, eq-eqb, ne_eqb, false_from_ne_true}
use Rattle.std.proofs.lemmas.List.{drop_more, get_or_default, get_or-set_same, get_or-set_other, length-set, take-append-drop}
use Rattle.std.proofs.lemmas.List.Elements.{All-head, All-tail, All-get_or, All-set, All-take, All-drop, All-weaker}
use Rattle.cb_semirings.specs.Arithmetic.{Arithmetic, IsValue, IsSemiring}
use Rattle.cb_matrix.specs.declared.Entry.{Entry}
use Rattle.cb_matrix.specs.Sparse.{Sparse, Extent, IsMatrix, IsBefore, IsInside, at, value_at}
use Rattle.cb_matrix.specs.Values.{total, matrix_of, product, product_shape}
use Rattle.cb_matrix.specs.Operations.{row_sums}
use Rattle.cb_matrix.proofs.Made.{at-matrix_of}
use Rattle.cb_matrix.proofs.Equal.{matrix_is}
use Rattle.cb_matrix.proofs.Pairs.{AllPairs-front, AllPairs-drop}
use Rattle.cb_matrix.proofs.Totals.{add_mul-zero, add_zero, total-add, total-same, total-single, total-zero, value_at-value}
use Rattle.cb_dcsc.proofs.Ranges.{no_range, range_both}
use Rattle.cb_operations.specs.declared.operations.Operation.{Operation}
use Rattle.cb_operations.specs.declared.operations.Operation.TheVariants.{MultiplyVector, RowSums}
use Rattle.cb_operations.specs.OperationAnswers.{operand_count_of, Agree, answer_of, matrix_at, shapes_in}
use Rattle.cb_product.specs.DenseSums.{AddsToSums}
use Rattle.cb_product.proofs.OnlyColumns.{only_matrix}
use Rattle.cb_reshape.specs.Sums.{column_total, matrix_total, row_total}
use Rattle.cb_shares.specs.Shares.{columns_from, panel}
use Rattle.cb_shares.specs.Sums.{AddsShares, AddsTotals, IsColumnOf, IsListOf, IsSumOfColumns, share_of, some_entries, with_columns}
use Rattle.cb_shares.proofs.ColumnValues.{only_none, product_matrix}
use Rattle.cb_shares.proofs.Neighbours.{neighbours_joined}
use Rattle.cb_shares.proofs.PanelTotals.{at_sum, back_value, front_value, totals}
use Rattle.cb_shares.proofs.Ranges.{all_columns, range_holds}

-- what holds of all elements holds of those of a range
range_all : {X : Type 0} (P : X → Type 0) (xs : List X) (a b : ℕ) → All P xs → All P (slice_range xs a b)
range_all P xs a b h = All-take P (b - a) (drop a xs) (All-drop P a xs h)

-- and so does what holds of each two
range_pairs : {X : Type 0} (R : X → X → Type 0) (xs : List X) (a b : ℕ) → AllPairs R xs → AllPairs R (slice_range xs a b)
range_pairs R xs a b h =
    let back = AllPairs-drop R a xs h in
    AllPairs-front R (take (b - a) (drop a xs)) (drop (b - a) (drop a xs)) (subst (AllPairs R) (sym (take-append-drop (b - a) (drop a xs))) back)

abbrev pub no_entry : Entry
no_entry = record { row = 0; column = 0; value = 0 }

-- a list of one number has that number
single : (xs : List ℕ) (z : ℕ) → length xs ≡ 1 → xs ≡ get_or xs 0 z ∷ []
single [] z h = absurd (omega arith)
single (x ∷ []) z h = refl
single (x ∷ y ∷ xs) z h = absurd (omega arith)

module _ (s : Arithmetic) (laws : IsSemiring s) where
  at_value : (m : Sparse) → IsMatrix s m → (i j : ℕ) → IsValue s (at s m i j)
  at_value m is i j = value_at-value s laws m.entries i j is.values

  -- ---- entries behind other entries
  -- the sum of a row is that of the first, and of the others
  rows_joined : (shape : Extent) (xs ys : List Entry) → IsMatrix s (record { shape = shape; entries = xs ++ ys })
      → (i : ℕ) → row_total s (record { shape = shape; entries = xs ++ ys }) i ≡ s.add (row_total s (record { shape = shape; entries = xs }) i) (row_total s (record { shape = shape; entries = ys }) i)
  rows_joined shape xs ys is i =
      let all : Sparse = record { shape = shape; entries = xs ++ ys } in
      let first : Sparse = record { shape = shape; entries = xs } in
      let rest : Sparse = record { shape = shape; entries = ys } in
      total-same s laws (λ k. at s all i k) (λ k. s.add (at s first i k) (at s rest i k)) (λ k. at_sum s laws shape xs ys is i k) (range_with_len 0 shape.cols)
      ∙ total-add s laws (λ k. at s first i k) (λ k. at s rest i k) (λ k. front_value s laws shape xs ys is i k) (λ k. back_value s laws shape xs ys is i k) (range_with_len 0 shape.cols)

  -- ---- neighbouring ranges of columns of a matrix
  module _ (m : Sparse) (is : IsMatrix s m) (p q r : ℕ) (l : p ≤ q) (h : q ≤ r) where
    abbrev front : Sparse
    front = panel m p q

    abbrev back : Sparse
    back = panel m q r

    abbrev both : Sparse
    both = panel m p r

    is_front : IsMatrix s front
    is_front = only_matrix s (columns_from p q) m is

    is_back : IsMatrix s back
    is_back = only_matrix s (columns_from q r) m is

    joined : record { shape = m.shape; entries = front.entries ++ back.entries } ≡ both
    joined = neighbours_joined s m is p q r l h

    is_joined : IsMatrix s (record { shape = m.shape; entries = front.entries ++ back.entries })
    is_joined = subst (λ (x : Sparse). IsMatrix s x) (sym joined) (only_matrix s (columns_from p r) m is)

    -- a place has the sum of what the two have there
    parts_at : (i j : ℕ) → at s both i j ≡ s.add (at s front i j) (at s back i j)
    parts_at i j = ap (λ (x : Sparse). at s x i j) (sym joined) ∙ at_sum s laws m.shape front.entries back.entries is_joined i j

    -- of which one is zero
    one_zero : (i j : ℕ) → (at s front i j ≡ s.zero) ⊎ (at s back i j ≡ s.zero)
    one_zero i j = ⊎_elim
        (λ (k : j < q). inr (only_none s (columns_from q r) m i j (false_from_ne_true _ (λ t. let in_back = range_holds q r j t in let b = in_back.0 in absurd (omega arith)))))
        (λ (k : q ≤ j). inl (only_none s (columns_from p q) m i j (false_from_ne_true _ (λ t. let in_front = range_holds p q j t in let b = in_front.1 in absurd (omega arith)))))
        (cases_lt j q)

    -- the sums of all values
    pub parts_total : matrix_total s both ≡ s.add (matrix_total s front) (matrix_total s back)
    parts_total = ap (matrix_total s) (sym joined) ∙ totals s laws m.shape front.entries back.entries is_joined

    -- the sums of a row
    pub parts_row : (i : ℕ) → row_total s both i ≡ s.add (row_total s front i) (row_total s back i)
    parts_row i = ap (λ (x : Sparse). row_total s x i) (sym joined) ∙ rows_joined m.shape front.entries back.entries is_joined i

    -- a product's value
    pub parts_product : (x : Sparse) → IsMatrix s x → (i j : ℕ) → i < m.shape.rows → j < x.shape.cols → at s (product s both x) i j ≡ s.add (at s (product s front x) i j) (at s (product s back x) i j)
    parts_product x is_x i j li lj =
        let of : Sparse → ℕ → ℕ = λ a k. s.mul (at s a i k) (at s x k j) in
        let value : (a : Sparse) → IsMatrix s a → (k : ℕ) → IsValue s (of a k) = λ a is_a k. laws.mul_value _ _ (at_value a is_a i k) (at_value x is_x k j) in
        let here : (a : Sparse) → a.shape ≡ m.shape → at s (product s a x) i j ≡ total s (map (of a) (range_with_len 0 m.shape.cols)) = λ a e.
        at-matrix_of s (product_shape a x) (λ i j. total s (map (λ k. s.mul (at s a i k) (at s x k j)) (range_with_len 0 a.shape.cols))) i j (subst (λ (d : Extent). i < d.rows) (sym e) li) lj
        ∙ ap (λ (d : Extent). total s (map (of a) (range_with_len 0 d.cols))) e in
        here both refl
        ∙ total-same s laws (of both) (λ k. s.add (of front k) (of back k))
        (λ k. ap (λ v. s.mul v (at s x k j)) (parts_at i k) ∙ add_mul-zero s laws (at s front i k) (at s back i k) (at s x k j) (at_value front is_front i k) (at_value back is_back i k) (at_value x is_x k j) (one_zero i k))
        (range_with_len 0 m.shape.cols)
        ∙ total-add s laws (of front) (of back) (value front is_front) (value back is_back) (range_with_len 0 m.shape.cols)
        ∙ (λ t. s.add (sym (here front refl) t) (sym (here back refl) t))

  row_sum_at : (a : Sparse) (i : ℕ) → i < a.shape.rows → at s (row_sums s a) i 0 ≡ row_total s a i
  row_sum_at a i l = at-matrix_of s (record { rows = a.shape.rows; cols = 1 }) (λ i j. row_total s a i) i 0 l (omega arith)

  -- ---- shares by the value of an operation
  -- what two of them add up to
  pub shares_at : (operation : Operation) (ms : List Sparse) → IsSumOfColumns operation → length ms ≡ operand_count_of operation → Agree operation (shapes_in ms) → All (IsMatrix s) ms
      → (p q r : ℕ) → p ≤ q → q ≤ r → (i : ℕ) → i < (share_of operation s ms p r).shape.rows
      → at s (share_of operation s ms p r) i 0 ≡ s.add (at s (share_of operation s ms p q) i 0) (at s (share_of operation s ms q r) i 0)
  shares_at MultiplyVector [] by count agree are p q r l h i li = absurd (omega arith)
  shares_at MultiplyVector (a ∷ []) by count agree are p q r l h i li = absurd (omega arith)
  shares_at MultiplyVector (a ∷ x ∷ []) by count agree are p q r l h i li =
      let one : x.shape.cols ≡ 1 = agree.1 in
      let is_a = All-head (IsMatrix s) a (x ∷ []) are in
      let is_x = All-head (IsMatrix s) x [] (All-tail (IsMatrix s) a (x ∷ []) are) in
      parts_product a is_a p q r l h x is_x i 0 li (omega arith)
  shares_at MultiplyVector (a ∷ x ∷ y ∷ ms) by count agree are p q r l h i li = absurd (omega arith)
  shares_at RowSums [] by count agree are p q r l h i li = absurd (omega arith)
  shares_at RowSums (a ∷ []) by count agree are p q r l h i li =
      let is_a = All-head (IsMatrix s) a [] are in
      row_sum_at (panel a p r) i li ∙ parts_row a is_a p q r l h i ∙ (λ t. s.add (sym (row_sum_at (panel a p q) i li) t) (sym (row_sum_at (panel a q r) i li) t))
  shares_at RowSums (a ∷ x ∷ ms) by count agree are p q r l h i li = absurd (omega arith)
  shares_at _ ms by count agree are p q r l h i li = absurd by

  -- they have the same rows
  pub same_rows : (operation : Operation) (ms : List Sparse) → IsSumOfColumns operation → (p q u v : ℕ) → (share_of operation s ms p q).shape.rows ≡ (share_of operation s ms u v).shape.rows
  same_rows MultiplyVector [] by p q u v = refl
  same_rows MultiplyVector (a ∷ ms) by p q u v = refl
  same_rows RowSums [] by p q u v = refl
  same_rows RowSums (a ∷ ms) by p q u v = refl
  same_rows _ ms by p q u v = absurd by

  -- the share of all columns is the answer
  pub whole_share : (ms : List Sparse) → All (IsMatrix s) ms → (r : ℕ) → (matrix_at ms 0).shape.cols ≤ r → with_columns 0 r ms ≡ ms
  whole_share [] are r l = refl
  whole_share (m ∷ ms) are r l = ap (λ (x : Sparse). x ∷ ms) (all_columns s m r (All-head (IsMatrix s) m ms are) l)

  -- ---- lists that are added place by place
  module _ (front back sum : List ℕ) (as_long : length sum ≡ length front) (also : length back ≡ length front) (is_front : All (IsValue s) front) (is_back : All (IsValue s) back)
      (each : (i : ℕ) → i < length front → get_or sum i s.zero ≡ s.add (get_or front i s.zero) (get_or back i s.zero)) where
    are_values : All (IsValue s) sum
    are_values k d l =
        let m : k < length front = omega arith in
        let n : k < length back = omega arith in
        let same : get_or sum k d ≡ s.add (get_or front k s.zero) (get_or back k s.zero) = get_or_default sum k d s.zero l ∙ each k m in
        subst (IsValue s) (sym same) (laws.add_value _ _ (All-get_or (IsValue s) front k s.zero m is_front) (All-get_or (IsValue s) back k s.zero n is_back))

    pub adds_shares : AddsShares s front back sum
    adds_shares operation ms by count agree are p q r l h is_p is_q =
        let rows = same_rows operation ms by p r p q in
        let back_rows = same_rows operation ms by q r p q in
        let list : IsListOf s (share_of operation s ms p r) sum = record {
          as_long = as_long ∙ is_p.as_long ∙ sym rows;
          are_values = are_values;
          value = λ i li.
              each i (subst (λ n. i < n) (rows ∙ sym is_p.as_long) li)
              ∙ (λ t. s.add (is_p.value i (subst (λ n. i < n) rows li) t) (is_q.value i (subst (λ n. i < n) (rows ∙ sym back_rows) li) t))
              ∙ sym (shares_at operation ms by count agree are p q r l h i li);
        } in (
          list,
          λ z k. subst (λ (xs : List Sparse). IsListOf s (answer_of operation s xs) sum) (ap (λ n. with_columns n r ms) z ∙ whole_share ms are r k) list,
        )

    pub adds_totals : AddsTotals s front back sum
    adds_totals m is p q r l h is_p is_q =
        let one : length sum ≡ 1 = as_long ∙ ap length is_p in
        let first : get_or sum 0 s.zero ≡ matrix_total s (panel m p r) =
        each 0 (subst (λ xs. 0 < length xs) (sym is_p) (omega arith))
        ∙ (λ t. s.add (get_or (is_p t) 0 s.zero) (get_or (is_q t) 0 s.zero))
        ∙ sym (parts_total m is p q r l h) in
        let list : sum ≡ matrix_total s (panel m p r) ∷ [] = single sum s.zero one ∙ ap (λ x. x ∷ []) first in (
          list,
          λ z k. list ∙ ap (λ (x : Sparse). matrix_total s x ∷ []) (ap (λ n. panel m n r) z ∙ all_columns s m r is k),
        )

  -- ---- the sums that are made of zeros
  module _ (zeros new : List ℕ) (none : All (λ x. x ≡ s.zero) zeros) (long : length new ≡ length zeros) (values : All (IsValue s) new) where
    added : (i : ℕ) (x y : ℕ) → IsValue s x → i < length zeros → y ≡ s.add (get_or zeros i s.zero) x → y ≡ x
    added i x y is l e = e ∙ ap (λ z. s.add z x) (All-get_or (λ z. z ≡ s.zero) zeros i s.zero l none) ∙ laws.zero_add x is

    pub product_list : (a x : Sparse) → IsMatrix s a → IsMatrix s x → x.shape.cols ≡ 1 → length zeros ≡ a.shape.rows → AddsToSums s a.shape.rows (λ i. at s (product s a x) i 0) zeros new → IsListOf s (product s a x) new
    product_list a x is is_x one rows adds = record {
      as_long = long ∙ rows;
      are_values = values;
      value = λ i l. added i (at s (product s a x) i 0) (get_or new i s.zero) (at_value (product s a x) (product_matrix s laws a x is is_x) i 0) (subst (λ n. i < n) (sym rows) l) (adds i l);
    }

  -- ---- a list as a column
  pub column_is : (shape : Extent) (list : List ℕ) (m : Sparse) → shape.cols ≡ 1 → length list ≡ shape.rows → m ≡ matrix_of s shape (λ i _. get_or list i s.zero) → IsColumnOf s list m
  column_is shape list m one long stored a is cols of =
      let rows : a.shape.rows ≡ shape.rows = sym of.as_long ∙ long in
      let same : a.shape ≡ shape = λ t. record { rows = rows t; cols = (cols ∙ sym one) t } in
      stored
      ∙ sym (matrix_is s laws a shape (λ i _. get_or list i s.zero) is same
      (λ i j li lj. let first : j ≡ 0 = omega (arith, one, lj) in ap (λ k. at s a i k) first ∙ sym (of.value i (subst (λ n. i < n) (sym rows) li))))

  -- ---- entries that are added one after another
  -- a sum of which only one number isn't zero
  one_place : (c n v : ℕ) → c < n → IsValue s v → total s (map (λ k. cond (c == k) v s.zero) (range_with_len 0 n)) ≡ v
  one_place c n v l h =
      let here : ℕ → ℕ = λ k. cond (c == k) v s.zero in
      let here_value : (k : ℕ) → IsValue s (here k) = λ k. elim (c == k) as (λ b. IsValue s (cond b v s.zero)) [ true ↦ h | false ↦ laws.zero_value ] in
      let own : here c ≡ v = cond-true _ _ _ (eq-eqb c c refl) in
      total-single s laws here 0 n c here_value (omega arith) (omega arith) (λ k ne. let f : (c == k) ≡ false = ne_eqb c k (λ p. ne (sym p)) in rw f refl) ∙ own

  module _ (shape : Extent) (e : Entry) (inside : IsInside shape e) (value : IsValue s e.value) where
    abbrev alone : Sparse
    alone = record { shape = shape; entries = e ∷ [] }

    -- the sum of a row
    pub one_row : (i : ℕ) → row_total s alone i ≡ cond (e.row == i) e.value s.zero
    unfolding value_at
    one_row i =
        elim (e.row == i) as (λ b. total s (map (λ k. cond (b && (e.column == k)) e.value s.zero) (range_with_len 0 shape.cols)) ≡ cond b e.value s.zero) [
          | true ↦ one_place e.column shape.cols e.value inside.1 value
          | false ↦ total-zero s laws (λ k. s.zero) 0 shape.cols (λ k l. refl)
        ]

    one_column : (j : ℕ) → column_total s alone j ≡ cond (e.column == j) e.value s.zero
    unfolding value_at
    one_column j =
        elim (e.column == j) as (λ b. total s (map (λ i. cond ((e.row == i) && b) e.value s.zero) (range_with_len 0 shape.rows)) ≡ cond b e.value s.zero) [
          | true ↦
              total-same s laws (λ i. cond ((e.row == i) && true) e.value s.zero) (λ i. cond (e.row == i) e.value s.zero) (λ i. elim (e.row == i) as (λ b. cond (b && true) e.value s.zero ≡ cond b e.value s.zero) [ true ↦ refl | false ↦ refl ]) (range_with_len 0 shape.rows)
              ∙ one_place e.row shape.rows e.value inside.0 value
          | false ↦ total-zero s laws (λ i. cond ((e.row == i) && false) e.value s.zero) 0 shape.rows (λ i l. elim (e.row == i) as (λ b. cond (b && false) e.value s.zero ≡ s.zero) [ true ↦ refl | false ↦ refl ])
        ]

    -- the sum of all values
    pub one_total : matrix_total s alone ≡ e.value
    one_total = total-same s laws (column_total s alone) (λ j. cond (e.column == j) e.value s.zero) one_column (range_with_len 0 shape.cols) ∙ one_place e.column shape.cols e.value inside.1 value

  -- some entries are a matrix
  pub some_matrix : (m : Sparse) (from to : ℕ) → IsMatrix s m → IsMatrix s (some_entries from to m)
  some_matrix m from to is = record {
    ascending = range_pairs IsBefore m.entries from to is.ascending;
    inside = range_all (IsInside m.shape) m.entries from to is.inside;
    values = range_all (λ (e : Entry). IsValue s e.value) m.entries from to is.values;
    not_zero = range_all (λ (e : Entry). e.value ≢ s.zero) m.entries from to is.not_zero;
  }

  module _ (m : Sparse) (is : IsMatrix s m) (from n : ℕ) (l : from ≤ n) (h : n < length m.entries) where
    abbrev e : Entry
    e = get_or m.entries n no_entry

    more_entries : slice_range m.entries from (n + 1) ≡ slice_range m.entries from n ++ e ∷ []
    more_entries =
        let w : (n + 1) - n ≡ 1 = omega arith in
        let one : slice_range m.entries n (n + 1) ≡ e ∷ [] = ap (λ k. take k (drop n m.entries)) w ∙ ap (take 1) (drop_more m.entries n no_entry h) in
        sym (range_both m.entries from n (n + 1) l (omega arith)) ∙ ap (λ ys. slice_range m.entries from n ++ ys) one

    more_matrix : IsMatrix s (record { shape = m.shape; entries = slice_range m.entries from n ++ e ∷ [] })
    more_matrix = subst (λ es. IsMatrix s (record { shape = m.shape; entries = es })) more_entries (some_matrix m from (n + 1) is)

    e_inside : IsInside m.shape e
    e_inside = All-get_or (IsInside m.shape) m.entries n no_entry h is.inside

    pub e_value : IsValue s e.value
    e_value = All-get_or (λ (e : Entry). IsValue s e.value) m.entries n no_entry h is.values

    -- one more is added to the sum of all
    pub total_more : matrix_total s (some_entries from (n + 1) m) ≡ s.add (matrix_total s (some_entries from n m)) e.value
    total_more =
        ap (λ es. matrix_total s (record { shape = m.shape; entries = es })) more_entries
        ∙ totals s laws m.shape (slice_range m.entries from n) (e ∷ []) more_matrix
        ∙ ap (s.add (matrix_total s (some_entries from n m))) (one_total m.shape e e_inside e_value)

    -- and to the sum of a row
    row_more : (i : ℕ) → row_total s (some_entries from (n + 1) m) i ≡ s.add (row_total s (some_entries from n m) i) (cond (e.row == i) e.value s.zero)
    row_more i =
        ap (λ es. row_total s (record { shape = m.shape; entries = es }) i) more_entries
        ∙ rows_joined m.shape (slice_range m.entries from n) (e ∷ []) more_matrix i
        ∙ ap (s.add (row_total s (some_entries from n m) i)) (one_row m.shape e e_inside e_value i)

    pub list_more : (sums : List ℕ) (row value : ℕ) → row ≡ e.row → value ≡ e.value → IsListOf s (row_sums s (some_entries from n m)) sums → IsListOf s (row_sums s (some_entries from (n + 1) m)) (set sums row (s.add (get_or sums row 0) value))
    list_more sums row value is_row is_value of =
        let x : ℕ = s.add (get_or sums row 0) value in
        let inside : e.row < m.shape.rows = e_inside.0 in
        let long : length sums ≡ m.shape.rows = of.as_long in
        let lr : row < length sums = omega (arith, is_row, inside, long) in
        record {
          as_long = length-set sums row x ∙ of.as_long;
          are_values = All-set (IsValue s) sums row x (laws.add_value _ _ (All-get_or (IsValue s) sums row 0 lr of.are_values) (subst (IsValue s) (sym is_value) e_value)) of.are_values;
          value = λ i li.
              let was = of.value i li ∙ row_sum_at (some_entries from n m) i li in
              let within : i < length sums = subst (λ k. i < k) (sym long) li in
              ⊎_elim
              (λ (same : row ≡ i).
              let one : cond (e.row == i) e.value s.zero ≡ value = cond-true _ _ _ (eq-eqb e.row i (sym is_row ∙ same)) ∙ sym is_value in
              ap (λ k. get_or (set sums row x) k s.zero) (sym same) ∙ get_or-set_same sums row x s.zero lr
              ∙ ap (λ y. s.add y value) (get_or_default sums row 0 s.zero lr ∙ ap (λ k. get_or sums k s.zero) same ∙ was)
              ∙ ap (s.add (row_total s (some_entries from n m) i)) (sym one) ∙ sym (row_more i) ∙ sym (row_sum_at (some_entries from (n + 1) m) i li))
              (λ (ne : row ≡ i → ⊥).
              let none : cond (e.row == i) e.value s.zero ≡ s.zero = cond-false _ _ _ (ne_eqb e.row i (λ p. ne (is_row ∙ p))) in
              let old_value : IsValue s (row_total s (some_entries from n m) i) = subst (IsValue s) was (All-get_or (IsValue s) sums i s.zero within of.are_values) in
              get_or-set_other sums row i x s.zero (λ q. ne (sym q)) ∙ was
              ∙ sym (add_zero s laws (row_total s (some_entries from n m) i) old_value) ∙ ap (s.add (row_total s (some_entries from n m) i)) (sym none) ∙ sym (row_more i)
              ∙ sym (row_sum_at (some_entries from (n + 1) m) i li))
              (cases_eq row i);
        }

  -- without entries the sums are zeros
  pub no_total : (m : Sparse) (from : ℕ) → matrix_total s (some_entries from from m) ≡ s.zero
  unfolding value_at
  no_total m from =
      ap (λ es. matrix_total s (record { shape = m.shape; entries = es })) (no_range m.entries from)
      ∙ total-zero s laws (column_total s (record { shape = m.shape; entries = [] })) 0 m.shape.cols (λ j _. total-zero s laws (λ i. at s (record { shape = m.shape; entries = [] }) i j) 0 m.shape.rows (λ i _. refl))

  pub no_rows : (m : Sparse) (from : ℕ) (zeros : List ℕ) → All (λ x. x ≡ s.zero) zeros → length zeros ≡ m.shape.rows → IsListOf s (row_sums s (some_entries from from m)) zeros
  unfolding value_at
  no_rows m from zeros none long = record {
    as_long = long;
    are_values = All-weaker (λ x. x ≡ s.zero) (IsValue s) (λ x e. subst (IsValue s) (sym e) laws.zero_value) zeros none;
    value = λ i l.
        All-get_or (λ x. x ≡ s.zero) zeros i s.zero (subst (λ k. i < k) (sym long) l) none
        ∙ sym (row_sum_at (some_entries from from m) i l ∙ ap (λ es. row_total s (record { shape = m.shape; entries = es }) i) (no_range m.entries from)
        ∙ total-zero s laws (λ k. at s (record { shape = m.shape; entries = [] }) i k) 0 m.shape.cols (λ k _. refl));
  }
