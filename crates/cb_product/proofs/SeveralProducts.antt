-- A matrix plus several products, column by column.
use Rattle.std.proofs.Common.{◌≡◌, ◌≢◌, ℕ, ◌+◌, ◌<◌, ◌≤◌, true, false, List, [], ◌∷◌, length, map, drop, get_or, sym, refl, subst, ap, ◌∙◌, ◌⊎◌, ⊎_elim, arith}
use Rattle.std.specs.Prelude.{All, AllPairs, Contains}
use Rattle.std.proofs.lemmas.Bool.{cases_Bool, cases_lt}
use Rattle.std.proofs.lemmas.List.{get_or-map, length-map, at_drop_more, drop_all}
use Rattle.std.proofs.lemmas.List.Elements.{All-head, All-tail, All-map, All-weaker}
use Rattle.cb_semirings.specs.Arithmetic.{Arithmetic, IsSemiring}
use Rattle.cb_matrix.specs.Sparse.{Sparse, Extent, IsMatrix, at}
use Rattle.cb_matrix.specs.Values.{product, product_shape, empty_matrix}
use Rattle.cb_matrix.specs.Operations.{sum_of}
use Rattle.cb_matrix.proofs.Equal.{matrix_is}
use Rattle.cb_matrix.proofs.Made.{columns_all, at-matrix_of, at-outside, IsMatrix-matrix_of}
use Rattle.cb_matrix.proofs.Totals.{total-zero, value_at-value}
use Rattle.cb_dcsc.specs.Columns.{in_column, rows_of, values_of}
use Rattle.cb_dcsc.proofs.Lookup.{all_rows_inside, rows_inside}
use Rattle.cb_product.specs.declared.several.Factors.{Factors}
use Rattle.cb_product.specs.declared.sources.Source.{Source}
use Rattle.cb_product.specs.InColumns.{AreInColumns, is_among, only_columns}
use Rattle.cb_product.specs.SeveralProducts.{pairs_in, plus_products, AreMatrices, MakeShape}
use Rattle.cb_product.specs.Sources.{IsSource, HasTerms, HasTermsOf, column_terms, source_pair, source_pairs, plus_terms}
use Rattle.cb_product.specs.SparseColumn.{AreEntries}
use Rattle.cb_product.specs.Terms.{column_sum, terms_at}
use Rattle.cb_product.proofs.ColumnsMade.{IsMadeTo, walk_none, walk_more, walk_all, absent_value}
use Rattle.cb_product.proofs.EmptyFactors.{nothing_added}
use Rattle.cb_product.proofs.OnlyColumns.{among_at, among_holds, not_among, only_in, only_matrix, only_value}
use Rattle.cb_product.proofs.OwnColumn.{own_sparse}
use Rattle.cb_product.proofs.ProductColumns.{inner, inner_value, stored_sum, absent_sum}
use Rattle.cb_product.proofs.StoredColumn.{AddsColumn}
use Rattle.cb_product.proofs.TermSums.{terms_past}

-- ---- the element at hand of a list
pub item_has : {X : Type 0} (P : X → Type 0) (xs : List X) (n : ℕ) (x : X) → n < length xs → x ≡ get_or xs n x → All P xs → P x
item_has P xs n x l e h = subst P (sym e) (h n x l)

-- and what a function makes of it
pub mapped_has : {X Y : Type 0} (P : Y → Type 0) (f : X → Y) (xs : List X) (n : ℕ) (x : X) → n < length xs → x ≡ get_or xs n x → All P (map f xs) → P (f x)
mapped_has P f xs n x l e h =
    let long = length-map xs f in
    subst P (get_or-map f xs n x (f x) l ∙ ap f (sym e)) (h n (f x) (omega arith))

-- the left matrix of a source has as many rows as all have
pub rows_have : {T : Type 0} (rows : ℕ) (xs : List (Source T)) (n : ℕ) (x : Source T) → n < length xs → x ≡ get_or xs n x → All (λ (x : Source T). x.left.now.shape.rows ≡ rows) xs → x.left.now.shape.rows ≡ rows
rows_have rows xs n x l e h = item_has (λ x. x.left.now.shape.rows ≡ rows) xs n x l e h

-- the left matrices of products of one shape have its rows
pub all_rows : {T : Type 0} (e : Extent) (xs : List (Source T)) (rows : ℕ) → e.rows ≡ rows → All (MakeShape e) (source_pairs xs) → All (λ (x : Source T). x.left.now.shape.rows ≡ rows) xs
all_rows e xs rows same h k d l =
    let long = length-map xs source_pair in
    let fits : MakeShape e (source_pair (get_or xs k d)) = subst (MakeShape e) (get_or-map source_pair xs k d (source_pair d) l) (h k (source_pair d) (omega arith)) in
    sym (ap (λ (e : Extent). e.rows) fits.shape) ∙ same

-- ---- a matrix plus one product
module _ (s : Arithmetic) (laws : IsSemiring s) (acc a b : Sparse) (r : IsMatrix s acc) (p : IsMatrix s a) (q : IsMatrix s b) (agree : a.shape.cols ≡ b.shape.rows) (shape : acc.shape ≡ product_shape a b) where
  abbrev summed : ℕ → ℕ → ℕ
  summed i j = s.add (at s acc i j) (at s (product s a b) i j)

  product_matrix : IsMatrix s (product s a b)
  product_matrix = IsMatrix-matrix_of s (product_shape a b) (inner s a b) (λ i j _ _. inner_value s laws a b p q i j)

  -- it is a matrix
  pub sum_matrix : IsMatrix s (sum_of s acc (product s a b))
  sum_matrix =
      IsMatrix-matrix_of s acc.shape summed
      (λ i j _ _. laws.add_value _ _ (value_at-value s laws acc.entries i j r.values) (value_at-value s laws (product s a b).entries i j product_matrix.values))

  abbrev added : ℕ → ℕ → ℕ
  added i j = column_sum s a i (rows_of (in_column j b.entries)) (values_of (in_column j b.entries))

  added_past : (i j : ℕ) → a.shape.rows ≤ i → added i j ≡ s.zero
  added_past i j l =
      stored_sum s laws acc a b r p q agree i j
      ∙ total-zero s laws (λ k. s.mul (at s a i k) (at s b k j)) 0 a.shape.cols
      (λ k _. ap (λ x. s.mul x (at s b k j)) (at-outside s.zero a.shape a.entries i k p.inside (λ m _. omega arith)) ∙ laws.zero_mul (at s b k j) (value_at-value s laws b.entries k j q.values))

  -- at each row of a column, it has the matrix's value plus the sum over the right column's entries
  pub sum_at : (i j : ℕ) → j < b.shape.cols → at s (sum_of s acc (product s a b)) i j ≡ s.add (at s acc i j) (added i j)
  sum_at i j lj =
      let rows : acc.shape.rows ≡ a.shape.rows = ap (λ (e : Extent). e.rows) shape in
      let cols : acc.shape.cols ≡ b.shape.cols = ap (λ (e : Extent). e.cols) shape in
      ⊎_elim
      (λ (l : i < a.shape.rows).
      at-matrix_of s acc.shape summed i j (omega arith) (omega arith)
      ∙ ap (s.add (at s acc i j)) (at-matrix_of s (product_shape a b) (inner s a b) i j l lj ∙ sym (stored_sum s laws acc a b r p q agree i j)))
      (λ (l : a.shape.rows ≤ i).
      let own : at s acc i j ≡ s.zero = at-outside s.zero acc.shape acc.entries i j r.inside (λ m _. omega arith) in
      let none = added_past i j l in
      at-outside s.zero acc.shape (sum_of s acc (product s a b)).entries i j sum_matrix.inside (λ m _. omega arith)
      ∙ sym ((λ t. s.add (own t) (none t)) ∙ laws.zero_add s.zero laws.zero_value))
      (cases_lt i a.shape.rows)

  -- its entries are in columns that have all entries of the matrix and of the right factor
  pub sum_in : (cs : List ℕ) → AreInColumns cs acc.entries → AreInColumns cs b.entries → AreInColumns cs (sum_of s acc (product s a b)).entries
  sum_in cs acc_in b_in =
      let rows : acc.shape.rows ≡ a.shape.rows = ap (λ (e : Extent). e.rows) shape in
      let cols : acc.shape.cols ≡ b.shape.cols = ap (λ (e : Extent). e.cols) shape in
      columns_all s.zero summed (λ e. Contains cs e.column) acc.shape.rows acc.shape.cols
      (λ i j li lj some. ⊎_elim
      (λ (t : is_among cs j ≡ true). among_holds cs j t)
      (λ (f : is_among cs j ≡ false).
      absurd (some (ap (s.add (at s acc i j)) (at-matrix_of s (product_shape a b) (inner s a b) i j (omega arith) (omega arith)) ∙ absent_sum s laws acc a b r p q agree cs i j acc_in b_in (not_among cs j f))))
      (cases_Bool (is_among cs j)))

-- a column of a matrix, as entries below its rows
pub own_entries : (s : Arithmetic) (acc : Sparse) → IsMatrix s acc → (j bound : ℕ) → acc.shape.rows ≡ bound → (rs vs : List ℕ) → rs ≡ rows_of (in_column j acc.entries) → vs ≡ values_of (in_column j acc.entries) → AreEntries s bound rs vs
own_entries s acc is j bound rows rs vs rows_are values_are =
    let column = own_sparse s acc is j rs vs rows_are values_are in
    record {
      same_length = column.same_length;
      ascending = column.ascending;
      inside = subst (λ n. All (λ i. i < n) rs) rows (rows_inside s acc _ _ is rows_are);
      are_values = column.are_values;
    }

-- ---- a matrix plus the products of pairs
module _ (s : Arithmetic) (laws : IsSemiring s) where
  next_matrix : (acc : Sparse) (p : Sparse × Sparse) → IsMatrix s acc → AreMatrices s p → MakeShape acc.shape p → IsMatrix s (sum_of s acc (product s p.0 p.1))
  next_matrix acc p is both fits = sum_matrix s laws acc p.0 p.1 is both.0 both.1 fits.agree fits.shape

  -- it is a matrix
  pub pairs_matrix : (acc : Sparse) (ps : List (Sparse × Sparse)) → IsMatrix s acc → All (AreMatrices s) ps → All (MakeShape acc.shape) ps → IsMatrix s (plus_products s acc ps)
  pairs_matrix acc [] is both fit = is
  pairs_matrix acc (p ∷ ps) is both fit =
      pairs_matrix (sum_of s acc (product s p.0 p.1)) ps (next_matrix acc p is (All-head (AreMatrices s) p ps both) (All-head (MakeShape acc.shape) p ps fit)) (All-tail (AreMatrices s) p ps both) (All-tail (MakeShape acc.shape) p ps fit)

  -- its entries are in columns that have all entries of the matrix and of the right factors
  pub plus_in : (cs : List ℕ) (acc : Sparse) (ps : List (Sparse × Sparse)) → IsMatrix s acc → All (AreMatrices s) ps → All (MakeShape acc.shape) ps → AreInColumns cs acc.entries → All (λ (p : Sparse × Sparse). AreInColumns cs p.1.entries) ps → AreInColumns cs (plus_products s acc ps).entries
  plus_in cs acc [] is both fit own rights = own
  plus_in cs acc (p ∷ ps) is both fit own rights =
      let here = All-head (AreMatrices s) p ps both in
      let fits = All-head (MakeShape acc.shape) p ps fit in
      plus_in cs (sum_of s acc (product s p.0 p.1)) ps (next_matrix acc p is here fits) (All-tail (AreMatrices s) p ps both) (All-tail (MakeShape acc.shape) p ps fit)
      (sum_in s laws acc p.0 p.1 is here.0 here.1 fits.agree fits.shape cs own (All-head (λ (p : Sparse × Sparse). AreInColumns cs p.1.entries) p ps rights))
      (All-tail (λ (p : Sparse × Sparse). AreInColumns cs p.1.entries) p ps rights)

-- ---- a matrix plus the products of several sources
-- what it has in listed columns
abbrev pub sums_at : {T : Type 0} → Arithmetic → Sparse → List (Source T) → List ℕ → ℕ → ℕ → ℕ
sums_at s acc xs cs i j = at s (only_columns cs (plus_products s acc (source_pairs xs))) i j

module _ {T : Type 0} (s : Arithmetic) (laws : IsSemiring s) where
  abbrev sum : Sparse → Source T → Sparse
  sum acc x = sum_of s acc (product s x.left.now x.right.now)

  abbrev all : Sparse → List (Source T) → Sparse
  all acc xs = plus_products s acc (source_pairs xs)

  abbrev Shape : Extent → List (Source T) → Type 0
  Shape e xs = All (MakeShape e) (source_pairs xs)

  one_matrix : (acc : Sparse) (x : Source T) → IsMatrix s acc → IsSource s x → MakeShape acc.shape (source_pair x) → IsMatrix s (sum acc x)
  one_matrix acc x is source fits = sum_matrix s laws acc x.left.now x.right.now is source.left source.right fits.agree fits.shape

  -- the factors of sources are matrices
  pub sources_both : (xs : List (Source T)) → All (IsSource s) xs → All (AreMatrices s) (source_pairs xs)
  sources_both xs sources = All-map (AreMatrices s) source_pair xs (All-weaker (IsSource s) (λ (x : Source T). AreMatrices s (source_pair x)) (λ x i. (i.left, i.right)) xs sources)

  -- it is a matrix
  pub plus_matrix : (acc : Sparse) (xs : List (Source T)) → IsMatrix s acc → All (IsSource s) xs → Shape acc.shape xs → IsMatrix s (all acc xs)
  plus_matrix acc xs is sources fit = pairs_matrix s laws acc (source_pairs xs) is (sources_both xs sources) fit

  -- of the same shape
  pub plus_shape : (acc : Sparse) (xs : List (Source T)) → (all acc xs).shape ≡ acc.shape
  plus_shape acc [] = refl
  plus_shape acc (x ∷ xs) = plus_shape (sum acc x) xs

  -- at each row of a column, it has the matrix's value plus the terms of that column
  pub plus_at : (acc : Sparse) (xs : List (Source T)) → IsMatrix s acc → All (IsSource s) xs → Shape acc.shape xs → (i j : ℕ) → j < acc.shape.cols → All (HasTermsOf s j) xs → (v : ℕ) → v ≡ at s acc i j → plus_terms s i xs v ≡ at s (all acc xs) i j
  plus_at acc [] is sources fit i j l terms v same = same
  plus_at acc (x ∷ xs) is sources fit i j l terms v same =
      let source = All-head (IsSource s) x xs sources in
      let fits = All-head (MakeShape acc.shape) (source_pair x) (source_pairs xs) fit in
      let has = All-head (HasTermsOf s j) x xs terms in
      let shape = fits.shape in
      let cols : acc.shape.cols ≡ x.right.now.shape.cols = ap (λ (e : Extent). e.cols) shape in
      plus_at (sum acc x) xs (one_matrix acc x is source fits) (All-tail (IsSource s) x xs sources) (All-tail (MakeShape acc.shape) (source_pair x) (source_pairs xs) fit) i j l (All-tail (HasTermsOf s j) x xs terms)
      (s.add v (terms_at s x.left.now i (column_terms x)))
      ((λ t. s.add (same t) (has.sums i t)) ∙ sym (sum_at s laws acc x.left.now x.right.now is source.left source.right fits.agree shape i j (omega arith)))

  -- ---- listed columns of the sum, one after another
  module _ (acc : Sparse) (xs : List (Source T)) (is : IsMatrix s acc) (sources : All (IsSource s) xs) (fit : Shape acc.shape xs) (cs : List ℕ) (up : AllPairs (λ c d. c < d) cs) (within : All (λ c. c < acc.shape.cols) cs) where
    abbrev sums : ℕ → ℕ → ℕ
    sums = sums_at s acc xs cs

    no_sum : (i j : ℕ) → All (λ c. c ≢ j) cs → sums i j ≡ s.zero
    no_sum i j h = absent_value s.zero (only_columns cs (all acc xs)).entries cs i j (only_in cs (all acc xs)) h

    -- a listed column has the sum's values
    pub sum_here : (n i : ℕ) → n < length cs → at s (all acc xs) i (get_or cs n 0) ≡ sums i (get_or cs n 0)
    sum_here n i l = sym (only_value s.zero cs (all acc xs) i (get_or cs n 0) (among_at cs n 0 l))

    -- before the first listed column
    pub plus_start : (out : Sparse) → IsMatrix s out → out ≡ empty_matrix acc.shape → IsMadeTo s acc.shape sums (get_or cs 0 acc.shape.cols) out
    plus_start out is_out e = walk_none s acc.shape sums cs up within no_sum out is_out e

    -- with one more listed column
    pub plus_more : (old new : Sparse) (n : ℕ) (f : ℕ → ℕ) → n < length cs → AddsColumn s (get_or cs n 0) f old new → ((i : ℕ) → f i ≡ sums i (get_or cs n 0)) → IsMadeTo s acc.shape sums (get_or cs n acc.shape.cols) old → IsMadeTo s acc.shape sums (get_or cs (n + 1) acc.shape.cols) new
    plus_more old new n f l adds same h = walk_more s acc.shape sums cs up within no_sum old new n f l adds same h

    -- with all listed columns, it has these columns of the sum
    pub plus_all : (out : Sparse) (n : ℕ) → length cs ≤ n → IsMadeTo s acc.shape sums (get_or cs n acc.shape.cols) out → out ≡ only_columns cs (all acc xs)
    plus_all out n l h =
        walk_all s acc.shape sums cs up within no_sum laws out n l h
        ∙ sym (matrix_is s laws (only_columns cs (all acc xs)) acc.shape sums (only_matrix s cs (all acc xs) (plus_matrix acc xs is sources fit)) (plus_shape acc xs) (λ i j _ _. refl))

-- ---- products without terms
-- a product that adds nothing can be left out
pub one_nothing : {T : Type 0} (s : Arithmetic) → IsSemiring s → (acc : Sparse) (fs : List (Factors T)) (n : ℕ) (x : Factors T) → IsMatrix s acc → n < length fs → x ≡ get_or fs n x → IsMatrix s x.left.now → IsMatrix s x.right.now
    → MakeShape acc.shape (x.left.now, x.right.now) → (x.left.now.entries ≡ []) ⊎ (x.right.now.entries ≡ []) → plus_products s acc (pairs_in (drop n fs)) ≡ plus_products s acc (pairs_in (drop (n + 1) fs))
one_nothing s laws acc fs n x is l e left right fits none =
    at_drop_more (λ xs. plus_products s acc (pairs_in xs)) fs n x l
    ∙ ap (λ y. plus_products s acc (pairs_in (y ∷ drop (n + 1) fs))) (sym e)
    ∙ ap (λ m. plus_products s m (pairs_in (drop (n + 1) fs))) (sym (nothing_added s laws x.left.now x.right.now left right none acc is fits.shape))

-- ---- a column of the accumulator plus the terms of all sources
module _ {T : Type 0} (s : Arithmetic) (laws : IsSemiring s) (rows : ℕ) where
  -- past all rows it is zero
  pub terms_all_past : (xs : List (Source T)) → All (IsSource s) xs → All (HasTerms s) xs → All (λ (x : Source T). x.left.now.shape.rows ≡ rows) xs → (i : ℕ) → rows ≤ i → (v : ℕ) → v ≡ s.zero → plus_terms s i xs v ≡ s.zero
  terms_all_past [] sources terms same i l v none = none
  terms_all_past (x ∷ xs) sources terms same i l v none =
      let source = All-head (IsSource s) x xs sources in
      let e : x.left.now.shape.rows ≡ rows = All-head (λ (x : Source T). x.left.now.shape.rows ≡ rows) x xs same in
      let past = terms_past s laws (rows_of x.left.now.entries) (values_of x.left.now.entries) x.left.now.shape.rows i (all_rows_inside s x.left.now (rows_of x.left.now.entries) source.left refl) (omega arith) (column_terms x) (All-head (HasTerms s) x xs terms) in
      terms_all_past xs (All-tail (IsSource s) x xs sources) (All-tail (HasTerms s) x xs terms) (All-tail (λ (x : Source T). x.left.now.shape.rows ≡ rows) x xs same) i l
      (s.add v (terms_at s x.left.now i (column_terms x))) ((λ t. s.add (none t) (past t)) ∙ laws.zero_add s.zero laws.zero_value)

  -- with one more source
  pub terms_step : (xs : List (Source T)) (n : ℕ) (x : Source T) (i v w : ℕ) → n < length xs → x ≡ get_or xs n x → w ≡ s.add v (terms_at s x.left.now i (column_terms x)) → plus_terms s i (drop (n + 1) xs) w ≡ plus_terms s i (drop n xs) v
  terms_step xs n x i v w l e same =
      ap (plus_terms s i (drop (n + 1) xs)) same ∙ sym (at_drop_more (λ ys. plus_terms s i ys v) xs n x l ∙ ap (λ y. plus_terms s i (y ∷ drop (n + 1) xs) v) (sym e))

  -- with all sources
  pub terms_end : (xs : List (Source T)) (n i v : ℕ) → length xs ≤ n → plus_terms s i (drop n xs) v ≡ v
  terms_end xs n i v l = ap (λ ys. plus_terms s i ys v) (drop_all n xs l)
