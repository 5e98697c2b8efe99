-- The value at one place, by the rows and values of its column.
use Rattle.std.proofs.Common.{◌≡◌, ◌≢◌, ℕ, zero, suc, ◌<◌, true, false, cond, Err, List, [], ◌∷◌, length, get_or, sym, refl, ap, ◌∙◌, ⊎_elim, arith}
use Rattle.std.specs.Prelude.{All, AllPairs, ◌==◌, ◌&&◌}
use Rattle.std.specs.Ordering.{nat_cmp}
use Rattle.std.specs.declared.cmp.Ordering.TheVariants.{Equal}
use Rattle.std.specs.List.Sorted.{IsBinarySearchResult}
use Rattle.std.proofs.lemmas.Bool.{eq-eqb, ne_eqb, eqb-true, cond-true, cond-false}
use Rattle.std.proofs.lemmas.List.{length-map}
use Rattle.std.proofs.lemmas.List.Elements.{All-head, All-tail, All-cons, All-nil, All-get_or, All-map, All-filter, All-weaker}
use Rattle.cb_matrix.specs.declared.Entry.{Entry}
use Rattle.cb_semirings.specs.Arithmetic.{Arithmetic, IsValue}
use Rattle.cb_matrix.specs.Sparse.{Sparse, IsMatrix, value_at, IsBefore, IsInside}
use Rattle.cb_matrix.proofs.Pairs.{AllPairs-head, AllPairs-tail}
use Rattle.cb_matrix.proofs.Pairs.{AllPairs-nil, AllPairs-cons}
use Rattle.cb_dcsc.specs.Columns.{in_column, rows_of, values_of, row_value}
use Rattle.cb_dcsc.proofs.Held.{same_number, not_found}

-- the value that a column has at a row is the matrix's
pub column_value : (z : ℕ) (es : List Entry) (i k : ℕ) → row_value z (rows_of (in_column k es)) (values_of (in_column k es)) i ≡ value_at z es i k
unfolding row_value value_at
column_value z [] i k = refl
column_value z (e ∷ es) i k =
    elim (e.column == k) as (λ b. row_value z (rows_of (cond b (e ∷ in_column k es) (in_column k es))) (values_of (cond b (e ∷ in_column k es) (in_column k es))) i ≡ cond ((e.row == i) && b) e.value (value_at z es i k)) [
      | true ↦ elim (e.row == i) as (λ r. cond r e.value (row_value z (rows_of (in_column k es)) (values_of (in_column k es)) i) ≡ cond (r && true) e.value (value_at z es i k)) [ true ↦ refl | false ↦ column_value z es i k ]
      | false ↦ elim (e.row == i) as (λ r. row_value z (rows_of (in_column k es)) (values_of (in_column k es)) i ≡ cond (r && false) e.value (value_at z es i k)) [ true ↦ column_value z es i k | false ↦ column_value z es i k ]
    ]

rows_after : (d : Entry) (k : ℕ) (es : List Entry) → d.column ≡ k → All (IsBefore d) es → All (λ i. d.row < i) (rows_of (in_column k es))
rows_after d k [] p h = All-nil (λ i. d.row < i)
rows_after d k (e ∷ es) p h =
    let rest = rows_after d k es p (All-tail (IsBefore d) e es h) in
    elim (e.column == k) as (λ b. (e.column == k) ≡ b → All (λ i. d.row < i) (rows_of (cond b (e ∷ in_column k es) (in_column k es)))) [
      | true ↦ λ t. let q : e.column ≡ k = eqb-true e.column k t in All-cons (λ i. d.row < i) e.row (rows_of (in_column k es)) (⊎_elim (λ l. absurd (omega arith)) (λ l. l.1) (All-head (IsBefore d) e es h)) rest
      | false ↦ λ _. rest
    ] refl

-- the rows of a column ascend
pub column_ascends : (k : ℕ) (es : List Entry) → AllPairs IsBefore es → AllPairs (λ i j. i < j) (rows_of (in_column k es))
column_ascends k [] h = AllPairs-nil (λ i j. i < j)
column_ascends k (e ∷ es) h =
    let rest = column_ascends k es (AllPairs-tail IsBefore e es h) in
    elim (e.column == k) as (λ b. (e.column == k) ≡ b → AllPairs (λ i j. i < j) (rows_of (cond b (e ∷ in_column k es) (in_column k es)))) [
      | true ↦ λ t. AllPairs-cons (λ i j. i < j) e.row (rows_of (in_column k es)) (rows_after e k es (eqb-true e.column k t) (AllPairs-head IsBefore e es h)) rest
      | false ↦ λ _. rest
    ] refl

-- the value at the n-th row
pub row_value-found : (z : ℕ) (rs vs : List ℕ) (n i : ℕ) → length vs ≡ length rs → AllPairs (λ a b. a < b) rs → n < length rs → get_or rs n 0 ≡ i → row_value z rs vs i ≡ get_or vs n 0
unfolding row_value
row_value-found z [] vs n i e up l h = absurd (omega arith)
row_value-found z (r ∷ rs) [] n i e up l h = absurd (omega arith)
row_value-found z (r ∷ rs) (v ∷ vs) zero i e up l h = cond-true _ _ _ (eq-eqb r i h)
row_value-found z (r ∷ rs) (v ∷ vs) (suc n) i e up l h =
    let less : r < get_or rs n 0 = All-get_or (λ b. r < b) rs n 0 (omega arith) (AllPairs-head (λ a b. a < b) r rs up) in
    cond-false _ _ _ (ne_eqb r i (omega arith)) ∙ row_value-found z rs vs n i (omega arith) (AllPairs-tail (λ a b. a < b) r rs up) (omega arith) h

-- at other rows there is no value
pub row_value-absent : (z : ℕ) (rs vs : List ℕ) (i : ℕ) → ((k : ℕ) → k < length rs → get_or rs k 0 ≢ i) → row_value z rs vs i ≡ z
unfolding row_value
row_value-absent z [] vs i h = refl
row_value-absent z (r ∷ rs) [] i h = refl
row_value-absent z (r ∷ rs) (v ∷ vs) i h = cond-false _ _ _ (ne_eqb r i (h 0 (omega arith))) ∙ row_value-absent z rs vs i (λ k l. h (suc k) (omega arith))

-- a column has as many values as rows
pub as_long : (es : List Entry) (rs vs : List ℕ) (k : ℕ) → rs ≡ rows_of (in_column k es) → vs ≡ values_of (in_column k es) → length vs ≡ length rs
as_long es rs vs k p q = ap length q ∙ length-map (in_column k es) (λ (e : Entry). e.value) ∙ sym (length-map (in_column k es) (λ (e : Entry). e.row)) ∙ sym (ap length p)

-- what a search in a column finds is the matrix's value
module _ (z : ℕ) (es : List Entry) (rs vs : List ℕ) (i k n : ℕ) (rows_are : rs ≡ rows_of (in_column k es)) (values_are : vs ≡ values_of (in_column k es)) (up : AllPairs (λ a b. a < b) rs) where
  -- a row that is found has the value at the place
  pub value_found : n < length rs → nat_cmp (get_or rs n 0) i ≡ Equal → get_or vs n 0 ≡ value_at z es i k
  value_found l found = sym (row_value-found z rs vs n i (as_long es rs vs k rows_are values_are) up l (same_number _ _ found)) ∙ (λ t. row_value z (rows_are t) (values_are t) i) ∙ column_value z es i k

  -- where no row is found there is no value
  pub value_missed : IsBinarySearchResult (λ y. nat_cmp y i) rs (Err n) → z ≡ value_at z es i k
  value_missed missed = sym (row_value-absent z rs vs i (not_found rs i n up missed)) ∙ (λ t. row_value z (rows_are t) (values_are t) i) ∙ column_value z es i k

-- ---- what a column's slices are
-- they ascend
pub ascending_rows : (s : Arithmetic) (m : Sparse) (k : ℕ) (rs : List ℕ) → IsMatrix s m → rs ≡ rows_of (in_column k m.entries) → AllPairs (λ i j. i < j) rs
ascending_rows s m k rs is e = rw e (column_ascends k m.entries is.ascending)

-- values of the semiring
pub column_values : (s : Arithmetic) (m : Sparse) (k : ℕ) (vs : List ℕ) → IsMatrix s m → vs ≡ values_of (in_column k m.entries) → All (IsValue s) vs
column_values s m k vs is e = rw e (All-map (IsValue s) (λ (e : Entry). e.value) (in_column k m.entries) (All-filter (λ (e : Entry). e.column == k) (λ (e : Entry). IsValue s e.value) m.entries is.values))

-- rows inside the shape
pub rows_inside : (s : Arithmetic) (m : Sparse) (k : ℕ) (rs : List ℕ) → IsMatrix s m → rs ≡ rows_of (in_column k m.entries) → All (λ i. i < m.shape.rows) rs
rows_inside s m k rs is e = rw e (All-map (λ i. i < m.shape.rows) (λ (e : Entry). e.row) (in_column k m.entries) (All-filter (λ (e : Entry). e.column == k) (λ (e : Entry). e.row < m.shape.rows) m.entries (All-weaker (IsInside m.shape) (λ (e : Entry). e.row < m.shape.rows) (λ e k. k.0) m.entries is.inside)))

-- ---- what the rows and values of all entries are
-- rows inside the shape
pub all_rows_inside : (s : Arithmetic) (m : Sparse) (rs : List ℕ) → IsMatrix s m → rs ≡ rows_of m.entries → All (λ i. i < m.shape.rows) rs
all_rows_inside s m rs is e = rw e (All-map (λ i. i < m.shape.rows) (λ (e : Entry). e.row) m.entries (All-weaker (IsInside m.shape) (λ (e : Entry). e.row < m.shape.rows) (λ e k. k.0) m.entries is.inside))

-- values of the semiring
pub all_values : (s : Arithmetic) (m : Sparse) (vs : List ℕ) → IsMatrix s m → vs ≡ values_of m.entries → All (IsValue s) vs
all_values s m vs is e = rw e (All-map (IsValue s) (λ (e : Entry). e.value) m.entries is.values)
