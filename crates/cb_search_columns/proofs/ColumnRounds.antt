-- A search as two columns: its start, a round, its end.
use Rattle.std.proofs.Common.{◌≡◌, ◌≢◌, ℕ, ◌+◌, ◌<◌, ◌≤◌, ◌⊎◌, cond, ⊎_elim, List, [], map, subst, refl, sym, ap, ◌∙◌, arith}
use Rattle.std.specs.Prelude.{min, nat_lt}
use Rattle.std.specs.List.{range_with_len}
use Rattle.std.proofs.lemmas.Bool.{cases_eq, cases_lt, cond-true, cond-false, eq-eqb, lt-ltb, le-ltb}
use Rattle.cb_semirings.specs.Arithmetic.{IsValue}
use Rattle.cb_semirings.specs.Tables.{min_plus}
use Rattle.cb_matrix.specs.declared.Entry.{Entry}
use Rattle.cb_matrix.specs.Sparse.{Sparse, Extent, IsMatrix, at, value_at}
use Rattle.cb_matrix.specs.Values.{total, product, product_shape}
use Rattle.cb_matrix.specs.Operations.{sum_of, transposed}
use Rattle.cb_semirings.specs.Laws.{min_plus_is_semiring}
use Rattle.cb_matrix.proofs.Totals.{value_at-value}
use Rattle.cb_matrix.proofs.Made.{at-matrix_of, at-outside, IsMatrix-matrix_of}
use Rattle.cb_searches.specs.Walks.{AreDistances, IsWalk, column_shape, cost, infinite}
use Rattle.cb_searches.specs.Numbers.{number_in}
use Rattle.cb_searches.specs.Settling.{first_at}
use Rattle.cb_searches.proofs.NumbersByRound.{IsRound, IsNearest, started, neared, settled, all_rounds}
use Rattle.cb_searches.proofs.TakenNumbers.{ne-eqb}
use Rattle.cb_searches.proofs.TurnedProducts.{inside_square, is_round, total_stops}
use Rattle.cb_search_columns.specs.SearchColumns.{AreNextRound, AreSearch, if_lower, if_lower-value, lower_values, reached_from, source_column}

-- ---- numbers
-- past the end of a column there are none
pub number_past : (m : Sparse) → IsMatrix min_plus m → (v : ℕ) → m.shape.rows ≤ v → number_in m v ≡ infinite
number_past m is v l = at-outside infinite m.shape m.entries v 0 is.inside (λ k _. omega arith)

first_here : (source v : ℕ) → v ≡ source → first_at source v ≡ 0
first_here source v e = cond-true _ _ _ (eq-eqb v source e)

first_there : (source v : ℕ) → v ≢ source → first_at source v ≡ infinite
first_there source v n = cond-false _ _ _ (ne-eqb v source n)

pub first_fits : (source v : ℕ) → IsValue min_plus (first_at source v)
first_fits source v = ⊎_elim
    (λ (e : v ≡ source). omega (arith, first_here source v e))
    (λ (n : v ≡ source → ⊥). omega (arith, first_there source v n))
    (cases_eq v source)

-- ---- the start
-- the source's column is a matrix
pub source_matrix : (n source : ℕ) → IsMatrix min_plus (source_column n source)
source_matrix n source = IsMatrix-matrix_of min_plus (record { rows = n; cols = 1 }) (λ v _. first_at source v) (λ v _ _ _. first_fits source v)

-- its numbers
source_value : (n source : ℕ) → source < n → (v : ℕ) → number_in (source_column n source) v ≡ first_at source v
source_value n source here v = ⊎_elim
    (λ (l : v < n). at-matrix_of min_plus (record { rows = n; cols = 1 }) (λ v _. first_at source v) v 0 l (omega arith))
    (λ (l : n ≤ v). number_past (source_column n source) (source_matrix n source) v l ∙ sym (first_there source v (λ e. omega (arith, e, here, l))))
    (cases_lt v n)

-- at first the source's column has the numbers, and they fell
pub columns_begun : (a : Sparse) (source : ℕ) → IsMatrix min_plus a → a.shape.rows ≡ a.shape.cols → source < a.shape.rows → AreSearch a source 0 (source_column a.shape.rows source) (source_column a.shape.rows source)
columns_begun a source is square vertex =
    let n = a.shape.rows in
    let value = source_value n source vertex in
    record {
      matrix = is;
      square = square;
      vertex = vertex;
      known_matrix = source_matrix n source;
      fell_matrix = source_matrix n source;
      known_shape = refl;
      fell_shape = refl;
      nearing = started a source (number_in (source_column n source)) (number_in (source_column n source))
          (value source ∙ first_here source source refl) (λ v other. value v ∙ first_there source v other) (λ u. refl);
    }

-- ---- a round
module _ (a : Sparse) (source k : ℕ) (known fell : Sparse) (is : AreSearch a source k known fell) (reached : Sparse) (r : reached ≡ reached_from a fell) where
  -- what is reached is a column of the vertices
  pub reached_shape : reached.shape ≡ column_shape a
  reached_shape =
      let square = sym is.square in
      ap (λ (m : Sparse). m.shape) r ∙ (λ t. record { rows = square t; cols = (is.fell_shape t).cols })

  product_matrix : IsMatrix min_plus (reached_from a fell)
  product_matrix =
      IsMatrix-matrix_of min_plus (product_shape (transposed min_plus a) fell) (λ i j. total min_plus (map (λ k. min (at min_plus (transposed min_plus a) i k + at min_plus fell k j) infinite) (range_with_len 0 a.shape.rows)))
      (λ i j _ _. let h = total_stops (λ k. min (at min_plus (transposed min_plus a) i k + at min_plus fell k j) infinite) 0 a.shape.rows in omega arith)

  -- and a matrix
  pub reached_matrix : IsMatrix min_plus reached
  reached_matrix = subst (λ (m : Sparse). IsMatrix min_plus m) (sym r) product_matrix

  past : (m : Sparse) → IsMatrix min_plus m → m.shape ≡ column_shape a → (v : ℕ) → a.shape.rows ≤ v → number_in m v ≡ infinite
  past m matrix shape v l = number_past m matrix v (let e = ap (λ (d : Extent). d.rows) shape in omega (arith, e))

  turned : IsRound a (number_in fell) (number_in (reached_from a fell))
  turned = is_round a fell is.matrix is.fell_matrix is.square (ap (λ (e : Extent). e.rows) is.fell_shape) (ap (λ (e : Extent). e.cols) is.fell_shape)

  round : IsRound a (number_in fell) (number_in reached)
  round = subst (λ (m : Sparse). IsRound a (number_in fell) (number_in m)) (sym r) turned

  same_shape : known.shape ≡ reached.shape
  same_shape = is.known_shape ∙ sym reached_shape

  abbrev sum : Sparse
  sum = sum_of min_plus known reached

  abbrev lower : Sparse
  lower = lower_values known reached

  sum_matrix : IsMatrix min_plus sum
  sum_matrix = IsMatrix-matrix_of min_plus known.shape (λ i j. min (at min_plus known i j) (at min_plus reached i j))
      (λ i j _ _. let h = value_at-value min_plus min_plus_is_semiring known.entries i j is.known_matrix.values in omega arith)

  lower_matrix : IsMatrix min_plus lower
  lower_matrix = IsMatrix-matrix_of min_plus reached.shape (λ i j. if_lower (at min_plus known i j) (at min_plus reached i j))
      (λ i j _ _. if_lower-value (at min_plus known i j) (at min_plus reached i j) (value_at-value min_plus min_plus_is_semiring reached.entries i j reached_matrix.values))

  sum_at : (v : ℕ) → number_in sum v ≡ min (number_in known v) (number_in reached v)
  sum_at v =
      let rows : known.shape.rows ≡ a.shape.rows = ap (λ (e : Extent). e.rows) is.known_shape in
      let cols : known.shape.cols ≡ 1 = ap (λ (e : Extent). e.cols) is.known_shape in
      ⊎_elim
      (λ (l : v < a.shape.rows). at-matrix_of min_plus known.shape (λ i j. min (at min_plus known i j) (at min_plus reached i j)) v 0 (omega arith) (omega arith))
      (λ (l : a.shape.rows ≤ v). omega (arith, past sum sum_matrix is.known_shape v l, past known is.known_matrix is.known_shape v l, past reached reached_matrix reached_shape v l))
      (cases_lt v a.shape.rows)

  lower_past : (v : ℕ) → a.shape.rows ≤ v → number_in lower v ≡ infinite
  lower_past v l = past lower lower_matrix reached_shape v l

  lower_at : (v : ℕ) → v < a.shape.rows → number_in lower v ≡ if_lower (number_in known v) (number_in reached v)
  lower_at v l =
      let rows : reached.shape.rows ≡ a.shape.rows = ap (λ (e : Extent). e.rows) reached_shape in
      let cols : reached.shape.cols ≡ 1 = ap (λ (e : Extent). e.cols) reached_shape in
      at-matrix_of min_plus reached.shape (λ i j. if_lower (at min_plus known i j) (at min_plus reached i j)) v 0 (omega arith) (omega arith)

  -- what is reached below the old numbers fell to that
  lower_new : (v : ℕ) → number_in reached v < number_in known v → number_in lower v ≡ number_in reached v
  lower_new v below = ⊎_elim
      (λ (l : v < a.shape.rows). lower_at v l ∙ cond-true _ _ _ (lt-ltb (number_in reached v) (number_in known v) below))
      (λ (l : a.shape.rows ≤ v). absurd (omega (arith, below, past known is.known_matrix is.known_shape v l, past reached reached_matrix reached_shape v l)))
      (cases_lt v a.shape.rows)

  -- elsewhere none fell
  lower_old : (v : ℕ) → number_in known v ≤ number_in reached v → number_in lower v ≡ infinite
  lower_old v above = ⊎_elim
      (λ (l : v < a.shape.rows). lower_at v l ∙ cond-false _ _ _ (le-ltb (number_in reached v) (number_in known v) above))
      (λ (l : a.shape.rows ≤ v). lower_past v l)
      (cases_lt v a.shape.rows)

  -- the sum has the new numbers, and the lower values are those that fell
  pub columns_advanced : AreNextRound a source k known reached
  columns_advanced = record {
    matrix = is.matrix;
    square = is.square;
    vertex = is.vertex;
    known_matrix = sum_matrix;
    fell_matrix = lower_matrix;
    known_shape = is.known_shape;
    fell_shape = reached_shape;
    nearing = neared a source k (number_in known) (number_in fell) (number_in reached) (number_in sum) (number_in lower) is.nearing round sum_at lower_new lower_old;
  }

-- ---- the end
module _ (a : Sparse) (source k : ℕ) (known fell : Sparse) (is : AreSearch a source k known fell) where
  nearest : (fell.entries ≡ []) ⊎ (a.shape.rows ≤ k) → IsNearest a source (number_in known)
  unfolding value_at
  nearest ended = ⊎_elim
      (λ (none : fell.entries ≡ []). settled a source k (number_in known) (number_in fell) is.nearing (λ v. ap (λ (es : List Entry). value_at infinite es v 0) none))
      (λ (m : a.shape.rows ≤ k). all_rounds a source k a.shape.rows (number_in known) (number_in fell) is.nearing m is.vertex (inside_square a is.matrix is.square))
      ended

  -- once none fell, or there were as many rounds as vertices, the numbers are the distances
  pub columns_ended : (fell.entries ≡ []) ⊎ (a.shape.rows ≤ k) → AreDistances a source known
  columns_ended ended =
      let h = nearest ended in
      record {
        shape = is.known_shape;
        distances = λ v _ n.
            let w : (walk : List ℕ) × IsWalk min_plus a source v walk × (cost a walk ≡ number_in known v) = h.reached v n in
            record {
              reached = (w.0, w.1, omega (arith, w.2, h.fits v));
              least = λ walk is. omega (arith, h.fits v, h.least v walk is);
            };
        none = λ v _ e walk is. omega (arith, e, h.least v walk is);
      }
