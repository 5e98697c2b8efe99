-- A vertex's parents are the vertices nearer to the source from which an edge leads to it.
use Rattle.std.proofs.Common.{◌≡◌, ◌≢◌, ℕ, ◌+◌, ◌<◌, ◌≤◌, ⊎_elim, List, [], ◌∷◌, ◌++◌, subst, sym, refl, ap, ◌∙◌, arith}
use Rattle.std.specs.Prelude.{All, AllPairs, Contains}
use Rattle.std.proofs.lemmas.Bool.{cases_lt, cond-true, cond-false, lt-ltb, le-ltb}
use Rattle.std.proofs.lemmas.List.Elements.{All-nil, All-cons, All-head, All-tail, All-weaker, All-contains, Contains-get_or, Contains-append_right}
use Rattle.cb_semirings.specs.Tables.{min_plus, or_and}
use Rattle.cb_matrix.specs.declared.Entry.{Entry}
use Rattle.cb_matrix.specs.Sparse.{Sparse, IsMatrix, at}
use Rattle.cb_matrix.proofs.Pairs.{AllPairs-head, AllPairs-tail}
use Rattle.cb_dcsc.specs.Columns.{in_column, rows_of}
use Rattle.cb_dcsc.proofs.Lookup.{rows_inside, column_ascends}
use Rattle.cb_searches.specs.Walks.{IsLeast, steps, infinite, column_shape}
use Rattle.cb_searches.specs.BreadthFirst.{AreLevelNumbers}
use Rattle.cb_searches.specs.Parents.{IsParent, IsLeastParent, AreParents, first_below, first_nearer}
use Rattle.cb_searches.proofs.ColumnEdges.{edge_row, row_edge, column_listed}
use Rattle.cb_searches.proofs.WalkCosts.{walk_more, steps_more}

-- ---- the first of a list that is below n
pub below_none : (d : ℕ → ℕ) (n : ℕ) (us : List ℕ) → All (λ u. u < infinite) us → first_below d n us ≡ infinite → All (λ u. n ≤ d u) us
unfolding first_below
below_none d n [] fits e = All-nil (λ u. n ≤ d u)
below_none d n (u ∷ us) fits e =
    ⊎_elim
    (λ (l : d u < n). let here : u ≡ infinite = sym (cond-true _ _ _ (lt-ltb (d u) n l)) ∙ e in let fit = All-head (λ u. u < infinite) u us fits in absurd (omega (arith, here, fit)))
    (λ (l : n ≤ d u). All-cons (λ u. n ≤ d u) u us l (below_none d n us (All-tail (λ u. u < infinite) u us fits) (sym (cond-false _ _ _ (le-ltb (d u) n l)) ∙ e)))
    (cases_lt (d u) n)

pub below_fits : (d : ℕ → ℕ) (n : ℕ) (us : List ℕ) → All (λ u. u < infinite) us → first_below d n us ≤ infinite
unfolding first_below
below_fits d n [] fits = omega arith
below_fits d n (u ∷ us) fits =
    let rest = below_fits d n us (All-tail (λ u. u < infinite) u us fits) in
    let fit = All-head (λ u. u < infinite) u us fits in
    ⊎_elim
    (λ (l : d u < n). omega (arith, cond-true _ u (first_below d n us) (lt-ltb (d u) n l), fit))
    (λ (l : n ≤ d u). omega (arith, cond-false _ u (first_below d n us) (le-ltb (d u) n l), rest))
    (cases_lt (d u) n)

-- x is listed and below n, and none before it is
pub record IsFirstBelow (d : ℕ → ℕ) (n : ℕ) (us : List ℕ) (x : ℕ) : Type 0 where
  pub listed : Contains us x
  pub below : d x < n
  pub first : All (λ u. d u < n → x ≤ u) us

pub below_some : (d : ℕ → ℕ) (n : ℕ) (us : List ℕ) → AllPairs (λ i j. i < j) us → first_below d n us ≢ infinite → IsFirstBelow d n us (first_below d n us)
unfolding first_below
below_some d n [] up some = absurd (some refl)
below_some d n (u ∷ us) up some =
    ⊎_elim
    (λ (l : d u < n).
    let here : first_below d n (u ∷ us) ≡ u = cond-true _ _ _ (lt-ltb (d u) n l) in
    subst (IsFirstBelow d n (u ∷ us)) (sym here)
    (record {
      listed = Contains-get_or (u ∷ us) 0 u (omega arith);
      below = l;
      first = All-cons (λ w. d w < n → u ≤ w) u us (λ _. omega arith) (All-weaker (λ w. u < w) (λ w. d w < n → u ≤ w) (λ w m _. omega arith) us (AllPairs-head (λ i j. i < j) u us up));
    }))
    (λ (l : n ≤ d u).
    let later : first_below d n (u ∷ us) ≡ first_below d n us = cond-false _ _ _ (le-ltb (d u) n l) in
    let h : IsFirstBelow d n us (first_below d n us) = below_some d n us (AllPairs-tail (λ i j. i < j) u us up) (λ e. some (later ∙ e)) in
    subst (IsFirstBelow d n (u ∷ us)) (sym later)
    (record {
      listed = Contains-append_right (u ∷ []) us (first_below d n us) h.listed;
      below = h.below;
      first = All-cons (λ w. d w < n → first_below d n us ≤ w) u us (λ m. absurd (omega arith)) h.first;
    }))
    (cases_lt (d u) n)

-- what is found for a vertex shows that its column has entries
pub nearer_listed : (d : ℕ → ℕ) (n v : ℕ) (cs : List ℕ) (es : List Entry) → All (λ e. Contains cs e.column) es → first_below d n (rows_of (in_column v es)) ≢ infinite → Contains cs v
unfolding first_below
nearer_listed d n v cs es held some = column_listed v cs es held (λ none. some (ap (λ (es : List Entry). first_below d n (rows_of es)) none))

rows_fit : (a : Sparse) → IsMatrix or_and a → a.shape.rows < infinite → (v : ℕ) → All (λ u. u < infinite) (rows_of (in_column v a.entries))
rows_fit a is fits v = All-weaker (λ u. u < a.shape.rows) (λ u. u < infinite) (λ u l. omega (arith, fits, l)) (rows_of (in_column v a.entries)) (rows_inside or_and a v (rows_of (in_column v a.entries)) is refl)

-- no vertex of a matrix is infinite
pub nearer_fits : (a : Sparse) → IsMatrix or_and a → a.shape.rows < infinite → (d : ℕ → ℕ) (v : ℕ) → first_nearer a d v ≤ infinite
nearer_fits a is fits d v = below_fits d (d v) (rows_of (in_column v a.entries)) (rows_fit a is fits v)

module _ (a : Sparse) (is : IsMatrix or_and a) (fits : a.shape.rows < infinite) (source : ℕ) (d : ℕ → ℕ) (are : AreLevelNumbers a source d) where
  -- a level is the number of its vertex
  number_of : (v n : ℕ) → IsLeast or_and a source v steps n → d v ≡ n
  number_of v n least =
      let w = least.reached in
      let own = are.levels v (λ e. are.none v e w.0 w.1) in
      omega (arith, own.least w.0 w.1, w.2, least.least own.reached.0 own.reached.1, own.reached.2)

  -- a nearer vertex with an edge to a vertex is a parent
  pub nearer_is_parent : (u v : ℕ) → at or_and a u v ≢ 0 → d u < d v → IsParent a source u v
  nearer_is_parent u v edge nearer =
      let own : IsLeast or_and a source u steps (d u) = are.levels u (λ e. omega (arith, e, nearer, are.fits v)) in
      let w = own.reached in
      record {
        edge = edge;
        level = d u;
        near = own;
        far = record {
          reached = (w.0 ++ v ∷ [], walk_more or_and a source u v w.0 w.1 edge, steps_more w.0 u v w.1.ends ∙ ap (λ (n : ℕ). n + 1) w.2);
          least = λ k other. omega (arith, nearer, (are.levels v (λ e. are.none v e k other)).least k other);
        };
      }

  -- a parent is nearer
  pub parent_is_nearer : (u v : ℕ) → IsParent a source u v → d u < d v
  parent_is_nearer u v p = omega (arith, number_of u p.level p.near, number_of v (p.level + 1) p.far)

  -- the first nearer one is the least parent
  least_parent : (v : ℕ) → first_nearer a d v ≢ infinite → IsLeastParent a source (first_nearer a d v) v
  least_parent v some =
      let first = below_some d (d v) (rows_of (in_column v a.entries)) (column_ascends v a.entries is.ascending) some in
      record {
        parent = nearer_is_parent (first_nearer a d v) v (row_edge a is (first_nearer a d v) v first.listed) first.below;
        least = λ w p. All-contains (λ u. d u < d v → first_nearer a d v ≤ u) (rows_of (in_column v a.entries)) w first.first (edge_row a is w v p.edge) (parent_is_nearer w v p);
      }

  -- if none is nearer, there is no parent
  no_parent : (v : ℕ) → first_nearer a d v ≡ infinite → (u : ℕ) → ¬ IsParent a source u v
  no_parent v none u p =
      let far = All-contains (λ u. d v ≤ d u) (rows_of (in_column v a.entries)) u (below_none d (d v) (rows_of (in_column v a.entries)) (rows_fit a is fits v) none) (edge_row a is u v p.edge) in
      let nearer = parent_is_nearer u v p in
      omega (arith, far, nearer)

  -- a column that has for each vertex the first nearer one has the least parents
  pub parents_are : (column : Sparse) → column.shape ≡ column_shape a → ((v : ℕ) → at min_plus column v 0 ≡ first_nearer a d v) → AreParents a source column
  parents_are column shape values = record {
    shape = shape;
    parents = λ v _ some. subst (λ (u : ℕ). IsLeastParent a source u v) (sym (values v)) (least_parent v (λ e. some (values v ∙ e)));
    none = λ v _ none. no_parent v (sym (values v) ∙ none);
  }
