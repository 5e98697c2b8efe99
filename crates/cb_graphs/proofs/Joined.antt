-- The roots of trees that span the graph are the least vertices of the components.
use Rattle.std.proofs.Common.{◌≡◌, ◌≢◌, ℕ, ◌<◌, true, false, cond, ⊎_elim, List, [], ◌∷◌, length, get_or, subst, sym, refl, ap, ◌∙◌, arith}
use Rattle.std.specs.Prelude.{All, Contains, ◌==◌}
use Rattle.std.proofs.lemmas.Bool.{cases_eq, eq-eqb, eqb-true}
use Rattle.std.proofs.lemmas.List.{length-map, get_or_default}
use Rattle.std.proofs.lemmas.List.Elements.{All-nil, All-cons, All-head, All-filter, All-weaker, All-get_or, All-contains, Contains-get_or, filter_passes}
use Rattle.std.proofs.lemmas.Option.{none-some, same_Some}
use Rattle.cb_semirings.specs.Tables.{min_plus, or_and}
use Rattle.cb_matrix.specs.declared.Entry.{Entry}
use Rattle.cb_matrix.specs.Sparse.{Sparse, IsMatrix, at}
use Rattle.cb_dcsc.specs.Columns.{in_column, rows_of, columns_with_entries}
use Rattle.cb_dcsc.proofs.NumbersOfColumns.{columns_all}
use Rattle.cb_dcsc.proofs.Lookup.{rows_inside}
use Rattle.cb_searches.specs.Walks.{IsWalk, infinite, column_shape}
use Rattle.cb_searches.proofs.ColumnEdges.{edge_row, row_edge}
use Rattle.cb_searches.proofs.WalkCosts.{walk_edge, walk_rest, walk_first}
use Rattle.cb_graphs.specs.Components.{undirected, AreJoined, HasEntry, IsLeastJoined, AreComponents, IsUndirected}
use Rattle.cb_graphs.specs.Forests.{IsConstant, IsReached, IsSpanning, AreTrees, KeepsTrees, IsFlat}
use Rattle.cb_graphs.proofs.Undirected.{either_way, one_way, undirected_both}
use Rattle.cb_graphs.proofs.Trees.{joined_more}

-- ---- the columns that have entries
listed_first : (cs : List ℕ) (v : ℕ) (es : List Entry) → All (λ e. Contains cs e.column) es → All (λ e. (e.column == v) ≡ true) es → 0 < length es → Contains cs v
listed_first cs v [] held own some = absurd (omega arith)
listed_first cs v (e ∷ es) held own some = subst (Contains cs) (eqb-true e.column v (All-head (λ e. (e.column == v) ≡ true) e es own)) (All-head (λ e. Contains cs e.column) e es held)

kept_first : (e : Entry) (es : List Entry) → 0 < length (in_column e.column (e ∷ es))
kept_first e es = let t = eq-eqb e.column e.column refl in rw t (omega arith)

more_kept : (c : ℕ) (e : Entry) (es : List Entry) → 0 < length (in_column c es) → 0 < length (in_column c (e ∷ es))
more_kept c e es some = elim (e.column == c) as (λ b. 0 < length (cond b (e ∷ in_column c es) (in_column c es))) [ true ↦ omega arith | false ↦ some ]

-- the column of each entry has entries
own_column : (es : List Entry) → All (λ e. 0 < length (in_column e.column es)) es
own_column [] = All-nil (λ e. 0 < length (in_column e.column []))
own_column (e ∷ es) =
    All-cons (λ d. 0 < length (in_column d.column (e ∷ es))) e es (kept_first e es)
    (All-weaker (λ d. 0 < length (in_column d.column es)) (λ d. 0 < length (in_column d.column (e ∷ es))) (λ d some. more_kept d.column e es some) es (own_column es))

module _ (s : Sparse) (is_s : IsMatrix or_and s) (cs : List ℕ) (held : All (λ e. Contains cs e.column) s.entries) where
  -- the column of an edge is one of them
  pub edge_listed : (u v : ℕ) → at or_and s u v ≢ 0 → Contains cs v
  edge_listed u v edge =
      let there : Contains (rows_of (in_column v s.entries)) u = edge_row s is_s u v edge in
      let l : there.0 < length (rows_of (in_column v s.entries)) = there.1 in
      listed_first cs v (in_column v s.entries) (All-filter (λ e. e.column == v) (λ e. Contains cs e.column) s.entries held) (filter_passes (λ e. e.column == v) s.entries)
      (omega (arith, l, length-map (in_column v s.entries) (λ (e : Entry). e.row)))

in_first : (es : List Entry) → 0 < length es → Contains (rows_of es) (get_or (rows_of es) 0 0)
in_first es some = Contains-get_or (rows_of es) 0 0 (omega (arith, some, length-map es (λ (e : Entry). e.row)))

-- each of these columns has an edge
pub column_edge : (s : Sparse) (is_s : IsMatrix or_and s) (cs : List ℕ) → cs ≡ columns_with_entries s.entries → (n : ℕ) → n < length cs → (u : ℕ) × (at or_and s u (get_or cs n 0) ≢ 0)
column_edge s is_s cs same n l =
    let v = get_or cs n 0 in
    let all : All (λ c. 0 < length (in_column c s.entries)) cs = rw same (columns_all (λ c. 0 < length (in_column c s.entries)) s.entries (own_column s.entries)) in
    let some : 0 < length (in_column v s.entries) = All-get_or (λ c. 0 < length (in_column c s.entries)) cs n 0 l all in
    let u = get_or (rows_of (in_column v s.entries)) 0 0 in
    (u, row_edge s is_s u v (in_first (in_column v s.entries) some))

-- what holds of the rows of each listed column holds of all entries
pub each_edge : (s : Sparse) (is : IsMatrix or_and s) (vs : List ℕ) → All (λ e. Contains vs e.column) s.entries → (P : ℕ → ℕ → Type 0) → ((k : ℕ) → k < length vs → All (λ u. P u (get_or vs k 0)) (rows_of (in_column (get_or vs k 0) s.entries))) → (u v : ℕ) → at or_and s u v ≢ 0 → P u v
each_edge s is vs held P each u v edge =
    let there : Contains vs v = edge_listed s is vs held u v edge in
    let here : get_or vs there.0 0 ≡ v = get_or_default vs there.0 0 v there.1 ∙ there.2 in
    All-contains (λ u. P u v) (rows_of (in_column v s.entries)) u
    (subst (λ (w : ℕ). All (λ u. P u w) (rows_of (in_column w s.entries))) here (each there.0 there.1)) (edge_row s is u v edge)

-- if the entries of each listed column have one in the other direction, all entries do
pub meet_all : (s : Sparse) (is : IsMatrix or_and s) (vs : List ℕ) → All (λ e. Contains vs e.column) s.entries → ((k : ℕ) → k < length vs → All (λ u. at or_and s (get_or vs k 0) u ≢ 0) (rows_of (in_column (get_or vs k 0) s.entries))) → IsUndirected s
meet_all s is vs held met = each_edge s is vs held (λ u v. at or_and s v u ≢ 0) met

-- the vertices from which edges lead to v have entries, and what is joined to v is joined to them
pub reached_rows : (a : Sparse) (is_a : IsMatrix or_and a) (square : a.shape.rows ≡ a.shape.cols) (root v : ℕ) (rows : List ℕ) → rows ≡ rows_of (in_column v a.entries) → AreJoined a root v → All (IsReached a root) rows
reached_rows a is_a square root v rows same joined k d l =
    let u = get_or rows k d in
    let there : at or_and a u v ≢ 0 = row_edge a is_a u v (subst (λ (xs : List ℕ). Contains xs u) same (Contains-get_or rows k d l)) in
    let back : at or_and (undirected a) v u ≢ 0 = undirected_both a is_a square u v (one_way a is_a square u v there) in
    record {
      inside = rows_inside or_and a v rows is_a same k d l;
      entered = (v, back);
      joined = joined_more a root v u joined back;
    }

-- the vertex of each column that has entries has an entry
pub column_entered : (a : Sparse) (is_a : IsMatrix or_and a) (square : a.shape.rows ≡ a.shape.cols) (cs : List ℕ) → cs ≡ columns_with_entries a.entries → (n : ℕ) → n < length cs → HasEntry a (get_or cs n 0)
column_entered a is_a square cs same n l =
    let edge = column_edge a is_a cs same n l in
    (edge.0, one_way a is_a square edge.0 (get_or cs n 0) edge.1)

-- ---- walks
-- Trees that span the graph, with all paths short: the parent of each vertex is the least vertex of its component.
module _ (a : Sparse) (is_a : IsMatrix or_and a) (square : a.shape.rows ≡ a.shape.cols) (first p : ℕ → ℕ) (spans : IsSpanning a first) (keeps : KeepsTrees first p) (trees : AreTrees a p) (flat : (v : ℕ) → first v ≢ infinite → IsFlat p v) where
  -- each vertex that has entries is in a tree
  entered_first : (v : ℕ) → HasEntry a v → first v ≢ infinite
  entered_first v entry = ⊎_elim
      (λ (there : at or_and a entry.0 v ≡ 0 → ⊥). (spans entry.0 v there).second)
      (λ (back : at or_and a v entry.0 ≡ 0 → ⊥). (spans v entry.0 back).first)
      (either_way a is_a square entry.0 v entry.1)

  constant : IsConstant p p
  constant v some = flat v (entered_first v (trees.entered v some))

  edge_same : (u v : ℕ) → at or_and (undirected a) u v ≢ 0 → p u ≡ p v
  edge_same u v edge = ⊎_elim
      (λ (there : at or_and a u v ≡ 0 → ⊥). (spans u v there).same p (keeps.constant p constant))
      (λ (back : at or_and a v u ≡ 0 → ⊥). sym ((spans v u back).same p (keeps.constant p constant)))
      (either_way a is_a square u v edge)

  -- both ends of a walk have the same root
  same_along : (u v : ℕ) (walk : List ℕ) → IsWalk or_and (undirected a) u v walk → p u ≡ p v
  same_along u v [] w = absurd (none-some u w.begins)
  same_along u v (x ∷ []) w = ap p (sym (same_Some x u w.begins) ∙ same_Some x v w.ends)
  same_along u v (x ∷ y ∷ ys) w =
      ap p (sym (walk_first or_and (undirected a) u v x (y ∷ ys) w)) ∙ edge_same x y (walk_edge or_and (undirected a) u v x y ys w)
      ∙ same_along y v (y ∷ ys) (walk_rest or_and (undirected a) u v x y ys w)

  -- a column of the roots is a column of the components
  pub components_are : (column : Sparse) → column.shape ≡ column_shape a → ((v : ℕ) → at min_plus column v 0 ≡ p v) → AreComponents a column
  components_are column shape values = record {
    shape = shape;
    least = λ v entry.
        let some : p v ≢ infinite = keeps.kept v (entered_first v entry) in
        subst (λ (u : ℕ). IsLeastJoined a u v) (sym (values v))
        (record {
          joined = trees.joined v some;
          least = λ w joined.
              let same : p w ≡ p v = same_along w v joined.0 joined.1 in
              omega (arith, same, trees.low w (λ q. some (sym same ∙ q)));
        });
    none = λ v bare. values v ∙ ⊎_elim (λ (q : p v ≡ infinite). q) (λ (some : p v ≡ infinite → ⊥). absurd (bare (trees.entered v some))) (cases_eq (p v) infinite);
  }
