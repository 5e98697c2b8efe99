-- The rows of a vertex's column are the vertices from which an edge leads to it.
use Rattle.std.proofs.Common.{◌≡◌, ◌≢◌, ℕ, ◌<◌, true, ⊎_elim, List, [], ◌∷◌, length, subst, sym, refl, ◌∙◌, arith}
use Rattle.std.specs.Prelude.{All, Contains, ◌==◌}
use Rattle.std.proofs.lemmas.Bool.{cases_eq, cond-false, eqb-true}
use Rattle.std.proofs.lemmas.List.{get_or_default}
use Rattle.std.proofs.lemmas.List.Elements.{All-head, All-map, All-filter, All-get_or, Contains-get_or, Contains-append_right, filter_passes}
use Rattle.cb_semirings.specs.Tables.{or_and}
use Rattle.cb_matrix.specs.declared.Entry.{Entry}
use Rattle.cb_matrix.specs.Sparse.{Sparse, IsMatrix, at}
use Rattle.cb_dcsc.specs.Columns.{in_column, rows_of, values_of, row_value}
use Rattle.cb_dcsc.proofs.Lookup.{column_value, row_value-found, as_long, column_ascends}
use Rattle.cb_searches.proofs.TakenNumbers.{ne-eqb}

row_there : (z : ℕ) (rs vs : List ℕ) (i : ℕ) → row_value z rs vs i ≢ z → Contains rs i
unfolding row_value
row_there z [] vs i some = absurd (some refl)
row_there z (r ∷ rs) [] i some = absurd (some refl)
row_there z (r ∷ rs) (v ∷ vs) i some =
    ⊎_elim
    (λ (e : r ≡ i). subst (Contains (r ∷ rs)) e (Contains-get_or (r ∷ rs) 0 r (omega arith)))
    (λ (n : r ≡ i → ⊥). Contains-append_right (r ∷ []) rs i (row_there z rs vs i (λ e. some (cond-false _ _ _ (ne-eqb r i n) ∙ e))))
    (cases_eq r i)

module _ (a : Sparse) (is : IsMatrix or_and a) (u v : ℕ) where
  -- an edge's row is one of them
  pub edge_row : at or_and a u v ≢ 0 → Contains (rows_of (in_column v a.entries)) u
  edge_row edge = row_there 0 (rows_of (in_column v a.entries)) (values_of (in_column v a.entries)) u (λ e. edge (sym (column_value 0 a.entries u v) ∙ e))

  -- and each of them is an edge's
  pub row_edge : Contains (rows_of (in_column v a.entries)) u → at or_and a u v ≢ 0
  row_edge there none =
      let rs = rows_of (in_column v a.entries) in
      let vs = values_of (in_column v a.entries) in
      let long : length vs ≡ length rs = as_long a.entries rs vs v refl refl in
      let some : All (λ x. x ≢ 0) vs = All-map (λ x. x ≢ 0) (λ (e : Entry). e.value) (in_column v a.entries) (All-filter (λ e. e.column == v) (λ e. e.value ≢ 0) a.entries is.not_zero) in
      let l : there.0 < length rs = there.1 in
      All-get_or (λ x. x ≢ 0) vs there.0 0 (omega (arith, long, l)) some
      (sym (row_value-found 0 rs vs there.0 u long (column_ascends v a.entries is.ascending) l (get_or_default rs there.0 0 u l ∙ there.2)) ∙ column_value 0 a.entries u v ∙ none)

own_listed : (v : ℕ) (cs : List ℕ) (es : List Entry) → All (λ e. Contains cs e.column) es → All (λ e. (e.column == v) ≡ true) es → es ≢ [] → Contains cs v
own_listed v cs [] held own some = absurd (some refl)
own_listed v cs (e ∷ es) held own some = subst (Contains cs) (eqb-true e.column v (All-head (λ e. (e.column == v) ≡ true) e es own)) (All-head (λ e. Contains cs e.column) e es held)

-- a column that has entries is listed, if the column of each entry is
pub column_listed : (v : ℕ) (cs : List ℕ) (es : List Entry) → All (λ e. Contains cs e.column) es → in_column v es ≢ [] → Contains cs v
column_listed v cs es held some = own_listed v cs (in_column v es) (All-filter (λ e. e.column == v) (λ e. Contains cs e.column) es held) (filter_passes (λ e. e.column == v) es) some

-- and so is the column of each edge
pub edge_listed : (a : Sparse) → IsMatrix or_and a → (cs : List ℕ) → All (λ e. Contains cs e.column) a.entries → (u v : ℕ) → at or_and a u v ≢ 0 → Contains cs v
edge_listed a is cs held u v edge =
    column_listed v cs a.entries held (λ none. let h = subst (λ (es : List Entry). Contains (rows_of es) u) none (edge_row a is u v edge) in omega (arith, h.1))
