-- Well-formed lists: each stored column, and their matrix, column by column.
use Rattle.std.proofs.Common.{◌≡◌, ◌≢◌, ℕ, suc, ◌+◌, ◌-◌, ◌<◌, List, ◌++◌, get_or, refl, sym, ap, ◌∙◌, ⊎_elim, inl, inr, arith}
use Rattle.std.specs.Prelude.{All, ◌⊎◌, ◌==◌, not}
use Rattle.std.proofs.lemmas.Bool.{cases_eq}
use Rattle.std.proofs.lemmas.List.Elements.{All-take, All-drop, All-filter, All-weaker, filter-append}
use Rattle.cb_semirings.specs.Arithmetic.{Arithmetic, IsValue}
use Rattle.cb_matrix.specs.declared.Entry.{Entry}
use Rattle.cb_matrix.specs.Sparse.{Sparse, Extent}
use Rattle.cb_matrix.specs.Values.{empty_matrix}
use Rattle.cb_dcsc.specs.Compressed.{entries_in, pieces}
use Rattle.cb_dcsc.proofs.ColumnEntries.{entries_in-columns, pieces-all}
use Rattle.cb_lists.specs.declared.lists.Columns.{Columns}
use Rattle.cb_lists.specs.Lists.{count, column, starts, rows_in, values_in, listed_in, nonzero, with_nonzero, AreLists}

module _ (s : Arithmetic) (c : Columns) (are : AreLists s c) where
  kind_is : (c.kind ≡ 0) ⊎ (c.kind ≡ 1)
  kind_is = ⊎_elim (λ (z : c.kind ≡ 0). inl z) (λ (z : c.kind ≡ 0 → ⊥). let n : c.kind ≢ 0 = z in let l = are.form.0 in inr (omega arith)) (cases_eq c.kind 0)

  -- the rows of a stored column are inside the shape
  pub rows_below : (n rows : ℕ) → rows ≡ c.nrows → All (λ i. i < rows) (rows_in c n)
  rows_below n rows e =
      let a = get_or (starts c) n 0 in
      let b = get_or (starts c) (n + 1) 0 in
      rw e (All-take (λ i. i < c.nrows) (b - a) _ (All-drop (λ i. i < c.nrows) a c.rows.now are.inside.rows))

  -- its values are values of the semiring
  pub values_are : (n : ℕ) → All (IsValue s) (values_in c n)
  values_are n =
      let a = get_or (starts c) n 0 in
      let b = get_or (starts c) (n + 1) 0 in
      All-take (IsValue s) (b - a) _ (All-drop (IsValue s) a c.values.now are.values)

  columns_up : (k n : ℕ) → k < n → n < count c → column c k < column c n
  columns_up k n b l =
      ⊎_elim
      (λ (z : c.kind ≡ 0). let m = rw z at l in let h : get_or c.columns.now k 0 < get_or c.columns.now n 0 = are.ordered.columns z k n 0 b m in rw z h)
      (λ (z : c.kind ≡ 1). rw z b)
      kind_is

  -- the entries of the stored columns before it are in lower columns
  pub columns_before : (n : ℕ) → n < count c → All (λ e. e.column < column c n) (nonzero s (pieces (listed_in c) n))
  columns_before n l =
      All-filter (λ e. not (e.value == s.zero)) (λ e. e.column < column c n) (pieces (listed_in c) n)
      (pieces-all (λ e. e.column < column c n) (listed_in c) n (λ k b.
      let up = columns_up k n b l in
      All-weaker (λ e. e.column ≡ column c k) (λ e. e.column < column c n) (λ e p. omega arith) (listed_in c k) (entries_in-columns (column c k) (rows_in c k) (values_in c k))))

-- no columns have no entries
pub none_listed : (s : Arithmetic) (c : Columns) (shape : Extent) → empty_matrix shape ≡ record { shape = shape; entries = nonzero s (pieces (listed_in c) 0) }
unfolding pieces
none_listed s c shape = refl

-- one more column
pub more_listed : (s : Arithmetic) (c : Columns) (shape : Extent) (n : ℕ) (old new : Sparse) (j : ℕ) (is vs : List ℕ) → old ≡ record { shape = shape; entries = nonzero s (pieces (listed_in c) n) }
    → j ≡ column c n → is ≡ rows_in c n → vs ≡ values_in c n → new ≡ with_nonzero s old j is vs → new ≡ record { shape = shape; entries = nonzero s (pieces (listed_in c) (n + 1)) }
unfolding pieces
more_listed s c shape n old new j is vs was p q r e =
    let next : n + 1 ≡ suc n = omega arith in
    e ∙ ap (λ (m : Sparse). record { shape = m.shape; entries = m.entries ++ nonzero s (entries_in j is vs) }) was
    ∙ (λ t. record { shape = shape; entries = nonzero s (pieces (listed_in c) n) ++ nonzero s (entries_in (p t) (q t) (r t)) })
    ∙ ap (λ (es : List Entry). record { shape = shape; entries = es }) (sym (ap (λ k. nonzero s (pieces (listed_in c) k)) next ∙ filter-append (λ d. not (d.value == s.zero)) (pieces (listed_in c) n) (listed_in c n)))
