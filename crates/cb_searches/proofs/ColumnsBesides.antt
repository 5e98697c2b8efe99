-- Columns side by side: the entries of one more column, after those of the columns before it.
use Rattle.std.proofs.Common.{◌≡◌, ◌≢◌, ℕ, ◌+◌, ◌<◌, ◌≤◌, true, false, inl, inr, cond, List, [], ◌∷◌, ◌++◌, map, sym, refl, ap, ◌∙◌, ⊎_elim, arith, subst}
use Rattle.std.specs.Prelude.{All, AllPairs, ◌==◌, ◌&&◌}
use Rattle.std.proofs.lemmas.Bool.{cases_Bool, cases_lt, eq-eqb}
use Rattle.std.proofs.lemmas.List.Elements.{All-nil, All-cons, All-head, All-tail, All-append, All-map, All-weaker}
use Rattle.cb_semirings.specs.Arithmetic.{IsValue}
use Rattle.cb_semirings.specs.Laws.{min_plus_is_semiring}
use Rattle.cb_semirings.specs.Tables.{min_plus}
use Rattle.cb_matrix.specs.declared.Entry.{Entry}
use Rattle.cb_matrix.specs.Sparse.{Sparse, Extent, IsMatrix, IsBefore, IsInside, is_at, at, value_at}
use Rattle.cb_matrix.proofs.Pairs.{AllPairs-nil, AllPairs-cons, AllPairs-head, AllPairs-tail, AllPairs-append}
use Rattle.cb_matrix.proofs.Places.{is_at-parts, value_at-append_left, value_at-append_right}
use Rattle.cb_matrix.proofs.Made.{same_matrix_of}
use Rattle.cb_matrix.proofs.Equal.{matrix_is}
use Rattle.cb_searches.specs.SeveralSources.{column_at, in_column_of}

abbrev IsStored : Entry → Type 0
IsStored e = e.value ≢ min_plus.zero

-- the entries of the columns below c of a matrix of this shape, of which each is what it is to be
pub record HasColumns (extent : Extent) (is_column : ℕ → Sparse → Type 0) (c : ℕ) (es : List Entry) : Type 0 where
  pub ascending : AllPairs IsBefore es
  pub inside : All (IsInside extent) es
  pub values : All (λ e. IsValue min_plus e.value) es
  pub not_zero : All IsStored es
  pub before : All (λ e. e.column < c) es
  pub done : (j : ℕ) → j < c → is_column j (column_at (record { shape = extent; entries = es }) j)

-- no entry is in another column than those that are there
pub not_in : (i j c : ℕ) (es : List Entry) → c ≤ j → All (λ e. e.column < c) es → All (λ e. is_at i j e ≡ false) es
not_in i j c es l h =
    All-weaker (λ e. e.column < c) (λ e. is_at i j e ≡ false)
    (λ e k. ⊎_elim (λ (t : is_at i j e ≡ true). let p = (is_at-parts e i j t).1 in absurd (omega arith)) (λ (u : is_at i j e ≡ false). u) (cases_Bool (is_at i j e))) es h

-- nor is one of a column that was moved
other_column : (i j c : ℕ) (es : List Entry) → j ≢ c → All (λ e. is_at i j e ≡ false) (map (in_column_of c) es)
other_column i j c [] n = All-nil (λ e. is_at i j e ≡ false)
other_column i j c (e ∷ es) n =
    All-cons (λ e. is_at i j e ≡ false) (in_column_of c e) (map (in_column_of c) es)
    (⊎_elim (λ (t : is_at i j (in_column_of c e) ≡ true). absurd (n (is_at-parts (in_column_of c e) i j t).1)) (λ (u : is_at i j (in_column_of c e) ≡ false). u) (cases_Bool (is_at i j (in_column_of c e))))
    (other_column i j c es n)

-- the value of a moved column at a row
moved_value : (i c : ℕ) (es : List Entry) → All (λ e. e.column ≡ 0) es → value_at min_plus.zero (map (in_column_of c) es) i c ≡ value_at min_plus.zero es i 0
unfolding value_at
moved_value i c [] h = refl
moved_value i c (e ∷ es) h =
    let z = min_plus.zero in
    let e' = in_column_of c e in
    let rest : value_at z (map (in_column_of c) es) i c ≡ value_at z es i 0 = moved_value i c es (All-tail (λ e. e.column ≡ 0) e es h) in
    let col : e.column ≡ 0 = All-head (λ e. e.column ≡ 0) e es h in
    let same : is_at i c e' ≡ is_at i 0 e = ap (λ b. (e.row == i) && b) (eq-eqb c c refl ∙ sym (eq-eqb e.column 0 col)) in
    ap (λ b. cond b e.value (value_at z (map (in_column_of c) es) i c)) same ∙ ap (cond (is_at i 0 e) e.value) rest

-- a moved column ascends
moved_ascends : (c : ℕ) (es : List Entry) → All (λ e. e.column ≡ 0) es → AllPairs IsBefore es → AllPairs IsBefore (map (in_column_of c) es)
moved_ascends c [] h p = AllPairs-nil IsBefore
moved_ascends c (e ∷ es) h p =
    let col : e.column ≡ 0 = All-head (λ e. e.column ≡ 0) e es h in
    let others = All-tail (λ e. e.column ≡ 0) e es h in
    AllPairs-cons IsBefore (in_column_of c e) (map (in_column_of c) es)
    (All-map (IsBefore (in_column_of c e)) (in_column_of c) es (both_before c e col es others (AllPairs-head IsBefore e es p)))
    (moved_ascends c es others (AllPairs-tail IsBefore e es p))
  where
    both_before : (c : ℕ) (d : Entry) → d.column ≡ 0 → (es : List Entry) → All (λ e. e.column ≡ 0) es → All (IsBefore d) es → All (λ e. IsBefore (in_column_of c d) (in_column_of c e)) es
    both_before c d z [] h k = All-nil (λ e. IsBefore (in_column_of c d) (in_column_of c e))
    both_before c d z (e ∷ es) h k =
        let y : e.column ≡ 0 = All-head (λ e. e.column ≡ 0) e es h in
        All-cons (λ e. IsBefore (in_column_of c d) (in_column_of c e)) e es
        (⊎_elim (λ (l : d.column < e.column). absurd (omega arith)) (λ (r : (d.column ≡ e.column) × (d.row < e.row)). inr (refl, r.1)) (All-head (IsBefore d) e es k))
        (both_before c d z es (All-tail (λ e. e.column ≡ 0) e es h) (All-tail (IsBefore d) e es k))

-- the entries of a matrix of one column are in column 0
in_one : (extent : Extent) (es : List Entry) → extent.cols ≡ 1 → All (IsInside extent) es → All (λ e. e.column ≡ 0) es
in_one extent es one h = All-weaker (IsInside extent) (λ e. e.column ≡ 0) (λ e k. let b = k.1 in omega arith) es h

module _ (extent : Extent) (is_column : ℕ → Sparse → Type 0) where
  -- one more column
  pub column_more : (c : ℕ) (old new : List Entry) (column : Sparse) → c < extent.cols → column.shape ≡ record { rows = extent.rows; cols = 1 } → new ≡ old ++ map (in_column_of c) column.entries → IsMatrix min_plus column
      → is_column c column → HasColumns extent is_column c old → HasColumns extent is_column (c + 1) new
  column_more c old new column l shape new_is is here h =
      let es = column.entries in
      let moved = map (in_column_of c) es in
      let zeros : All (λ e. e.column ≡ 0) es = in_one column.shape es (ap (λ (x : Extent). x.cols) shape) is.inside in
      let height : column.shape.rows ≡ extent.rows = ap (λ (x : Extent). x.rows) shape in
      let both : (P : Entry → Type 0) → All P old → All (λ e. P (in_column_of c e)) es → All P new = λ P p q. subst (All P) (sym new_is) (All-append P old moved p (All-map P (in_column_of c) es q)) in
      record {
        ascending = subst (AllPairs IsBefore) (sym new_is) (AllPairs-append IsBefore old moved h.ascending (moved_ascends c es zeros is.ascending)
            (All-weaker (λ e. e.column < c) (λ d. All (IsBefore d) moved) (λ d k. All-map (IsBefore d) (in_column_of c) es (All-weaker (λ e. e.column ≡ 0) (λ e. IsBefore d (in_column_of c e)) (λ e _. inl k) es zeros)) old h.before));
        inside = both (IsInside extent) h.inside (All-weaker (IsInside column.shape) (λ e. IsInside extent (in_column_of c e)) (λ e k. let r = k.0 in (omega (arith, height, r), l)) es is.inside);
        values = both (λ e. IsValue min_plus e.value) h.values is.values;
        not_zero = both IsStored h.not_zero is.not_zero;
        before = both (λ e. e.column < c + 1) (All-weaker (λ e. e.column < c) (λ e. e.column < c + 1) (λ e k. omega arith) old h.before) (All-weaker (λ e. e.column ≡ 0) (λ e. c < c + 1) (λ e _. omega arith) es zeros);
        done = λ j m. ⊎_elim
            (λ (k : j < c). subst (is_column j) (sym (earlier j k)) (h.done j k))
            (λ (k : c ≤ j). let e : j ≡ c = omega arith in subst (λ n. is_column n (column_at (record { shape = extent; entries = new }) n)) (sym e) (subst (is_column c) (sym own) here))
            (cases_lt j c);
      }
    where
      value_new : (i j : ℕ) → value_at min_plus.zero new i j ≡ value_at min_plus.zero (old ++ map (in_column_of c) column.entries) i j
      value_new i j = ap (λ es. value_at min_plus.zero es i j) new_is

      earlier : (j : ℕ) → j < c → column_at (record { shape = extent; entries = new }) j ≡ column_at (record { shape = extent; entries = old }) j
      earlier j k = same_matrix_of min_plus (record { rows = extent.rows; cols = 1 }) (λ i _. value_at min_plus.zero new i j) (λ i _. value_at min_plus.zero old i j)
          (λ i _ _ _. value_new i j ∙ value_at-append_left min_plus.zero old (map (in_column_of c) column.entries) i j (other_column i j c column.entries (omega arith)))

      own_value : (i : ℕ) → value_at min_plus.zero new i c ≡ at min_plus column i 0
      own_value i =
          value_new i c ∙ value_at-append_right min_plus.zero old (map (in_column_of c) column.entries) i c (not_in i c c old (omega arith) h.before)
          ∙ moved_value i c column.entries (in_one column.shape column.entries (ap (λ (x : Extent). x.cols) shape) is.inside)

      own : column_at (record { shape = extent; entries = new }) c ≡ column
      own =
          sym (matrix_is min_plus min_plus_is_semiring column (record { rows = extent.rows; cols = 1 }) (λ i _. value_at min_plus.zero new i c) is shape (λ i j _ m. let z : j ≡ 0 = omega arith in ap (at min_plus column i) z ∙ sym (own_value i)))
