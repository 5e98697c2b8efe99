-- A column that makes a matrix with the entries before it, and isn't the last of theirs: what is owed where it is pushed.
use Rattle.std.proofs.Common.{◌≡◌, ◌≢◌, ℕ, ◌-◌, ◌<◌, List, [], ◌∷◌, ◌++◌, length, take, get_or, sym, refl, ap, ◌∙◌, subst, arith, ⊎_elim}
use Rattle.std.specs.Prelude.{All, AllPairs}
use Rattle.std.proofs.lemmas.List.Elements.{All-head, All-tail, All-cons, All-nil, All-weaker}
use Rattle.cb_semirings.specs.Arithmetic.{Arithmetic, IsValue}
use Rattle.cb_matrix.specs.declared.Entry.{Entry}
use Rattle.cb_matrix.specs.Sparse.{Extent, Sparse, IsMatrix, IsBefore, IsInside}
use Rattle.std.proofs.lemmas.List.{get_or_default}
use Rattle.cb_matrix.proofs.Pairs.{AllPairs-head, AllPairs-tail, AllPairs-nil, AllPairs-cons, All-front}
use Rattle.cb_dcsc.specs.Compressed.{all_entries, block_of, entries_in, with_column, IsBlock}
use Rattle.cb_dcsc.proofs.Appended.{next_in_column}
use Rattle.cb_dcsc.proofs.Held.{columns_are}
use Rattle.cb_dcsc.proofs.NumbersOfColumns.{entries_all}
use Rattle.cb_dcsc.proofs.ColumnEntries.{entries_in_none}
use Rattle.cb_dcsc.proofs.Pushed.{All-back, all_columns_before}
use Rattle.cb_dcsc.proofs.WholeColumn.{Follow, spot}

-- what holds of the row, or of the value, of each entry of a column holds of its rows, or its values
rows_all : (P : ℕ → Type 0) (j : ℕ) (is vs : List ℕ) → length vs ≡ length is → All (λ e. P e.row) (entries_in j is vs) → All P is
unfolding entries_in
rows_all P j [] vs e h = All-nil P
rows_all P j (i ∷ is) [] e h = absurd (omega arith)
rows_all P j (i ∷ is) (v ∷ vs) e h =
    All-cons P i is (All-head (λ e. P e.row) _ (entries_in j is vs) h) (rows_all P j is vs (omega arith) (All-tail (λ e. P e.row) _ (entries_in j is vs) h))

values_all : (P : ℕ → Type 0) (j : ℕ) (is vs : List ℕ) → length vs ≡ length is → All (λ e. P e.value) (entries_in j is vs) → All P vs
unfolding entries_in
values_all P j [] [] e h = All-nil P
values_all P j [] (v ∷ vs) e h = absurd (omega arith)
values_all P j (i ∷ is) [] e h = absurd (omega arith)
values_all P j (i ∷ is) (v ∷ vs) e h =
    All-cons P v vs (All-head (λ e. P e.value) _ (entries_in j is vs) h) (values_all P j is vs (omega arith) (All-tail (λ e. P e.value) _ (entries_in j is vs) h))

-- entries of one column come by row
rows_after : (j i v : ℕ) (is vs : List ℕ) → length vs ≡ length is → All (IsBefore (record { row = i; column = j; value = v })) (entries_in j is vs) → All (λ k. i < k) is
unfolding entries_in
rows_after j i v [] vs e h = All-nil (λ k. i < k)
rows_after j i v (k ∷ is) [] e h = absurd (omega arith)
rows_after j i v (k ∷ is) (w ∷ vs) e h =
    All-cons (λ k. i < k) k is
    (⊎_elim (λ (l : j < j). absurd (omega arith)) (λ (p : (j ≡ j) × (i < k)). p.1) (All-head (IsBefore (record { row = i; column = j; value = v })) _ (entries_in j is vs) h))
    (rows_after j i v is vs (omega arith) (All-tail (IsBefore (record { row = i; column = j; value = v })) _ (entries_in j is vs) h))

rows_ascend : (j : ℕ) (is vs : List ℕ) → length vs ≡ length is → AllPairs IsBefore (entries_in j is vs) → AllPairs (λ a b. a < b) is
unfolding entries_in
rows_ascend j [] vs e h = AllPairs-nil (λ a b. a < b)
rows_ascend j (i ∷ is) [] e h = absurd (omega arith)
rows_ascend j (i ∷ is) (v ∷ vs) e h =
    AllPairs-cons (λ a b. a < b) i is
    (rows_after j i v is vs (omega arith) (AllPairs-head IsBefore _ (entries_in j is vs) h))
    (rows_ascend j is vs (omega arith) (AllPairs-tail IsBefore _ (entries_in j is vs) h))

-- the last of entries in order are in order
pairs_back : (xs ys : List Entry) → AllPairs IsBefore (xs ++ ys) → AllPairs IsBefore ys
pairs_back [] ys h = h
pairs_back (x ∷ xs) ys h = pairs_back xs ys (AllPairs-tail IsBefore x (xs ++ ys) h)

-- what holds of entries of a column that make a matrix with those before them
pub record IsColumnPart (s : Arithmetic) (m : Sparse) (j : ℕ) (is vs : List ℕ) : Type 0 where
  pub ascending : AllPairs (λ a b. a < b) is
  pub rows : All (λ i. i < m.shape.rows) is
  pub column : j < m.shape.cols
  pub after : Follow j m.entries is
  pub values : All (IsValue s) vs
  pub not_zero : All (λ v. v ≢ s.zero) vs

pub is_column_part : (s : Arithmetic) (m : Sparse) (j : ℕ) (is vs : List ℕ) → length vs ≡ length is → 0 < length is → IsMatrix s (with_column m j is vs) → IsColumnPart s m j is vs
is_column_part s m j is vs same some whole =
    let es = entries_in j is vs in
    let next = next_in_column s m m j is vs 0 same some whole refl (entries_in_none m.entries j is vs) in
    record {
      ascending = rows_ascend j is vs same (pairs_back m.entries es whole.ascending);
      rows = rows_all (λ i. i < m.shape.rows) j is vs same (All-weaker (IsInside m.shape) (λ e. e.row < m.shape.rows) (λ e k. k.0) es (All-back (IsInside m.shape) m.entries es whole.inside));
      column = next.inside.1;
      after = λ k d l.
          let now : Sparse = record { shape = m.shape; entries = m.entries ++ entries_in j (take k is) (take k vs) } in
          let here = next_in_column s m now j is vs k same l whole refl refl in
          let at : get_or is k 0 ≡ get_or is k d = get_or_default is k 0 d l in
          subst (λ i. All (λ e. IsBefore e (spot j i)) m.entries) at (All-front (λ e. IsBefore e (spot j (get_or is k 0))) m.entries (entries_in j (take k is) (take k vs)) here.order);
      values = values_all (IsValue s) j is vs same (All-back (λ e. IsValue s e.value) m.entries es whole.values);
      not_zero = values_all (λ v. v ≢ s.zero) j is vs same (All-back (λ e. e.value ≢ s.zero) m.entries es whole.not_zero);
    }

-- what is owed where a whole column is pushed
pub record IsNextColumn (s : Arithmetic) (m : Sparse) (j : ℕ) (is vs : List ℕ) : Type 0 where
  pub ascending : AllPairs (λ a b. a < b) is
  pub rows : All (λ i. i < m.shape.rows) is
  pub column : j < m.shape.cols
  pub before : All (λ e. e.column < j) m.entries
  pub values : All (IsValue s) vs
  pub not_zero : All (λ v. v ≢ s.zero) vs

-- it holds of a column that has rows
pub is_next_column : (s : Arithmetic) (shape : Extent) (columns starts rows values : List ℕ) → IsBlock s shape columns starts rows values → (m : Sparse) → block_of shape columns starts rows values ≡ m
    → (j : ℕ) (is vs : List ℕ) → length vs ≡ length is → (length is ≡ 0 → ⊥) → IsMatrix s (with_column m j is vs)
    → ((0 < length columns) × (get_or columns (length columns - 1) 0 ≡ j) → ⊥) → IsNextColumn s m j is vs
is_next_column s shape columns starts rows values block m view j is vs same none whole other =
    let ne : length is ≢ 0 = none in
    let some : 0 < length is = omega arith in
    let part = is_column_part s m j is vs same some whole in
    let next = next_in_column s m m j is vs 0 same some whole refl (entries_in_none m.entries j is vs) in
    let after : All (λ d. IsBefore d (record { row = get_or is 0 0; column = j; value = get_or vs 0 0 })) (all_entries columns starts rows values) =
    subst (λ (x : Sparse). All (λ d. IsBefore d (record { row = get_or is 0 0; column = j; value = get_or vs 0 0 })) x.entries) (sym view) next.order in
    let named = all_columns_before columns starts rows values block.lists (get_or is 0 0) j (get_or vs 0 0) after
    (λ n count e. let l : length columns - 1 ≡ n = omega arith in other (omega arith, ap (λ x. get_or columns x 0) l ∙ e)) in
    let are = columns_are columns starts rows values m.entries block.lists (ap (λ (x : Sparse). x.entries) view) in
    record {
      ascending = part.ascending;
      rows = part.rows;
      column = part.column;
      before = entries_all (λ c. c < j) m.entries (subst (All (λ c. c < j)) are named);
      values = part.values;
      not_zero = part.not_zero;
    }
