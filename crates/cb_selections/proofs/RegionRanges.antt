-- The part of a column in a region whose rows follow one another.
use Rattle.std.proofs.Common.{◌≡◌, ◌≢◌, ℕ, zero, suc, ◌+◌, ◌-◌, ◌<◌, ◌≤◌, Bool, true, false, cond, Err, List, [], ◌∷◌, length, take, drop, get_or, sym, refl, ap, ◌∙◌, ⊎_elim, arith, length-take, length-drop}
use Rattle.std.specs.Prelude.{All, AllPairs, slice_range, ◌==◌}
use Rattle.std.specs.Ordering.{nat_cmp}
use Rattle.std.specs.List.Sorted.{IsBinarySearchResult}
use Rattle.std.proofs.lemmas.Bool.{cases_lt, cases_Bool, cond-false, ne_eqb, true≢false}
use Rattle.std.proofs.lemmas.List.{get_or-take, get_or-drop}
use Rattle.std.proofs.lemmas.List.Elements.{All-take, All-drop}
use Rattle.std.proofs.lemmas.List.Sorted.{searched}
use Rattle.cb_semirings.specs.Arithmetic.{Arithmetic, IsValue}
use Rattle.cb_matrix.specs.Sparse.{Sparse, IsMatrix, at}
use Rattle.cb_dcsc.specs.Columns.{row_value}
use Rattle.cb_dcsc.proofs.Lookup.{row_value-absent}
use Rattle.cb_product.specs.InColumns.{AreInColumns}
use Rattle.cb_product.specs.SparseColumn.{IsSparseColumn}
use Rattle.cb_product.proofs.ColumnsMade.{absent_value}
use Rattle.cb_operations.specs.declared.regions.Region.{Region}
use Rattle.cb_operations.specs.Regions.{is_in, where_true}
use Rattle.cb_selections.proofs.DiagonalPlaces.{zero_where}

-- ---- where a row would stand
-- those at places before that of a row that isn't found are less, and the others greater
pub missed : (rows : List ℕ) (row n : ℕ) → AllPairs (λ i j. i < j) rows → IsBinarySearchResult (λ y. nat_cmp y row) rows (Err n) → ((k : ℕ) → k < n → get_or rows k 0 < row) × ((k : ℕ) → n ≤ k → k < length rows → row < get_or rows k 0)
missed rows row n up h =
    let rising : (i j : ℕ) → i ≤ j → j < length rows → get_or rows i 0 ≤ get_or rows j 0 = λ i j l m. ⊎_elim
    (λ (k : i < j). let b : get_or rows i 0 < get_or rows j 0 = up i j 0 k m in omega arith)
    (λ (k : j ≤ i). let e : i ≡ j = omega arith in rw e (omega arith))
    (cases_lt i j) in
    let found = searched rows row (Err n) h rising in
    (found.1, found.2)

-- ---- a range of a column
-- an element of a range
range_at : (xs : List ℕ) (start end k d : ℕ) → k < end - start → get_or (slice_range xs start end) k d ≡ get_or xs (start + k) d
range_at xs start end k d l = get_or-take (end - start) (drop start xs) k d l ∙ get_or-drop start xs k d

range_long : (xs : List ℕ) (start end : ℕ) → end ≤ length xs → length (slice_range xs start end) ≡ end - start
range_long xs start end l = simp (length-take, length-drop) (omega arith)

module _ (z i : ℕ) where
  -- the value at a row that isn't among the first is that of the rest
  pub past_first : (n : ℕ) (rs vs : List ℕ) → length vs ≡ length rs → ((k : ℕ) → k < n → k < length rs → get_or rs k 0 ≢ i) → row_value z (drop n rs) (drop n vs) i ≡ row_value z rs vs i
  unfolding row_value
  past_first zero rs vs e h = refl
  past_first (suc n) [] vs e h = refl
  past_first (suc n) (r ∷ rs) [] e h = absurd (omega arith)
  past_first (suc n) (r ∷ rs) (v ∷ vs) e h = past_first n rs vs (omega arith) (λ k l m. h (suc k) (omega arith) (omega arith)) ∙ sym (cond-false _ _ _ (ne_eqb r i (h 0 (omega arith) (omega arith))))

  -- at a row that isn't among the last it is that of the first
  among_first : (n : ℕ) (rs vs : List ℕ) → length vs ≡ length rs → ((k : ℕ) → n ≤ k → k < length rs → get_or rs k 0 ≢ i) → row_value z (take n rs) (take n vs) i ≡ row_value z rs vs i
  unfolding row_value
  among_first zero rs vs e h = sym (row_value-absent z rs vs i (λ k l. h k (omega arith) l))
  among_first (suc n) [] vs e h = refl
  among_first (suc n) (r ∷ rs) [] e h = absurd (omega arith)
  among_first (suc n) (r ∷ rs) (v ∷ vs) e h =
      ap (λ x. cond (r == i) v x) (among_first n rs vs (omega arith) (λ k l m. h (suc k) (omega arith) (omega arith)))

module _ (rows values : List ℕ) (long : length values ≡ length rows) (start end : ℕ) (order : start ≤ end) (within : end ≤ length rows) where
  -- the values of a range whose rows, alone, pass a test
  pub range_value : (z : ℕ) (test : ℕ → Bool) → ((k : ℕ) → start ≤ k → k < end → test (get_or rows k 0) ≡ true) → ((k : ℕ) → k < start → test (get_or rows k 0) ≡ false) → ((k : ℕ) → end ≤ k → k < length rows → test (get_or rows k 0) ≡ false)
      → (i : ℕ) → row_value z (slice_range rows start end) (slice_range values start end) i ≡ where_true z (test i) (row_value z rows values i)
  range_value z test inside before after i = ⊎_elim
      (λ (t : test i ≡ true).
      let first : row_value z (slice_range rows start end) (slice_range values start end) i ≡ row_value z (drop start rows) (drop start values) i =
      among_first z i (end - start) (drop start rows) (drop start values) (simp length-drop (omega arith)) (λ k l m e.
      let size = length-drop start rows in
      let at : get_or rows (start + k) 0 ≡ i = sym (get_or-drop start rows k 0) ∙ e in
      true≢false (sym t ∙ sym (ap test at) ∙ after (start + k) (omega arith) (omega arith))) in
      first ∙ past_first z i start rows values long (λ k l m e. true≢false (sym t ∙ sym (ap test e) ∙ before k l)) ∙ sym (ap (λ b. where_true z b (row_value z rows values i)) t))
      (λ (f : test i ≡ false).
      row_value-absent z (slice_range rows start end) (slice_range values start end) i (λ k l e.
      let size = range_long rows start end within in
      let b : k < end - start = omega arith in
      let at : get_or rows (start + k) 0 ≡ i = sym (range_at rows start end k 0 b) ∙ e in
      true≢false (sym (inside (start + k) (omega arith) (omega arith)) ∙ ap test at ∙ f))
      ∙ sym (ap (λ b. where_true z b (row_value z rows values i)) f))
      (cases_Bool (test i))

  -- a range of a column is one
  pub range_column : (s : Arithmetic) → IsSparseColumn s rows values → IsSparseColumn s (slice_range rows start end) (slice_range values start end)
  range_column s is = record {
    same_length = range_long values start end (omega (arith, long, within)) ∙ sym (range_long rows start end within);
    ascending = λ i j d l m.
        let size = range_long rows start end within in
        let p = range_at rows start end i d (omega arith) in
        let q = range_at rows start end j d (omega arith) in
        let less : get_or rows (start + i) d < get_or rows (start + j) d = is.ascending (start + i) (start + j) d (omega arith) (omega arith) in
        omega arith;
    are_values = All-take (IsValue s) (end - start) (drop start values) (All-drop (IsValue s) start values is.are_values);
    not_zero = All-take (λ v. v ≢ s.zero) (end - start) (drop start values) (All-drop (λ v. v ≢ s.zero) start values is.not_zero);
  }

-- ---- all columns
module _ (s : Arithmetic) (a : Sparse) (is : IsMatrix s a) (region : Region) where
  -- the value at a place, if it is in the region
  abbrev pub value_for : ℕ → ℕ → ℕ
  value_for i j = where_true s.zero (is_in region i j) (at s a i j)

  -- a column without entries is without values
  pub range_absent : (cs : List ℕ) → AreInColumns cs a.entries → (i j : ℕ) → All (λ c. c ≢ j) cs → value_for i j ≡ s.zero
  range_absent cs stand i j others = ap (where_true s.zero (is_in region i j)) (absent_value s.zero a.entries cs i j stand others) ∙ zero_where s.zero (is_in region i j)
