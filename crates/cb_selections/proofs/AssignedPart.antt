-- A matrix with another in place of a part, column by column.
use Rattle.std.proofs.Common.{◌≡◌, ◌≢◌, ℕ, ◌+◌, ◌-◌, ◌<◌, ◌≤◌, ◌⊎◌, inl, inr, true, false, List, length, get_or, refl, sym, ◌∙◌, subst, ⊎_elim, arith}
use Rattle.std.specs.Prelude.{All, AllPairs, Bool, cond}
use Rattle.std.proofs.lemmas.Bool.{cases_lt, cond-false}
use Rattle.std.proofs.lemmas.Bool.Decides.{nat_tests}
use Rattle.std.proofs.lemmas.List.{get_or_default, get_or_past}
use Rattle.cb_semirings.specs.Arithmetic.{Arithmetic, IsSemiring}
use Rattle.cb_matrix.specs.Sparse.{Sparse, Extent, IsMatrix, at}
use Rattle.cb_matrix.specs.Values.{empty_matrix}
use Rattle.cb_matrix.specs.Operations.{is_covered}
use Rattle.cb_matrix.proofs.Made.{at-outside}
use Rattle.cb_dcsc.specs.Columns.{in_column, rows_of, values_of, row_value, with_entries, moved_columns}
use Rattle.cb_product.specs.InColumns.{AreInColumns}
use Rattle.cb_product.proofs.ProductColumns.{own_column}
use Rattle.cb_product.proofs.StoredColumn.{AddsColumn}
use Rattle.cb_product.proofs.ColumnsMade.{IsMadeTo, made_none, made_past, made_more, made_all, absent_value}
use Rattle.cb_reshape.proofs.Within.{row_in, row_out}
use Rattle.cb_operations.specs.SelectionAnswers.{assigned}
use Rattle.cb_selections.specs.Extracted.{is_between}
use Rattle.cb_selections.specs.KernelSteps.{IsFirstFrom, HasRowsReplaced}
use Rattle.cb_selections.proofs.KeptColumns.{made_columns}

-- ---- which places are in a part
covered_in : (corner : ℕ × ℕ) (part : Extent) (i j : ℕ) → corner.0 ≤ i → i < corner.0 + part.rows → corner.1 ≤ j → j < corner.1 + part.cols → is_covered corner part i j ≡ true
covered_in corner part i j above below left right = grind (arith, nat_tests)

covered_not_rows : (corner : ℕ × ℕ) (part : Extent) (i j : ℕ) → (i < corner.0) ⊎ (corner.0 + part.rows ≤ i) → is_covered corner part i j ≡ false
covered_not_rows corner part i j out = ⊎_elim (λ (l : i < corner.0). grind (arith, nat_tests)) (λ (l : corner.0 + part.rows ≤ i). grind (arith, nat_tests)) out

covered_not_cols : (corner : ℕ × ℕ) (part : Extent) (i j : ℕ) → (j < corner.1) ⊎ (corner.1 + part.cols ≤ j) → is_covered corner part i j ≡ false
covered_not_cols corner part i j out = ⊎_elim (λ (l : j < corner.1). grind (arith, nat_tests)) (λ (l : corner.1 + part.cols ≤ j). grind (arith, nat_tests)) out

-- in a column of the part they are those in its rows
covered_rows : (corner : ℕ × ℕ) (part : Extent) (i j : ℕ) → corner.1 ≤ j → j < corner.1 + part.cols → is_between corner.0 (corner.0 + part.rows) i ≡ is_covered corner part i j
covered_rows corner part i j left right = ⊎_elim
    (λ (l : i < corner.0). row_out (corner.0, corner.0 + part.rows) i (λ x y. omega arith) ∙ sym (covered_not_rows corner part i j (inl l)))
    (λ (l : corner.0 ≤ i). ⊎_elim
    (λ (m : i < corner.0 + part.rows). row_in (corner.0, corner.0 + part.rows) i l m ∙ sym (covered_in corner part i j l m left right))
    (λ (m : corner.0 + part.rows ≤ i). row_out (corner.0, corner.0 + part.rows) i (λ x y. omega arith) ∙ sym (covered_not_rows corner part i j (inr m)))
    (cases_lt i (corner.0 + part.rows)))
    (cases_lt i corner.0)

-- ---- the values
module _ (s : Arithmetic) (corner : ℕ × ℕ) (b a : Sparse) where
  -- the value at a place
  abbrev pub value_for : ℕ → ℕ → ℕ
  value_for i j = cond (is_covered corner b.shape i j) (at s b (i - corner.0) (j - corner.1)) (at s a i j)

  -- in a column in front of the part or behind it
  pub beside : (i j : ℕ) → (j < corner.1) ⊎ (corner.1 + b.shape.cols ≤ j) → value_for i j ≡ at s a i j
  beside i j out = cond-false (is_covered corner b.shape i j) (at s b (i - corner.0) (j - corner.1)) (at s a i j) (covered_not_cols corner b.shape i j out)

  -- in a column that neither has
  pub none_assigned : (ls rs : List ℕ) → AreInColumns ls a.entries → AreInColumns rs b.entries → (i j : ℕ) → All (λ c. c ≢ j) ls → All (λ c. c ≢ j - corner.1) rs → value_for i j ≡ s.zero
  none_assigned ls rs left right i j l r =
      (λ t. cond (is_covered corner b.shape i j) (absent_value s.zero b.entries rs (i - corner.0) (j - corner.1) right r t) (absent_value s.zero a.entries ls i j left l t))
      ∙ same (is_covered corner b.shape i j)
    where
      same : (k : Bool) → cond k s.zero s.zero ≡ s.zero
      same true = refl
      same false = refl

  -- below the last row
  pub beneath : IsMatrix s a → corner.0 + b.shape.rows ≤ a.shape.rows → (i j : ℕ) → a.shape.rows ≤ i → value_for i j ≡ s.zero
  beneath is fits i j l =
      cond-false (is_covered corner b.shape i j) (at s b (i - corner.0) (j - corner.1)) (at s a i j) (covered_not_rows corner b.shape i j (inr (omega arith)))
      ∙ at-outside s.zero a.shape a.entries i j is.inside (λ x y. omega arith)

  -- a column of the part has them, once its rows in the part are replaced
  pub column_replaced : (j : ℕ) (rows values others other_values ks ws : List ℕ) → corner.1 ≤ j → j < corner.1 + b.shape.cols
      → rows ≡ rows_of (in_column j a.entries) → values ≡ values_of (in_column j a.entries)
      → others ≡ rows_of (in_column (j - corner.1) b.entries) → other_values ≡ values_of (in_column (j - corner.1) b.entries)
      → HasRowsReplaced s.zero (corner.0, corner.0 + b.shape.rows) rows values others other_values ks ws → (i : ℕ) → row_value s.zero ks ws i ≡ value_for i j
  column_replaced j rows values others other_values ks ws left right rows_are values_are others_are other_values_are has i =
      has i
      ∙ (λ t. cond (covered_rows corner b.shape i j left right t) (own_column s b (j - corner.1) others other_values others_are other_values_are (i - corner.0) t) (own_column s a j rows values rows_are values_are i t))

-- ---- ascending numbers, and where those from a bound on begin
-- a higher bound that is not above the next number
first_later : (ns : List ℕ) (c d n : ℕ) → AllPairs (λ i j. i < j) ns → c ≤ d → (n < length ns → d ≤ get_or ns n 0) → IsFirstFrom ns c n → IsFirstFrom ns d n
first_later ns c d n up order next h = record {
  within = h.within;
  below = λ k l. let b = h.below k l in omega arith;
  from = λ k l m. ⊎_elim
      (λ (x : n < k). let b : get_or ns n 0 < get_or ns k 0 = up n k 0 x m in let first = next (omega arith) in omega arith)
      (λ (x : k ≤ n). let e : n ≡ k = omega arith in subst (λ q. d ≤ get_or ns q 0) e (next (omega arith)))
      (cases_lt n k);
}

-- no number is between two bounds from which the same ones begin
not_listed : (ns : List ℕ) (c d n j : ℕ) → IsFirstFrom ns c n → IsFirstFrom ns d n → c ≤ j → j < d → All (λ q. q ≢ j) ns
not_listed ns c d n j low high l m k e in_list same =
    let here : get_or ns k e ≡ get_or ns k 0 = get_or_default ns k e 0 in_list in
    ⊎_elim
    (λ (x : k < n). let b = low.below k x in absurd (omega arith))
    (λ (x : n ≤ k). let b = high.from k x in_list in absurd (omega arith))
    (cases_lt k n)

-- past the bound, if it is the next number
pub first_past : (ns : List ℕ) (c n : ℕ) → AllPairs (λ i j. i < j) ns → n < length ns → get_or ns n 0 ≡ c → IsFirstFrom ns c n → IsFirstFrom ns (c + 1) (n + 1)
first_past ns c n up l same h = record {
  within = omega arith;
  below = λ k m. ⊎_elim
      (λ (x : k < n). let b = h.below k x in omega arith)
      (λ (x : n ≤ k). let e : n ≡ k = omega arith in subst (λ q. get_or ns q 0 < c + 1) e (omega arith))
      (cases_lt k n);
  from = λ k m o. let b : get_or ns n 0 < get_or ns k 0 = up n k 0 (omega arith) o in omega arith;
}

-- or if it isn't
pub first_missed : (ns : List ℕ) (c n : ℕ) → AllPairs (λ i j. i < j) ns → ((n < length ns) × (get_or ns n 0 ≡ c) → ⊥) → IsFirstFrom ns c n → IsFirstFrom ns (c + 1) n
first_missed ns c n up other h = first_later ns c (c + 1) n up (omega arith) (λ l. let b = h.from n (omega arith) l in let differs : get_or ns n 0 ≢ c = λ e. other (l, e) in omega arith) h

-- then it is not among the numbers
pub not_nth : (ns : List ℕ) (c n : ℕ) → AllPairs (λ i j. i < j) ns → ((n < length ns) × (get_or ns n 0 ≡ c) → ⊥) → IsFirstFrom ns c n → All (λ q. q ≢ c) ns
not_nth ns c n up other h = not_listed ns c (c + 1) n c h (first_missed ns c n up other h) (omega arith) (omega arith)

-- ---- the walk over the columns of the part
module _ (s : Arithmetic) (corner : ℕ × ℕ) (b a : Sparse) (ls rs : List ℕ) where
  -- `out` has the columns in front of this one, which is not behind the next of either list
  pub record IsAssignedTo (x y column : ℕ) (out : Sparse) : Type 0 where
    pub left : IsFirstFrom ls column x
    pub right : IsFirstFrom rs (column - corner.1) y
    pub first : corner.1 ≤ column
    pub last : column ≤ corner.1 + b.shape.cols
    pub made : IsMadeTo s a.shape (value_for s corner b a) column out

  module _ (x y end next : ℕ) (ends : end ≡ corner.1 + b.shape.cols) (left_next : x < length ls → next ≤ get_or ls x 0) (right_next : y < length rs → next ≤ get_or rs y 0 + corner.1) (greatest : (c : ℕ) → c ≤ get_or ls x end → c ≤ get_or rs y (end - corner.1) + corner.1 → c ≤ next) (low : next ≤ end) where
    -- the next column is not before one that is not past either list
    pub goes_on : (c : ℕ) → corner.1 ≤ c → c ≤ end → IsFirstFrom ls c x → IsFirstFrom rs (c - corner.1) y → c ≤ next
    goes_on c l m left right = greatest c
        (⊎_elim
        (λ (k : x < length ls). let here : get_or ls x end ≡ get_or ls x 0 = get_or_default ls x end 0 k in let f = left.from x (omega arith) k in omega arith)
        (λ (k : length ls ≤ x). let here = get_or_past ls x end k in omega arith)
        (cases_lt x (length ls)))
        (⊎_elim
        (λ (k : y < length rs). let here : get_or rs y (end - corner.1) ≡ get_or rs y 0 = get_or_default rs y (end - corner.1) 0 k in let f = right.from y (omega arith) k in omega arith)
        (λ (k : length rs ≤ y). let here = get_or_past rs y (end - corner.1) k in omega arith)
        (cases_lt y (length rs)))

    -- the columns between are without values
    pub up_to_next : AllPairs (λ i j. i < j) ls → AllPairs (λ i j. i < j) rs → AreInColumns ls a.entries → AreInColumns rs b.entries → (c : ℕ) (out : Sparse) → corner.1 ≤ c → c ≤ end → IsFirstFrom ls c x → IsFirstFrom rs (c - corner.1) y
        → IsMadeTo s a.shape (value_for s corner b a) c out → IsAssignedTo x y next out
    up_to_next left_up right_up left_all right_all c out l m left right made =
        let on = goes_on c l m left right in
        let left' = first_later ls c next x left_up on left_next left in
        let right' = first_later rs (c - corner.1) (next - corner.1) y right_up (omega arith) (λ k. let h = right_next k in omega arith) right in
        record {
          left = left';
          right = right';
          first = omega arith;
          last = omega arith;
          made = made_past s a.shape (value_for s corner b a) out c next on (λ i j p q. none_assigned s corner b a ls rs left_all right_all i j (not_listed ls c next x j left left' p q) (not_listed rs (c - corner.1) (next - corner.1) y (j - corner.1) right right' (omega arith) (omega arith))) made;
        }

-- one more column of the part
pub one_more : (s : Arithmetic) (corner : ℕ × ℕ) (b a : Sparse) (old new : Sparse) (c : ℕ) → AddsColumn s c (λ i. value_for s corner b a i c) old new → IsMadeTo s a.shape (value_for s corner b a) c old → IsMadeTo s a.shape (value_for s corner b a) (c + 1) new
one_more s corner b a old new c adds h = made_more s a.shape (value_for s corner b a) old new c (λ i. value_for s corner b a i c) adds (λ i. refl) h

-- the columns in front of the part
pub front_made : (s : Arithmetic) (corner : ℕ × ℕ) (b a none new : Sparse) → IsMatrix s none → none ≡ empty_matrix a.shape → new ≡ with_entries none (moved_columns (0, corner.1) (0, 0) a.entries) → IsMatrix s new → IsMadeTo s a.shape (value_for s corner b a) corner.1 new
front_made s corner b a none new is empty e made =
    made_columns 0 corner.1 s a.shape (value_for s corner b a) a none new (omega arith) (made_none s a.shape (value_for s corner b a) none is empty) e made (λ i j l m. beside s corner b a i j (inl m))

-- with those behind it, all is made
pub back_made : (s : Arithmetic) → IsSemiring s → (corner : ℕ × ℕ) (b a old new : Sparse) (end : ℕ) → end ≡ corner.1 + b.shape.cols → end ≤ a.shape.cols → IsMadeTo s a.shape (value_for s corner b a) end old
    → new ≡ with_entries old (moved_columns (end, a.shape.cols) (0, end) a.entries) → IsMatrix s new → new ≡ assigned s corner b a
back_made s laws corner b a old new end ends fits h e made =
    made_all s a.shape (value_for s corner b a) laws new
    (made_columns end a.shape.cols s a.shape (value_for s corner b a) a old new fits h e made (λ i j l m. beside s corner b a i j (inr (omega arith))))
