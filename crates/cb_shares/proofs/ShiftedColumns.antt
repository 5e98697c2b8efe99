-- Parts that are taken from a matrix, or put into one: some columns of the result are made of these columns of the matrix, and of
-- those of the part, which is moved.
use Rattle.std.proofs.Common.{◌≡◌, ℕ, ◌+◌, ◌-◌, ◌<◌, ◌≤◌, true, false, true≢false, cond, List, sym, ◌∙◌, ⊎_elim, arith}
use Rattle.std.specs.Prelude.{min}
use Rattle.std.proofs.lemmas.Bool.{cases_Bool, cond-true, cond-false}
use Rattle.std.proofs.lemmas.Bool.Decides.{nat_tests}
use Rattle.cb_semirings.specs.Arithmetic.{Arithmetic, IsValue, IsSemiring}
use Rattle.cb_matrix.specs.Sparse.{Sparse, Extent, IsMatrix, at}
use Rattle.cb_matrix.specs.Operations.{cut, is_covered}
use Rattle.cb_matrix.proofs.Made.{IsMatrix-matrix_of}
use Rattle.cb_matrix.proofs.Totals.{value_at-value}
use Rattle.cb_operations.specs.SelectionAnswers.{assigned}
use Rattle.cb_product.specs.InColumns.{is_among, only_columns}
use Rattle.cb_product.proofs.OnlyColumns.{only_value}
use Rattle.cb_shares.specs.Shares.{columns_from, panel}
use Rattle.cb_shares.proofs.ColumnValues.{only_none, only_inside, only_of}
use Rattle.cb_shares.proofs.Ranges.{all_columns, range_holds, range_has, same_answer}

-- a column behind the first one of a part is in a range just if it is in the range that is moved to the part
moved_range : (left first end j : ℕ) → left ≤ j → is_among (columns_from (first - left) (end - left)) (j - left) ≡ is_among (columns_from first end) j
moved_range left first end j l =
    same_answer (is_among (columns_from (first - left) (end - left)) (j - left)) (is_among (columns_from first end) j)
    (λ t. let p = range_holds (first - left) (end - left) (j - left) t in
    let low = p.0 in let high = p.1 in
    range_has first end j (omega arith) (omega arith))
    (λ t. let p = range_holds first end j t in
    let low = p.0 in let high = p.1 in
    range_has (first - left) (end - left) (j - left) (omega arith) (omega arith))

-- a column of a part that is taken is in a range of it just if it is in the range of the matrix, ending with the part
taken_range : (left wide first end j : ℕ) → is_among (columns_from (left + min first wide) (left + min end wide)) (left + j) ≡ true → is_among (columns_from first end) j ≡ true
taken_range left wide first end j t =
    let p = range_holds (left + min first wide) (left + min end wide) (left + j) t in
    let low = p.0 in let high = p.1 in
    range_has first end j (omega arith) (omega arith)

range_taken : (left wide first end j : ℕ) → j < wide → is_among (columns_from first end) j ≡ true → is_among (columns_from (left + min first wide) (left + min end wide)) (left + j) ≡ true
range_taken left wide first end j l t =
    let p = range_holds first end j t in
    let low = p.0 in let high = p.1 in
    range_has (left + min first wide) (left + min end wide) (left + j) (omega arith) (omega arith)

-- a place that a part covers isn't left of it
covered_left : (corner : ℕ × ℕ) (d : Extent) (i j : ℕ) → is_covered corner d i j ≡ true → corner.1 ≤ j
covered_left corner d i j c = grind (arith, nat_tests)

module _ (s : Arithmetic) (laws : IsSemiring s) (a : Sparse) (is_a : IsMatrix s a) where
  -- some columns of a part are the part of these columns
  pub cut_panel : (rows cols : ℕ × ℕ) (first end : ℕ)
      → cut s rows cols (panel a (cols.0 + min first (cols.1 - cols.0)) (cols.0 + min end (cols.1 - cols.0))) ≡ panel (cut s rows cols a) first end
  cut_panel rows cols first end =
      let wide : ℕ = cols.1 - cols.0 in
      let cs : List ℕ = columns_from (cols.0 + min first wide) (cols.0 + min end wide) in
      only_inside s laws (record { rows = rows.1 - rows.0; cols = wide }) (λ i j. at s a (rows.0 + i) (cols.0 + j)) (λ i j. at s (only_columns cs a) (rows.0 + i) (cols.0 + j)) (columns_from first end)
      (λ i j _ _. value_at-value s laws a.entries (rows.0 + i) (cols.0 + j) is_a.values)
      (λ i j l t. only_value s.zero cs a (rows.0 + i) (cols.0 + j) (range_taken cols.0 wide first end j l t))
      (λ i j u. ⊎_elim
      (λ (t : is_among cs (cols.0 + j) ≡ true). absurd (true≢false (sym (taken_range cols.0 wide first end j t) ∙ u)))
      (λ (f : is_among cs (cols.0 + j) ≡ false). only_none s cs a (rows.0 + i) (cols.0 + j) f)
      (cases_Bool (is_among cs (cols.0 + j))))

  -- all columns of a part are the part
  pub whole_part : (rows cols : ℕ × ℕ) (end : ℕ) → cols.1 - cols.0 ≤ end → cut s rows cols a ≡ panel (cut s rows cols a) 0 end
  whole_part rows cols end l =
      let f : ℕ → ℕ → ℕ = λ i j. at s a (rows.0 + i) (cols.0 + j) in
      sym (all_columns s (cut s rows cols a) end (IsMatrix-matrix_of s (record { rows = rows.1 - rows.0; cols = cols.1 - cols.0 }) f (λ i j _ _. value_at-value s laws a.entries (rows.0 + i) (cols.0 + j) is_a.values)) l)

  module _ (b : Sparse) (is_b : IsMatrix s b) where
    -- some columns of a matrix with a part in it have these columns of both
    pub assigned_panel : (corner : ℕ × ℕ) (first end : ℕ)
        → assigned s corner (panel b (first - corner.1) (end - corner.1)) (panel a first end) ≡ panel (assigned s corner b a) first end
    assigned_panel corner first end =
        let cs : List ℕ = columns_from first end in
        let ds : List ℕ = columns_from (first - corner.1) (end - corner.1) in
        let inner : ℕ → ℕ → ℕ = λ i j. at s b (i - corner.0) (j - corner.1) in
        let some : ℕ → ℕ → ℕ = λ i j. at s (only_columns ds b) (i - corner.0) (j - corner.1) in
        only_of s laws a.shape (λ i j. cond (is_covered corner b.shape i j) (inner i j) (at s a i j)) (λ i j. cond (is_covered corner b.shape i j) (some i j) (at s (only_columns cs a) i j)) cs
        (λ i j _ _. elim (is_covered corner b.shape i j) as (λ c. IsValue s (cond c (inner i j) (at s a i j))) [ true ↦ value_at-value s laws b.entries (i - corner.0) (j - corner.1) is_b.values | false ↦ value_at-value s laws a.entries i j is_a.values ])
        (λ i j t. ⊎_elim
        (λ (c : is_covered corner b.shape i j ≡ true).
        cond-true (is_covered corner b.shape i j) (some i j) (at s (only_columns cs a) i j) c
        ∙ only_value s.zero ds b (i - corner.0) (j - corner.1) (moved_range corner.1 first end j (covered_left corner b.shape i j c) ∙ t)
        ∙ sym (cond-true (is_covered corner b.shape i j) (inner i j) (at s a i j) c))
        (λ (c : is_covered corner b.shape i j ≡ false).
        cond-false (is_covered corner b.shape i j) (some i j) (at s (only_columns cs a) i j) c
        ∙ only_value s.zero cs a i j t
        ∙ sym (cond-false (is_covered corner b.shape i j) (inner i j) (at s a i j) c))
        (cases_Bool (is_covered corner b.shape i j)))
        (λ i j u. ⊎_elim
        (λ (c : is_covered corner b.shape i j ≡ true).
        cond-true (is_covered corner b.shape i j) (some i j) (at s (only_columns cs a) i j) c
        ∙ only_none s ds b (i - corner.0) (j - corner.1) (moved_range corner.1 first end j (covered_left corner b.shape i j c) ∙ u))
        (λ (c : is_covered corner b.shape i j ≡ false).
        cond-false (is_covered corner b.shape i j) (some i j) (at s (only_columns cs a) i j) c ∙ only_none s cs a i j u)
        (cases_Bool (is_covered corner b.shape i j)))
