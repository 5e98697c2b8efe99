-- Some columns of the rows and columns of a matrix by their numbers.
use Rattle.std.proofs.Common.{◌≡◌, ℕ, ◌<◌, ◌≤◌, true, false, List, length, get_or, sym, ap, ◌∙◌, arith}
use Rattle.std.specs.Prelude.{Option, Some, None, min}
use Rattle.std.proofs.lemmas.Bool.{cond-true, cond-false}
use Rattle.cb_semirings.specs.Arithmetic.{Arithmetic, IsSemiring}
use Rattle.cb_matrix.specs.Sparse.{Sparse, IsMatrix, at}
use Rattle.cb_matrix.proofs.Totals.{value_at-value}
use Rattle.cb_operations.specs.Regions.{where_true}
use Rattle.cb_product.specs.InColumns.{only_columns}
use Rattle.cb_product.proofs.OnlyColumns.{only_matrix, only_value}
use Rattle.cb_reshape.proofs.Within.{row_in, row_out}
use Rattle.cb_selections.specs.Extracted.{extracted, extracted_by, extracted_between, is_between, rows_by}
use Rattle.cb_selections.proofs.ExtractedColumns.{rows_of_all, whole_is}
use Rattle.cb_shares.specs.Shares.{columns_from, panel}
use Rattle.cb_shares.proofs.ColumnValues.{only_inside, only_of, only_none}
use Rattle.cb_shares.proofs.Ranges.{range_holds, range_has}

true_false : true ≡ false → ⊥
true_false e = cc

module _ (s : Arithmetic) (laws : IsSemiring s) (a : Sparse) (is : IsMatrix s a) where
  -- those at the places of a range in the list of columns
  pub listed_panel : (rows cols : List ℕ) (first end low high : ℕ) → high ≡ min end (length cols) → low ≡ min first high
      → extracted_between s rows cols low high a ≡ panel (extracted s rows cols a) first end
  listed_panel rows cols first end low high is_high is_low =
      let f : ℕ → ℕ → ℕ = λ i j. at s a (get_or rows i 0) (get_or cols j 0) in
      only_inside s laws (record { rows = length rows; cols = length cols }) f (λ i j. where_true s.zero (is_between low high j) (f i j)) (columns_from first end)
      (λ i j _ _. value_at-value s laws a.entries (get_or rows i 0) (get_or cols j 0) is.values)
      (λ i j l t.
      let among = range_holds first end j t in
      let from : first ≤ j = among.0 in
      let below : j < end = among.1 in
      cond-true (is_between low high j) (f i j) s.zero (row_in (low, high) j (omega arith) (omega arith)))
      (λ i j u. cond-false (is_between low high j) (f i j) s.zero (row_out (low, high) j (λ p q. true_false (sym (range_has first end j (omega arith) (omega arith)) ∙ u))))

  -- those of all columns, by rows
  rows_panel : (rows : List ℕ) (cs : List ℕ) → rows_by s rows (only_columns cs a) ≡ only_columns cs (rows_by s rows a)
  rows_panel rows cs =
      only_of s laws (record { rows = length rows; cols = a.shape.cols }) (λ i j. at s a (get_or rows i 0) j) (λ i j. at s (only_columns cs a) (get_or rows i 0) j) cs
      (λ i j _ _. value_at-value s laws a.entries (get_or rows i 0) j is.values)
      (λ i j t. only_value s.zero cs a (get_or rows i 0) j t)
      (λ i j u. only_none s cs a (get_or rows i 0) j u)

  pub all_panel : (rows : Option (List ℕ)) (first end : ℕ) → extracted_by s rows None (panel a first end) ≡ panel (extracted_by s rows None a) first end
  all_panel (Some rows) first end =
      let cs = columns_from first end in
      sym (rows_of_all s (only_columns cs a) rows) ∙ rows_panel rows cs ∙ ap (only_columns cs) (rows_of_all s a rows)
  all_panel None first end =
      let cs = columns_from first end in
      sym (whole_is s (only_columns cs a) laws (only_matrix s cs a is)) ∙ ap (only_columns cs) (whole_is s a laws is)
