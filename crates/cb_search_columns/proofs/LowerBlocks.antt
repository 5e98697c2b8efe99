-- The blocks that are made: the source's column.
use Rattle.std.proofs.Common.{◌≡◌, ◌≢◌, ℕ, ◌<◌, ◌^◌, cond, List, [], ◌∷◌, subst, refl, sym, ap, ◌∙◌, arith}
use Rattle.std.specs.Prelude.{All, AllPairs, Result, Ok, Err, IfOk, ◌&&◌, ◌==◌}
use Rattle.std.proofs.lemmas.Bool.{cases_eq, cond-true, cond-false, eq-eqb}
use Rattle.std.proofs.lemmas.Bool.Decides.{nat_tests}
use Rattle.std.proofs.lemmas.List.Elements.{All-nil, All-cons}
use Rattle.cb_semirings.specs.Arithmetic.{IsValue}
use Rattle.cb_semirings.specs.Tables.{min_plus}
use Rattle.cb_matrix.specs.declared.Entry.{Entry}
use Rattle.cb_matrix.specs.Sparse.{Extent, Sparse, IsMatrix, IsBefore, IsInside, at, value_at}
use Rattle.cb_matrix.proofs.Made.{is_matrix_of}
use Rattle.cb_matrix.proofs.Pairs.{AllPairs-cons, AllPairs-nil}
use Rattle.cb_searches.specs.Walks.{infinite}
use Rattle.cb_searches.specs.Settling.{first_at}
use Rattle.cb_search_columns.specs.SearchColumns.{source_column}
use Rattle.cb_search_columns.proofs.ColumnRounds.{first_fits}

module _ (shape : Extent) (source : ℕ) (here : source < shape.rows) where
  abbrev one : Entry
  one = record { row = source; column = 0; value = 0 }

  abbrev column : Extent
  column = record { rows = shape.rows; cols = 1 }

  abbrev alone : Sparse
  alone = record { shape = column; entries = one ∷ [] }

  alone_matrix : IsMatrix min_plus alone
  alone_matrix = record {
    ascending = AllPairs-cons IsBefore one [] (All-nil (IsBefore one)) (AllPairs-nil IsBefore);
    inside = All-cons (IsInside column) one [] (here, omega arith) (All-nil (IsInside column));
    values = All-cons (λ (e : Entry). IsValue min_plus e.value) one [] (omega arith) (All-nil (λ (e : Entry). IsValue min_plus e.value));
    not_zero = All-cons (λ (e : Entry). e.value ≢ infinite) one [] (λ z. omega (arith, z)) (All-nil (λ (e : Entry). e.value ≢ infinite));
  }

  value : (i j : ℕ) → j < 1 → at min_plus alone i j ≡ first_at source i
  unfolding value_at
  value i j l =
      let zero_is : j ≡ 0 = omega arith in
      let same : ((source == i) && (0 == j)) ≡ (i == source) = grind (arith, nat_tests) in
      ap (λ b. cond b 0 infinite) same

  -- a column with the number 0 alone, at the source
  pub alone_source : alone ≡ source_column shape.rows source
  alone_source = is_matrix_of min_plus alone column (λ v _. first_at source v) alone_matrix refl (λ i j _ _. first_fits source i) (λ i j _ l. value i j l)

  -- what was made of it
  pub one_number : {E : Type 0} (d : Extent) → d ≡ column → (r : Result Sparse E) → IfOk r (λ m. m ≡ record { shape = d; entries = one ∷ [] }) → IfOk r (λ m. m ≡ source_column shape.rows source)
  one_number d e (Ok m) is = is ∙ ap (λ (x : Extent). let m : Sparse = record { shape = x; entries = one ∷ [] } in m) e ∙ alone_source
  one_number d e (Err x) is = is
