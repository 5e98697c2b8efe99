-- The sum of a column over all rows is the sum of its stored values.
use Rattle.std.proofs.Common.{◌≡◌, ℕ, ◌<◌, true, false, cond, List, [], ◌∷◌, length, map, sym, refl, ap, ◌∙◌, arith}
use Rattle.std.specs.Prelude.{All, AllPairs, ◌==◌}
use Rattle.std.specs.List.{range_with_len}
use Rattle.std.proofs.lemmas.Bool.{eq-eqb, ne_eqb, eqb-true, cond-true}
use Rattle.std.proofs.lemmas.List.Elements.{All-head, All-tail, All-get_or}
use Rattle.cb_semirings.specs.Arithmetic.{Arithmetic, IsValue, IsSemiring}
use Rattle.cb_matrix.specs.Sparse.{Sparse, IsMatrix, at}
use Rattle.cb_matrix.specs.Values.{total}
use Rattle.cb_matrix.proofs.Pairs.{AllPairs-head, AllPairs-tail}
use Rattle.cb_matrix.proofs.Totals.{add_zero, total-zero, total-same, total-add, total-single}
use Rattle.cb_dcsc.specs.Columns.{in_column, rows_of, values_of, row_value}
use Rattle.cb_dcsc.proofs.Lookup.{column_value, row_value-absent, column_ascends, as_long, rows_inside, column_values}

module _ (s : Arithmetic) (laws : IsSemiring s) where
  -- the value of a column at a row is a value of the semiring
  row_is_value : (rs vs : List ℕ) (i : ℕ) → All (IsValue s) vs → IsValue s (row_value s.zero rs vs i)
  unfolding row_value
  row_is_value [] vs i h = laws.zero_value
  row_is_value (r ∷ rs) [] i h = laws.zero_value
  row_is_value (r ∷ rs) (v ∷ vs) i h =
      elim (r == i) as (λ b. IsValue s (cond b v (row_value s.zero rs vs i))) [
        | true ↦ All-head (IsValue s) v vs h
        | false ↦ row_is_value rs vs i (All-tail (IsValue s) v vs h)
      ]

  -- the first entry of a column, and the others
  first_and_rest : (r v : ℕ) (rs vs : List ℕ) (i : ℕ) → All (λ k. r < k) rs → All (IsValue s) (v ∷ vs) →
      row_value s.zero (r ∷ rs) (v ∷ vs) i ≡ s.add (cond (r == i) v s.zero) (row_value s.zero rs vs i)
  unfolding row_value
  first_and_rest r v rs vs i later h =
      elim (r == i) as (λ b. (r == i) ≡ b → cond b v (row_value s.zero rs vs i) ≡ s.add (cond b v s.zero) (row_value s.zero rs vs i)) [
        | true ↦ λ t.
            let e : r ≡ i = eqb-true r i t in
            let none : row_value s.zero rs vs i ≡ s.zero = row_value-absent s.zero rs vs i (λ k l. let m = All-get_or (λ k. r < k) rs k 0 l later in omega arith) in
            sym (ap (s.add v) none ∙ add_zero s laws v (All-head (IsValue s) v vs h))
        | false ↦ λ _. sym (laws.zero_add (row_value s.zero rs vs i) (row_is_value rs vs i (All-tail (IsValue s) v vs h)))
      ] refl

  -- the sum of a column over all rows
  pub stored_sum : (rs vs : List ℕ) (m : ℕ) → length vs ≡ length rs → AllPairs (λ i j. i < j) rs → All (λ i. i < m) rs → All (IsValue s) vs →
      total s (map (row_value s.zero rs vs) (range_with_len 0 m)) ≡ total s vs
  unfolding total row_value
  stored_sum [] [] m e up inside h = total-zero s laws (row_value s.zero [] []) 0 m (λ k l. refl)
  stored_sum [] (v ∷ vs) m e up inside h = absurd (omega arith)
  stored_sum (r ∷ rs) [] m e up inside h = absurd (omega arith)
  stored_sum (r ∷ rs) (v ∷ vs) m e up inside h =
      let rest = All-tail (IsValue s) v vs h in
      let first = All-head (IsValue s) v vs h in
      let later = AllPairs-head (λ i j. i < j) r rs up in
      let here : ℕ → ℕ = λ i. cond (r == i) v s.zero in
      let here_value : (i : ℕ) → IsValue s (here i) = λ i. elim (r == i) as (λ b. IsValue s (cond b v s.zero)) [ true ↦ first | false ↦ laws.zero_value ] in
      let own : here r ≡ v = cond-true _ _ _ (eq-eqb r r refl) in
      let below = All-head (λ i. i < m) r rs inside in
      let alone : total s (map here (range_with_len 0 m)) ≡ v =
      total-single s laws here 0 m r here_value (omega arith) (omega arith) (λ k ne. let f : (r == k) ≡ false = ne_eqb r k (λ p. ne (sym p)) in rw f refl) ∙ own in
      total-same s laws (row_value s.zero (r ∷ rs) (v ∷ vs)) (λ i. s.add (here i) (row_value s.zero rs vs i)) (λ i. first_and_rest r v rs vs i later h) (range_with_len 0 m)
      ∙ total-add s laws here (row_value s.zero rs vs) here_value (λ i. row_is_value rs vs i rest) (range_with_len 0 m)
      ∙ ap (λ x. s.add x (total s (map (row_value s.zero rs vs) (range_with_len 0 m)))) alone
      ∙ ap (s.add v) (stored_sum rs vs m (omega arith) (AllPairs-tail (λ i j. i < j) r rs up) (All-tail (λ i. i < m) r rs inside) rest)

  -- the sum of a column of a matrix
  pub column_total : (a : Sparse) → IsMatrix s a → (j : ℕ) → total s (map (λ k. at s a k j) (range_with_len 0 a.shape.rows)) ≡ total s (values_of (in_column j a.entries))
  column_total a is j =
      let rs = rows_of (in_column j a.entries) in
      let vs = values_of (in_column j a.entries) in
      total-same s laws (λ k. at s a k j) (row_value s.zero rs vs) (λ k. sym (column_value s.zero a.entries k j)) (range_with_len 0 a.shape.rows)
      ∙ stored_sum rs vs a.shape.rows (as_long a.entries rs vs j refl refl) (column_ascends j a.entries is.ascending) (rows_inside s a j rs is refl) (column_values s a j vs is refl)
