-- The sum of all values of a matrix is the sum of its entries' values.
use Rattle.std.proofs.Common.{◌≡◌, ℕ, ◌<◌, true, false, cond, List, [], ◌∷◌, map, sym, refl, ap, ◌∙◌, arith}
use Rattle.std.specs.Prelude.{All, ◌==◌}
use Rattle.std.specs.List.{range_with_len}
use Rattle.std.proofs.lemmas.Bool.{eq-eqb, ne_eqb, cond-true}
use Rattle.std.proofs.lemmas.List.Elements.{All-head, All-tail, All-weaker}
use Rattle.cb_semirings.specs.Arithmetic.{Arithmetic, IsValue, IsSemiring}
use Rattle.cb_matrix.specs.declared.Entry.{Entry}
use Rattle.cb_matrix.specs.Sparse.{Sparse, IsMatrix, IsInside}
use Rattle.cb_matrix.specs.Values.{total}
use Rattle.cb_matrix.proofs.Totals.{total-zero, total-same, total-add, total-single, total-nil}
use Rattle.cb_dcsc.specs.Columns.{in_column, values_of}
use Rattle.cb_reshape.specs.Sums.{matrix_total, column_total}
use Rattle.cb_reshape.proofs.StoredSums as stored
use Rattle.cb_reshape.proofs.SumsSoFar.{stored_total}

module _ (s : Arithmetic) (laws : IsSemiring s) where
  abbrev AreValues : List Entry → Type 0
  AreValues es = All (λ (e : Entry). IsValue s e.value) es

  -- the sum of a column's stored values is a value of the semiring
  stored_value : (es : List Entry) (j : ℕ) → AreValues es → IsValue s (stored_total s es j)
  unfolding total
  stored_value [] j h = laws.zero_value
  stored_value (e ∷ es) j h =
      let first = All-head (λ (e : Entry). IsValue s e.value) e es h in
      let rest = stored_value es j (All-tail (λ (e : Entry). IsValue s e.value) e es h) in
      elim (e.column == j) as (λ b. IsValue s (total s (values_of (cond b (e ∷ in_column j es) (in_column j es))))) [
        | true ↦ laws.add_value e.value (stored_total s es j) first rest
        | false ↦ rest
      ]

  -- the first entry, and the others
  entry_and_rest : (e : Entry) (es : List Entry) (j : ℕ) → AreValues (e ∷ es) → stored_total s (e ∷ es) j ≡ s.add (cond (e.column == j) e.value s.zero) (stored_total s es j)
  unfolding total
  entry_and_rest e es j h =
      let rest = stored_value es j (All-tail (λ (e : Entry). IsValue s e.value) e es h) in
      elim (e.column == j) as (λ b. total s (values_of (cond b (e ∷ in_column j es) (in_column j es))) ≡ s.add (cond b e.value s.zero) (stored_total s es j)) [
        | true ↦ refl
        | false ↦ sym (laws.zero_add (stored_total s es j) rest)
      ]

  -- the sums of the columns below n add up to the sum of all values stored there
  columns_total : (es : List Entry) (n : ℕ) → All (λ (e : Entry). e.column < n) es → AreValues es → total s (map (stored_total s es) (range_with_len 0 n)) ≡ total s (values_of es)
  unfolding total
  columns_total [] n below h = total-zero s laws (stored_total s []) 0 n (λ k l. total-nil s laws)
  columns_total (e ∷ es) n below h =
      let first : IsValue s e.value = All-head (λ (e : Entry). IsValue s e.value) e es h in
      let rest = All-tail (λ (e : Entry). IsValue s e.value) e es h in
      let low : e.column < n = All-head (λ (e : Entry). e.column < n) e es below in
      let here : ℕ → ℕ = λ j. cond (e.column == j) e.value s.zero in
      let here_value : (j : ℕ) → IsValue s (here j) = λ j. elim (e.column == j) as (λ b. IsValue s (cond b e.value s.zero)) [ true ↦ first | false ↦ laws.zero_value ] in
      let own : here e.column ≡ e.value = cond-true _ _ _ (eq-eqb e.column e.column refl) in
      let alone : total s (map here (range_with_len 0 n)) ≡ e.value =
      total-single s laws here 0 n e.column here_value (omega arith) (omega arith) (λ k ne. let f : (e.column == k) ≡ false = ne_eqb e.column k (λ p. ne (sym p)) in rw f refl) ∙ own in
      total-same s laws (stored_total s (e ∷ es)) (λ j. s.add (here j) (stored_total s es j)) (λ j. entry_and_rest e es j h) (range_with_len 0 n)
      ∙ total-add s laws here (stored_total s es) here_value (λ j. stored_value es j rest) (range_with_len 0 n)
      ∙ ap (λ x. s.add x (total s (map (stored_total s es) (range_with_len 0 n)))) alone
      ∙ ap (s.add e.value) (columns_total es n (All-tail (λ (e : Entry). e.column < n) e es below) rest)

  pub values_total : (a : Sparse) → IsMatrix s a → total s (values_of a.entries) ≡ matrix_total s a
  values_total a is =
      let below = All-weaker (IsInside a.shape) (λ (e : Entry). e.column < a.shape.cols) (λ e h. h.1) a.entries is.inside in
      sym (total-same s laws (column_total s a) (stored_total s a.entries) (λ j. stored.column_total s laws a is j) (range_with_len 0 a.shape.cols)
      ∙ columns_total a.entries a.shape.cols below is.values)
