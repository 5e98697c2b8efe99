-- The columns that have entries, in order.
use Rattle.std.proofs.Common.{◌≡◌, ◌≢◌, ℕ, ◌<◌, ◌≤◌, true, false, cond, List, [], ◌∷◌, refl, ⊎_elim, arith}
use Rattle.std.specs.Prelude.{All, AllPairs, ◌==◌}
use Rattle.std.proofs.lemmas.Bool.{eqb-false}
use Rattle.std.proofs.lemmas.List.Elements.{All-nil, All-cons, All-head, All-weaker}
use Rattle.cb_matrix.specs.declared.Entry.{Entry}
use Rattle.cb_matrix.specs.Sparse.{IsBefore}
use Rattle.cb_matrix.proofs.Places.{AllPairs-head, AllPairs-tail}
use Rattle.cb_matrix.proofs.Made.{AllPairs-nil, AllPairs-cons}
use Rattle.cb_dcsc.specs.Columns.{columns_with_entries, with_front}
use Rattle.cb_dcsc.proofs.NumbersOfColumns.{columns_all}

-- the columns that have entries ascend
pub columns_ascend : (es : List Entry) → AllPairs IsBefore es → AllPairs (λ c d. c < d) (columns_with_entries es)
unfolding columns_with_entries
columns_ascend [] h = AllPairs-nil (λ c d. c < d)
columns_ascend (e ∷ es) h =
    front e.column (columns_with_entries es)
    (columns_all (λ c. e.column ≤ c) es (All-weaker (IsBefore e) (λ d. e.column ≤ d.column) (λ d b. ⊎_elim (λ l. omega arith) (λ l. omega arith) b) es (AllPairs-head IsBefore e es h)))
    (columns_ascend es (AllPairs-tail IsBefore e es h))
  where
    front : (c : ℕ) (cs : List ℕ) → All (λ d. c ≤ d) cs → AllPairs (λ c d. c < d) cs → AllPairs (λ c d. c < d) (with_front c cs)
    front c [] h k = AllPairs-cons (λ c d. c < d) c [] (All-nil (λ d. c < d)) k
    front c (d ∷ ds) h k = elim (c == d) as (λ b. (c == d) ≡ b → AllPairs (λ c d. c < d) (cond b (d ∷ ds) (c ∷ d ∷ ds))) [
      | true ↦ λ _. k
      | false ↦ λ f.
          let ne : c ≢ d = eqb-false c d f in
          let le : c ≤ d = All-head (λ d. c ≤ d) d ds h in
          let l : c < d = omega arith in
          AllPairs-cons (λ c d. c < d) c (d ∷ ds) (All-cons (λ d. c < d) d ds l (All-weaker (λ x. d < x) (λ x. c < x) (λ x m. omega arith) ds (AllPairs-head (λ c d. c < d) d ds k))) k
    ] refl
