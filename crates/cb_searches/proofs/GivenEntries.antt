-- Initial values, taken one after another from the entries of a column.
use Rattle.std.proofs.Common.{◌≡◌, ℕ, ◌+◌, ◌<◌, ◌≤◌, cond, length, take, get_or, subst, sym, ap, ◌∙◌}
use Rattle.std.specs.Prelude.{◌==◌}
use Rattle.cb_semirings.specs.Tables.{min_plus}
use Rattle.cb_matrix.specs.declared.Entry.{Entry}
use Rattle.cb_matrix.specs.Sparse.{Sparse, IsMatrix, value_at}
use Rattle.cb_searches.specs.declared.numbers.Numbers.{Numbers}
use Rattle.cb_searches.specs.Walks.{infinite}
use Rattle.cb_searches.specs.Numbers.{number_at, number_in, AreNumbers}
use Rattle.cb_searches.proofs.LowerEntries.{in_column, rows_apart, entries_finite}
use Rattle.cb_searches.proofs.TakenNumbers.{HasTaken, next_inside, taken_one, all_taken}

-- the numbers have the first i initial values, and nothing else
abbrev pub HaveGiven : Sparse → ℕ → Numbers → Type 0
HaveGiven given i now = (none : Numbers) × ((v : ℕ) → number_at none v ≡ infinite) × AreNumbers given.shape.rows none × HasTaken none now (take i given.entries)

module _ (given : Sparse) (is : IsMatrix min_plus given) (one : given.shape.cols ≡ 1) (i : ℕ) (now : Numbers) (before : HaveGiven given i now) where
  module _ (e : Entry) (l : i < length given.entries) (here : e ≡ get_or given.entries i e) where
    -- the next one's vertex is one of the column's
    pub given_inside : (n : ℕ) × AreNumbers n now × (e.row < n)
    given_inside =
        let h = next_inside given.entries i e l (rows_apart min_plus given is one) (in_column min_plus given is one) before.0 now now before.3 given.shape.rows before.2 (entries_finite given is) in
        (h.0, h.1, subst (λ (x : Entry). x.row < h.0) (sym here) h.2)

    -- with it, they have one more
    pub given_one : (next : Numbers) → ((v : ℕ) → number_at next v ≡ cond (v == e.row) e.value (number_at now v)) → ((n : ℕ) → AreNumbers n now → e.row < n → e.value < infinite → AreNumbers n next) → HaveGiven given (i + 1) next
    given_one next values finite = (
      before.0,
      before.1,
      before.2,
      taken_one given.entries i e l (rows_apart min_plus given is one) (in_column min_plus given is one) before.0 now next before.3
          (subst (λ (x : Entry). (v : ℕ) → number_at next v ≡ cond (v == x.row) x.value (number_at now v)) here values)
          (subst (λ (x : Entry). (n : ℕ) → AreNumbers n now → x.row < n → x.value < infinite → AreNumbers n next) here finite),
    )

  -- in the end they have all
  module _ (l : length given.entries ≤ i) where
    pub given_values : (v : ℕ) → number_at now v ≡ number_in given v
    given_values v = (all_taken before.0 now given.entries i l before.3).values v ∙ ap (λ (z : ℕ). value_at z given.entries v 0) (before.1 v)

    pub given_numbers : AreNumbers given.shape.rows now
    given_numbers = (all_taken before.0 now given.entries i l before.3).finite given.shape.rows before.2 (entries_finite given is)
