-- A column that is made row by row, as two lists.
use Rattle.std.proofs.Common.{◌≡◌, ◌≢◌, ℕ, ◌+◌, ◌<◌, ◌≤◌, List, [], ◌∷◌, ◌++◌, sym, refl, ap, ◌∙◌, ⊎_elim, arith, subst}
use Rattle.std.specs.Prelude.{All}
use Rattle.std.proofs.lemmas.Bool.{cases_eq, cases_lt, cond-true, cond-false, eq-eqb, ne_eqb}
use Rattle.std.proofs.lemmas.List.Elements.{All-nil, All-push, All-weaker}
use Rattle.cb_semirings.specs.Arithmetic.{Arithmetic, IsValue, IsSemiring}
use Rattle.cb_matrix.proofs.Pairs.{AllPairs-nil}
use Rattle.cb_dcsc.specs.Columns.{row_value}
use Rattle.cb_product.specs.SparseColumn.{IsSparseColumn}
use Rattle.cb_product.proofs.ColumnSoFar.{kept_column}
use Rattle.cb_product.proofs.RowValues.{absent_above, row_value-push}

-- rs and vs have the values of f in the rows below r, and no entry from there on
pub record IsListTo (s : Arithmetic) (f : ℕ → ℕ) (r : ℕ) (rs vs : List ℕ) : Type 0 where
  pub column : IsSparseColumn s rs vs
  pub before : All (λ i. i < r) rs
  pub done : (i : ℕ) → i < r → row_value s.zero rs vs i ≡ f i

module _ (s : Arithmetic) (f : ℕ → ℕ) where
  -- none yet
  pub list_none : (rs vs : List ℕ) → rs ≡ [] → vs ≡ [] → IsListTo s f 0 rs vs
  list_none rs vs p q = rw (p, q) (record {
    column = record { same_length = refl; ascending = AllPairs-nil (λ i j. i < j); are_values = All-nil (IsValue s); not_zero = All-nil (λ v. v ≢ s.zero) };
    before = All-nil (λ i. i < 0);
    done = λ i l. absurd (omega arith);
  })

  -- the same, of equal lists
  pub list_same : (r : ℕ) (rs vs ks ws : List ℕ) → ks ≡ rs → ws ≡ vs → IsListTo s f r rs vs → IsListTo s f r ks ws
  list_same r rs vs ks ws p q h = subst (λ xs. IsListTo s f r xs ws) (sym p) (subst (λ xs. IsListTo s f r rs xs) (sym q) h)

  -- rows without values are had
  pub list_past : (rs vs : List ℕ) (c d : ℕ) → c ≤ d → ((i : ℕ) → c ≤ i → i < d → f i ≡ s.zero) → IsListTo s f c rs vs → IsListTo s f d rs vs
  list_past rs vs c d l nothing h = record {
    column = h.column;
    before = All-weaker (λ i. i < c) (λ i. i < d) (λ i k. omega arith) rs h.before;
    done = λ i m. ⊎_elim (λ (k : i < c). h.done i k) (λ (k : c ≤ i). absent_above s.zero c rs vs i h.before k ∙ sym (nothing i k m)) (cases_lt i c);
  }

  -- one more row, with its value
  pub list_kept : IsSemiring s → (rs vs : List ℕ) (r v : ℕ) → IsValue s v → v ≡ f r → v ≢ s.zero → IsListTo s f r rs vs → IsListTo s f (r + 1) (rs ++ r ∷ []) (vs ++ v ∷ [])
  list_kept laws rs vs r v value v_is some h = record {
    column = kept_column s laws rs vs h.column r v value h.before some;
    before = All-push (λ i. i < r + 1) rs r (All-weaker (λ i. i < r) (λ i. i < r + 1) (λ i k. omega arith) rs h.before) (omega arith);
    done = λ i m. row_value-push s.zero rs vs r v i h.column.same_length h.before ∙ ⊎_elim
        (λ (e : r ≡ i). cond-true _ _ _ (eq-eqb r i e) ∙ v_is ∙ ap f e)
        (λ (n : r ≡ i → ⊥). let other : r ≢ i = n in cond-false _ _ _ (ne_eqb r i n) ∙ h.done i (omega arith))
        (cases_eq r i);
  }

  -- or without one
  pub list_dropped : (rs vs : List ℕ) (r : ℕ) → f r ≡ s.zero → IsListTo s f r rs vs → IsListTo s f (r + 1) rs vs
  list_dropped rs vs r none h = list_past rs vs r (r + 1) (omega arith) (λ i l m. let e : i ≡ r = omega arith in ap f e ∙ none) h
