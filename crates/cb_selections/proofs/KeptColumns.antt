-- The columns of a range, stored where they were behind others.
use Rattle.std.proofs.Common.{◌≡◌, ℕ, ◌+◌, ◌-◌, ◌<◌, ◌≤◌, true, false, cond, List, [], ◌∷◌, ◌++◌, map, filter, sym, refl, ap, ◌∙◌, ⊎_elim, arith}
use Rattle.std.specs.Prelude.{All}
use Rattle.std.proofs.lemmas.Bool.{cases_Bool, cases_lt, cond-false, true≢false}
use Rattle.std.proofs.lemmas.Bool.Decides.{nat_tests}
use Rattle.std.proofs.lemmas.List.Elements.{All-append, All-weaker, filter_passes}
use Rattle.cb_semirings.specs.Arithmetic.{Arithmetic}
use Rattle.cb_matrix.specs.declared.Entry.{Entry}
use Rattle.cb_matrix.specs.Sparse.{Sparse, Extent, IsMatrix, is_at, at, value_at}
use Rattle.cb_matrix.proofs.Places.{is_at-parts, value_at-append_left, value_at-append_right}
use Rattle.cb_dcsc.specs.Columns.{is_in_columns, moved_to, moved_columns, with_entries}
use Rattle.cb_product.proofs.StoredColumn.{none_of_column}
use Rattle.cb_product.proofs.ColumnsMade.{IsMadeTo}

module _ (first end : ℕ) where
  in_holds : (e : Entry) → is_in_columns (first, end) e ≡ true → (first ≤ e.column) × (e.column < end)
  in_holds e t = (in_first, in_end)
    where
      in_first : first ≤ e.column
      in_first = grind (arith, nat_tests)

      in_end : e.column < end
      in_end = grind (arith, nat_tests)

  in_from : (e : Entry) → first ≤ e.column → e.column < end → is_in_columns (first, end) e ≡ true
  in_from e l m = grind (arith, nat_tests)

  -- the entries of these columns, by their columns
  abbrev kept : List Entry → List Entry
  kept es = filter (is_in_columns (first, end)) es

  -- a move of the first column to itself moves nothing
  stays : (e : Entry) → first ≤ e.column → moved_to (0, first) first e ≡ e
  stays e l =
      let row : e.row + 0 ≡ e.row = omega arith in
      let column : e.column - first + first ≡ e.column = omega arith in
      λ t. record { row = row t; column = column t; value = e.value }

  columns_stay : (es : List Entry) → moved_columns (first, end) (0, first) es ≡ kept es
  columns_stay [] = refl
  columns_stay (e ∷ es) = elim (is_in_columns (first, end) e) as (λ b. is_in_columns (first, end) e ≡ b → map (moved_to (0, first) first) (cond b (e ∷ kept es) (kept es)) ≡ cond b (e ∷ kept es) (kept es)) [
    | true ↦ λ i t. stays e (in_holds e i).0 t ∷ columns_stay es t
    | false ↦ λ _. columns_stay es
  ] refl

  -- the values in these columns are kept
  kept_value : (z : ℕ) (es : List Entry) (i j : ℕ) → first ≤ j → j < end → value_at z (kept es) i j ≡ value_at z es i j
  unfolding value_at
  kept_value z [] i j l m = refl
  kept_value z (e ∷ es) i j l m = elim (is_in_columns (first, end) e) as (λ b. is_in_columns (first, end) e ≡ b → value_at z (cond b (e ∷ kept es) (kept es)) i j ≡ cond (is_at i j e) e.value (value_at z es i j)) [
    | true ↦ λ _. ap (cond (is_at i j e) e.value) (kept_value z es i j l m)
    | false ↦ λ out. kept_value z es i j l m ∙ sym (cond-false (is_at i j e) e.value (value_at z es i j) (elsewhere out))
  ] refl
    where
      elsewhere : is_in_columns (first, end) e ≡ false → is_at i j e ≡ false
      elsewhere out = ⊎_elim
          (λ (t : is_at i j e ≡ true).
          let column : j ≡ e.column = (is_at-parts e i j t).1 in
          absurd (true≢false (sym (in_from e (omega arith) (omega arith)) ∙ out)))
          (λ (f : is_at i j e ≡ false). f)
          (cases_Bool (is_at i j e))

  kept_first : (es : List Entry) → All (λ e. first ≤ e.column) (kept es)
  kept_first es = All-weaker (λ e. is_in_columns (first, end) e ≡ true) (λ e. first ≤ e.column) (λ e t. (in_holds e t).0) (kept es) (filter_passes (is_in_columns (first, end)) es)

  kept_end : (es : List Entry) → All (λ e. e.column < end) (kept es)
  kept_end es = All-weaker (λ e. is_in_columns (first, end) e ≡ true) (λ e. e.column < end) (λ e t. (in_holds e t).1) (kept es) (filter_passes (is_in_columns (first, end)) es)

  none_in_front : (es : List Entry) (i j : ℕ) → j < first → All (λ e. is_at i j e ≡ false) (kept es)
  none_in_front es i j l = All-weaker (λ e. first ≤ e.column) (λ e. is_at i j e ≡ false)
      (λ e m. ⊎_elim (λ (t : is_at i j e ≡ true). let column : j ≡ e.column = (is_at-parts e i j t).1 in absurd (omega arith)) (λ (f : is_at i j e ≡ false). f) (cases_Bool (is_at i j e)))
      (kept es) (kept_first es)

  -- a matrix that is made up to the first of these columns, with those of a matrix that has the same values in them
  pub made_columns : (s : Arithmetic) (extent : Extent) (f : ℕ → ℕ → ℕ) (a old new : Sparse) → first ≤ end → IsMadeTo s extent f first old → new ≡ with_entries old (moved_columns (first, end) (0, first) a.entries) → IsMatrix s new
      → ((i j : ℕ) → first ≤ j → j < end → f i j ≡ at s a i j) → IsMadeTo s extent f end new
  made_columns s extent f a old new order h e is same =
      let more = kept a.entries in
      let entries : new.entries ≡ old.entries ++ more = ap (λ (m : Sparse). m.entries) e ∙ ap (λ xs. old.entries ++ xs) (columns_stay a.entries) in
      record {
        shape = ap (λ (m : Sparse). m.shape) e ∙ h.shape;
        matrix = is;
        before = rw entries (All-append (λ e. e.column < end) old.entries more (All-weaker (λ e. e.column < first) (λ e. e.column < end) (λ e l. omega arith) old.entries h.before) (kept_end a.entries));
        done = λ i j m. ap (λ es. value_at s.zero es i j) entries ∙ ⊎_elim
            (λ (l : j < first). value_at-append_left s.zero old.entries more i j (none_in_front a.entries i j l) ∙ h.done i j l)
            (λ (l : first ≤ j).
            value_at-append_right s.zero old.entries more i j (none_of_column j i old.entries (All-weaker (λ e. e.column < first) (λ e. e.column < j) (λ e k. omega arith) old.entries h.before))
            ∙ kept_value s.zero a.entries i j l m ∙ sym (same i j l m))
            (cases_lt j first);
      }
