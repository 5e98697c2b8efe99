-- The columns of a range, copied where they are.
use Rattle.std.proofs.Common.{◌≡◌, ℕ, ◌+◌, ◌-◌, ◌<◌, ◌≤◌, true, List, [], ◌∷◌, ◌++◌, filter, refl, ◌∙◌, arith, ⊎_elim}
use Rattle.std.proofs.lemmas.Bool.{cases_Bool, cases_lt}
use Rattle.std.proofs.lemmas.Bool.Decides.{nat_tests}
use Rattle.std.proofs.lemmas.List.Elements.{All-weaker}
use Rattle.cb_semirings.specs.Arithmetic.{Arithmetic}
use Rattle.cb_matrix.specs.declared.Entry.{Entry}
use Rattle.cb_matrix.specs.Sparse.{Sparse, IsMatrix, IsInside}
use Rattle.cb_dcsc.specs.Columns.{is_in_columns, moved_columns, moved_to}
use Rattle.cb_layout.proofs.Splits.{filter_same}
use Rattle.cb_product.specs.InColumns.{is_among}
use Rattle.cb_shares.specs.Shares.{columns_from, panel}
use Rattle.cb_shares.proofs.Ranges.{range_holds, range_has, same_answer}

-- an entry of the columns from one on, moved so that this column stays where it is
stays : (p : ℕ) (e : Entry) → p ≤ e.column → moved_to (0, p) p e ≡ e
stays p e l = let r : e.row + 0 ≡ e.row = omega arith in let c : e.column - p + p ≡ e.column = omega arith in λ i. record { row = r i; column = c i; value = e.value }

first_of : (p q : ℕ) (e : Entry) → is_in_columns (p, q) e ≡ true → p ≤ e.column
first_of p q e h = grind (arith, nat_tests)

end_of : (p q : ℕ) (e : Entry) → is_in_columns (p, q) e ≡ true → e.column < q
end_of p q e h = grind (arith, nat_tests)

is_in : (p q : ℕ) (e : Entry) → p ≤ e.column → e.column < q → is_in_columns (p, q) e ≡ true
is_in p q e a b = grind (arith, nat_tests)

-- the entries of a range of columns, moved so that they stay where they are
all_stay : (p q : ℕ) (es : List Entry) → moved_columns (p, q) (0, p) es ≡ filter (is_in_columns (p, q)) es
all_stay p q [] = refl
all_stay p q (e ∷ es) =
    ⊎_elim
    (λ t. rw t (λ i. stays p e (first_of p q e t) i ∷ all_stay p q es i))
    (λ f. rw f (all_stay p q es))
    (cases_Bool (is_in_columns (p, q) e))

-- they are those of the panel, where the range ends with the last column at the latest
pub copied : (s : Arithmetic) (m : Sparse) → IsMatrix s m → (first end p q : ℕ) → q ≤ end → (end ≤ q → q ≡ end) → (q < end → m.shape.cols ≤ q) → p ≤ first → (p < first → q ≤ p)
    → record { shape = m.shape; entries = [] ++ moved_columns (p, q) (0, p) m.entries } ≡ panel m first end
copied s m is first end p q below same last before none i =
    record {
      shape = m.shape;
      entries = (all_stay p q m.entries ∙ filter_same (is_in_columns (p, q)) (λ e. is_among (columns_from first end) e.column) m.entries
          (All-weaker (IsInside m.shape) (λ e. is_in_columns (p, q) e ≡ is_among (columns_from first end) e.column)
          (λ e inside. let c : e.column < m.shape.cols = inside.1 in same_answer _ _
          (λ t. let a = first_of p q e t in let b = end_of p q e t in
          range_has first end e.column (⊎_elim (λ (l : p < first). let n = none l in absurd (omega arith)) (λ (l : first ≤ p). omega arith) (cases_lt p first)) (omega arith))
          (λ t. let h = range_holds first end e.column t in let h0 = h.0 in let h1 = h.1 in
          is_in p q e (omega arith) (⊎_elim (λ (l : q < end). let k = last l in omega arith) (λ (l : end ≤ q). omega arith) (cases_lt q end))))
          m.entries is.inside)) i;
    }
