-- The diagonal of a matrix as a column, row by row.
use Rattle.std.proofs.Common.{◌≡◌, ◌≢◌, ℕ, ◌+◌, ◌<◌, ◌≤◌, true, false, inr, List, [], ◌∷◌, ◌++◌, length, get_or, sym, refl, ap, ◌∙◌, ⊎_elim, arith, subst}
use Rattle.std.specs.Prelude.{All, AllPairs, min}
use Rattle.std.proofs.lemmas.Bool.{cases_Bool, cases_lt}
use Rattle.std.proofs.lemmas.List.{get_or_default, get_or_past}
use Rattle.std.proofs.lemmas.List.Elements.{All-nil, All-append, All-weaker, All-get_or}
use Rattle.cb_semirings.specs.Arithmetic.{Arithmetic, IsSemiring}
use Rattle.cb_matrix.specs.declared.Entry.{Entry}
use Rattle.cb_matrix.specs.Combined.{stored}
use Rattle.cb_matrix.specs.Sparse.{Sparse, Extent, IsMatrix, IsBefore, is_at, at, value_at}
use Rattle.cb_matrix.specs.Values.{empty_matrix}
use Rattle.cb_matrix.proofs.Places.{is_at-own, is_at-parts, value_at-none, value_at-append_left, value_at-append_right}
use Rattle.cb_matrix.proofs.Stored.{stored_all, stored_last, none_before, one_none, value_at-one}
use Rattle.cb_matrix.proofs.Made.{at-outside}
use Rattle.cb_matrix.proofs.Equal.{matrix_is}
use Rattle.cb_dcsc.specs.Columns.{with_entries}
use Rattle.cb_product.specs.InColumns.{AreInColumns}
use Rattle.cb_operations.specs.SelectionAnswers.{diagonal_of}
use Rattle.cb_product.proofs.ColumnsMade.{before_first, between, below_next, absent_value}

-- `out` has the values of f in the rows of its column below r, and no entry from there on
pub record IsColumnTo (s : Arithmetic) (extent : Extent) (f : ℕ → ℕ) (r : ℕ) (out : Sparse) : Type 0 where
  pub shape : out.shape ≡ extent
  pub matrix : IsMatrix s out
  pub before : All (λ e. (e.column ≡ 0) × (e.row < r)) out.entries
  pub done : (i : ℕ) → i < r → at s out i 0 ≡ f i

-- the entry at a row of the column
abbrev pub column_entry : ℕ → ℕ → Entry
column_entry r v = record { row = r; column = 0; value = v }

not_there : (i r : ℕ) (es : List Entry) → r ≤ i → All (λ e. (e.column ≡ 0) × (e.row < r)) es → All (λ e. is_at i 0 e ≡ false) es
not_there i r es l h = All-weaker (λ e. (e.column ≡ 0) × (e.row < r)) (λ e. is_at i 0 e ≡ false) (λ e k. ⊎_elim (λ (t : is_at i 0 e ≡ true). let p = (is_at-parts e i 0 t).0 in let b = k.1 in absurd (omega arith)) (λ (u : is_at i 0 e ≡ false). u) (cases_Bool (is_at i 0 e))) es h

module _ (s : Arithmetic) (extent : Extent) (f : ℕ → ℕ) where
  -- none yet
  column_none : (out : Sparse) → IsMatrix s out → out ≡ empty_matrix extent → IsColumnTo s extent f 0 out
  column_none out is e =
      let none : out.entries ≡ [] = ap (λ (m : Sparse). m.entries) e in
      record {
        shape = ap (λ (m : Sparse). m.shape) e;
        matrix = is;
        before = subst (λ es. All (λ e. (e.column ≡ 0) × (e.row < 0)) es) (sym none) (All-nil (λ e. (e.column ≡ 0) × (e.row < 0)));
        done = λ i l. absurd (omega arith);
      }

  -- rows without values are had
  column_past : (out : Sparse) (c d : ℕ) → c ≤ d → ((i : ℕ) → c ≤ i → i < d → f i ≡ s.zero) → IsColumnTo s extent f c out → IsColumnTo s extent f d out
  column_past out c d l nothing h = record {
    shape = h.shape;
    matrix = h.matrix;
    before = All-weaker (λ e. (e.column ≡ 0) × (e.row < c)) (λ e. (e.column ≡ 0) × (e.row < d)) (λ e k. let b = k.1 in (k.0, omega arith)) out.entries h.before;
    done = λ i m. ⊎_elim
        (λ (k : i < c). h.done i k)
        (λ (k : c ≤ i). value_at-none s.zero out.entries i 0 (not_there i c out.entries k h.before) ∙ sym (nothing i k m))
        (cases_lt i c);
  }

  -- all that is stored is before the next
  entries_before : (out : Sparse) (c v : ℕ) → IsColumnTo s extent f c out → All (λ x. IsBefore x (column_entry c v)) out.entries
  entries_before out c v h = All-weaker (λ e. (e.column ≡ 0) × (e.row < c)) (λ x. IsBefore x (column_entry c v)) (λ e k. inr (k.0, k.1)) out.entries h.before

  -- one more row
  column_more : (old new : Sparse) (c v : ℕ) → v ≡ f c → new ≡ with_entries old (stored s.zero (column_entry c v)) → IsMatrix s new → IsColumnTo s extent f c old → IsColumnTo s extent f (c + 1) new
  column_more old new c v v_is new_is new_matrix h =
      let e : Entry = column_entry c v in
      let es : new.entries ≡ old.entries ++ stored s.zero e = ap (λ (m : Sparse). m.entries) new_is in
      let up = entries_before old c v h in
      record {
        shape = ap (λ (m : Sparse). m.shape) new_is ∙ h.shape;
        matrix = new_matrix;
        before = subst (All (λ e. (e.column ≡ 0) × (e.row < c + 1))) (sym es) (All-append (λ e. (e.column ≡ 0) × (e.row < c + 1)) old.entries (stored s.zero e)
            (All-weaker (λ e. (e.column ≡ 0) × (e.row < c)) (λ e. (e.column ≡ 0) × (e.row < c + 1)) (λ e k. let b = k.1 in (k.0, omega arith)) old.entries h.before)
            (stored_all s.zero (λ e. (e.column ≡ 0) × (e.row < c + 1)) e (λ _. (refl, omega arith))));
        done = λ i m. ap (λ xs. value_at s.zero xs i 0) es ∙ stored_last s.zero old.entries e i 0 up ∙ ⊎_elim
            (λ (k : i < c).
            let off : is_at i 0 e ≡ false = ⊎_elim (λ (t : is_at i 0 e ≡ true). let p = (is_at-parts e i 0 t).0 in absurd (omega arith)) (λ (u : is_at i 0 e ≡ false). u) (cases_Bool (is_at i 0 e)) in
            value_at-append_left s.zero old.entries (e ∷ []) i 0 (one_none e i 0 off) ∙ h.done i k)
            (λ (k : c ≤ i).
            let here : i ≡ c = omega arith in
            value_at-append_right s.zero old.entries (e ∷ []) i 0 (none_before old.entries e i 0 here refl up) ∙ value_at-one s.zero e i 0 (is_at-own e i 0 here refl) ∙ v_is ∙ ap f (sym here))
            (cases_lt i c);
      }

-- ---- the diagonal, by the columns that have entries
abbrev pub side_of : Sparse → Extent
side_of a = record { rows = min a.shape.rows a.shape.cols; cols = 1 }

abbrev pub own : Arithmetic → Sparse → ℕ → ℕ
own s a i = at s a i i

module _ (s : Arithmetic) (a : Sparse) (is : IsMatrix s a) (cs : List ℕ) (up : AllPairs (λ c d. c < d) cs) (within : All (λ c. c < a.shape.cols) cs) (stand : AreInColumns cs a.entries) where
  -- before the first
  pub diagonal_none : (out : Sparse) → IsMatrix s out → out ≡ empty_matrix (side_of a) → IsColumnTo s (side_of a) (own s a) (get_or cs 0 a.shape.cols) out
  diagonal_none out m e =
      column_past s (side_of a) (own s a) out 0 (get_or cs 0 a.shape.cols) (omega arith) (λ i _ l. absent_value s.zero a.entries cs i i stand (before_first cs a.shape.cols i up l)) (column_none s (side_of a) (own s a) out m e)

  module _ (n : ℕ) (l : n < length cs) (old : Sparse) (h : IsColumnTo s (side_of a) (own s a) (get_or cs n a.shape.cols) old) where
    so_far : IsColumnTo s (side_of a) (own s a) (get_or cs n 0) old
    so_far = subst (λ c. IsColumnTo s (side_of a) (own s a) c old) (get_or_default cs n a.shape.cols 0 l) h

    -- a value on the diagonal is inside
    pub diagonal_inside : (v : ℕ) → v ≡ own s a (get_or cs n 0) → v ≢ s.zero → get_or cs n 0 < old.shape.rows
    diagonal_inside v v_is some =
        let c = get_or cs n 0 in
        let col : c < a.shape.cols = All-get_or (λ c. c < a.shape.cols) cs n 0 l within in
        let rows : old.shape.rows ≡ min a.shape.rows a.shape.cols = ap (λ (x : Extent). x.rows) h.shape in
        ⊎_elim
        (λ (k : c < a.shape.rows). omega arith)
        (λ (k : a.shape.rows ≤ c). absurd (some (v_is ∙ at-outside s.zero a.shape a.entries c c is.inside (λ x _. omega arith))))
        (cases_lt c a.shape.rows)

    -- the n-th more
    pub diagonal_more : (new : Sparse) (v : ℕ) → v ≡ own s a (get_or cs n 0) → new ≡ with_entries old (stored s.zero (column_entry (get_or cs n 0) v)) → IsMatrix s new → IsColumnTo s (side_of a) (own s a) (get_or cs (n + 1) a.shape.cols) new
    diagonal_more new v v_is new_is m =
        let next = below_next cs a.shape.cols n up within l in
        column_past s (side_of a) (own s a) new (get_or cs n 0 + 1) (get_or cs (n + 1) a.shape.cols) (omega arith)
        (λ i b k. absent_value s.zero a.entries cs i i stand (between cs a.shape.cols n i up l (omega arith) k))
        (column_more s (side_of a) (own s a) old new (get_or cs n 0) v v_is new_is m so_far)

  -- and all
  pub diagonal_all : IsSemiring s → (out : Sparse) (n : ℕ) → length cs ≤ n → IsColumnTo s (side_of a) (own s a) (get_or cs n a.shape.cols) out → out ≡ diagonal_of s a
  diagonal_all laws out n l h =
      let past = get_or_past cs n a.shape.cols l in
      matrix_is s laws out (side_of a) (λ i j. at s a i i) h.matrix h.shape (λ i j k m. let z : j ≡ 0 = omega arith in let low : i < a.shape.cols = omega arith in ap (at s out i) z ∙ h.done i (omega arith))
