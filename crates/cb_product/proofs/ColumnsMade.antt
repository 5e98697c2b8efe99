-- A matrix that is built column by column.
use Rattle.std.proofs.Common.{◌≡◌, ◌≢◌, ℕ, ◌+◌, ◌<◌, ◌≤◌, true, false, List, [], length, get_or, sym, ap, ◌∙◌, ⊎_elim, arith, subst}
use Rattle.std.specs.Prelude.{All, AllPairs}
use Rattle.std.proofs.lemmas.Bool.{cases_Bool, cases_eq, cases_lt}
use Rattle.std.proofs.lemmas.List.{get_or_default, get_or_past}
use Rattle.std.proofs.lemmas.List.Elements.{All-nil, All-weaker, All-get_or}
use Rattle.cb_semirings.specs.Arithmetic.{Arithmetic, IsSemiring}
use Rattle.cb_matrix.specs.declared.Entry.{Entry}
use Rattle.cb_matrix.specs.Sparse.{Sparse, Extent, IsMatrix, is_at, at, value_at}
use Rattle.cb_matrix.specs.Values.{matrix_of, empty_matrix}
use Rattle.cb_matrix.proofs.Places.{is_at-parts, value_at-none}
use Rattle.cb_matrix.proofs.Equal.{matrix_is}
use Rattle.cb_product.specs.InColumns.{AreInColumns}
use Rattle.cb_product.proofs.AbsentColumns.{all_columns}
use Rattle.cb_product.proofs.StoredColumn.{AddsColumn, none_of_column}

-- `out` has the values of f in the columns below c, and no entries in others
pub record IsMadeTo (s : Arithmetic) (extent : Extent) (f : ℕ → ℕ → ℕ) (c : ℕ) (out : Sparse) : Type 0 where
  pub shape : out.shape ≡ extent
  pub matrix : IsMatrix s out
  pub before : All (λ e. e.column < c) out.entries
  pub done : (i j : ℕ) → j < c → at s out i j ≡ f i j

module _ (s : Arithmetic) (extent : Extent) (f : ℕ → ℕ → ℕ) where
  -- the matrix without entries has the columns below 0
  pub made_none : (out : Sparse) → IsMatrix s out → out ≡ empty_matrix extent → IsMadeTo s extent f 0 out
  made_none out is e =
      let none : out.entries ≡ [] = ap (λ (m : Sparse). m.entries) e in
      record {
        shape = ap (λ (m : Sparse). m.shape) e;
        matrix = is;
        before = subst (λ es. All (λ e. e.column < 0) es) (sym none) (All-nil (λ e. e.column < 0));
        done = λ i j l. absurd (omega arith);
      }

  -- columns in which f is zero need no entries
  pub made_past : (out : Sparse) (c d : ℕ) → c ≤ d → ((i j : ℕ) → c ≤ j → j < d → f i j ≡ s.zero) → IsMadeTo s extent f c out → IsMadeTo s extent f d out
  made_past out c d l nothing h = record {
    shape = h.shape;
    matrix = h.matrix;
    before = All-weaker (λ e. e.column < c) (λ e. e.column < d) (λ e k. omega arith) out.entries h.before;
    done = λ i j m. ⊎_elim
        (λ (k : j < c). h.done i j k)
        (λ (k : c ≤ j). value_at-none s.zero out.entries i j (none_of_column j i out.entries (All-weaker (λ e. e.column < c) (λ e. e.column < j) (λ e q. omega arith) out.entries h.before)) ∙ sym (nothing i j k m))
        (cases_lt j c);
  }

  -- one more column
  pub made_more : (old new : Sparse) (c : ℕ) (g : ℕ → ℕ) → AddsColumn s c g old new → ((i : ℕ) → g i ≡ f i c) → IsMadeTo s extent f c old → IsMadeTo s extent f (c + 1) new
  made_more old new c g adds same h = record {
    shape = adds.shape ∙ h.shape;
    matrix = adds.matrix;
    before = All-weaker (λ e. e.column ≤ c) (λ e. e.column < c + 1) (λ e k. omega arith) new.entries adds.up_to;
    done = λ i j m. ⊎_elim
        (λ (k : j < c). let other : j ≢ c = omega arith in adds.elsewhere i j other ∙ h.done i j k)
        (λ (k : c ≤ j). let e : j ≡ c = omega arith in ap (at s new i) e ∙ adds.here i ∙ same i ∙ ap (f i) (sym e))
        (cases_lt j c);
  }

  -- with all columns, it is the matrix of f
  pub made_all : IsSemiring s → (out : Sparse) → IsMadeTo s extent f extent.cols out → out ≡ matrix_of s extent f
  made_all laws out h = matrix_is s laws out extent f h.matrix h.shape (λ i j l m. h.done i j m)

-- ---- ascending numbers, and those that they leave out
-- a number before the first isn't one of them
pub before_first : (cs : List ℕ) (bound j : ℕ) → AllPairs (λ c d. c < d) cs → j < get_or cs 0 bound → All (λ c. c ≢ j) cs
before_first cs bound j up l k d lk same =
    let first : get_or cs 0 bound ≡ get_or cs 0 d = get_or_default cs 0 bound d (omega arith) in
    ⊎_elim
    (λ (z : k ≡ 0). let w = ap (λ x. get_or cs x d) z in absurd (omega arith))
    (λ (z : k ≡ 0 → ⊥). let nz : k ≢ 0 = z in let w : get_or cs 0 d < get_or cs k d = up 0 k d (omega arith) lk in absurd (omega arith))
    (cases_eq k 0)

-- nor is a number between two adjacent ones
pub between : (cs : List ℕ) (bound n j : ℕ) → AllPairs (λ c d. c < d) cs → n < length cs → get_or cs n 0 < j → j < get_or cs (n + 1) bound → All (λ c. c ≢ j) cs
between cs bound n j up l low high k d lk same =
    let at_n : get_or cs n d ≡ get_or cs n 0 = get_or_default cs n d 0 l in
    ⊎_elim
    (λ (b : k < n). let w : get_or cs k d < get_or cs n d = up k n d b l in absurd (omega arith))
    (λ (b : n ≤ k). ⊎_elim
    (λ (e : k ≡ n). let w = ap (λ x. get_or cs x d) e in absurd (omega arith))
    (λ (e : k ≡ n → ⊥).
    let ek : k ≢ n = e in
    let next : get_or cs (n + 1) bound ≡ get_or cs (n + 1) d = get_or_default cs (n + 1) bound d (omega arith) in
    ⊎_elim
    (λ (e1 : k ≡ n + 1). let w = ap (λ x. get_or cs x d) e1 in absurd (omega arith))
    (λ (e1 : k ≡ n + 1 → ⊥). let ek1 : k ≢ n + 1 = e1 in let w : get_or cs (n + 1) d < get_or cs k d = up (n + 1) k d (omega arith) lk in absurd (omega arith))
    (cases_eq k (n + 1)))
    (cases_eq k n))
    (cases_lt k n)

-- each number is below the next one or, if it is the last, below the bound
pub below_next : (cs : List ℕ) (bound n : ℕ) → AllPairs (λ c d. c < d) cs → All (λ c. c < bound) cs → n < length cs → get_or cs n 0 < get_or cs (n + 1) bound
below_next cs bound n up within l =
    ⊎_elim
    (λ (m : n + 1 < length cs).
    let at_n : get_or cs n bound ≡ get_or cs n 0 = get_or_default cs n bound 0 l in
    let h : get_or cs n bound < get_or cs (n + 1) bound = up n (n + 1) bound (omega arith) m in omega arith)
    (λ (m : length cs ≤ n + 1).
    let past = get_or_past cs (n + 1) bound m in
    let h : get_or cs n 0 < bound = All-get_or (λ c. c < bound) cs n 0 l within in omega arith)
    (cases_lt (n + 1) (length cs))

-- ---- a list of columns, ascending; f is zero in all others
module _ (s : Arithmetic) (extent : Extent) (f : ℕ → ℕ → ℕ) (cs : List ℕ) (up : AllPairs (λ c d. c < d) cs) (within : All (λ c. c < extent.cols) cs) (absent : (i j : ℕ) → All (λ c. c ≢ j) cs → f i j ≡ s.zero) where
  -- before the first listed column
  pub walk_none : (out : Sparse) → IsMatrix s out → out ≡ empty_matrix extent → IsMadeTo s extent f (get_or cs 0 extent.cols) out
  walk_none out is e =
      made_past s extent f out 0 (get_or cs 0 extent.cols) (omega arith) (λ i j l m. absent i j (before_first cs extent.cols j up m)) (made_none s extent f out is e)

  -- with one more listed column
  pub walk_more : (old new : Sparse) (n : ℕ) (g : ℕ → ℕ) → n < length cs → AddsColumn s (get_or cs n 0) g old new → ((i : ℕ) → g i ≡ f i (get_or cs n 0)) → IsMadeTo s extent f (get_or cs n extent.cols) old
      → IsMadeTo s extent f (get_or cs (n + 1) extent.cols) new
  walk_more old new n g l adds same h =
      let here : get_or cs n extent.cols ≡ get_or cs n 0 = get_or_default cs n extent.cols 0 l in
      let next = below_next cs extent.cols n up within l in
      made_past s extent f new (get_or cs n 0 + 1) (get_or cs (n + 1) extent.cols) (omega arith) (λ i j b m. absent i j (between cs extent.cols n j up l (omega arith) m))
      (made_more s extent f old new (get_or cs n 0) g adds same (subst (λ c. IsMadeTo s extent f c old) here h))

  -- with all listed columns, it is the matrix of f
  pub walk_all : IsSemiring s → (out : Sparse) (n : ℕ) → length cs ≤ n → IsMadeTo s extent f (get_or cs n extent.cols) out → out ≡ matrix_of s extent f
  walk_all laws out n l h = made_all s extent f laws out (subst (λ c. IsMadeTo s extent f c out) (get_or_past cs n extent.cols l) h)

-- the entries so far are before the next listed column
pub before_column : (s : Arithmetic) (extent : Extent) (f : ℕ → ℕ → ℕ) (cs : List ℕ) (n : ℕ) (out : Sparse) → n < length cs → IsMadeTo s extent f (get_or cs n extent.cols) out → All (λ e. e.column < get_or cs n 0) out.entries
before_column s extent f cs n out l h = subst (λ c. All (λ e. e.column < c) out.entries) (get_or_default cs n extent.cols 0 l) h.before

-- the value is zero in a column that has no entries
pub absent_value : (z : ℕ) (es : List Entry) (cs : List ℕ) (i j : ℕ) → AreInColumns cs es → All (λ c. c ≢ j) cs → value_at z es i j ≡ z
absent_value z es cs i j stand others =
    value_at-none z es i j
    (All-weaker (λ e. e.column ≢ j) (λ e. is_at i j e ≡ false) (λ e n. ⊎_elim (λ (t : is_at i j e ≡ true). absurd (n (sym (is_at-parts e i j t).1))) (λ (u : is_at i j e ≡ false). u) (cases_Bool (is_at i j e))) es
    (all_columns (λ c. c ≢ j) cs es stand others))
