-- Ranges of columns, as lists.
use Rattle.std.proofs.Common.{◌≡◌, ℕ, ◌+◌, ◌-◌, ◌<◌, ◌≤◌, true, false, Bool, cond, List, [], ◌∷◌, get_or, filter, sym, refl, subst, arith}
use Rattle.std.specs.Prelude.{All, Contains}
use Rattle.std.specs.List.{range_with_len}
use Rattle.std.proofs.lemmas.List.FromFn.{length-range_with_len, get_or-range_with_len}
use Rattle.std.proofs.lemmas.List.Elements.{All-head, All-tail, All-weaker, Contains-get_or}
use Rattle.cb_semirings.specs.Arithmetic.{Arithmetic}
use Rattle.cb_matrix.specs.declared.Entry.{Entry}
use Rattle.cb_matrix.specs.Sparse.{Sparse, IsMatrix, IsInside}
use Rattle.cb_product.specs.InColumns.{is_among, only_columns}
use Rattle.cb_product.proofs.OnlyColumns.{among_from, among_holds, only_all}
use Rattle.cb_shares.specs.Shares.{columns_from}

-- a range has only columns from its first on and before its end
pub range_holds : (first end c : ℕ) → is_among (columns_from first end) c ≡ true → (first ≤ c) × (c < end)
range_holds first end c h =
    let k = among_holds (columns_from first end) c h in
    let kl = k.1 in
    let long = length-range_with_len first (end - first) in
    let l : k.0 < end - first = omega arith in
    let e : get_or (range_with_len first (end - first)) k.0 c ≡ first + k.0 = get_or-range_with_len first (end - first) k.0 c l in
    let same : get_or (range_with_len first (end - first)) k.0 c ≡ c = k.2 in
    (omega arith, omega arith)

-- and each of these
pub range_has : (first end c : ℕ) → first ≤ c → c < end → is_among (columns_from first end) c ≡ true
range_has first end c l m =
    let long = length-range_with_len first (end - first) in
    let e : get_or (range_with_len first (end - first)) (c - first) c ≡ first + (c - first) = get_or-range_with_len first (end - first) (c - first) c (omega arith) in
    let same : get_or (range_with_len first (end - first)) (c - first) c ≡ c = omega arith in
    among_from (columns_from first end) c (subst (Contains (columns_from first end)) same (Contains-get_or (columns_from first end) (c - first) c (omega arith)))

-- a test has one answer where each follows from the other
pub same_answer : (x y : Bool) → (x ≡ true → y ≡ true) → (y ≡ true → x ≡ true) → x ≡ y
same_answer true y f g = sym (f refl)
same_answer false true f g = g refl
same_answer false false f g = refl

-- lists that agree on the columns of entries keep the same of them
pub kept_same : (xs ys : List ℕ) (es : List Entry) → All (λ e. is_among xs e.column ≡ is_among ys e.column) es → filter (λ e. is_among xs e.column) es ≡ filter (λ e. is_among ys e.column) es
kept_same xs ys [] h = refl
kept_same xs ys (e ∷ es) h =
    let here : is_among xs e.column ≡ is_among ys e.column = All-head (λ e. is_among xs e.column ≡ is_among ys e.column) e es h in
    let rest = kept_same xs ys es (All-tail (λ e. is_among xs e.column ≡ is_among ys e.column) e es h) in
    λ i. cond (here i) (e ∷ rest i) (rest i)

-- lists that agree on the columns of a matrix leave the same of it
pub same_columns : (xs ys : List ℕ) (m : Sparse) → All (λ e. is_among xs e.column ≡ is_among ys e.column) m.entries → only_columns xs m ≡ only_columns ys m
same_columns xs ys m h i = record { shape = m.shape; entries = kept_same xs ys m.entries h i }

-- the range of all columns leaves the matrix as it is
pub all_columns : (s : Arithmetic) (m : Sparse) (end : ℕ) → IsMatrix s m → m.shape.cols ≤ end → only_columns (columns_from 0 end) m ≡ m
all_columns s m end is l =
    only_all (columns_from 0 end) m
    (All-weaker (IsInside m.shape) (λ e. Contains (columns_from 0 end) e.column)
    (λ e k. let inside : e.column < m.shape.cols = k.1 in among_holds (columns_from 0 end) e.column (range_has 0 end e.column (omega arith) (omega arith)))
    m.entries is.inside)
