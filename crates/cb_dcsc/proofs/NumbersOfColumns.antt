-- The columns that have entries, and the columns of entries.
use Rattle.std.proofs.Common.{◌≡◌, ℕ, ◌<◌, true, false, cond, List, [], ◌∷◌, sym, refl, subst}
use Rattle.std.specs.Prelude.{All, Contains, ◌==◌}
use Rattle.std.proofs.lemmas.Bool.{eqb-true}
use Rattle.std.proofs.lemmas.List.Elements.{All-head, All-tail, All-cons, All-nil, All-weaker, All-contains_itself}
use Rattle.cb_semirings.specs.Arithmetic.{Arithmetic}
use Rattle.cb_matrix.specs.declared.Entry.{Entry}
use Rattle.cb_matrix.specs.Sparse.{Sparse, IsMatrix, IsInside}
use Rattle.cb_dcsc.specs.Columns.{with_front, columns_with_entries}

with_front_all : (P : ℕ → Type 0) (c : ℕ) (ds : List ℕ) → P c → All P ds → All P (with_front c ds)
with_front_all P c [] p h = All-cons P c [] p h
with_front_all P c (d ∷ ds) p h = elim (c == d) as (λ b. All P (cond b (d ∷ ds) (c ∷ d ∷ ds))) [ true ↦ h | false ↦ All-cons P c (d ∷ ds) p h ]

-- what holds of the column of each entry holds of each column that has entries
pub columns_all : (P : ℕ → Type 0) (es : List Entry) → All (λ e. P e.column) es → All P (columns_with_entries es)
unfolding columns_with_entries
columns_all P [] h = All-nil P
columns_all P (e ∷ es) h = with_front_all P e.column (columns_with_entries es) (All-head (λ e. P e.column) e es h) (columns_all P es (All-tail (λ e. P e.column) e es h))

with_front_from : (P : ℕ → Type 0) (c : ℕ) (ds : List ℕ) → All P (with_front c ds) → P c × All P ds
with_front_from P c [] h = (All-head P c [] h, All-nil P)
with_front_from P c (d ∷ ds) h =
    elim (c == d) as (λ b. (c == d) ≡ b → All P (cond b (d ∷ ds) (c ∷ d ∷ ds)) → P c × All P (d ∷ ds)) [
      | true ↦ λ t k. (subst P (sym (eqb-true c d t)) (All-head P d ds k), k)
      | false ↦ λ _ k. (All-head P c (d ∷ ds) k, All-tail P c (d ∷ ds) k)
    ] refl h

-- and the other way round
pub entries_all : (P : ℕ → Type 0) (es : List Entry) → All P (columns_with_entries es) → All (λ e. P e.column) es
unfolding columns_with_entries
entries_all P [] h = All-nil (λ e. P e.column)
entries_all P (e ∷ es) h = let k = with_front_from P e.column (columns_with_entries es) h in All-cons (λ e. P e.column) e es k.0 (entries_all P es k.1)

-- each column is inside the shape
pub columns_inside : (s : Arithmetic) (m : Sparse) (cs : List ℕ) → IsMatrix s m → cs ≡ columns_with_entries m.entries → All (λ c. c < m.shape.cols) cs
columns_inside s m cs is e = rw e (columns_all (λ c. c < m.shape.cols) m.entries (All-weaker (IsInside m.shape) (λ e. e.column < m.shape.cols) (λ e k. k.1) m.entries is.inside))

-- each entry is in one of them
pub columns_hold : (es : List Entry) (cs : List ℕ) → cs ≡ columns_with_entries es → All (λ e. Contains cs e.column) es
columns_hold es cs e = rw e (entries_all (Contains (columns_with_entries es)) es (All-contains_itself (columns_with_entries es)))
