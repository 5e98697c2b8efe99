-- A matrix without its entries outside listed columns.
use Rattle.std.proofs.Common.{◌≡◌, ◌≢◌, ℕ, zero, suc, ◌<◌, true, false, true≢false, cond, List, [], ◌∷◌, length, get_or, filter, sym, refl, ap, ◌∙◌, ⊎_elim, arith, subst}
use Rattle.std.specs.Prelude.{All, Contains, ◌==◌, ◌||◌}
use Rattle.std.proofs.lemmas.Bool.{cases_Bool, eq-eqb, eqb-true, or_left, or_right}
use Rattle.std.proofs.lemmas.List.Elements.{All-head, All-tail, All-weaker, All-filter, filter_passes}
use Rattle.std.proofs.lemmas.List.Kept.{AllPairs-filter}
use Rattle.cb_semirings.specs.Arithmetic.{Arithmetic, IsValue}
use Rattle.cb_matrix.specs.declared.Entry.{Entry}
use Rattle.cb_matrix.specs.Sparse.{Sparse, IsMatrix, IsBefore, IsInside, value_at}
use Rattle.cb_dcsc.specs.Columns.{in_column, rows_of, values_of, row_value}
use Rattle.cb_dcsc.proofs.Lookup.{column_value}
use Rattle.cb_product.specs.InColumns.{AreInColumns, is_among, only_columns}

-- the column at each place of the list is listed
pub among_at : (cs : List ℕ) (n d : ℕ) → n < length cs → is_among cs (get_or cs n d) ≡ true
unfolding is_among
among_at [] n d l = absurd (omega arith)
among_at (c ∷ cs) zero d l = or_left (c == c) (is_among cs c) (eq-eqb c c refl)
among_at (c ∷ cs) (suc n) d l = or_right (c == get_or cs n d) (is_among cs (get_or cs n d)) (among_at cs n d (omega arith))

-- a column that the list contains is listed
pub among_from : (cs : List ℕ) (c : ℕ) → Contains cs c → is_among cs c ≡ true
among_from cs c h = subst (λ x. is_among cs x ≡ true) h.2 (among_at cs h.0 c h.1)

-- a listed column is one that the list contains
pub among_holds : (cs : List ℕ) (c : ℕ) → is_among cs c ≡ true → Contains cs c
unfolding is_among
among_holds [] c h = absurd (true≢false (sym h))
among_holds (d ∷ ds) c h = ⊎_elim
    (λ (t : (d == c) ≡ true). (0, omega arith, eqb-true d c t))
    (λ (f : (d == c) ≡ false). let k = among_holds ds c (sym (ap (λ b. b || is_among ds c) f) ∙ h) in let l = k.1 in (suc k.0, omega arith, k.2))
    (cases_Bool (d == c))

-- a column that isn't listed differs from each listed one
pub not_among : (cs : List ℕ) (j : ℕ) → is_among cs j ≡ false → All (λ c. c ≢ j) cs
not_among cs j f k d l same = absurd (true≢false (sym (among_at cs k d l) ∙ ap (is_among cs) same ∙ f))

-- the entries that are left are in listed columns
pub only_in : (cs : List ℕ) (m : Sparse) → AreInColumns cs (only_columns cs m).entries
only_in cs m = All-weaker (λ e. is_among cs e.column ≡ true) (λ e. Contains cs e.column) (λ e t. among_holds cs e.column t) (only_columns cs m).entries (filter_passes (λ (e : Entry). is_among cs e.column) m.entries)

-- what is left is a matrix
pub only_matrix : (s : Arithmetic) (cs : List ℕ) (m : Sparse) → IsMatrix s m → IsMatrix s (only_columns cs m)
only_matrix s cs m is = record {
  ascending = AllPairs-filter IsBefore (λ (e : Entry). is_among cs e.column) m.entries is.ascending;
  inside = All-filter (λ (e : Entry). is_among cs e.column) (IsInside m.shape) m.entries is.inside;
  values = All-filter (λ (e : Entry). is_among cs e.column) (λ (e : Entry). IsValue s e.value) m.entries is.values;
  not_zero = All-filter (λ (e : Entry). is_among cs e.column) (λ (e : Entry). e.value ≢ s.zero) m.entries is.not_zero;
}

column_kept : (cs : List ℕ) (j : ℕ) → is_among cs j ≡ true → (es : List Entry) → in_column j (filter (λ e. is_among cs e.column) es) ≡ in_column j es
column_kept cs j h [] = refl
column_kept cs j h (e ∷ es) =
    let kept : List Entry = filter (λ e. is_among cs e.column) es in
    let rest : in_column j kept ≡ in_column j es = column_kept cs j h es in
    ⊎_elim
    (λ (t : (e.column == j) ≡ true).
    let here : is_among cs e.column ≡ true = ap (is_among cs) (eqb-true e.column j t) ∙ h in
    (λ i. in_column j (cond (here i) (e ∷ kept) kept))
    ∙ (λ i. cond (t i) (e ∷ in_column j kept) (in_column j kept))
    ∙ ap (λ xs. e ∷ xs) rest
    ∙ sym (λ i. cond (t i) (e ∷ in_column j es) (in_column j es)))
    (λ (f : (e.column == j) ≡ false).
    elim (is_among cs e.column) as (λ b. in_column j (cond b (e ∷ kept) kept) ≡ in_column j (e ∷ es)) [
      | true ↦ (λ i. cond (f i) (e ∷ in_column j kept) (in_column j kept)) ∙ rest ∙ sym (λ i. cond (f i) (e ∷ in_column j es) (in_column j es))
      | false ↦ rest ∙ sym (λ i. cond (f i) (e ∷ in_column j es) (in_column j es))
    ])
    (cases_Bool (e.column == j))

-- a listed column keeps its entries
pub only_column : (cs : List ℕ) (m : Sparse) (j : ℕ) → is_among cs j ≡ true → in_column j (only_columns cs m).entries ≡ in_column j m.entries
only_column cs m j h = column_kept cs j h m.entries

-- and its values
pub only_value : (z : ℕ) (cs : List ℕ) (m : Sparse) (i j : ℕ) → is_among cs j ≡ true → value_at z (only_columns cs m).entries i j ≡ value_at z m.entries i j
only_value z cs m i j h =
    sym (column_value z (only_columns cs m).entries i j) ∙ ap (λ es. row_value z (rows_of es) (values_of es) i) (only_column cs m j h) ∙ column_value z m.entries i j

all_kept : (cs : List ℕ) (es : List Entry) → AreInColumns cs es → filter (λ e. is_among cs e.column) es ≡ es
all_kept cs [] h = refl
all_kept cs (e ∷ es) h =
    let here : is_among cs e.column ≡ true = among_from cs e.column (All-head (λ e. Contains cs e.column) e es h) in
    (λ i. cond (here i) (e ∷ filter (λ e. is_among cs e.column) es) (filter (λ e. is_among cs e.column) es))
    ∙ ap (λ xs. e ∷ xs) (all_kept cs es (All-tail (λ e. Contains cs e.column) e es h))

-- a matrix with entries in listed columns only stays the same
pub only_all : (cs : List ℕ) (m : Sparse) → AreInColumns cs m.entries → only_columns cs m ≡ m
only_all cs m h i = record { shape = m.shape; entries = all_kept cs m.entries h i }
