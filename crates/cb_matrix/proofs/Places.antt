-- The value that a list of entries has at a place.
use Rattle.std.proofs.Common.{◌≡◌, ℕ, ◌<◌, true, false, cond, ◌⊎◌, ⊎_elim, List, [], ◌∷◌, ◌++◌, sym, ap, refl, ◌∙◌, arith}
use Rattle.std.specs.Prelude.{All, ◌==◌}
use Rattle.std.proofs.lemmas.Bool.{cond-true, cond-false, eqb-true, eq-eqb, and_from, and_parts, false_from_ne_true}
use Rattle.std.proofs.lemmas.List.Elements.{All-head, All-tail}
use Rattle.cb_matrix.specs.declared.Entry.{Entry}
use Rattle.cb_matrix.specs.Sparse.{is_at, value_at}
pub use Rattle.cb_matrix.proofs.Pairs.{AllPairs-head, AllPairs-tail}

-- The place (i, j) comes before an entry's.
abbrev pub IsPlaceBefore : ℕ → ℕ → Entry → Type 0
IsPlaceBefore i j e = (j < e.column) ⊎ ((j ≡ e.column) × (i < e.row))

-- an entry is at its own place
pub is_at-own : (e : Entry) (i j : ℕ) → i ≡ e.row → j ≡ e.column → is_at i j e ≡ true
is_at-own e i j p q = and_from (e.row == i) (e.column == j) (eq-eqb e.row i (sym p)) (eq-eqb e.column j (sym q))

-- an entry that is at a place has its row and column
pub is_at-parts : (e : Entry) (i j : ℕ) → is_at i j e ≡ true → (i ≡ e.row) × (j ≡ e.column)
is_at-parts e i j h =
    let parts = and_parts (e.row == i) (e.column == j) h in
    (sym (eqb-true e.row i parts.0), sym (eqb-true e.column j parts.1))

-- an entry is not at a place before its own
pub is_at-before : (e : Entry) (i j : ℕ) → IsPlaceBefore i j e → is_at i j e ≡ false
is_at-before e i j h = false_from_ne_true (is_at i j e) (λ t. let parts = is_at-parts e i j t in ⊎_elim (λ l. omega arith) (λ r. omega arith) h)

-- at the place of the first entry there is its value
pub value_at-own : (z : ℕ) (e : Entry) (es : List Entry) → value_at z (e ∷ es) e.row e.column ≡ e.value
unfolding value_at
value_at-own z e es = cond-true _ _ _ (is_at-own e e.row e.column refl refl)

-- elsewhere there is what the others have
pub value_at-other : (z : ℕ) (e : Entry) (es : List Entry) (i j : ℕ) → is_at i j e ≡ false → value_at z (e ∷ es) i j ≡ value_at z es i j
unfolding value_at
value_at-other z e es i j h = cond-false _ _ _ h

-- before all entries there is no value
pub value_at-before : (z : ℕ) (es : List Entry) (i j : ℕ) → All (IsPlaceBefore i j) es → value_at z es i j ≡ z
unfolding value_at
value_at-before z [] i j h = refl
value_at-before z (e ∷ es) i j h =
    cond-false _ _ _ (is_at-before e i j (All-head (IsPlaceBefore i j) e es h)) ∙ value_at-before z es i j (All-tail (IsPlaceBefore i j) e es h)

-- no entry is at the place
abbrev pub NoneAt : ℕ → ℕ → List Entry → Type 0
NoneAt i j es = All (λ e. is_at i j e ≡ false) es

-- where no entry is there is no value
pub value_at-none : (z : ℕ) (es : List Entry) (i j : ℕ) → NoneAt i j es → value_at z es i j ≡ z
unfolding value_at
value_at-none z [] i j h = refl
value_at-none z (e ∷ es) i j h = cond-false _ _ _ (All-head (λ e. is_at i j e ≡ false) e es h) ∙ value_at-none z es i j (All-tail (λ e. is_at i j e ≡ false) e es h)

-- where the first of two lists has no entry, there is the value of the second
pub value_at-append_right : (z : ℕ) (xs ys : List Entry) (i j : ℕ) → NoneAt i j xs → value_at z (xs ++ ys) i j ≡ value_at z ys i j
unfolding value_at
value_at-append_right z [] ys i j h = refl
value_at-append_right z (x ∷ xs) ys i j h = cond-false _ _ _ (All-head (λ e. is_at i j e ≡ false) x xs h) ∙ value_at-append_right z xs ys i j (All-tail (λ e. is_at i j e ≡ false) x xs h)

-- and where the second has none, that of the first
pub value_at-append_left : (z : ℕ) (xs ys : List Entry) (i j : ℕ) → NoneAt i j ys → value_at z (xs ++ ys) i j ≡ value_at z xs i j
unfolding value_at
value_at-append_left z [] ys i j h = value_at-none z ys i j h
value_at-append_left z (x ∷ xs) ys i j h = ap (cond (is_at i j x) x.value) (value_at-append_left z xs ys i j h)
