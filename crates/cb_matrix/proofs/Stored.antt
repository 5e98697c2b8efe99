-- An entry that is stored at the end of a list, unless its value is zero.
use Rattle.std.proofs.Common.{◌≡◌, ◌≢◌, ℕ, true, false, cond, ⊎_elim, List, [], ◌∷◌, ◌++◌, sym, refl, ◌∙◌, arith}
use Rattle.std.specs.Prelude.{All, ◌==◌}
use Rattle.std.proofs.lemmas.Bool.{cases_Bool, eqb-true, eqb-false, false_from_ne_true, cond-true}
use Rattle.std.proofs.lemmas.List.Elements.{All-cons, All-weaker, All-nil}
use Rattle.cb_matrix.specs.declared.Entry.{Entry}
use Rattle.cb_matrix.specs.Sparse.{is_at, value_at, IsBefore}
use Rattle.cb_matrix.specs.Combined.{stored}
use Rattle.cb_matrix.proofs.Places.{NoneAt, is_at-parts, value_at-append_left, value_at-append_right}

-- what holds of an entry that is not zero holds of what is stored of it
pub stored_all : (z : ℕ) (P : Entry → Type 0) (e : Entry) → (e.value ≢ z → P e) → All P (stored z e)
stored_all z P e h =
    elim (e.value == z) as (λ b. (e.value == z) ≡ b → All P (cond b [] (e ∷ []))) [
      | true ↦ λ _. All-nil P
      | false ↦ λ n. All-cons P e [] (h (eqb-false e.value z n)) (All-nil P)
    ] refl

-- what is stored of an entry has its value
pub stored_value : (z : ℕ) (e : Entry) (i j : ℕ) → value_at z (stored z e) i j ≡ value_at z (e ∷ []) i j
unfolding value_at
stored_value z e i j =
    elim (e.value == z) as (λ b. (e.value == z) ≡ b → value_at z (cond b [] (e ∷ [])) i j ≡ value_at z (e ∷ []) i j) [
      | true ↦ λ t. let same : e.value ≡ z = eqb-true e.value z t in elim (is_at i j e) as (λ b. z ≡ cond b e.value z) [ true ↦ sym same | false ↦ refl ]
      | false ↦ λ _. refl
    ] refl

-- entries before one have nothing at its place
pub none_before : (xs : List Entry) (y : Entry) (i j : ℕ) → i ≡ y.row → j ≡ y.column → All (λ x. IsBefore x y) xs → NoneAt i j xs
none_before xs y i j p q h = All-weaker (λ x. IsBefore x y) (λ e. is_at i j e ≡ false)
    (λ x b. false_from_ne_true (is_at i j x) (λ t. let r = is_at-parts x i j t in ⊎_elim (λ l. omega arith) (λ l. omega arith) b)) xs h

-- the value of one entry at its place
pub value_at-one : (z : ℕ) (e : Entry) (i j : ℕ) → is_at i j e ≡ true → value_at z (e ∷ []) i j ≡ e.value
unfolding value_at
value_at-one z e i j h = cond-true _ _ _ h

-- to store the last entry, or not where it is zero, changes no value
pub stored_last : (z : ℕ) (xs : List Entry) (e : Entry) (i j : ℕ) → All (λ x. IsBefore x e) xs → value_at z (xs ++ stored z e) i j ≡ value_at z (xs ++ e ∷ []) i j
stored_last z xs e i j h =
    ⊎_elim
    (λ (t : is_at i j e ≡ true).
    let p = is_at-parts e i j t in
    let none = none_before xs e i j p.0 p.1 h in
    value_at-append_right z xs (stored z e) i j none ∙ stored_value z e i j ∙ sym (value_at-append_right z xs (e ∷ []) i j none))
    (λ (f : is_at i j e ≡ false).
    value_at-append_left z xs (stored z e) i j (stored_all z (λ x. is_at i j x ≡ false) e (λ _. f))
    ∙ sym (value_at-append_left z xs (e ∷ []) i j (All-cons (λ x. is_at i j x ≡ false) e [] f (All-nil (λ x. is_at i j x ≡ false)))))
    (cases_Bool (is_at i j e))

-- one entry has nothing at another place
pub one_none : (e : Entry) (i j : ℕ) → is_at i j e ≡ false → NoneAt i j (e ∷ [])
one_none e i j f = All-cons (λ x. is_at i j x ≡ false) e [] f (All-nil (λ x. is_at i j x ≡ false))
