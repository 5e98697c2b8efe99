-- Two matrices with the same value at each place are the same.
use Rattle.std.proofs.Common.{◌≡◌, ◌≢◌, ℕ, ◌<◌, true, false, ◌⊎◌, inl, inr, ⊎_elim, List, [], ◌∷◌, sym, refl, ap, ◌∙◌, arith}
use Rattle.std.specs.Prelude.{All, AllPairs}
use Rattle.std.proofs.lemmas.Bool.{cases_Bool, cases_order}
use Rattle.std.proofs.lemmas.List.Elements.{All-head, All-tail, All-cons, All-weaker}
use Rattle.cb_matrix.specs.declared.Entry.{Entry}
use Rattle.cb_matrix.specs.Sparse.{is_at, value_at, IsBefore}
use Rattle.cb_matrix.proofs.Places.{IsPlaceBefore, is_at-parts, value_at-own, value_at-other, value_at-before, AllPairs-head, AllPairs-tail}

-- one entry's place against another's
order_of : (d e : Entry) → IsBefore d e ⊎ (IsBefore e d ⊎ ((d.row ≡ e.row) × (d.column ≡ e.column)))
order_of d e =
    ⊎_elim
    (λ (c : d.column ≡ e.column). ⊎_elim (λ (r : d.row ≡ e.row). inr (inr (r, c))) (⊎_elim (λ (r : d.row < e.row). inl (inr (c, r))) (λ (r : e.row < d.row). inr (inl (inr (sym c, r))))) (cases_order d.row e.row))
    (⊎_elim (λ (l : d.column < e.column). inl (inl l)) (λ (l : e.column < d.column). inr (inl (inl l))))
    (cases_order d.column e.column)

same_entry : (d e : Entry) → d.row ≡ e.row → d.column ≡ e.column → d.value ≡ e.value → d ≡ e
same_entry d e p q r = λ i. record { row = p i; column = q i; value = r i }

-- the order of places is transitive
pub before_trans : (c d e : Entry) → IsBefore c d → IsBefore d e → IsBefore c e
before_trans c d e h k = ⊎_elim (λ l. ⊎_elim (λ m. inl (omega arith)) (λ m. inl (omega arith)) k) (λ l. ⊎_elim (λ m. inl (omega arith)) (λ m. inr (omega arith, omega arith)) k) h

-- an entry before the first is at a place that the list has nothing at
nothing_at : (z : ℕ) (d e : Entry) (es : List Entry) → AllPairs IsBefore (e ∷ es) → IsBefore d e → value_at z (e ∷ es) d.row d.column ≡ z
nothing_at z d e es up h =
    value_at-before z (e ∷ es) d.row d.column
    (All-cons (IsPlaceBefore d.row d.column) e es h (All-weaker (IsBefore e) (IsPlaceBefore d.row d.column) (λ f k. before_trans d e f h k) es (AllPairs-head IsBefore e es up)))

-- entries that ascend, none zero, with one value at each place: they are the same entries
pub same_entries : (z : ℕ) (es fs : List Entry) → AllPairs IsBefore es → AllPairs IsBefore fs → All (λ e. e.value ≢ z) es → All (λ e. e.value ≢ z) fs → ((i j : ℕ) → value_at z es i j ≡ value_at z fs i j) → es ≡ fs
same_entries z [] [] eu fu en fn h = refl
same_entries z [] (f ∷ fs) eu fu en fn h = absurd (All-head (λ e. e.value ≢ z) f fs fn (sym (value_at-own z f fs) ∙ sym (h f.row f.column) ∙ value_at-before z [] f.row f.column (λ k d l. absurd (omega arith))))
same_entries z (e ∷ es) [] eu fu en fn h = absurd (All-head (λ e. e.value ≢ z) e es en (sym (value_at-own z e es) ∙ h e.row e.column ∙ value_at-before z [] e.row e.column (λ k d l. absurd (omega arith))))
same_entries z (e ∷ es) (f ∷ fs) eu fu en fn h =
    ⊎_elim
    (λ (b : IsBefore e f). absurd (All-head (λ e. e.value ≢ z) e es en (sym (value_at-own z e es) ∙ h e.row e.column ∙ nothing_at z e f fs fu b)))
    (⊎_elim
    (λ (b : IsBefore f e). absurd (All-head (λ e. e.value ≢ z) f fs fn (sym (value_at-own z f fs) ∙ sym (h f.row f.column) ∙ nothing_at z f e es eu b)))
    (λ (p : (e.row ≡ f.row) × (e.column ≡ f.column)).
    let value : e.value ≡ f.value = sym (value_at-own z e es) ∙ h e.row e.column ∙ ap (λ i. value_at z (f ∷ fs) i e.column) p.0 ∙ ap (λ j. value_at z (f ∷ fs) f.row j) p.1 ∙ value_at-own z f fs in
    let rest : (i j : ℕ) → value_at z es i j ≡ value_at z fs i j = λ i j.
    ⊎_elim
    (λ (t : is_at i j e ≡ true).
    let q = is_at-parts e i j t in
    value_at-before z es i j (All-weaker (IsBefore e) (IsPlaceBefore i j) (λ g k. ⊎_elim (λ m. inl (omega arith)) (λ m. inr (omega arith, omega arith)) k) es (AllPairs-head IsBefore e es eu))
    ∙ sym (value_at-before z fs i j (All-weaker (IsBefore f) (IsPlaceBefore i j) (λ g k. ⊎_elim (λ m. inl (omega arith)) (λ m. inr (omega arith, omega arith)) k) fs (AllPairs-head IsBefore f fs fu))))
    (λ (n : is_at i j e ≡ false).
    let m : is_at i j f ≡ false = rw (← p.0, ← p.1) n in
    sym (value_at-other z e es i j n) ∙ h i j ∙ value_at-other z f fs i j m)
    (cases_Bool (is_at i j e)) in
    let tail : es ≡ fs = same_entries z es fs (AllPairs-tail IsBefore e es eu) (AllPairs-tail IsBefore f fs fu) (All-tail (λ e. e.value ≢ z) e es en) (All-tail (λ e. e.value ≢ z) f fs fn) rest in
    λ i. same_entry e f p.0 p.1 value i ∷ tail i))
    (order_of e f)
