-- Items that are changed one by one, each at its number.
use Rattle.std.proofs.Common.{◌≡◌, ℕ, ◌+◌, ◌-◌, ◌<◌, ◌≤◌, List, ◌++◌, length, get_or, refl, sym, ap, subst, ⊎_elim, ◌∙◌, arith, length-append}
use Rattle.std.proofs.lemmas.Bool.{cases_lt}
use Rattle.std.proofs.lemmas.List.{get_or_append_left, get_or-append_right}

module _ {X : Type 0} (R : ℕ → X → X → Type 0) (front back front' back' : List X) (one : length back ≡ 1) (same : length front' ≡ length front)
    (first : (i : ℕ) (d : X) → i < length front → (get_or front' i d ≡ get_or front' i d) × R i (get_or front i d) (get_or front' i d))
    (last : (d : X) → R (length front) (get_or back 0 d) (get_or back' 0 d)) where
  -- if the items of a list but the last are changed so, and the last is too, all are
  pub all_changed : (xs : List X) → xs ≡ front ++ back → (i : ℕ) (d : X) → i < length xs → (get_or (front' ++ back') i d ≡ get_or (front' ++ back') i d) × R i (get_or xs i d) (get_or (front' ++ back') i d)
  all_changed xs e i d l =
      let inside : i < length front + length back = subst (λ n. i < n) (ap length e ∙ length-append front back) l in (
        refl,
        ⊎_elim
            (λ (u : i < length front).
            subst (λ z. R i z (get_or (front' ++ back') i d)) (sym (ap (λ ys. get_or ys i d) e ∙ get_or_append_left front back d i u))
            (subst (λ z. R i (get_or front i d) z) (sym (get_or_append_left front' back' d i (omega arith))) (first i d u).1))
            (λ (u : length front ≤ i).
            let at : i ≡ length front = omega arith in
            let none : i - length front ≡ 0 = omega arith in
            let none' : i - length front' ≡ 0 = omega arith in
            subst (λ z. R i z (get_or (front' ++ back') i d)) (sym (ap (λ ys. get_or ys i d) e ∙ get_or-append_right front back (length front) i d refl (omega arith) ∙ ap (λ k. get_or back k d) none))
            (subst (λ z. R i (get_or back 0 d) z) (sym (get_or-append_right front' back' (length front') i d refl (omega arith) ∙ ap (λ k. get_or back' k d) none'))
            (subst (λ n. R n (get_or back 0 d) (get_or back' 0 d)) (sym at) (last d))))
            (cases_lt i (length front)),
      )
