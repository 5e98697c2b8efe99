-- Marks of the excluded rows, which are set before a column is added up and removed after it.
use Rattle.std.proofs.Common.{◌≡◌, ℕ, true, false, cond, List, refl, ◌∙◌, ⊎_elim}
use Rattle.std.specs.Prelude.{◌==◌}
use Rattle.std.proofs.lemmas.Bool.{cases_Bool}
use Rattle.cb_product.specs.InColumns.{is_among}
use Rattle.cb_product.specs.Marks.{mark_of, MarksNone}

module _ (rows words set : List ℕ) (none : MarksNone words) (sets : (i : ℕ) → mark_of set i ≡ cond (is_among rows i) (cond true 1 0) (mark_of words i)) where
  -- where no row was marked, those that are marked now are the excluded ones
  pub marked_as : (i : ℕ) → (mark_of set i == 1) ≡ is_among rows i
  marked_as i = ⊎_elim
      (λ (t : is_among rows i ≡ true). rw (sets i, t) refl)
      (λ (f : is_among rows i ≡ false). rw (sets i, f, none i) refl)
      (cases_Bool (is_among rows i))

  -- and no row is marked once their marks are removed
  pub unmarked_again : (unset : List ℕ) → ((i : ℕ) → mark_of unset i ≡ cond (is_among rows i) (cond false 1 0) (mark_of set i)) → MarksNone unset
  unmarked_again unset unsets i = unsets i ∙ ⊎_elim
      (λ (t : is_among rows i ≡ true). rw t refl)
      (λ (f : is_among rows i ≡ false). rw f (sets i ∙ rw f (none i)))
      (cases_Bool (is_among rows i))
