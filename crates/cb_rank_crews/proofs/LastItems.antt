-- The last item of a list.
use Rattle.std.proofs.Common.{◌≡◌, List, [], ◌∷◌, ◌++◌, Some, refl, sym, ap, ◌∙◌}
use Rattle.std.proofs.lemmas.Option.{same_Some}
use Rattle.cb_rank_crews.specs.Rings.{last_item}

-- what was put at the end is the last
pub last_item-push : {X : Type 0} (xs : List X) (x : X) → last_item (xs ++ x ∷ []) ≡ Some x
last_item-push [] x = refl
last_item-push (y ∷ []) x = refl
last_item-push (y ∷ z ∷ xs) x = last_item-push (z ∷ xs) x

-- so the last is what was put there
pub last_is : {X : Type 0} (new old : List X) (x y : X) → new ≡ old ++ x ∷ [] → last_item new ≡ Some y → x ≡ y
last_is new old x y e last = same_Some x y (sym (ap last_item e ∙ last_item-push old x) ∙ last)
