-- The first of some matrices that a call is given.
use Rattle.std.proofs.Common.{◌≡◌, ℕ, List, take, sym, ap, ◌∙◌}
use Rattle.std.specs.Borrow.{Bor}
use Rattle.std.proofs.lemmas.List.{take-map}
use Rattle.cb_operations.specs.Operands.{lent_in}
use Rattle.cb_kept.specs.declared.kept.Kept.{Kept}

-- the values of the first are the first of the values
pub first_lent : (n k : ℕ) (given : List (Bor Kept)) → n ≡ k → lent_in (take n given) ≡ take k (lent_in given)
first_lent n k given e = sym (take-map (λ (x : Bor Kept). x.now) n given) ∙ ap (λ i. take i (lent_in given)) e
