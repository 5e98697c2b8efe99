-- The operands of an operation, as a list.
use Rattle.std.specs.Prelude.{List, [], ◌∷◌, map}
use Rattle.std.specs.Borrow.{Bor}
use Rattle.cb_operations.specs.declared.operations.Operands.{Operands}
use Rattle.cb_operations.specs.declared.operations.Operands.TheVariants.{One, Two, Three}

-- the operands in order
abbrev pub list_of : {M : Type 0} → Operands M → List M
list_of (One a) = a ∷ []
list_of (Two a b) = a ∷ b ∷ []
list_of (Three a b c) = a ∷ b ∷ c ∷ []

-- the values behind a list of references
abbrev pub lent_in : {A : Type 0} → List (Bor A) → List A
lent_in xs = map (λ x. x.now) xs
