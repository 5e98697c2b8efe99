-- Operands over a grid.
use Rattle.std.specs.Prelude.{◌≡◌, ℕ, ◌⊎◌, List, [], map}
use Rattle.cb_matrix.specs.Sparse.{Sparse}
use Rattle.cb_layout.specs.Distributed.{Distributed}
use Rattle.cb_operations.specs.declared.operations.Operation.{Operation}
use Rattle.cb_operations.specs.declared.operations.Operation.TheVariants.{Multiply, MultiplyVector}
use Rattle.cb_operations.specs.declared.operations.Operands.{Operands}
use Rattle.cb_operations.specs.declared.operations.Operands.TheVariants.{One, Two, Three}
use Rattle.cb_operations.specs.OperationAnswers.{matrix_at}

-- each operand lies over a grid of side q
abbrev pub LieOver : ℕ → Operands Distributed → Type 0
LieOver q (One a) = a.side ≡ q
LieOver q (Two a b) = (a.side ≡ q) × (b.side ≡ q)
LieOver q (Three a b c) = (a.side ≡ q) × (b.side ≡ q) × (c.side ≡ q)

-- operands over a grid, as whole matrices
abbrev pub wholes : List Distributed → List Sparse
wholes operands = map (λ (o : Distributed). o.matrix) operands

-- a product of two matrices of which one has no entries
abbrev pub IsEmptyProduct : Operation → List Sparse → Type 0
IsEmptyProduct Multiply ms = ((matrix_at ms 0).entries ≡ []) ⊎ ((matrix_at ms 1).entries ≡ [])
IsEmptyProduct MultiplyVector ms = ((matrix_at ms 0).entries ≡ []) ⊎ ((matrix_at ms 1).entries ≡ [])
IsEmptyProduct operation ms = ⊥
