-- Computations whose answer has in each column only what the operands have in it.
use Rattle.cb_operations.specs.declared.operations.Operation.TheVariants.{ColumnSums, Add, Times, Prune}
use Rattle.cb_operations.specs.declared.selections.Selection.TheVariants.{Select, Apply, Exclude}
use Rattle.cb_operations.specs.declared.computations.Computation.{Computation}
use Rattle.cb_operations.specs.declared.computations.Computation.TheVariants.{Operation, Selection}

-- sums and products place by place, prunes, sums of columns, entries by their places, functions of them, and complemented masks
abbrev pub IsByColumns : Computation → Type 0
IsByColumns (Operation ColumnSums) = Unit {0}
IsByColumns (Operation Add) = Unit {0}
IsByColumns (Operation Times) = Unit {0}
IsByColumns (Operation (Prune test)) = Unit {0}
IsByColumns (Selection (Select region)) = Unit {0}
IsByColumns (Selection (Apply function)) = Unit {0}
IsByColumns (Selection Exclude) = Unit {0}
IsByColumns _ = ⊥
