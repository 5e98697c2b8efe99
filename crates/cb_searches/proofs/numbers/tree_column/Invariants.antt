use Rattle.std.proofs.Common.{◌≡◌, ◌++◌, map}
use Rattle.cb_searches.specs.Numbers.{number_entry}
use Rattle.cb_searches.proofs.numbers.tree_column.Given as goal

abbrev pub invariant-loop-vertex : goal.invariant-loop-vertex
invariant-loop-vertex l = l.entries.items ++ map number_entry l.vertex-iterator ≡ map number_entry l.tree.entries
