use Rattle.std.proofs.Common.{◌≡◌}
use Rattle.cb_searches.specs.Numbers.{fallen}
use Rattle.cb_searches.proofs.NumberColumns.{first_numbers}
use Rattle.cb_searches.proofs.relaxations.fallen_column.Given as goal

abbrev pub invariant-loop-vertex : goal.invariant-loop-vertex
invariant-loop-vertex l = l.entries.items ≡ first_numbers (fallen l.before l.now) l.vertex
