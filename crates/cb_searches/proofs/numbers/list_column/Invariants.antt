use Rattle.std.proofs.Common.{◌≡◌}
use Rattle.std.specs.Prelude.{slice_index_or}
use Rattle.cb_searches.specs.Walks.{infinite}
use Rattle.cb_searches.proofs.NumberColumns.{first_numbers}
use Rattle.cb_searches.proofs.numbers.list_column.Given as goal

abbrev pub invariant-loop-vertex : goal.invariant-loop-vertex
invariant-loop-vertex l = l.entries.items ≡ first_numbers (λ v. slice_index_or l.list v infinite) l.vertex
