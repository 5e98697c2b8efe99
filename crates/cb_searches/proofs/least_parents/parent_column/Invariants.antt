use Rattle.std.proofs.Common.{◌≡◌, take}
use Rattle.cb_searches.specs.Walks.{infinite}
use Rattle.cb_searches.specs.Numbers.{number_at}
use Rattle.cb_searches.specs.Parents.{first_nearer}
use Rattle.cb_searches.proofs.VertexColumns.{vertex_entries}
use Rattle.cb_searches.proofs.least_parents.parent_column.Given as goal

-- the entries are those of the first columns
abbrev pub invariant-loop-n : goal.invariant-loop-n
invariant-loop-n l = l.entries.items ≡ vertex_entries infinite (first_nearer l.graph (number_at l.known)) (take l.n l.columns)
