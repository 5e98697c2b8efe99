use Rattle.std.proofs.Common.{◌≡◌, drop}
use Rattle.cb_searches.specs.Numbers.{number_at}
use Rattle.cb_searches.specs.Parents.{first_below}
use Rattle.cb_searches.proofs.least_parents.first_below.Given as goal

-- none of the vertices before is one
abbrev pub invariant-loop-vertex : goal.invariant-loop-vertex
invariant-loop-vertex l = first_below (number_at l.known) l.number l.vertices ≡ first_below (number_at l.known) l.number (drop l.vertex-index l.vertices)
