use Rattle.std.proofs.Common.{◌<◌, take}
use Rattle.std.specs.Prelude.{All}
use Rattle.cb_searches.specs.Numbers.{listed_at}
use Rattle.cb_searches.proofs.breadth_first.first_within.Given as goal

-- none of the vertices before is one
abbrev pub invariant-loop-n : goal.invariant-loop-n
invariant-loop-n l = All (λ v. l.most < listed_at l.list v) (take l.n l.vertices)
