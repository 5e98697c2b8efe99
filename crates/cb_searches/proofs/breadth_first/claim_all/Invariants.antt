use Rattle.std.proofs.Common.{ℕ, ◌<◌, take}
use Rattle.std.specs.Prelude.{All}
use Rattle.cb_searches.specs.Numbers.{number_at, AreNumbers}
use Rattle.cb_searches.specs.BreadthFirst.{HaveClaimed}
use Rattle.cb_searches.proofs.breadth_first.claim_all.Given as goal

-- the first vertices have a number
abbrev pub invariant-loop-vertex : goal.invariant-loop-vertex
invariant-loop-vertex l = record {
  numbers : (n : ℕ) → AreNumbers n l.fn.known → All (λ v. v < n) l.vertices → AreNumbers n l.known;
  claimed : HaveClaimed l.number (number_at l.fn.known) l.fn.queue.items (take l.vertex-index l.vertices) (number_at l.known) l.queue.items;
}
