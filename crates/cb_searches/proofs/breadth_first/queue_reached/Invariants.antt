use Rattle.std.proofs.Common.{◌≡◌, ℕ, ◌<◌}
use Rattle.std.specs.Prelude.{All, Contains}
use Rattle.cb_searches.specs.Numbers.{listed_at}
use Rattle.cb_searches.proofs.breadth_first.queue_reached.Given as goal

-- the first vertices have been looked at
abbrev pub invariant-loop-vertex : goal.invariant-loop-vertex
invariant-loop-vertex l = record {
  near : All (λ v. listed_at l.list v ≡ l.number) l.queue.items;
  all : (v : ℕ) → v < l.vertex → listed_at l.list v ≡ l.number → Contains l.queue.items v;
}
