use Rattle.std.proofs.Common.{take, heap_items}
use Rattle.std.specs.Prelude.{All, Contains}
use Rattle.cb_searches.specs.Settling.{tentative}
use Rattle.cb_searches.proofs.dijkstra.waiting_of.Given as goal

abbrev pub invariant-loop-entry : goal.invariant-loop-entry
invariant-loop-entry l = All (λ e. Contains (heap_items l.waiting) (tentative e)) (take l.entry-index l.fell)
