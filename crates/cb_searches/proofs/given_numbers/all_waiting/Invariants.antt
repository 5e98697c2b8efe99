use Rattle.std.proofs.Common.{take, heap_items}
use Rattle.std.specs.Prelude.{All, Contains}
use Rattle.cb_searches.specs.Settling.{tentative}
use Rattle.cb_searches.proofs.given_numbers.all_waiting.Given as goal

abbrev pub invariant-loop-n : goal.invariant-loop-n
invariant-loop-n l = All (λ e. Contains (heap_items l.waiting) (tentative e)) (take l.n l.given.entries)
