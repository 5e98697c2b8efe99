use Rattle.std.proofs.Common.{◌≡◌, ◌+◌, ◌++◌, map, take}
use Rattle.cb_selections.proofs.assignments.push_moved.Given as goal

abbrev pub invariant-loop-number : goal.invariant-loop-number
invariant-loop-number l = record { moved : l.list.items ≡ l.fn.list.items ++ map (λ i. i + l.top) (take l.number-index l.numbers) }
