use Rattle.std.proofs.Common.{◌≡◌, take}
use Rattle.cb_plan_tests.proofs.layout.pushed.Given as goal

-- the matrix of the entries so far
abbrev pub invariant-loop-entry : goal.invariant-loop-entry
invariant-loop-entry l =
    l.spread ≡ record { side = l.fn.grid.side; matrix = record { shape = l.fn.whole.shape; entries = take l.entry-index l.fn.whole.entries } }
