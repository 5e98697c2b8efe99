use Rattle.std.proofs.Common.{◌≡◌, ◌+◌, ◌-◌, ◌++◌, map, take, drop}
use Rattle.cb_dcsc.proofs.column_ranges.move_starts.Given as goal

abbrev pub invariant-loop-start : goal.invariant-loop-start
invariant-loop-start l = l.starts ≡ map (λ n. n - l.from + l.to) (take l.start-index l.fn.starts) ++ drop l.start-index l.fn.starts
