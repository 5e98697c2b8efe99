use Rattle.std.proofs.Common.{◌≡◌, ◌+◌, ◌-◌, ◌++◌, map, take, drop}
use Rattle.cb_dcsc.proofs.column_ranges.move_numbers.Given as goal

abbrev pub invariant-loop-number : goal.invariant-loop-number
invariant-loop-number l = l.numbers ≡ map (λ n. n - l.from + l.to) (take l.number-index l.fn.numbers) ++ drop l.number-index l.fn.numbers
