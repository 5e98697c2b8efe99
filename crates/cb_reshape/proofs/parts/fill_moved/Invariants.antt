use Rattle.std.proofs.Common.{◌≡◌, ◌+◌, ◌-◌, map, take}
use Rattle.cb_reshape.proofs.parts.fill_moved.Given as goal

abbrev pub invariant-loop-number : goal.invariant-loop-number
invariant-loop-number l = record { moved : l.list.items ≡ map (λ i. i - l.from + l.to) (take l.number-index l.numbers) }
