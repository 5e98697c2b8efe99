use Rattle.std.proofs.Common.{◌≡◌, ◌+◌, ◌*◌, map}
use Rattle.std.specs.List.{range_with_len}
use Rattle.cb_grid.proofs.Grid.column_group.Given as goal

-- the ranks so far, in the places of the value itself
abbrev pub invariant-loop-i : goal.invariant-loop-i
invariant-loop-i l = (l.group.items ≡ map (λ i. i * l.fn.self.side + l.fn.column) (range_with_len 0 l.i)) × (l.group.capacity ≡ 64)
