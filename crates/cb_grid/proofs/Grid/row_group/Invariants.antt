use Rattle.std.proofs.Common.{◌≡◌, ◌+◌, ◌*◌, map}
use Rattle.std.specs.List.{range_with_len}
use Rattle.cb_grid.proofs.Grid.row_group.Given as goal

-- the ranks so far, in the places of the value itself
abbrev pub invariant-loop-j : goal.invariant-loop-j
invariant-loop-j l = (l.group.items ≡ map (λ j. l.fn.row * l.fn.self.side + j) (range_with_len 0 l.j)) × (l.group.capacity ≡ 64)
