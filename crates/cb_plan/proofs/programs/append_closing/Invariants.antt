use Rattle.std.proofs.Common.{◌≡◌, ◌++◌}
use Rattle.std.specs.Prelude.{flat_map}
use Rattle.std.specs.List.{range_with_len}
use Rattle.cb_plan.specs.Programs.{closing_halves}
use Rattle.cb_plan.proofs.programs.append_closing.Given as goal

abbrev pub invariant-loop-from : goal.invariant-loop-from
invariant-loop-from l = l.halves.items ≡ l.fn.halves.items ++ flat_map (closing_halves l.ranks l.rank) (range_with_len 0 l.from)
