use Rattle.std.proofs.Common.{◌≡◌, ◌++◌}
use Rattle.std.specs.Prelude.{flat_map}
use Rattle.std.specs.List.{range_with_len}
use Rattle.cb_plan.specs.Programs.{own_shut}
use Rattle.cb_plan.proofs.programs.append_shuts.Given as goal

abbrev pub invariant-loop-to : goal.invariant-loop-to
invariant-loop-to l = l.halves.items ≡ l.fn.halves.items ++ flat_map (own_shut l.rank) (range_with_len 0 l.to)
