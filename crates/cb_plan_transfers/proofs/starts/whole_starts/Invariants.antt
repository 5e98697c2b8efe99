use Rattle.std.proofs.Common.{◌≡◌}
use Rattle.std.specs.List.{range_with_len, flat_map}
use Rattle.cb_plan_transfers.specs.WholeStarts.{whole_start}
use Rattle.cb_plan_transfers.proofs.starts.whole_starts.Given as goal

abbrev pub invariant-loop-rank : goal.invariant-loop-rank
invariant-loop-rank l = l.starts.items ≡ flat_map (whole_start l.fn.shape) (range_with_len 0 l.rank)
