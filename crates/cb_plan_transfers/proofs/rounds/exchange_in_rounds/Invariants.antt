use Rattle.std.specs.List.{range_with_len, flat_map}
use Rattle.cb_plan_parts.specs.Growth.{Grew}
use Rattle.cb_plan_transfers.specs.Rounds.{round}
use Rattle.cb_plan_transfers.proofs.rounds.exchange_in_rounds.Given as goal

abbrev pub invariant-loop-distance : goal.invariant-loop-distance
invariant-loop-distance l = Grew (flat_map (round l.fn.members l.fn.tag l.fn.slot l.fn.into) (range_with_len 0 l.distance)) l.fn.plan l.plan
