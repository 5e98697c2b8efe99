use Rattle.std.proofs.Common.{map}
use Rattle.std.specs.List.{range_with_len}
use Rattle.cb_plan_parts.specs.Growth.{Grew}
use Rattle.cb_plan_transfers.specs.Rounds.{sent_ahead}
use Rattle.cb_plan_transfers.proofs.rounds.send_ahead.Given as goal

abbrev pub invariant-loop-s : goal.invariant-loop-s
invariant-loop-s l = Grew (map (sent_ahead l.fn.members l.fn.tag l.fn.slot l.fn.into l.fn.distance) (range_with_len 0 l.s)) l.fn.plan l.plan
