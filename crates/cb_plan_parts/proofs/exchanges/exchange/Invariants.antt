use Rattle.std.proofs.Common.{◌+◌}
use Rattle.std.specs.List.{range_with_len, flat_map}
use Rattle.cb_plan_parts.specs.Appends.{Appended}
use Rattle.cb_plan_parts.specs.Collectives.{sent_from}
use Rattle.cb_plan_parts.proofs.exchanges.exchange.Given as goal

abbrev pub invariant-loop-s : goal.invariant-loop-s
invariant-loop-s l =
    Appended (flat_map (λ s. sent_from l.fn.members l.fn.tag l.fn.slot (l.fn.into + s) s) (range_with_len 0 l.s)) l.fn.plan l.plan
