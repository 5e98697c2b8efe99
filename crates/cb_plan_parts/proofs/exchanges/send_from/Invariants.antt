use Rattle.std.proofs.Common.{◌+◌, map}
use Rattle.std.specs.List.{range_with_len}
use Rattle.cb_plan_parts.specs.Appends.{Appended}
use Rattle.cb_plan_parts.specs.Collectives.{member, sent}
use Rattle.cb_plan_parts.proofs.exchanges.send_from.Given as goal

abbrev pub invariant-loop-t : goal.invariant-loop-t
invariant-loop-t l =
    Appended (map (λ t. sent (member l.fn.members l.fn.s) (member l.fn.members t) l.fn.tag (l.fn.slot + t) l.fn.into) (range_with_len 0 l.t)) l.fn.plan l.plan
