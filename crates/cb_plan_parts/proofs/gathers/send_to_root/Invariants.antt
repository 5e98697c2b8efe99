use Rattle.std.proofs.Common.{◌+◌, map}
use Rattle.std.specs.List.{range_with_len}
use Rattle.cb_plan_parts.specs.Appends.{Appended}
use Rattle.cb_plan_parts.specs.Collectives.{member, sent}
use Rattle.cb_plan_parts.proofs.gathers.send_to_root.Given as goal

abbrev pub invariant-loop-t : goal.invariant-loop-t
invariant-loop-t l =
    Appended (map (λ t. sent (member l.fn.members t) l.fn.root l.fn.tag l.fn.slot (l.fn.into + t)) (range_with_len 0 l.t)) l.fn.plan l.plan
