use Rattle.std.proofs.Common.{take}
use Rattle.std.specs.List.{flat_map}
use Rattle.cb_plan_parts.specs.Appends.{Appended}
use Rattle.cb_plan_parts.specs.Collectives.{added_from}
use Rattle.cb_plan_parts.proofs.reductions.add_members.Given as goal

abbrev pub invariant-loop-member : goal.invariant-loop-member
invariant-loop-member l =
    Appended (flat_map (added_from l.fn.root l.fn.tag l.fn.slot l.fn.into l.fn.scratch) (take l.member-index l.fn.members)) l.fn.plan l.plan
