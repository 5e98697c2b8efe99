use Rattle.std.proofs.Common.{◌-◌, map}
use Rattle.std.specs.List.{range_with_len}
use Rattle.cb_plan_parts.specs.Appends.{Appended}
use Rattle.cb_plan_parts.specs.Collectives.{turned_at, tree_move}
use Rattle.cb_plan_parts.proofs.broadcasts.send_down.Given as goal

abbrev pub invariant-loop-p : goal.invariant-loop-p
invariant-loop-p l =
    Appended (map (tree_move (turned_at l.fn.place l.fn.members) l.fn.tag l.fn.slot l.fn.into) (range_with_len 1 (l.p - 1))) l.fn.plan l.plan
