use Rattle.std.proofs.Common.{◌≡◌, ◌++◌, take}
use Rattle.cb_plan_parts.specs.PlanParts.{starts_at}
use Rattle.cb_plan_parts.proofs.first_slots.push_starts.Given as goal

-- the starts of the operands so far
abbrev pub invariant-loop-operand : goal.invariant-loop-operand
invariant-loop-operand l = l.starts.items ≡ l.fn.starts.items ++ starts_at l.fn.grid.side (take l.operand-index l.operands) l.fn.rank
