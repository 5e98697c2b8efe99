use Rattle.std.proofs.Common.{refl}
use Rattle.cb_plan_operations.proofs.reduction_plans.finish_one.Goals as goal

pub operand_starts-requires : goal.operand_starts-requires
operand_starts-requires c = rw c.one_operand.ensures refl

pub finish-requires-clause-flows : goal.finish-requires-clause-flows
finish-requires-clause-flows c = rw (c.in-Ok.ensures.starts, c.one_operand.ensures) c.requires.flows

pub returns-clause-starts : goal.returns-clause-starts
returns-clause-starts c = rw (c.in-Ok.ensures.starts, c.one_operand.ensures) at c.finish.ensures.starts
