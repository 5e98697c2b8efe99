use Rattle.std.proofs.Common.{◌≡◌, replicate, None}
use Rattle.cb_rank_process.proofs.processes.empty_registers.Given as goal

abbrev pub invariant-loop : goal.invariant-loop
invariant-loop g l = l.registers.items ≡ replicate l.counter None
