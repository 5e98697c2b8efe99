use Rattle.std.proofs.Common.{◌≡◌}
use Rattle.cb_rank_process.specs.Begun.{all_given_up}
use Rattle.cb_rank_process.proofs.registers.empty_first.Given as goal

abbrev pub invariant-loop-register : goal.invariant-loop-register
invariant-loop-register g l = l.registers ≡ all_given_up l.register l.initial.registers
