use Rattle.std.proofs.Common.{◌≡◌, ◌≤◌}
use Rattle.std.specs.Prelude.{vec_len, vec_capacity}
use Rattle.cb_job_output.proofs.stacks.Stack.new.Given as goal

-- there is room for all
abbrev pub invariant-loop : goal.invariant-loop
invariant-loop l = (vec_len l.sheets ≡ l.counter) × (l.count ≤ vec_capacity l.sheets)
