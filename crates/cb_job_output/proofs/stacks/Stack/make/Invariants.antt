use Rattle.std.proofs.Common.{◌≤◌, ◌-◌, take, length}
use Rattle.cb_job_output.specs.Rounds.{AreOf}
use Rattle.cb_job_output.proofs.stacks.Stack.make.Given as goal

-- what is written so far is of the shares
abbrev pub invariant-loop-self : goal.invariant-loop-self
invariant-loop-self g l =
    AreOf l.shares (take l.self-inside.used l.self-inside.sheets.items)
    × (l.self-inside.used ≤ length l.self-inside.sheets.items)

abbrev pub decreases-loop-self : goal.decreases-loop-self
decreases-loop-self g l = length l.self-inside.sheets.items - l.self-inside.used
