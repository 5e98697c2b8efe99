-- The exit status of a program.
use Rattle.std.specs.Prelude.{ℕ}
use Rattle.cb_market_lines.specs.declared.Kind.{Kind}
use Rattle.cb_market_lines.specs.declared.Kind.TheVariants as kind_is
use Rattle.cb_job_ends.specs.declared.faults.JobFault.{JobFault}
use Rattle.cb_job_ends.specs.declared.faults.JobFault.TheVariants.{Read, Refused, Ranks, Memory, Output, Absent}
use Rattle.cb_job_runs.specs.declared.endings.Status.{Status}

-- 6 for want of memory, and 4 for a text that isn't a matrix
abbrev pub read_status_of : Kind → ℕ
read_status_of kind_is.Memory = 6
read_status_of _ = 4

-- the exit status of a fault
abbrev pub status_of : JobFault → ℕ
status_of Absent = 69
status_of (Read which fault) = read_status_of fault.kind
status_of (Refused refusal) = 5
status_of (Ranks fault) = 6
status_of Memory = 6
status_of Output = 7

-- the number that the program ends with
abbrev pub status_code : Status → ℕ
status_code s = s.code
