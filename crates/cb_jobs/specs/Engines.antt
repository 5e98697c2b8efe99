-- What computes a job, by the name of an engine, and its faults as faults of the job.
use Rattle.std.specs.Prelude.{Option, Some, None}
use Rattle.cb_command_line.specs.declared.jobs.EngineName.{EngineName}
use Rattle.cb_command_line.specs.declared.jobs.EngineName.TheVariants as name_is
use Rattle.cb_rank_engines.specs.declared.engines.Engine.{Engine}
use Rattle.cb_rank_engines.specs.declared.engines.Engine.TheVariants.{Threads, Traced}
use Rattle.cb_rank_faults.specs.declared.RanksFault.TheVariants as fault_is
use Rattle.cb_rank_operations.specs.declared.operation_faults.OperationFault.{OperationFault}
use Rattle.cb_rank_operations.specs.declared.operation_faults.OperationFault.TheVariants as operation_is
use Rattle.cb_job_ends.specs.declared.faults.JobFault.{JobFault}
use Rattle.cb_job_ends.specs.declared.faults.JobFault.TheVariants.{Refused, Ranks, Memory}

-- the engine of a name, or none where no ranks compute
abbrev pub engine_of : EngineName → Option Engine
engine_of name_is.Plain = None
engine_of (name_is.Ranks letters) = Some (Threads letters)
engine_of (name_is.Traced letters) = Some (Traced letters)

-- The fault of a job for a fault of an operation by an engine. Lack of memory is the job's own fault, and no job has it as a
-- fault of ranks.
abbrev pub fault_of_operation : OperationFault → JobFault
fault_of_operation (operation_is.Refused refusal) = Refused refusal
fault_of_operation (operation_is.Failed fault_is.Memory) = Memory
fault_of_operation (operation_is.Failed fault) = Ranks fault
