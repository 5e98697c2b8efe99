-- Faults of threads, and which rank each names.
use Rattle.std.specs.Prelude.{◌≡◌, ℕ, List, get_or}
use Rattle.cb_semirings.specs.Arithmetic.{Arithmetic}
use Rattle.cb_rank_faults.specs.declared.RanksFault.{RanksFault}
use Rattle.cb_rank_faults.specs.declared.RanksFault.TheVariants.{NotStarted, Gone, TraceTorn}
use Rattle.cb_rank_runs.specs.Crews.{Member}
use Rattle.cb_rank_runs.specs.NamedRanks.{IsFaultOf, IsFirstGone, IsOneOf}
use Rattle.cb_rank_threads.specs.declared.crew_faults.CrewFault.{CrewFault}
use Rattle.cb_rank_threads.specs.declared.crew_faults.CrewFault.TheVariants as crew_fault_is

-- this rank comes after the first n of them
abbrev pub ComesAfter : List Member → ℕ → ℕ → Type 0
ComesAfter crew n r = (d : Member) → (get_or crew n d).1.me ≡ r

-- a fault of a traced run of this many ranks
abbrev pub IsTracedFaultOf : ℕ → RanksFault → Type 0
IsTracedFaultOf ranks TraceTorn = Unit {0}
IsTracedFaultOf ranks fault = IsFaultOf ranks fault

-- the fault of a run whose crew had this one
abbrev pub told_as : CrewFault → RanksFault
told_as (crew_fault_is.NotStarted none) = NotStarted none.rank
told_as (crew_fault_is.Gone alone) = Gone alone.rank

-- a fault of a crew's threads: it names a rank of the crew, and of those that were left alone the first
abbrev pub IsFaultIn : Arithmetic → List Member → CrewFault → Type 0
IsFaultIn s crew (crew_fault_is.NotStarted none) = IsOneOf crew none.rank
IsFaultIn s crew (crew_fault_is.Gone alone) = IsFirstGone s crew alone.rank
