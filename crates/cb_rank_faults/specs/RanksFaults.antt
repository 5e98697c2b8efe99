-- Why a run of a plan by its ranks fails, in words.
use Rattle.std.specs.Prelude.{ℕ, List, ◌++◌, codes, decimal}
use Rattle.cb_rank_faults.specs.declared.RanksFault.{RanksFault}
use Rattle.cb_rank_faults.specs.declared.RanksFault.TheVariants.{Memory, NotStarted, Gone, TraceTorn, Lost}

abbrev pub ranks_fault_text : RanksFault → List ℕ
ranks_fault_text Memory = codes "out of memory"
ranks_fault_text (NotStarted rank) = codes "rank " ++ decimal rank ++ codes " not started"
ranks_fault_text (Gone rank) = codes "rank " ++ decimal rank ++ codes " gone"
ranks_fault_text TraceTorn = codes "trace torn"
ranks_fault_text (Lost rank refusals) = codes "lost at rank " ++ decimal rank
