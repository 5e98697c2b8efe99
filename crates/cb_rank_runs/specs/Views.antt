-- What ranks left, as contracts see it.
use Rattle.cb_lanes.specs.Lanes.{capacity_on, posted_on, taken_on}
use Rattle.cb_semirings.specs.declared.Semiring.{Ghosts}
use Rattle.cb_rank_runs.specs.declared.finished.Finished.{Finished}
use Rattle.cb_rank_runs.specs.Finished.{FinishedView}

module _ {S : Type 0} {T : Ghosts S} where
  abbrev pub finished_view : Finished S T → FinishedView
  finished_view f = record { stores = f.stores.items; refusals = f.refusals.items; posted = posted_on f.lanes; taken = taken_on f.lanes; capacity = capacity_on f.lanes }
