-- What a rank's recorder was told.
use Rattle.std.specs.List.{FoldsTo}
use Rattle.cb_rank.specs.Ranks.{RankView}
use Rattle.cb_trace.specs.declared.events.TraceEvent.{TraceEvent}
use Rattle.cb_rank_runs.specs.ProgramEvents.{program_events}

module _ {T : Type 0} (tells : T → TraceEvent → T → Type 0) where
  -- a recorder was told of the events of this rank's program, in order, and of nothing else
  abbrev pub TellsProgram : RankView → T → T → Type 0
  TellsProgram x old new = FoldsTo tells old (program_events x.me x.program) new
