-- What the recorders of a crew were told.
use Rattle.std.specs.Prelude.{◌≡◌, ℕ, ◌<◌, List, [], ◌∷◌, length, Some, slice_get}
use Rattle.std.specs.List.{FoldsTo}
use Rattle.cb_plan.specs.Plans.{CheckedView}
use Rattle.cb_plan.specs.Programs.{project}
use Rattle.cb_trace.specs.declared.events.TraceEvent.{TraceEvent}
use Rattle.cb_rank_runs.specs.Crews.{Member}
use Rattle.cb_rank_runs.specs.ProgramEvents.{program_events}
use Rattle.cb_rank_runs.specs.Told.{TellsProgram}

module _ {T : Type 0} (tells : T → TraceEvent → T → Type 0) where
  -- each recorder was told of the events of its rank's program
  abbrev pub HaveTold : List Member → List T → List T → Type 0
  HaveTold [] [] [] = Unit {0}
  HaveTold [] [] (new ∷ news) = ⊥
  HaveTold [] (old ∷ olds) news = ⊥
  HaveTold (m ∷ ms) [] news = ⊥
  HaveTold (m ∷ ms) (old ∷ olds) [] = ⊥
  HaveTold (m ∷ ms) (old ∷ olds) (new ∷ news) = TellsProgram tells m.0 old new × HaveTold ms olds news

  -- the recorder of rank r of a plan was told of the events of the rank's program
  pub record TellsRank (p : CheckedView) (olds news : List T) (r : ℕ) : Type 0 where
    pub old : T
    pub new : T
    pub old_is : slice_get olds r ≡ Some old
    pub new_is : slice_get news r ≡ Some new
    pub told : FoldsTo tells old (program_events r (project p.starts p.acts r)) new

  -- the recorder of each rank of a plan was told of the events of the rank's program
  pub record HaveToldPlan (p : CheckedView) (olds news : List T) : Type 0 where
    pub count : length news ≡ p.ranks
    pub each : (r : ℕ) → r < p.ranks → TellsRank p olds news r
