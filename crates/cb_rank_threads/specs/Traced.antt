-- A trace with exactly the events of the ranks' programs.
use Rattle.std.specs.Prelude.{◌≡◌, ℕ, ◌<◌, List, [], length, get_or}
use Rattle.cb_plan.specs.Plans.{CheckedView}
use Rattle.cb_plan.specs.Programs.{project}
use Rattle.cb_trace.specs.declared.events.TraceEvent.{TraceEvent}
use Rattle.cb_trace.specs.Traces.{TraceView, events_by}
use Rattle.cb_rank_runs.specs.ProgramEvents.{program_events}

-- there is a list for each rank of the plan, with the events of the rank's program
pub record AreOfProgram (p : CheckedView) (lists : List (List TraceEvent)) : Type 0 where
  pub count : length lists ≡ p.ranks
  pub each : (r : ℕ) → r < p.ranks → get_or lists r [] ≡ program_events r (project p.starts p.acts r)

-- the trace is of the plan's ranks, and its events of each rank, in order, are those of the rank's program
pub record HasProgram (p : CheckedView) (t : TraceView) : Type 0 where
  pub ranks : t.ranks ≡ p.ranks
  pub each : (r : ℕ) → r < p.ranks → events_by r t.events ≡ program_events r (project p.starts p.acts r)
