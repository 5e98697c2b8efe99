-- The ranks' own lists of a traced run, and the trace that they match.
use Rattle.std.proofs.Common.{◌≡◌, List, [], length, sym, ◌∙◌, ap, arith}
use Rattle.std.specs.Prelude.{get_or}
use Rattle.cb_plan.specs.Plans.{CheckedView}
use Rattle.cb_plan.specs.Programs.{project}
use Rattle.cb_trace.specs.declared.events.TraceEvent.{TraceEvent}
use Rattle.cb_trace.specs.Traces.{TraceView, AreLogsOf}
use Rattle.cb_rank_runs.specs.declared.logs.Log.{Log}
use Rattle.cb_rank_runs.specs.Logs.{AreNewLogs, AreWhole, Keeps, lists_in}
use Rattle.cb_rank_runs.specs.ProgramEvents.{program_events}
use Rattle.cb_rank_runs.proofs.LoggedEvents.{own_events, list_of_each}
use Rattle.cb_rank_threads.specs.ToldCrews.{HaveToldPlan}
use Rattle.cb_rank_threads.specs.Traced.{AreOfProgram, HasProgram}

-- whole logs that were told of the programs of a plan have their events
pub of_program : {S O : Type 0} (p : CheckedView) (olds news : List (Log S O)) (lists : List (List TraceEvent)) → AreNewLogs olds → HaveToldPlan Keeps p olds news
    → AreWhole news → lists ≡ lists_in news → AreOfProgram p lists
of_program p olds news lists begun told whole same = record {
  count = ap length same ∙ list_of_each news ∙ told.count;
  each = λ r below.
      let it = told.each r below in
      ap (λ ls. get_or ls r []) same ∙ own_events olds news r it.old it.new (program_events r (project p.starts p.acts r)) begun whole it.old_is it.new_is it.told;
}

-- a trace that matches them has the events too
pub has_program : (p : CheckedView) (lists : List (List TraceEvent)) (t : TraceView) → AreOfProgram p lists → AreLogsOf t lists → HasProgram p t
has_program p lists t own logs =
    let size : t.ranks ≡ p.ranks = sym logs.count ∙ own.count in
    record {
      ranks = size;
      each = λ r below. sym (logs.each r (omega arith)) ∙ own.each r below;
    }
