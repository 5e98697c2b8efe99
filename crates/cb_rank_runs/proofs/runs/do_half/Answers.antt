use Rattle.std.proofs.Common.{sym, ◌∙◌}
use Rattle.cb_rank.proofs.WantedHalf.{wants_work}
use Rattle.cb_rank_runs.proofs.HalfOverDesk.{does_work}
use Rattle.cb_rank_runs.proofs.RecorderEvents.{tells_work}
use Rattle.cb_rank_runs.proofs.runs.do_half.Goals as goal

pub returns-in-Work-clause-next : goal.returns-in-Work-clause-next
returns-in-Work-clause-next g c =
    let next = wants_work _ (sym c.want.ensures.value ∙ c.in-Work.is) in
    does_work _ _ _ _ next.0 c.want.ensures.rank c.requires.under_way next.1 c.work.ensures.half

pub returns-in-Work-clause-told : goal.returns-in-Work-clause-told
returns-in-Work-clause-told g c =
    let next = wants_work _ (sym c.want.ensures.value ∙ c.in-Work.is) in
    tells_work g.T.Recorder.tells c.args.rank.now c.args.desk.now next.0 c.args.recorder.now next.1
