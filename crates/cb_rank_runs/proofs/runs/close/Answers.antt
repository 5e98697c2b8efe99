use Rattle.cb_rank.proofs.WantedHalf.{wants_shut_to}
use Rattle.cb_rank_runs.proofs.HalfOverDesk.{is_lane, does_shut}
use Rattle.cb_rank_runs.proofs.OtherRanks.{shuts_to_other}
use Rattle.cb_rank_runs.proofs.RecorderEvents.{tells_shut}
use Rattle.cb_rank_runs.proofs.runs.close.Goals as goal

pub next_post-requires : goal.next_post-requires
next_post-requires g c =
    let other = shuts_to_other _ c.args.to c.requires.rank c.requires.want in
    is_lane c.args.rank.now c.args.desk.now c.args.to c.requires.under_way other.0 other.1

pub returns-clause-next : goal.returns-clause-next
returns-clause-next g c =
    let next = wants_shut_to _ c.args.to c.requires.want in
    does_shut _ _ _ _ _ c.args.to c.requires.rank c.requires.under_way next c.shut.ensures c.in-Ok.ensures.accepted.2

pub returns-clause-told : goal.returns-clause-told
returns-clause-told g c =
    let next = wants_shut_to _ c.args.to c.requires.want in
    tells_shut g.T.Recorder.tells _ _ c.args.to _ _ _ c.requires.under_way next c.next_post.ensures c.tell.ensures

pub returns-in_default-clause-gone : goal.returns-in_default-clause-gone
returns-in_default-clause-gone g c = shuts_to_other _ c.args.to c.requires.rank c.requires.want
