use Rattle.cb_rank.proofs.WantedHalf.{wants_post_to}
use Rattle.cb_rank_runs.proofs.HalfOverDesk.{is_lane, does_post}
use Rattle.cb_rank_runs.proofs.OtherRanks.{posts_to_other}
use Rattle.cb_rank_runs.proofs.RecorderEvents.{tells_post}
use Rattle.cb_rank_runs.proofs.runs.post.Goals as goal

pub next_post-requires : goal.next_post-requires
next_post-requires g c =
    let other = posts_to_other _ c.args.to c.requires.rank c.requires.want in
    is_lane c.args.rank.now c.args.desk.now c.args.to c.requires.under_way other.0 other.1

pub returns-clause-next : goal.returns-clause-next
returns-clause-next g c =
    let next = wants_post_to _ c.args.to c.requires.want in
    does_post _ _ _ _ _ c.args.to next.0 next.1 _ _ c.requires.rank c.requires.under_way next.2 c.outgoing-body.ensures.half c.in-Ok.ensures.accepted.2

pub returns-clause-told : goal.returns-clause-told
returns-clause-told g c =
    let next = wants_post_to _ c.args.to c.requires.want in
    tells_post g.T.Recorder.tells _ _ _ c.args.to next.0 next.1 _ _ _ _ _ c.requires.under_way next.2 c.outgoing-body.ensures.half c.next_post.ensures c.tell.ensures

pub returns-in_default-clause-gone : goal.returns-in_default-clause-gone
returns-in_default-clause-gone g c = posts_to_other _ c.args.to c.requires.rank c.requires.want
