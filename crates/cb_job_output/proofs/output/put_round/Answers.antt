use Rattle.std.proofs.Common.{◌≡◌, ◌<◌, length, get_or, rules}
use Rattle.cb_job_ends.proofs.SinkLemmas.{put_stopped}
use Rattle.cb_job_output.proofs.SharePuts.{share_begun}
use Rattle.cb_job_output.proofs.output.put_round.Goals as goal

pub returns-in_err-put_share : goal.returns-in_err-put_share
returns-in_err-put_share g c =
    let dealt = c.args.round.now.dealt in
    let share = c.index-shares-n.result in
    let put = c.in_err-put_share.ensures in
    let inside : c.loop-n.n < length dealt = search rules in
    let same : share ≡ get_or dealt c.loop-n.n share = search rules in
    put_stopped _ c.from_residual.result c.from_residual.ensures.1
    (share_begun _ _ _ dealt c.loop-n.n share share inside same c.loop-n.invariant.0 put.prefix) put.fails
