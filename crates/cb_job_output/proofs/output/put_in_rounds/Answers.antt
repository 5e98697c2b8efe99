use Rattle.std.proofs.Common.{sym}
use Rattle.cb_job_output.proofs.LineLemmas.{text_end}
use Rattle.cb_job_output.proofs.output.put_in_rounds.Goals as goal

pub returns : goal.returns
returns g c =
    let put = c.put_rounds.ensures in
    rw (c.put_end.ensures, sym c.in_ok-round.ensures.text) (text_end _ _ _ _ c.put_rounds.result put.whole put.works put.prefix put.fails)
