use Rattle.cb_job_runs.proofs.EndingLemmas.{printed}
use Rattle.cb_job_runs.proofs.endings.print_all.Goals as goal

pub returns : goal.returns
returns g c =
    let told = c.put_all.ensures in
    printed c.put_all.result (g.E.Sink.written c.args.err.now) (g.E.Sink.written c.put_all.new.out) (g.E.Sink.has_failed c.put_all.new.out) c.args.text.now told.whole told.works told.prefix told.fails
