use Rattle.cb_job_runs.proofs.EndingLemmas.{run_of_job, run_of_usage}
use Rattle.cb_job_runs.proofs.runs.run.Goals as goal

pub returns-in-Ok : goal.returns-in-Ok
returns-in-Ok g c =
    run_of_job g.P.Program.answers g.P.Program.faults (g.F.FileSource.holds c.args.files.now) (g.F.FileSource.refuses c.args.files.now) c.args.asked (g.K.Sink.written c.args.out.now) (g.K.Sink.written c.job_ending-ending.new.out) (g.E.Sink.written c.args.err.now) (g.E.Sink.written c.finish.new.err) (g.E.Sink.has_failed c.finish.new.err) c.job_ending-ending.result c.finish.result
    _ _ c.in-Ok.is c.files.ensures c.job_ending-ending.ensures c.finish.ensures.message c.finish.ensures.status

pub returns-in-Err : goal.returns-in-Err
returns-in-Err g c =
    run_of_usage g.P.Program.answers g.P.Program.faults (g.F.FileSource.holds c.args.files.now) (g.F.FileSource.refuses c.args.files.now) c.args.asked (g.K.Sink.written c.args.out.now) (g.K.Sink.written c.usage_ending-ending.new.out) (g.E.Sink.written c.args.err.now) (g.E.Sink.written c.finish-in-Err.new.err) (g.E.Sink.has_failed c.finish-in-Err.new.err) c.usage_ending-ending.result c.finish-in-Err.result
    _ c.in-Err.is c.usage_ending-ending.ensures c.finish-in-Err.ensures.message c.finish-in-Err.ensures.status
