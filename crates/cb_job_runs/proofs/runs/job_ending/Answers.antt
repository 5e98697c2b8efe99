use Rattle.std.proofs.Common.{sym, subst, ap, Err}
use Rattle.cb_job_files.specs.Files.{AreTexts, IsUnloaded}
use Rattle.cb_job_runs.specs.Endings.{IsJobEnding}
use Rattle.cb_job_runs.proofs.EndingLemmas.{job_unloaded}
use Rattle.cb_job_runs.proofs.runs.job_ending.Goals as goal

pub returns-in-Err : goal.returns-in-Err
returns-in-Err g c =
    let holds = g.F.FileSource.holds c.args.files.now in
    let refuses = g.F.FileSource.refuses c.args.files.now in
    let old = g.K.Sink.written c.args.out.now in
    let fault = subst (λ names. IsUnloaded holds refuses names c.in-Err.fault) c.files.ensures c.in-Err.ensures.fault in
    subst (λ e. IsJobEnding g.P.Program.answers g.P.Program.faults holds refuses c.args.job.now old old e) (sym c.unloaded.ensures) (job_unloaded g.P.Program.answers g.P.Program.faults holds refuses c.args.job.now old c.in-Err.fault fault)

pub returns-in-Err-answer : goal.returns-in-Err-answer
returns-in-Err-answer g c =
    let holds = g.F.FileSource.holds c.args.files.now in
    let loaded = subst (λ names. AreTexts holds names c.in-Ok.texts.items) c.files.ensures c.in-Ok.ensures.texts in
    let told = c.in-Err-answer.ensures in
    (c.in-Ok.texts.items, loaded, told.fault, told.nothing, λ e. told.output (ap Err e))
