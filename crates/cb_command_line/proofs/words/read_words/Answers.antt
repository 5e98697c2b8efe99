use Rattle.cb_command_line.proofs.PlainLemmas.{read_all}
use Rattle.cb_command_line.proofs.words.read_words.Goals as goal

pub returns-in-Ok-clause-asked : goal.returns-in-Ok-clause-asked
returns-in-Ok-clause-asked g c =
    read_all _ _ c.in-Ok.matches c.args.processors c.job_in.result c.in_ok-program.ensures c.in-Ok.ensures.matches c.job_in.ensures.asked
