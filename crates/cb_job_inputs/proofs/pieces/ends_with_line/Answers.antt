use Rattle.std.proofs.Common.{rules}
use Rattle.std.proofs.lemmas.Bool.{eqb-true}
use Rattle.cb_job_inputs.proofs.CutTexts.{whole_by_last}
use Rattle.cb_job_inputs.proofs.pieces.ends_with_line.Goals as goal

pub returns-in-Some : goal.returns-in-Some
returns-in-Some c h = whole_by_last c.args.text.now c.in-Some.last (search rules) (eqb-true _ 10 h)
