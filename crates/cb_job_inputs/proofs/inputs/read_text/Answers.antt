use Rattle.cb_job_inputs.proofs.BaseTexts.{fault_read, matrix_read, side_read}
use Rattle.cb_job_inputs.proofs.inputs.read_text.Goals as goal

pub returns-clause-ok : goal.returns-clause-ok
returns-clause-ok g c =
    let side = c.args.grid.now.side in
    matrix_read g.S.Semiring.arithmetic side c.args.which c.args.text c.over.result (c.over.ensures side c.args.text c.read_in_at_most-read.ensures)

pub returns-clause-side : goal.returns-clause-side
returns-clause-side g c =
    let side = c.args.grid.now.side in
    side_read g.S.Semiring.arithmetic side c.args.which c.args.text c.over.result (c.over.ensures side c.args.text c.read_in_at_most-read.ensures)

pub returns-clause-fault : goal.returns-clause-fault
returns-clause-fault g c =
    let side = c.args.grid.now.side in
    fault_read g.S.Semiring.arithmetic side c.args.which c.args.text c.over.result (c.over.ensures side c.args.text c.read_in_at_most-read.ensures)
