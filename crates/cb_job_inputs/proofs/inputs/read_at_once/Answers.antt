use Rattle.cb_job_inputs.proofs.BaseTexts.{fault_read, matrix_read, side_read}
use Rattle.cb_job_inputs.proofs.inputs.read_at_once.Goals as goal

pub returns-clause-first : goal.returns-clause-first
returns-clause-first g c =
    let side = c.args.grid.now.side in
    matrix_read g.S.Semiring.arithmetic side 0 c.args.first c.over.result (c.over.ensures side c.args.first c.read_bases_at_once-left.ensures.first)

pub returns-clause-second : goal.returns-clause-second
returns-clause-second g c =
    let side = c.args.grid.now.side in
    matrix_read g.T.Semiring.arithmetic side 1 c.args.second c.over-2.result (c.over-2.ensures side c.args.second c.read_bases_at_once-left.ensures.second)

pub returns-clause-first_side : goal.returns-clause-first_side
returns-clause-first_side g c =
    let side = c.args.grid.now.side in
    side_read g.S.Semiring.arithmetic side 0 c.args.first c.over.result (c.over.ensures side c.args.first c.read_bases_at_once-left.ensures.first)

pub returns-clause-second_side : goal.returns-clause-second_side
returns-clause-second_side g c =
    let side = c.args.grid.now.side in
    side_read g.T.Semiring.arithmetic side 1 c.args.second c.over-2.result (c.over-2.ensures side c.args.second c.read_bases_at_once-left.ensures.second)

pub returns-clause-first_fault : goal.returns-clause-first_fault
returns-clause-first_fault g c =
    let side = c.args.grid.now.side in
    fault_read g.S.Semiring.arithmetic side 0 c.args.first c.over.result (c.over.ensures side c.args.first c.read_bases_at_once-left.ensures.first)

pub returns-clause-second_fault : goal.returns-clause-second_fault
returns-clause-second_fault g c =
    let side = c.args.grid.now.side in
    fault_read g.T.Semiring.arithmetic side 1 c.args.second c.over-2.result (c.over-2.ensures side c.args.second c.read_bases_at_once-left.ensures.second)
