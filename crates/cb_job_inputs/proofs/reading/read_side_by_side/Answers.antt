use Rattle.cb_market_lines.proofs.Law.{fault_or_matrix}
use Rattle.cb_job_inputs.proofs.reading.read_side_by_side.Goals as goal

pub returns-in-Some-clause-law : goal.returns-in-Some-clause-law
returns-in-Some-clause-law g c = fault_or_matrix g.S.Semiring.arithmetic c.args.text
