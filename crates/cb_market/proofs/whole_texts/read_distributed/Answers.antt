use Rattle.cb_matrix.specs.Values.{collected}
use Rattle.cb_market_lines.proofs.Law.{fault_or_matrix, end_memory}
use Rattle.cb_market.proofs.whole_texts.read_distributed.Goals as goal

pub returns-in_err-entries-clause-law : goal.returns-in_err-entries-clause-law
returns-in_err-entries-clause-law g c = fault_or_matrix g.S.Semiring.arithmetic c.args.text.now

pub returns-in-Ok-clause-law : goal.returns-in-Ok-clause-law
returns-in-Ok-clause-law g c = fault_or_matrix g.S.Semiring.arithmetic c.args.text.now

pub returns-in-Err-clause-law : goal.returns-in-Err-clause-law
returns-in-Err-clause-law g c = fault_or_matrix g.S.Semiring.arithmetic c.args.text.now

pub returns-in-Err-clause-fault : goal.returns-in-Err-clause-fault
returns-in-Err-clause-fault g c =
    let s = g.S.Semiring.arithmetic in
    end_memory s c.args.text.now (collected s c.in_ok-entries.entries.shape c.in_ok-entries.entries.entries) c.in_ok-entries.line c.in_ok-entries.ensures.ok
