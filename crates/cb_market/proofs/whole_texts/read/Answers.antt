use Rattle.cb_market_lines.proofs.Law.{fault_or_matrix}
use Rattle.cb_market.proofs.whole_texts.read.Goals as goal

pub returns-clause-law : goal.returns-clause-law
returns-clause-law g c = fault_or_matrix g.S.Semiring.arithmetic c.args.text.now
