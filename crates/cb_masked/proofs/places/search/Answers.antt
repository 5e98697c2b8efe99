use Rattle.cb_dcsc.proofs.Held.{not_found}
use Rattle.cb_masked.proofs.places.search.Goals as goal

pub returns-in-Err-clause-none : goal.returns-in-Err-clause-none
returns-in-Err-clause-none c = λ _. not_found c.args.numbers.now c.args.number _ c.requires c.in-Err.ensures.position
