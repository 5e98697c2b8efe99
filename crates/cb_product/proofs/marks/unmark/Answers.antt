use Rattle.cb_product.proofs.MarkBits.{unmark_here, unmark_others}
use Rattle.cb_product.proofs.marks.unmark.Goals as goal

pub returns-clause-here : goal.returns-clause-here
returns-clause-here c = unmark_here c.args.words.now c.args.row c.requires

pub returns-clause-others : goal.returns-clause-others
returns-clause-others c = unmark_others c.args.words.now c.args.row c.requires
