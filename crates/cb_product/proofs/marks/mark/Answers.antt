use Rattle.cb_product.proofs.MarkBits.{mark_here, mark_others, words_stay}
use Rattle.cb_product.proofs.marks.mark.Goals as goal

pub returns-clause-here : goal.returns-clause-here
returns-clause-here c = mark_here c.args.words.now c.args.row c.requires

pub returns-clause-others : goal.returns-clause-others
returns-clause-others c = mark_others c.args.words.now c.args.row c.requires

pub returns-clause-words : goal.returns-clause-words
returns-clause-words c = words_stay c.args.words.now c.args.row c.requires
