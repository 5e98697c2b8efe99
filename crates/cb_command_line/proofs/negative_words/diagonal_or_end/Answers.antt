use Rattle.std.proofs.Common.{◌∙◌, sym}
use Rattle.cb_command_line.specs.Lines.{is_diagonal_or_end}
use Rattle.cb_command_line.proofs.NegativeLemmas.{position_of_texts}
use Rattle.cb_command_line.proofs.negative_words.diagonal_or_end.Goals as goal

pub returns-clause-found : goal.returns-clause-found
returns-clause-found c = c.first_such.ensures.found ∙ sym (position_of_texts is_diagonal_or_end c.args.words.now)
