use Rattle.std.proofs.Common.{arith, ◌∙◌}
use Rattle.cb_market_lines.proofs.WordNumbers.{limited_whole, limited_none}
use Rattle.cb_market_lines.proofs.words.Word.limited.Goals as goal

pub returns-in-Whole : goal.returns-in-Whole
returns-in-Whole c = c.small_in.ensures ∙ limited_whole c.args.self.now.bytes.now _ _ _ c.args.self.now.number_is c.in-Whole.is c.requires

pub returns-in_default : goal.returns-in_default
returns-in_default c = limited_none c.args.self.now.bytes.now _ _ (omega arith) c.args.self.now.number_is c.in_default.not-Whole c.requires
