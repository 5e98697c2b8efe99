use Rattle.cb_market_lines.proofs.WordNumbers.{whole_some, whole_none}
use Rattle.cb_market_lines.proofs.words.Word.whole.Goals as goal

pub returns-in-Whole : goal.returns-in-Whole
returns-in-Whole c = whole_some c.args.self.now.bytes.now _ _ c.args.self.now.number_is c.in-Whole.is c.requires

pub returns-in_default : goal.returns-in_default
returns-in_default c = whole_none c.args.self.now.bytes.now _ c.args.self.now.number_is c.in_default.not-Whole c.requires
