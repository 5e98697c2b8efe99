use Rattle.std.proofs.Common.{◌∙◌, ap}
use Rattle.cb_market_lines.proofs.WordNumbers.{value_whole, value_none}
use Rattle.cb_market_lines.proofs.words.Word.value.Goals as goal

pub returns-in-Whole : goal.returns-in-Whole
returns-in-Whole g c = c.accept.ensures ∙ ap (λ b. g.S.Semiring.arithmetic.accept b c.in-Whole.number) c.is_negative.ensures ∙ value_whole g.S.Semiring.arithmetic c.args.self.now.bytes.now _ _ c.args.self.now.number_is c.in-Whole.is

pub returns-in_default : goal.returns-in_default
returns-in_default g c = value_none g.S.Semiring.arithmetic c.args.self.now.bytes.now _ c.args.self.now.number_is c.in_default.not-Whole c.requires
