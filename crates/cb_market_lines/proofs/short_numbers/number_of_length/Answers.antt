use Rattle.std.proofs.Common.{arith}
use Rattle.cb_market_lines.proofs.ShortNumbers.{word_number}
use Rattle.cb_market_lines.proofs.short_numbers.number_of_length.Goals as goal

pub returns : goal.returns
returns c = word_number c.args.text.now c.args.count c.from_le_bytes-word.result c.number_of_eight.result c.type_inv.text (omega arith) (omega arith) (omega arith) (omega (arith, c.from_le_bytes-word.ensures)) c.number_of_eight.ensures c.requires.digits
