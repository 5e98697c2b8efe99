use Rattle.std.proofs.Common.{rules, arith, refl}
use Rattle.cb_market_lines.proofs.ShortNumbers.{count_is, short_number_is}
use Rattle.cb_market_lines.proofs.short_numbers.Masked.short_number.Goals as goal

pub number_of_length-number-requires-clause-digits : goal.number_of_length-number-requires-clause-digits
number_of_length-number-requires-clause-digits c = count_is c.args.self.now.text.now c.args.self.now.nondigits _ c.requires refl (omega arith)

pub returns : goal.returns
returns c =
    let counted = count_is c.args.self.now.text.now c.args.self.now.nondigits _ c.requires refl (omega arith) in
    short_number_is c.args.self.now.text.now c.split_at.result.1.now c.args.self.now.nondigits _ c.args.end c.number_of_length-number.result c.requires counted (omega arith) c.split_at.ensures.back (search rules) (search rules) c.number_of_length-number.ensures
