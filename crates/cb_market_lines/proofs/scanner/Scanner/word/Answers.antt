use Rattle.std.proofs.Common.{rules}
use Rattle.cb_market_lines.proofs.Cursor.{word_none, word_none_after, word_found, word_after, word_fits, word_number}
use Rattle.cb_market_lines.proofs.scanner.Scanner.word.Goals as goal

pub returns-then-is_line_end-clause-word : goal.returns-then-is_line_end-clause-word
returns-then-is_line_end-clause-word c = word_none c.args.self.now.rest.now _ c.skip_blanks.ensures.rest (search rules)

pub returns-then-is_line_end-clause-after : goal.returns-then-is_line_end-clause-after
returns-then-is_line_end-clause-after c = word_none_after c.args.self.now.rest.now _ c.skip_blanks.ensures.rest

pub slice_bounds-result-count : goal.slice_bounds-result-count
slice_bounds-result-count c = word_fits _ _ c.number-number.ensures.rest

pub invariant_of-result : goal.invariant_of-result
invariant_of-result c = record { number_is = word_number _ _ _ c.number-number.ensures.rest c.number-number.ensures.number }

pub returns-clause-word : goal.returns-clause-word
returns-clause-word c = word_found c.args.self.now.rest.now _ _ c.skip_blanks.ensures.rest (search rules) c.number-number.ensures.rest

pub returns-clause-after : goal.returns-clause-after
returns-clause-after c = word_after c.args.self.now.rest.now _ _ c.skip_blanks.ensures.rest c.number-number.ensures.rest
