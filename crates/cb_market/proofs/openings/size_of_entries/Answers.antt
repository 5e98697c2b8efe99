use Rattle.std.proofs.Common.{◌∷◌, rules}
use Rattle.cb_market_lines.specs.Cursor.{words_at}
use Rattle.cb_market.proofs.LongerTexts.{has_body}
use Rattle.cb_market.proofs.openings.size_of_entries.Goals as goal

pub returns-clause-body : goal.returns-clause-body
returns-clause-body g c =
    has_body g.S.Semiring.arithmetic c.args.header c.args.scanner.now.line c.args.scanner.now.rest.now c.in-Ok.size (c.kept_line.new.self.line, c.in-Some.first.bytes.now ∷ words_at c.kept_line.new.self.rest.now) _ _ (search rules) (search rules) (search rules) (search rules)
