use Rattle.std.proofs.Common.{rules}
use Rattle.std.proofs.lemmas.Slice.Eq.{bytes_eq-Decides}
use Rattle.cb_market_lines.proofs.words.Word.is_exactly.Goals as goal

pub returns : goal.returns
returns c = search (rules, bytes_eq-Decides)
