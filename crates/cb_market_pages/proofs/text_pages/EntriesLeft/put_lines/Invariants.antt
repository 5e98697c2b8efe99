use Rattle.std.proofs.Common.{◌≡◌, ◌++◌, length}
use Rattle.cb_market_pages.specs.Text.{lines_in}
use Rattle.cb_market_pages.proofs.text_pages.EntriesLeft.put_lines.Given as goal

abbrev pub invariant-loop-form : goal.invariant-loop-form
invariant-loop-form g l =
    l.page ++ lines_in l.form l.self ≡ l.initial.page ++ lines_in l.form l.initial.self

abbrev pub decreases-loop-form : goal.decreases-loop-form
decreases-loop-form g l = length l.self
