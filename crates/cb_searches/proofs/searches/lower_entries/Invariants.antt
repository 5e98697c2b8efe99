use Rattle.std.proofs.Common.{◌≡◌, take, filter}
use Rattle.cb_searches.specs.Numbers.{is_lower}
use Rattle.cb_searches.proofs.searches.lower_entries.Given as goal

abbrev pub invariant-loop-entry : goal.invariant-loop-entry
invariant-loop-entry l = l.lower.items ≡ filter (is_lower l.known) (take l.entry-index l.entries)
