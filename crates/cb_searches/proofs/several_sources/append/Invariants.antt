use Rattle.std.proofs.Common.{◌≡◌, ◌++◌, map, take}
use Rattle.cb_searches.specs.SeveralSources.{in_column_of}
use Rattle.cb_searches.proofs.several_sources.append.Given as goal

abbrev pub invariant-loop-entry : goal.invariant-loop-entry
invariant-loop-entry l = l.entries.items ≡ l.fn.entries.items ++ map (in_column_of l.number) (take l.entry-index l.column)
