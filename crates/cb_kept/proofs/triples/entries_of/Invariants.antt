use Rattle.std.proofs.Common.{◌≡◌, take}
use Rattle.std.specs.Prelude.{map}
use Rattle.cb_kept.specs.Triples.{entry_of}
use Rattle.cb_kept.proofs.triples.entries_of.Given as goal

-- the entries of the triples so far
abbrev pub invariant-loop-triple : goal.invariant-loop-triple
invariant-loop-triple l = l.entries.items ≡ map entry_of (take l.triple-index l.triples)
