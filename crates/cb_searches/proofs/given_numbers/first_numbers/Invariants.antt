use Rattle.cb_searches.proofs.GivenEntries.{HaveGiven}
use Rattle.cb_searches.proofs.given_numbers.first_numbers.Given as goal

abbrev pub invariant-loop-n : goal.invariant-loop-n
invariant-loop-n l = HaveGiven l.given l.n l.known
