use Rattle.std.proofs.Common.{◌<◌, ◌≤◌, ◌+◌, drop}
use Rattle.cb_product.specs.Terms.{terms_length}
use Rattle.cb_product.proofs.joins.products_in.Given as goal

abbrev pub invariant-loop-term : goal.invariant-loop-term
invariant-loop-term l = l.products < 18446744073709551615 → terms_length l.terms ≤ l.products + terms_length (drop l.term-index l.terms)
