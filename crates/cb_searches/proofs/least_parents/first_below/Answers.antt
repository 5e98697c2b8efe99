use Rattle.std.proofs.Common.{◌<◌, ◌≤◌, get_or, sym, ◌∙◌, arith}
use Rattle.std.proofs.lemmas.Bool.{cond-true, cond-false, lt-ltb, le-ltb}
use Rattle.std.proofs.lemmas.List.{at_drop_more, at_drop_all}
use Rattle.cb_searches.specs.Numbers.{number_at}
use Rattle.cb_searches.specs.Parents.{first_below}
use Rattle.cb_searches.proofs.least_parents.first_below.Goals as goal

pub returns-then-number_of-number : goal.returns-then-number_of-number
unfolding first_below
returns-then-number_of-number c =
    let d = number_at c.args.known.now in
    let us = c.args.vertices.now in
    let i = c.loop-vertex.vertex-index in
    let near : d (get_or us i 0) < c.args.number = omega (arith, c.number_of.ensures, c.if-number_of-number.true) in
    c.from.ensures ∙ sym (c.loop-vertex.invariant ∙ at_drop_more (first_below d c.args.number) us i 0 (omega arith) ∙ cond-true _ _ _ (lt-ltb (d (get_or us i 0)) c.args.number near))

pub loop-vertex-preserved : goal.loop-vertex-preserved
unfolding first_below
loop-vertex-preserved c =
    let d = number_at c.args.known.now in
    let us = c.args.vertices.now in
    let i = c.loop-vertex.vertex-index in
    let far : c.args.number ≤ d (get_or us i 0) = omega (arith, c.number_of.ensures, c.if-number_of-number.false) in
    c.loop-vertex.invariant ∙ at_drop_more (first_below d c.args.number) us i 0 (omega arith) ∙ cond-false _ _ _ (le-ltb (d (get_or us i 0)) c.args.number far)

pub returns : goal.returns
unfolding first_below
returns c =
    let d = number_at c.args.known.now in
    sym (c.loop-vertex.invariant ∙ at_drop_all (first_below d c.args.number) c.args.vertices.now c.loop-vertex.vertex-index (omega arith))
