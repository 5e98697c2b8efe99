use Rattle.std.proofs.Common.{◌<◌, arith}
use Rattle.cb_product.specs.declared.terms.Term.{Term}
use Rattle.cb_product.proofs.JoinedTerms.{terms_length-rest, terms_length-end}
use Rattle.cb_product.proofs.joins.products_in.Goals as goal

pub loop-term-preserved : goal.loop-term-preserved
loop-term-preserved c = λ small.
    let d : Term = record { row = 0; at = 0; end = 0; scale = 0; before = 0; ends = 0 } in
    let rest = terms_length-rest c.args.terms.now c.loop-term.term-index d c.loop-term-test.true in
    let less = c.saturating_sub.ensures in
    let more = c.saturating_add-products.ensures in
    let before : c.loop-term.products < 18446744073709551615 = omega arith in
    let so_far = c.loop-term.invariant before in
    omega (arith, rest, less, more, so_far)

pub returns : goal.returns
returns c = λ small.
    let none = terms_length-end c.args.terms.now c.loop-term.term-index (let l = c.loop-term-test.false in omega arith) in
    let so_far = c.loop-term.invariant small in
    omega (arith, none, so_far)
