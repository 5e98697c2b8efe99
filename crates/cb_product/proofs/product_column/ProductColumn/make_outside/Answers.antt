use Rattle.std.proofs.Common.{cond, ap, ◌∙◌, arith}
use Rattle.cb_product.specs.InColumns.{is_among}
use Rattle.cb_product.proofs.Gathered.{of_all}
use Rattle.cb_product.proofs.product_column.ProductColumn.make_outside.Goals as goal

pub returns : goal.returns
returns g c =
    let s = g.S.Semiring.arithmetic in
    let r = c.requires in
    let column = rw c.terms.ensures at c.in_ok-make_of_terms.ensures.column in
    let sums = of_all s c.args.left.now c.args.inner.now c.args.factors.now r.lengths _ (omega arith) c.find.new.self _ c.in_ok-begin.ensures.terms in
    λ i. column i ∙ ap (cond (is_among c.args.excluded.now i) s.zero) (sums i)
