use Rattle.std.proofs.Common.{◌<◌, subst, sym}
use Rattle.std.specs.Prelude.{All}
use Rattle.cb_dcsc.proofs.Lookup.{all_rows_inside, all_values}
use Rattle.cb_product.proofs.Gathered.{are_terms, of_column}
use Rattle.cb_product.proofs.sources.Source.gather.Goals as goal

pub find-requires-clause-values : goal.find-requires-clause-values
find-requires-clause-values g c = all_values g.S.Semiring.arithmetic c.args.self.now.right.now _ c.requires.right c.values-values.ensures

pub find-requires-clause-inside : goal.find-requires-clause-inside
find-requires-clause-inside g c =
    let rows = all_rows_inside g.S.Semiring.arithmetic c.args.self.now.right.now _ c.requires.right c.row_numbers-rows.ensures in
    subst (λ n. All (λ i. i < n) c.row_numbers-rows.result.now) (sym c.requires.agree) rows

pub returns-clause-terms : goal.returns-clause-terms
returns-clause-terms g c =
    let s = g.S.Semiring.arithmetic in
    let laws = g.met.S.Semiring.is_semiring in
    let x = c.args.self.now in
    let are = rw (c.row_numbers-rows.ensures, c.values-values.ensures) at c.in_ok-found.ensures.gathered in
    let has = rw (c.row_numbers-rows.ensures, c.values-values.ensures) at c.in_ok-found.ensures.terms in
    record {
      terms = are_terms s laws x.left.now x.right.now c.requires.right c.find.new.self are c.in_ok-found.found.0 c.in_ok-found.found.1;
      sums = of_column s laws x.left.now x.right.now c.requires.right c.find.new.self c.args.column _ _ c.in_ok-found.found c.range_of_next-from.ensures.entries has;
    }
