use Rattle.std.proofs.Common.{◌∙◌, sym, arith, ap}
use Rattle.std.specs.Prelude.{slice_range}
use Rattle.cb_product.specs.InColumns.{only_columns}
use Rattle.cb_shares.proofs.ColumnPlaces.{some_columns}
use Rattle.cb_shares.proofs.columns.places_between.Goals as goal

pub returns-clause-columns : goal.returns-clause-columns
returns-clause-columns g c =
    let m = c.args.block.now in
    let xs = c.column_numbers-columns.result.now in
    let low = c.first_from-low.ensures in
    let high = c.first_from.ensures in
    let most = c.max-high.ensures in
    let within = low.within in
    let within' = high.within in
    let places = ap (λ ys. only_columns (slice_range ys c.first_from-low.result c.max-high.result) m) (sym c.column_numbers-columns.ensures.numbers) in
    let same = some_columns xs c.args.first c.args.end c.first_from-low.result c.max-high.result (omega arith) (omega arith) low.below low.from
    (λ k l m. high.below k (omega arith)) (λ k l m. high.from k (omega arith) m) m c.column_numbers-columns.ensures.all in
    places ∙ same
