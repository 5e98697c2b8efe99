use Rattle.cb_product.proofs.ProductColumns.{of_all}
use Rattle.cb_product.proofs.accumulate.Goals as goal

pub accumulate_columns-requires-clause-factors : goal.accumulate_columns-requires-clause-factors
accumulate_columns-requires-clause-factors g c =
    record {
      agree = c.requires.agree;
      told = c.in_ok-index.ensures;
      ascending = c.requires.ascending;
      within = c.requires.within;
    }

pub returns : goal.returns
returns g c = of_all g.S.Semiring.arithmetic c.args.accumulator.now c.args.left.now c.args.right.now c.args.columns.now c.accumulate_columns.result c.requires.right_columns c.accumulate_columns.ensures
