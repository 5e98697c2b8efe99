use Rattle.std.proofs.Common.{rules}
use Rattle.cb_market_pages.proofs.MatrixRoundTrip.{written}
use Rattle.cb_market_pages.proofs.writing.text.Goals as goal

pub returns-clause-law : goal.returns-clause-law
returns-clause-law g c =
    let s = g.S.Semiring.arithmetic in
    λ n. written s g.met.S.Semiring.is_semiring g.met.S.Semiring.reads_numbers c.args.matrix.now _ c.shape.ensures.matrix (search rules) (search rules) n (search rules)
