use Rattle.std.proofs.Common.{subst}
use Rattle.std.specs.Prelude.{All}
use Rattle.cb_product.specs.SeveralProducts.{AreMatrices}
use Rattle.cb_product.proofs.SeveralProducts.{sources_both}
use Rattle.cb_product.proofs.several.multiply_all_columns.Goals as goal

pub returns-clause-matrices : goal.returns-clause-matrices
returns-clause-matrices g c =
    let s = g.S.Semiring.arithmetic in
    subst (All (AreMatrices s)) c.in_ok-sources.ensures.pairs (sources_both s g.met.S.Semiring.is_semiring c.in_ok-sources.sources.items c.in_ok-sources.ensures.sources)
