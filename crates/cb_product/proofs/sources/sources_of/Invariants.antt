use Rattle.std.proofs.Common.{◌≡◌, take}
use Rattle.std.specs.Prelude.{All}
use Rattle.cb_product.specs.SeveralProducts.{pairs_in}
use Rattle.cb_product.specs.Sources.{IsSource, source_pairs}
use Rattle.cb_product.proofs.sources.sources_of.Given as goal

abbrev pub invariant-loop-factors : goal.invariant-loop-factors
invariant-loop-factors g l =
    let s = g.S.Semiring.arithmetic in
    record {
      sources : All (IsSource s) l.sources.items;
      pairs : source_pairs l.sources.items ≡ pairs_in (take l.factors-index l.products);
    }
