use Rattle.std.proofs.Common.{◌≡◌}
use Rattle.std.specs.Prelude.{All}
use Rattle.std.specs.List.{AllWithin}
use Rattle.cb_product.specs.Sources.{IsSource, HasTermsOf, source_pairs}
use Rattle.cb_product.proofs.sources.gather_all.Given as goal

abbrev pub invariant-loop-n : goal.invariant-loop-n
invariant-loop-n g l =
    let s = g.S.Semiring.arithmetic in
    record {
      sources : All (IsSource s) l.sources;
      pairs : source_pairs l.sources ≡ source_pairs l.fn.sources;
      terms : AllWithin (HasTermsOf s l.column) l.sources 0 l.n;
    }
