use Rattle.std.proofs.Common.{◌≡◌, ap, ◌∙◌, subst}
use Rattle.std.specs.Prelude.{All}
use Rattle.cb_product.specs.InColumns.{AreInColumns, only_columns}
use Rattle.cb_product.specs.SeveralProducts.{pairs_in, plus_products, AreMatrices}
use Rattle.cb_product.specs.Sources.{source_pairs}
use Rattle.cb_product.proofs.OnlyColumns.{only_all}
use Rattle.cb_product.proofs.SeveralProducts.{plus_in, sources_both}
use Rattle.cb_product.proofs.several.all_added.Goals as goal

pub returns : goal.returns
returns g c =
    let s = g.S.Semiring.arithmetic in
    let laws = g.met.S.Semiring.is_semiring in
    let acc = c.args.accumulator.now in
    let ps = pairs_in c.args.products.now in
    let xs = c.in_ok-sources.sources.items in
    let cs = c.in_ok-columns.columns.items in
    let columns = c.in_ok-columns.ensures in
    let pairs = c.in_ok-sources.ensures.pairs in
    let both = subst (All (AreMatrices s)) pairs (sources_both s laws xs c.in_ok-sources.ensures.sources) in
    let all : AreInColumns cs (plus_products s acc ps).entries = plus_in s laws cs acc ps c.room_of-out.ensures.accumulator both c.requires columns.own columns.rights in
    let made : c.make_all_columns.new.out ≡ only_columns cs (plus_products s acc (source_pairs xs)) = rw (c.deref-2.ensures.value, c.deref_mut.ensures.value) at c.in_ok-make_all_columns.ensures in
    made ∙ ap (λ qs. only_columns cs (plus_products s acc qs)) pairs ∙ only_all cs (plus_products s acc ps) all
