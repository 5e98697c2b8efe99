use Rattle.std.proofs.Common.{◌≡◌, ◌++◌, ◌∷◌, [], sym, ap, ◌∙◌}
use Rattle.std.proofs.lemmas.List.{take_more, take_all, map_push}
use Rattle.std.proofs.lemmas.List.Elements.{All-nil, All-push}
use Rattle.cb_matrix.specs.Sparse.{Sparse}
use Rattle.cb_product.specs.SeveralProducts.{pair_of, pairs_in}
use Rattle.cb_product.specs.Sources.{IsSource, source_pair, source_pairs}
use Rattle.cb_product.proofs.SeveralProducts.{mapped_has}
use Rattle.cb_product.proofs.sources.sources_of.Goals as goal

pub new-requires : goal.new-requires
new-requires g c = mapped_has (λ (p : Sparse × Sparse). p.0.shape.cols ≡ p.1.shape.rows) pair_of c.args.products.now c.loop-factors.factors-index _ c.loop-factors-test.true c.factors-item.is c.requires

pub loop-factors-init : goal.loop-factors-init
loop-factors-init g c =
    record {
      sources = rw c.in_ok-sources.ensures.items (All-nil (IsSource g.S.Semiring.arithmetic));
      pairs = ap source_pairs c.in_ok-sources.ensures.items;
    }

pub loop-factors-preserved : goal.loop-factors-preserved
loop-factors-preserved g c =
    let inv = c.loop-factors.invariant in
    let old = c.loop-factors.sources.items in
    let x = c.in_ok-new.field-0 in
    record {
      sources = rw c.in_ok-push.ensures.items (All-push (IsSource g.S.Semiring.arithmetic) old x inv.sources c.in_ok-new.ensures.source);
      pairs =
          ap source_pairs c.in_ok-push.ensures.items
          ∙ map_push source_pair old x
          ∙ (λ t. inv.pairs t ++ (c.in_ok-new.ensures.pair ∙ ap pair_of c.factors-item.is) t ∷ [])
          ∙ sym (map_push pair_of _ _)
          ∙ ap pairs_in (sym (take_more c.args.products.now c.loop-factors.factors-index c.factors-item.result c.loop-factors-test.true));
    }

pub returns : goal.returns
returns g c =
    let inv = c.loop-factors.invariant in
    record {
      sources = inv.sources;
      pairs = inv.pairs ∙ ap pairs_in (take_all c.loop-factors.factors-index c.args.products.now c.loop-factors-test.false);
    }
