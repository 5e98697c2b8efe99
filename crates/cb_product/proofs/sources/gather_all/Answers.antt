use Rattle.std.proofs.Common.{◌<◌, length, refl, ◌∙◌, arith}
use Rattle.std.proofs.Math.Seq.{map-set_same}
use Rattle.std.proofs.lemmas.List.Elements.{All-set, AllWithin-more_set}
use Rattle.cb_product.specs.Sources.{IsSource, HasTermsOf, source_pair}
use Rattle.cb_product.proofs.sources.gather_all.Goals as goal

pub loop-n-init : goal.loop-n-init
loop-n-init g c = record { sources = c.requires; pairs = refl; terms = λ k d l m. absurd (omega arith) }

pub gather-requires : goal.gather-requires
gather-requires g c =
    let inside : c.loop-n.n < length c.loop-n.sources = (let same = c.loop-n.auto.sources in let l = c.loop-n-test.true in omega arith) in
    c.loop-n.invariant.sources c.loop-n.n c.index-sources-n.result inside

pub loop-n-preserved : goal.loop-n-preserved
loop-n-preserved g c =
    let s = g.S.Semiring.arithmetic in
    let inv = c.loop-n.invariant in
    let inside : c.loop-n.n < length c.loop-n.sources = (let same = c.loop-n.auto.sources in let l = c.loop-n-test.true in omega arith) in
    record {
      sources = All-set (IsSource s) c.loop-n.sources c.loop-n.n c.gather.new.self c.in_ok-more.ensures.source inv.sources;
      pairs = map-set_same source_pair c.loop-n.sources c.loop-n.n c.gather.new.self c.index-sources-n.result c.in_ok-more.ensures.pair ∙ inv.pairs;
      terms = AllWithin-more_set c.loop-n.sources c.loop-n.n c.gather.new.self inside (HasTermsOf s c.args.column) inv.terms c.in_ok-more.ensures.terms;
    }

pub returns-clause-sources : goal.returns-clause-sources
returns-clause-sources g c = c.loop-n.invariant.sources

pub returns-clause-pairs : goal.returns-clause-pairs
returns-clause-pairs g c = c.loop-n.invariant.pairs

pub returns-clause-terms : goal.returns-clause-terms
returns-clause-terms g c = λ k d l.
    let below : k < c.loop-n.n = (let same = c.loop-n.auto.sources in let past = c.loop-n-test.false in omega arith) in
    c.loop-n.invariant.terms k d (omega arith) below
