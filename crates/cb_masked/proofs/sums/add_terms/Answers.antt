use Rattle.std.proofs.Common.{get_or}
use Rattle.cb_product.specs.Terms.{column_sum}
use Rattle.cb_masked.proofs.AddedSums.{zero_sums, terms_start, terms_more, terms_end}
use Rattle.cb_masked.proofs.sums.add_terms.Goals as goal

pub loop-n-init : goal.loop-n-init
loop-n-init g c =
    let s = g.S.Semiring.arithmetic in
    let laws = g.met.S.Semiring.is_semiring in
    let r = c.requires in
    record {
      are = zero_sums s laws c.args.rows.now c.args.sums.now r.one_more r.zeros;
      sums = terms_start s laws c.args.left.now r.left c.args.rows.now c.args.inner.now c.args.factors.now r.lengths r.factors c.args.sums.now r.one_more r.zeros;
    }

pub loop-n-preserved : goal.loop-n-preserved
loop-n-preserved g c =
    let s = g.S.Semiring.arithmetic in
    let laws = g.met.S.Semiring.is_semiring in
    let r = c.requires in
    let inv = c.loop-n.invariant in
    record {
      are = c.add_term.ensures.are;
      sums = terms_more s laws c.args.left.now r.left c.args.rows.now c.args.inner.now c.args.factors.now r.lengths r.factors c.loop-n.n _ _ (λ k. column_sum s c.args.left.now (get_or c.args.rows.now k 0) c.args.inner.now c.args.factors.now) c.loop-n-test.true inv.are c.add_term.ensures.sums inv.sums;
    }

pub returns-clause-sums : goal.returns-clause-sums
returns-clause-sums g c =
    let s = g.S.Semiring.arithmetic in
    let laws = g.met.S.Semiring.is_semiring in
    let r = c.requires in
    let inv = c.loop-n.invariant in
    terms_end s laws c.args.left.now r.left c.args.rows.now c.args.inner.now c.args.factors.now r.lengths r.factors c.loop-n.n c.loop-n.sums (λ k. column_sum s c.args.left.now (get_or c.args.rows.now k 0) c.args.inner.now c.args.factors.now) c.loop-n-test.false inv.are inv.sums
