use Rattle.std.proofs.Common.{◌<◌, Some, length, sym, subst, ◌∙◌, arith, get_or}
use Rattle.std.proofs.lemmas.List.{length-set}
use Rattle.std.proofs.lemmas.List.Elements.{All-get_or, All-set}
use Rattle.cb_semirings.specs.Arithmetic.{IsValue}
use Rattle.cb_product.proofs.RowValues.{nth_product}
use Rattle.cb_product.proofs.DenseRowSums.{entry_added, all_added}
use Rattle.cb_dense.proofs.add_column.Goals as goal

pub add-requires-clause-left_is_value : goal.add-requires-clause-left_is_value
add-requires-clause-left_is_value g c =
    let inv = c.loop-n.invariant in
    let lr = All-get_or (λ i. i < length c.args.sums.now) c.args.rows.now c.loop-n.n 0 c.loop-n-test.true c.requires.inside in
    let long = inv.long in
    All-get_or (IsValue g.S.Semiring.arithmetic) c.loop-n.sums _ 0 (omega arith) inv.values

pub loop-n-preserved : goal.loop-n-preserved
loop-n-preserved g c =
    let s = g.S.Semiring.arithmetic in
    let laws = g.met.S.Semiring.is_semiring in
    let inv = c.loop-n.invariant in
    let r = c.requires in
    let rows = c.args.rows.now in
    let values = c.args.values.now in
    let k = c.args.scale in
    let n = c.loop-n.n in
    let l = c.loop-n-test.true in
    let before = All-get_or (λ i. i < length c.args.sums.now) rows n 0 l r.inside in
    let long = inv.long in
    let lr : get_or rows n 0 < length c.loop-n.sums = omega arith in
    let product = nth_product s laws rows values (Some k) r.lengths r.values r.scale n l in
    rw (c.add.ensures, c.mul.ensures) (record {
      long = length-set c.loop-n.sums _ _ ∙ inv.long;
      values = All-set (IsValue s) c.loop-n.sums _ _ (laws.add_value _ _ (All-get_or (IsValue s) c.loop-n.sums _ 0 lr inv.values) product) inv.values;
      sums = λ i li. entry_added s laws rows values (Some k) r.lengths r.values r.scale r.order n c.loop-n.sums _ l inv.values lr inv.sums i (subst (λ m. i < m) (length-set c.loop-n.sums _ _) li);
    })

pub returns-clause-sums : goal.returns-clause-sums
returns-clause-sums g c =
    let inv = c.loop-n.invariant in
    let r = c.requires in
    λ i li. all_added g.S.Semiring.arithmetic g.met.S.Semiring.is_semiring c.args.rows.now c.args.values.now (Some c.args.scale) r.lengths r.values r.scale r.order c.loop-n.n c.loop-n.sums _ c.loop-n-test.false inv.values inv.sums i (subst (λ m. i < m) (sym inv.long) li)
