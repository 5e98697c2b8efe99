use Rattle.std.proofs.Common.{◌≤◌, ◌+◌, get_or, refl, arith}
use Rattle.cb_product.proofs.RowValues.{one_value-value, nth_product, scaled_value, scaled_split, scaled_end}
use Rattle.cb_product.proofs.ColumnSoFar.{column_value, so_far_more, so_far_all}
use Rattle.cb_product.proofs.joins.put_rest.Goals as goal

pub loop-n-init : goal.loop-n-init
loop-n-init g c = record {
  long = refl;
  values_long = refl;
  most = omega arith;
  column = c.requires.column;
  so_far = record { values = column_value g.S.Semiring.arithmetic g.met.S.Semiring.is_semiring _ c.requires.column; sums = λ i. refl };
  none = λ e. refl;
  before = c.requires.after;
}

pub put-len-requires-clause-value : goal.put-len-requires-clause-value
put-len-requires-clause-value g c = rw c.scaled-value.ensures (nth_product g.S.Semiring.arithmetic g.met.S.Semiring.is_semiring c.args.rows.now c.args.values.now c.args.scale c.requires.lengths c.requires.values c.requires.scale c.loop-n.n c.loop-n-test.true)

pub loop-n-preserved : goal.loop-n-preserved
loop-n-preserved g c =
    let s = g.S.Semiring.arithmetic in
    let laws = g.met.S.Semiring.is_semiring in
    let r = c.requires in
    let rows = c.args.rows.now in
    let values = c.args.values.now in
    let k = c.args.scale in
    let n = c.loop-n.n in
    let l = c.loop-n-test.true in
    let inv = c.loop-n.invariant in
    let e = c.put-len.ensures in
    let step = rw c.scaled-value.ensures at e.sum in
    let most = inv.most in
    let grown = e.most in
    let from : c.args.from ≤ n = omega arith in
    record {
      long = omega (arith, e.length, inv.long);
      values_long = omega (arith, e.values_length, inv.values_long);
      most = omega arith;
      column = e.column;
      so_far = so_far_more s laws _ _ _ _ _ _ inv.so_far (λ i. scaled_split s laws rows values k r.lengths r.values r.scale n i r.order l)
          (λ i. one_value-value s laws _ i (nth_product s laws rows values k r.lengths r.values r.scale n l))
          (λ i. scaled_value s laws rows values k r.lengths r.values r.scale (n + 1) i) step;
      none = λ m. absurd (omega arith);
      before = λ m. e.rows (get_or rows (n + 1) 0) (r.order n (n + 1) 0 (omega arith) m);
    }

pub returns-clause-sum : goal.returns-clause-sum
returns-clause-sum g c =
    let s = g.S.Semiring.arithmetic in
    let r = c.requires in
    so_far_all s g.met.S.Semiring.is_semiring _ _ _ c.loop-n.invariant.so_far (λ i. scaled_end s g.met.S.Semiring.is_semiring c.args.rows.now c.args.values.now c.args.scale r.lengths r.values r.scale c.loop-n.n i c.loop-n-test.false)
