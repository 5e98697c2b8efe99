use Rattle.std.proofs.Common.{◌≡◌, ◌<◌, ◌+◌, get_or, refl, arith}
use Rattle.std.proofs.lemmas.List.Elements.{All-nil}
use Rattle.cb_product.proofs.RowValues.{one_value-value}
use Rattle.cb_product.proofs.ColumnSoFar.{empty_column, so_far_start, so_far_more}
use Rattle.cb_product.proofs.ScaledSum.{left_value, own_is, other_is, first_next, other_next, both_next, joined_all}
use Rattle.cb_product.proofs.joins.put_joined.Goals as goal
use Rattle.cb_product.proofs.joins.put_joined.Goals.{then-loop-x-test+else-y-rows, else-loop-x-test}

pub loop-x-init : goal.loop-x-init
loop-x-init g c =
    let s = g.S.Semiring.arithmetic in
    let laws = g.met.S.Semiring.is_semiring in
    let r = c.requires in
    record {
      long = refl;
      values_long = refl;
      x_within = omega arith;
      y_within = omega arith;
      most = omega arith;
      column = empty_column s;
      so_far = so_far_start s laws _ _ refl (λ i. left_value s laws c.args.own_rows.now c.args.own_values.now c.args.own_scale r.own_lengths r.own_values r.own_order r.own_scale c.args.rows.now c.args.values.now c.args.scale r.lengths r.values r.order r.scale 0 0 i);
      own_before = λ l. All-nil (λ i. i < get_or c.args.own_rows.now 0 0);
      before = λ l. All-nil (λ i. i < get_or c.args.rows.now 0 0);
    }

pub loop-x-preserved-then-own_row-row : goal.loop-x-preserved-then-own_row-row
loop-x-preserved-then-own_row-row g c =
    let s = g.S.Semiring.arithmetic in
    let laws = g.met.S.Semiring.is_semiring in
    let r = c.requires in
    let own_rows = c.args.own_rows.now in
    let own_values = c.args.own_values.now in
    let j = c.args.own_scale in
    let rows = c.args.rows.now in
    let values = c.args.values.now in
    let k = c.args.scale in
    let inv = c.loop-x.invariant in
    let x = c.loop-x.x in
    let y = c.loop-x.y in
    let lx = c.loop-x-test.true in
    let e = c.put-count.ensures in
    let kept = rw c.scaled-value.ensures at e.sum in
    record {
      long = omega (arith, e.length, inv.long);
      values_long = omega (arith, e.values_length, inv.values_long);
      x_within = omega arith;
      y_within = inv.y_within;
      most = (let m = e.most in let n = inv.most in omega arith);
      column = e.column;
      so_far = so_far_more s laws _ _ _ _ _ _ inv.so_far (λ i. first_next s laws own_rows own_values j r.own_lengths r.own_values r.own_order r.own_scale rows values k r.lengths r.values r.order r.scale x y i lx) (λ i. one_value-value s laws _ i (own_is s laws own_rows own_values j r.own_lengths r.own_values r.own_order r.own_scale rows values k r.lengths r.values r.order r.scale x lx)) (λ i. left_value s laws own_rows own_values j r.own_lengths r.own_values r.own_order r.own_scale rows values k r.lengths r.values r.order r.scale (x + 1) y i) kept;
      own_before = λ m. e.rows (get_or own_rows (x + 1) 0) (r.own_order x (x + 1) 0 (omega arith) m);
      before = λ m. e.rows (get_or rows y 0) c.if-own_row-row.true;
    }

pub loop-x-preserved-then-row-own_row : goal.loop-x-preserved-then-row-own_row
loop-x-preserved-then-row-own_row g c =
    let s = g.S.Semiring.arithmetic in
    let laws = g.met.S.Semiring.is_semiring in
    let r = c.requires in
    let own_rows = c.args.own_rows.now in
    let own_values = c.args.own_values.now in
    let j = c.args.own_scale in
    let rows = c.args.rows.now in
    let values = c.args.values.now in
    let k = c.args.scale in
    let inv = c.loop-x.invariant in
    let x = c.loop-x.x in
    let y = c.loop-x.y in
    let ly = c.if-y-rows.true in
    let e = c.put-count-then-row-own_row.ensures in
    let kept = rw c.scaled-value-then-row-own_row.ensures at e.sum in
    record {
      long = omega (arith, e.length, inv.long);
      values_long = omega (arith, e.values_length, inv.values_long);
      x_within = inv.x_within;
      y_within = omega arith;
      most = (let m = e.most in let n = inv.most in omega arith);
      column = e.column;
      so_far = so_far_more s laws _ _ _ _ _ _ inv.so_far (λ i. other_next s laws own_rows own_values j r.own_lengths r.own_values r.own_order r.own_scale rows values k r.lengths r.values r.order r.scale x y i ly) (λ i. one_value-value s laws _ i (other_is s laws own_rows own_values j r.own_lengths r.own_values r.own_order r.own_scale rows values k r.lengths r.values r.order r.scale y ly)) (λ i. left_value s laws own_rows own_values j r.own_lengths r.own_values r.own_order r.own_scale rows values k r.lengths r.values r.order r.scale x (y + 1) i) kept;
      own_before = λ m. e.rows (get_or own_rows x 0) c.if-row-own_row.true;
      before = λ m. e.rows (get_or rows (y + 1) 0) (r.order y (y + 1) 0 (omega arith) m);
    }

pub loop-x-preserved : goal.loop-x-preserved
loop-x-preserved g c =
    let s = g.S.Semiring.arithmetic in
    let laws = g.met.S.Semiring.is_semiring in
    let r = c.requires in
    let own_rows = c.args.own_rows.now in
    let own_values = c.args.own_values.now in
    let j = c.args.own_scale in
    let rows = c.args.rows.now in
    let values = c.args.values.now in
    let k = c.args.scale in
    let inv = c.loop-x.invariant in
    let x = c.loop-x.x in
    let y = c.loop-x.y in
    let lx = c.loop-x-test.true in
    let ly = c.if-y-rows.true in
    let e = c.put-count-else-row-own_row.ensures in
    let kept = rw (c.add.ensures, c.scaled-own_value.ensures, c.scaled-value-else-row-own_row.ensures) at e.sum in
    let not_before = c.if-own_row-row.false in
    let not_after = c.if-row-own_row.false in
    let same : get_or own_rows x 0 ≡ get_or rows y 0 = omega arith in
    record {
      long = omega (arith, e.length, inv.long);
      values_long = omega (arith, e.values_length, inv.values_long);
      x_within = omega arith;
      y_within = omega arith;
      most = (let m = e.most in let n = inv.most in omega arith);
      column = e.column;
      so_far = so_far_more s laws _ _ _ _ _ _ inv.so_far (λ i. both_next s laws own_rows own_values j r.own_lengths r.own_values r.own_order r.own_scale rows values k r.lengths r.values r.order r.scale x y i lx ly same) (λ i. one_value-value s laws _ i (laws.add_value _ _ (own_is s laws own_rows own_values j r.own_lengths r.own_values r.own_order r.own_scale rows values k r.lengths r.values r.order r.scale x lx) (other_is s laws own_rows own_values j r.own_lengths r.own_values r.own_order r.own_scale rows values k r.lengths r.values r.order r.scale y ly))) (λ i. left_value s laws own_rows own_values j r.own_lengths r.own_values r.own_order r.own_scale rows values k r.lengths r.values r.order r.scale (x + 1) (y + 1) i) kept;
      own_before = λ m. let up : get_or own_rows x 0 < get_or own_rows (x + 1) 0 = r.own_order x (x + 1) 0 (omega arith) m in e.rows (get_or own_rows (x + 1) 0) (omega arith);
      before = λ m. e.rows (get_or rows (y + 1) 0) (r.order y (y + 1) 0 (omega arith) m);
    }

pub put_rest-requires-clause-after : goal.put_rest-requires-clause-after
put_rest-requires-clause-after g c =
    λ m. elim c.loop-x-test.branch [
      | then-loop-x-test+else-y-rows w ↦ absurd (let l = w.if-y-rows.false in omega arith)
      | else-loop-x-test w ↦ rw (c.put_rest-len.ensures.none (let l = w.loop-x-test.false in omega arith)) (c.loop-x.invariant.before m)
    ]

pub returns-clause-sum : goal.returns-clause-sum
returns-clause-sum g c =
    let r = c.requires in
    joined_all g.S.Semiring.arithmetic g.met.S.Semiring.is_semiring c.args.own_rows.now c.args.own_values.now c.args.own_scale r.own_lengths r.own_values r.own_order r.own_scale c.args.rows.now c.args.values.now c.args.scale r.lengths r.values r.order r.scale _ _ _ _ c.loop-x.x c.loop-x.y c.loop-x.invariant.so_far c.put_rest-len.ensures.sum c.put_rest.ensures.sum
