use Rattle.std.proofs.Common.{◌+◌, get_or, sym, ap, arith, subst}
use Rattle.std.specs.Prelude.{nat_lt}
use Rattle.cb_semirings.specs.Arithmetic.{IsValue}
use Rattle.cb_elementwise.proofs.ColumnJoins.{joined_none, same_next, lower_next, lower_room, value_here}
use Rattle.cb_elementwise.proofs.column_joins.walk_fronts.Goals as goal

pub loop-x-init : goal.loop-x-init
loop-x-init g c = record {
  joined = joined_none g.S.Semiring.arithmetic g.met.S.Semiring.is_semiring (g.R.Rule.combined c.args.rule.now) c.args.left_rows.now c.args.left_values.now c.args.right_rows.now c.args.right_values.now c.requires.left c.requires.right (g.met.R.Rule.zeros c.args.rule.now) _ _ c.requires.no_rows c.requires.no_values;
  rows_room = omega (arith, c.requires.rows_room);
  values_room = omega (arith, c.requires.values_room);
}

pub loop-x-preserved-then-left_row-right_row : goal.loop-x-preserved-then-left_row-right_row
loop-x-preserved-then-left_row-right_row g c =
    let s = g.S.Semiring.arithmetic in
    let laws = g.met.S.Semiring.is_semiring in
    let rule = c.args.rule.now in
    let inv = c.loop-x.invariant in
    let x = c.loop-x.x in
    let y = c.loop-x.y in
    let l = c.loop-x-test.true in
    let m = c.if-y-right_rows.true in
    let left = c.requires.left in
    let right = c.requires.right in
    let kept = c.keep_if.ensures in
    let value : IsValue s c.combine-value.result = subst (IsValue s) (sym c.combine-value.ensures) (g.met.R.Rule.values rule (get_or c.args.left_values.now x 0) (get_or c.args.right_values.now y 0) (value_here s c.args.left_rows.now c.args.left_values.now left x l) (value_here s c.args.right_rows.now c.args.right_values.now right y m)) in
    record {
      joined = same_next s laws (g.R.Rule.combined rule) c.args.left_rows.now c.args.left_values.now c.args.right_rows.now c.args.right_values.now left right x y c.loop-x.kept_rows.items c.loop-x.kept_values.items l m inv.joined c.combine-value.result c.zero.result _ _ c.if-left_row-right_row.true c.combine-value.ensures value c.zero.ensures kept.rows kept.values;
      rows_room = omega (arith, inv.rows_room, kept.rows_capacity, kept.rows_len);
      values_room = omega (arith, inv.values_room, kept.values_capacity, kept.values_len);
    }

pub loop-x-preserved : goal.loop-x-preserved
loop-x-preserved g c =
    let s = g.S.Semiring.arithmetic in
    let laws = g.met.S.Semiring.is_semiring in
    let rule = c.args.rule.now in
    let inv = c.loop-x.invariant in
    let x = c.loop-x.x in
    let y = c.loop-x.y in
    let l = c.loop-x-test.true in
    let m = c.if-y-right_rows.true in
    let left = c.requires.left in
    let right = c.requires.right in
    let kept = c.keep_if-else-left_row-right_row.ensures in
    let b = nat_lt (get_or c.args.left_rows.now x 0) (get_or c.args.right_rows.now y 0) in
    record {
      joined = lower_next s laws (g.R.Rule.combined rule) c.args.left_rows.now c.args.left_values.now c.args.right_rows.now c.args.right_values.now left right x y c.loop-x.kept_rows.items c.loop-x.kept_values.items l m inv.joined c.keeps_left.result c.keeps_right.result c.keeps_left.ensures c.keeps_right.ensures c.pick-is_kept.result c.pick-row.result c.pick-value.result _ _ _ _ c.if-left_row-right_row.false (ap (λ n. x + n) c.from-x.ensures) (ap (λ n. y + n) c.from-y.ensures) c.pick-is_kept.ensures c.pick-row.ensures c.pick-value.ensures kept.rows kept.values;
      rows_room = lower_room b _ _ _ _ _ _ _ _ _ _ l m c.from-x.ensures c.from-y.ensures inv.rows_room kept.rows_len kept.rows_capacity;
      values_room = lower_room b _ _ _ _ _ _ _ _ _ _ l m c.from-x.ensures c.from-y.ensures inv.values_room kept.values_len kept.values_capacity;
    }
