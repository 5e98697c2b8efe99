use Rattle.std.proofs.Common.{◌≡◌, get_or, sym, subst, arith}
use Rattle.cb_semirings.specs.Arithmetic.{IsValue}
use Rattle.cb_elementwise.proofs.ColumnJoins.{joined_none, same_next, value_here, left_passed_over, right_passed_over}
use Rattle.cb_elementwise.proofs.column_joins.find_fronts.Goals as goal

pub loop-x-init : goal.loop-x-init
loop-x-init g c = record {
  joined = joined_none g.S.Semiring.arithmetic g.met.S.Semiring.is_semiring (g.R.Rule.combined c.args.rule.now) c.args.left_rows.now c.args.left_values.now c.args.right_rows.now c.args.right_values.now c.requires.left c.requires.right (g.met.R.Rule.zeros c.args.rule.now) _ _ c.requires.no_rows c.requires.no_values;
  rows_room = omega (arith, c.requires.rows_room);
  values_room = omega (arith, c.requires.values_room);
}

pub loop-x-preserved-then-left_row-right_row : goal.loop-x-preserved-then-left_row-right_row
loop-x-preserved-then-left_row-right_row g c =
    let s = g.S.Semiring.arithmetic in
    let laws = g.met.S.Semiring.is_semiring in
    let rule = c.args.rule.now in
    let inv = c.loop-x.invariant in
    let x = c.loop-x.x in
    let y = c.loop-x.y in
    let left = c.requires.left in
    let right = c.requires.right in
    let found = c.first_from-x.ensures in
    record {
      joined = left_passed_over s laws (g.R.Rule.combined rule) c.args.left_rows.now c.args.left_values.now c.args.right_rows.now c.args.right_values.now left right c.requires.left_dropped x y c.first_from-x.result c.loop-x.kept_rows.items c.loop-x.kept_values.items found.past found.within found.below inv.joined;
      rows_room = omega (arith, inv.rows_room, found.past);
      values_room = omega (arith, inv.values_room, found.past);
    }

pub loop-x-preserved-then-right_row-left_row : goal.loop-x-preserved-then-right_row-left_row
loop-x-preserved-then-right_row-left_row g c =
    let s = g.S.Semiring.arithmetic in
    let laws = g.met.S.Semiring.is_semiring in
    let rule = c.args.rule.now in
    let inv = c.loop-x.invariant in
    let x = c.loop-x.x in
    let y = c.loop-x.y in
    let left = c.requires.left in
    let right = c.requires.right in
    let found = c.first_from-y.ensures in
    record {
      joined = right_passed_over s laws (g.R.Rule.combined rule) c.args.left_rows.now c.args.left_values.now c.args.right_rows.now c.args.right_values.now left right c.requires.right_dropped x y c.first_from-y.result c.loop-x.kept_rows.items c.loop-x.kept_values.items found.past found.within found.below inv.joined;
      rows_room = omega (arith, inv.rows_room, found.past);
      values_room = omega (arith, inv.values_room, found.past);
    }

pub loop-x-preserved : goal.loop-x-preserved
loop-x-preserved g c =
    let s = g.S.Semiring.arithmetic in
    let laws = g.met.S.Semiring.is_semiring in
    let rule = c.args.rule.now in
    let inv = c.loop-x.invariant in
    let x = c.loop-x.x in
    let y = c.loop-x.y in
    let l = c.loop-x-test.true in
    let m = c.if-y-right_rows.true in
    let left = c.requires.left in
    let right = c.requires.right in
    let not_left = c.if-left_row-right_row.false in
    let not_right = c.if-right_row-left_row.false in
    let same : get_or c.args.left_rows.now x 0 ≡ get_or c.args.right_rows.now y 0 = omega arith in
    let kept = c.keep_if.ensures in
    let value : IsValue s c.combine-value.result = subst (IsValue s) (sym c.combine-value.ensures) (g.met.R.Rule.values rule (get_or c.args.left_values.now x 0) (get_or c.args.right_values.now y 0) (value_here s c.args.left_rows.now c.args.left_values.now left x l) (value_here s c.args.right_rows.now c.args.right_values.now right y m)) in
    record {
      joined = same_next s laws (g.R.Rule.combined rule) c.args.left_rows.now c.args.left_values.now c.args.right_rows.now c.args.right_values.now left right x y c.loop-x.kept_rows.items c.loop-x.kept_values.items l m inv.joined c.combine-value.result c.zero.result _ _ same c.combine-value.ensures value c.zero.ensures kept.rows kept.values;
      rows_room = omega (arith, inv.rows_room, kept.rows_capacity, kept.rows_len);
      values_room = omega (arith, inv.values_room, kept.values_capacity, kept.values_len);
    }
