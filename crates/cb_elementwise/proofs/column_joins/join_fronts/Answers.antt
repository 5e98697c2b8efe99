use Rattle.cb_elementwise.proofs.ColumnJoins.{left_first, right_first}
use Rattle.cb_elementwise.proofs.column_joins.join_fronts.Goals as goal

pub returns-then-are_below-clause-joined : goal.returns-then-are_below-clause-joined
returns-then-are_below-clause-joined g c =
    left_first g.S.Semiring.arithmetic g.met.S.Semiring.is_semiring (g.R.Rule.combined c.args.rule.now) (g.met.R.Rule.zeros c.args.rule.now) c.args.left_rows.now c.args.left_values.now c.args.right_rows.now c.args.right_values.now c.requires.left c.requires.right
    c.keeps_left-keeps_left.result _ _ _ _ c.requires.no_rows c.requires.no_values c.keeps_left-keeps_left.ensures (c.are_below.ensures c.if-are_below.true) c.keep_all.ensures.rows c.keep_all.ensures.values

pub returns-then-are_below-2-clause-joined : goal.returns-then-are_below-2-clause-joined
returns-then-are_below-2-clause-joined g c =
    right_first g.S.Semiring.arithmetic g.met.S.Semiring.is_semiring (g.R.Rule.combined c.args.rule.now) (g.met.R.Rule.zeros c.args.rule.now) c.args.left_rows.now c.args.left_values.now c.args.right_rows.now c.args.right_values.now c.requires.left c.requires.right
    c.keeps_right-keeps_right.result _ _ _ _ c.requires.no_rows c.requires.no_values c.keeps_right-keeps_right.ensures (c.are_below-2.ensures c.if-are_below-2.true) c.keep_all-then-are_below-2.ensures.rows c.keep_all-then-are_below-2.ensures.values
