use Rattle.std.proofs.Common.{◌++◌, drop, length, ap, ◌∙◌, arith}
use Rattle.std.proofs.lemmas.Result.{on_ok_weaker}
use Rattle.cb_elementwise.specs.JoinedColumns.{where_kept}
use Rattle.cb_elementwise.proofs.ColumnJoins.{rest_joined, joined_all}
use Rattle.cb_elementwise.proofs.column_joins.join_columns.Goals as goal

pub returns-clause-column : goal.returns-clause-column
returns-clause-column g c =
    let s = g.S.Semiring.arithmetic in
    let laws = g.met.S.Semiring.is_semiring in
    let f = g.R.Rule.combined c.args.rule.now in
    let ls = c.args.left_rows.now in
    let lvs = c.args.left_values.now in
    let rs = c.args.right_rows.now in
    let rvs = c.args.right_values.now in
    let fronts = c.join_fronts-x in
    let rows = c.in_ok-keep_rest-3.ensures ∙ ap (λ xs. xs ++ where_kept c.keeps_right-keeps_right.result (drop fronts.result.1 rs)) c.in_ok-keep_rest.ensures in
    on_ok_weaker c.keep_rest-4.result (λ h.
    let values = h ∙ ap (λ xs. xs ++ where_kept c.keeps_right-keeps_right.result (drop fronts.result.1 rvs)) c.in_ok-keep_rest-2.ensures in
    let all = rest_joined s laws f ls lvs rs rvs c.requires.left c.requires.right fronts.result.0 fronts.result.1 fronts.new.kept_rows.items fronts.new.kept_values.items c.keep_rest-3.new.list.items c.keep_rest-4.new.list.items c.keeps_left-keeps_left.result c.keeps_right-keeps_right.result fronts.ensures.ended c.keeps_left-keeps_left.ensures c.keeps_right-keeps_right.ensures rows values fronts.ensures.joined in
    all.column) c.keep_rest-4.ensures

pub returns-clause-values : goal.returns-clause-values
returns-clause-values g c =
    let s = g.S.Semiring.arithmetic in
    let laws = g.met.S.Semiring.is_semiring in
    let f = g.R.Rule.combined c.args.rule.now in
    let ls = c.args.left_rows.now in
    let lvs = c.args.left_values.now in
    let rs = c.args.right_rows.now in
    let rvs = c.args.right_values.now in
    let fronts = c.join_fronts-x in
    let rows = c.in_ok-keep_rest-3.ensures ∙ ap (λ xs. xs ++ where_kept c.keeps_right-keeps_right.result (drop fronts.result.1 rs)) c.in_ok-keep_rest.ensures in
    on_ok_weaker c.keep_rest-4.result (λ h.
    let values = h ∙ ap (λ xs. xs ++ where_kept c.keeps_right-keeps_right.result (drop fronts.result.1 rvs)) c.in_ok-keep_rest-2.ensures in
    let all = rest_joined s laws f ls lvs rs rvs c.requires.left c.requires.right fronts.result.0 fronts.result.1 fronts.new.kept_rows.items fronts.new.kept_values.items c.keep_rest-3.new.list.items c.keep_rest-4.new.list.items c.keeps_left-keeps_left.result c.keeps_right-keeps_right.result fronts.ensures.ended c.keeps_left-keeps_left.ensures c.keeps_right-keeps_right.ensures rows values fronts.ensures.joined in
    joined_all s laws f ls lvs rs rvs c.requires.left c.requires.right (length ls) (length rs) c.keep_rest-3.new.list.items c.keep_rest-4.new.list.items (omega arith) (omega arith) all) c.keep_rest-4.ensures
