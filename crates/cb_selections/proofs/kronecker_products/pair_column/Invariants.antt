use Rattle.std.proofs.Common.{◌*◌, ◌+◌, ◌^◌, get_or}
use Rattle.cb_dcsc.specs.Columns.{row_value}
use Rattle.cb_operations.specs.SelectionAnswers.{pair_value}
use Rattle.cb_selections.proofs.ListMade.{IsListTo}
use Rattle.cb_selections.proofs.kronecker_products.pair_column.Given as goal

abbrev pub invariant-loop-n : goal.invariant-loop-n
invariant-loop-n g l =
    let s = g.S.Semiring.arithmetic in
    IsListTo s (λ i. pair_value s l.height (row_value s.zero l.left_rows l.left_values) (row_value s.zero l.rows l.values) i) (get_or l.left_rows l.n (2 ^ 32) * l.height) l.kept_rows.items l.kept_values.items

abbrev pub invariant-loop-m : goal.invariant-loop-m
invariant-loop-m g l =
    let s = g.S.Semiring.arithmetic in
    IsListTo s (λ i. pair_value s l.height (row_value s.zero l.left_rows l.left_values) (row_value s.zero l.rows l.values) i) (get_or l.left_rows l.n 0 * l.height + get_or l.rows l.m l.height) l.kept_rows.items l.kept_values.items
