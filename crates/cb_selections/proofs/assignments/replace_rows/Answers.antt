use Rattle.std.proofs.Common.{sym, subst}
use Rattle.std.proofs.lemmas.Result.{on_ok_weaker}
use Rattle.cb_product.specs.SparseColumn.{IsSparseColumn}
use Rattle.cb_selections.specs.KernelSteps.{IsFirstFrom, HasRowsReplaced}
use Rattle.cb_selections.proofs.ReplacedRows.{first_order, all_rows, replaced_column, replaced_values}
use Rattle.cb_selections.proofs.assignments.replace_rows.Goals as goal

pub fill-requires-clause-order : goal.fill-requires-clause-order
fill-requires-clause-order g c =
    let rows = c.args.rows.now in
    let range = c.args.range in
    let start = c.first_from-start.result in
    let end = c.first_from-end.result in
    let first : IsFirstFrom rows range.0 start = record { within = c.first_from-start.ensures.within; below = c.first_from-start.ensures.below; from = c.first_from-start.ensures.from } in
    let last : IsFirstFrom rows range.1 end = record { within = c.first_from-end.ensures.within; below = c.first_from-end.ensures.below; from = c.first_from-end.ensures.from } in
    first_order rows range.0 range.1 start end c.requires.order first last

pub returns-clause-column : goal.returns-clause-column
returns-clause-column g c =
    let s = g.S.Semiring.arithmetic in
    let rows = c.args.rows.now in
    let values = c.args.values.now in
    let others = c.args.part_rows.now in
    let other_values = c.args.part_values.now in
    let range = c.args.range in
    let start = c.first_from-start.result in
    let end = c.first_from-end.result in
    let first : IsFirstFrom rows range.0 start = record { within = c.first_from-start.ensures.within; below = c.first_from-start.ensures.below; from = c.first_from-start.ensures.from } in
    let last : IsFirstFrom rows range.1 end = record { within = c.first_from-end.ensures.within; below = c.first_from-end.ensures.below; from = c.first_from-end.ensures.from } in
    let column = replaced_column s range rows values others other_values c.requires.column c.requires.part_column c.requires.order c.requires.inside start end first last in
    on_ok_weaker c.fill.result (λ h. subst (λ ks. IsSparseColumn s ks c.fill.new.list.items) (sym c.in_ok-fill_rows.ensures) (subst (IsSparseColumn s (all_rows s range rows values others other_values c.requires.column c.requires.part_column c.requires.order c.requires.inside start end first last)) (sym h) column)) c.fill.ensures

pub returns-clause-values : goal.returns-clause-values
returns-clause-values g c =
    let s = g.S.Semiring.arithmetic in
    let rows = c.args.rows.now in
    let values = c.args.values.now in
    let others = c.args.part_rows.now in
    let other_values = c.args.part_values.now in
    let range = c.args.range in
    let start = c.first_from-start.result in
    let end = c.first_from-end.result in
    let first : IsFirstFrom rows range.0 start = record { within = c.first_from-start.ensures.within; below = c.first_from-start.ensures.below; from = c.first_from-start.ensures.from } in
    let last : IsFirstFrom rows range.1 end = record { within = c.first_from-end.ensures.within; below = c.first_from-end.ensures.below; from = c.first_from-end.ensures.from } in
    let has = replaced_values s range rows values others other_values c.requires.column c.requires.part_column c.requires.order c.requires.inside start end first last in
    on_ok_weaker c.fill.result (λ h. subst (λ ks. HasRowsReplaced s.zero range rows values others other_values ks c.fill.new.list.items) (sym c.in_ok-fill_rows.ensures) (subst (HasRowsReplaced s.zero range rows values others other_values (all_rows s range rows values others other_values c.requires.column c.requires.part_column c.requires.order c.requires.inside start end first last)) (sym h) has)) c.fill.ensures
