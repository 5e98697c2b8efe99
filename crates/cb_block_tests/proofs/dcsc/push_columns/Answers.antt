use Rattle.std.proofs.Common.{◌<◌, List, subst, sym, arith}
use Rattle.std.specs.Prelude.{All}
use Rattle.std.proofs.lemmas.List.Elements.{All-nil}
use Rattle.cb_matrix.specs.declared.Entry.{Entry}
use Rattle.cb_dcsc.proofs.WholeColumn.{column_before}
use Rattle.cb_block_tests.proofs.dcsc.push_columns.Goals as goal

pub push_column-requires-2-clause-before : goal.push_column-requires-2-clause-before
push_column-requires-2-clause-before c =
    let nothing = subst (λ (es : List Entry). All (λ e. e.column < 5) es) (sym c.requires.empty) (All-nil (λ e. e.column < 5)) in
    column_before _ _ 3 5 _ _ c.in_ok-push_column.ensures.ok nothing (omega arith)

pub push_column-requires-3-clause-before : goal.push_column-requires-3-clause-before
push_column-requires-3-clause-before c =
    let nothing = subst (λ (es : List Entry). All (λ e. e.column < 900) es) (sym c.requires.empty) (All-nil (λ e. e.column < 900)) in
    column_before _ _ 5 900 _ _ c.in_ok-push_column-2.ensures.ok (column_before _ _ 3 900 _ _ c.in_ok-push_column.ensures.ok nothing (omega arith)) (omega arith)
