use Rattle.std.proofs.Common.{◌<◌, ◌⊎◌, length, inl, inr, sym, ap, ◌∙◌, subst, arith}
use Rattle.std.specs.Prelude.{All}
use Rattle.cb_matrix.specs.Sparse.{Extent}
use Rattle.cb_elementwise.proofs.MatrixJoins.{walk_start, walk_end, left_made, left_step, right_made, right_step, both_made, column_inside_shape, left_column, right_column, rows_inside_shape, both_step}
use Rattle.cb_elementwise.proofs.joins.push_columns.Goals.{then-x-left_columns, else-x-left_columns+then-y-right_columns}
use Rattle.cb_elementwise.proofs.joins.push_columns.Goals as goal

pub loop-x-init : goal.loop-x-init
loop-x-init g c =
    let s = g.S.Semiring.arithmetic in
    let laws = g.met.S.Semiring.is_semiring in
    let f = g.R.Rule.combined c.args.rule.now in
    let a = c.args.left.now in
    let b = c.args.right.now in
    let ls = c.column_numbers-left_columns in
    let rs = c.column_numbers-right_columns in
    let r = c.requires in
    walk_start s laws f (g.met.R.Rule.zeros c.args.rule.now) a b r.left r.right r.shape ls.result.now rs.result.now ls.ensures.numbers rs.ensures.numbers ls.ensures.ascending rs.ensures.ascending ls.ensures.inside rs.ensures.inside ls.ensures.all rs.ensures.all c.args.out.now r.out_matrix r.empty

pub push_alone-requires-clause-out_matrix : goal.push_alone-requires-clause-out_matrix
push_alone-requires-clause-out_matrix g c =
    let s = g.S.Semiring.arithmetic in
    let laws = g.met.S.Semiring.is_semiring in
    let f = g.R.Rule.combined c.args.rule.now in
    let a = c.args.left.now in
    let b = c.args.right.now in
    let ls = c.column_numbers-left_columns in
    let rs = c.column_numbers-right_columns in
    let r = c.requires in
    (left_made s laws f (g.met.R.Rule.zeros c.args.rule.now) a b r.left r.right r.shape ls.result.now rs.result.now ls.ensures.numbers rs.ensures.numbers ls.ensures.ascending rs.ensures.ascending ls.ensures.inside rs.ensures.inside ls.ensures.all rs.ensures.all c.loop-x.x c.loop-x.y c.loop-x.out c.nth_or-left_column.result c.nth_or-right_column.result c.cols-cols.result (c.cols-cols.ensures.value ∙ ap (λ (d : Extent). d.cols) c.shape.ensures.shape) c.nth_or-left_column.ensures c.nth_or-right_column.ensures c.loop-x.invariant c.if-left_column-right_column.true).matrix

pub push_alone-requires-clause-shape : goal.push_alone-requires-clause-shape
push_alone-requires-clause-shape g c =
    let s = g.S.Semiring.arithmetic in
    let laws = g.met.S.Semiring.is_semiring in
    let f = g.R.Rule.combined c.args.rule.now in
    let a = c.args.left.now in
    let b = c.args.right.now in
    let ls = c.column_numbers-left_columns in
    let rs = c.column_numbers-right_columns in
    let r = c.requires in
    (left_made s laws f (g.met.R.Rule.zeros c.args.rule.now) a b r.left r.right r.shape ls.result.now rs.result.now ls.ensures.numbers rs.ensures.numbers ls.ensures.ascending rs.ensures.ascending ls.ensures.inside rs.ensures.inside ls.ensures.all rs.ensures.all c.loop-x.x c.loop-x.y c.loop-x.out c.nth_or-left_column.result c.nth_or-right_column.result c.cols-cols.result (c.cols-cols.ensures.value ∙ ap (λ (d : Extent). d.cols) c.shape.ensures.shape) c.nth_or-left_column.ensures c.nth_or-right_column.ensures c.loop-x.invariant c.if-left_column-right_column.true).shape

pub push_alone-requires-clause-before : goal.push_alone-requires-clause-before
push_alone-requires-clause-before g c =
    let s = g.S.Semiring.arithmetic in
    let laws = g.met.S.Semiring.is_semiring in
    let f = g.R.Rule.combined c.args.rule.now in
    let a = c.args.left.now in
    let b = c.args.right.now in
    let ls = c.column_numbers-left_columns in
    let rs = c.column_numbers-right_columns in
    let r = c.requires in
    (left_made s laws f (g.met.R.Rule.zeros c.args.rule.now) a b r.left r.right r.shape ls.result.now rs.result.now ls.ensures.numbers rs.ensures.numbers ls.ensures.ascending rs.ensures.ascending ls.ensures.inside rs.ensures.inside ls.ensures.all rs.ensures.all c.loop-x.x c.loop-x.y c.loop-x.out c.nth_or-left_column.result c.nth_or-right_column.result c.cols-cols.result (c.cols-cols.ensures.value ∙ ap (λ (d : Extent). d.cols) c.shape.ensures.shape) c.nth_or-left_column.ensures c.nth_or-right_column.ensures c.loop-x.invariant c.if-left_column-right_column.true).before

pub loop-x-preserved-then-left_column-right_column : goal.loop-x-preserved-then-left_column-right_column
loop-x-preserved-then-left_column-right_column g c =
    let s = g.S.Semiring.arithmetic in
    let laws = g.met.S.Semiring.is_semiring in
    let f = g.R.Rule.combined c.args.rule.now in
    let a = c.args.left.now in
    let b = c.args.right.now in
    let ls = c.column_numbers-left_columns in
    let rs = c.column_numbers-right_columns in
    let r = c.requires in
    left_step s laws f (g.met.R.Rule.zeros c.args.rule.now) a b r.left r.right r.shape ls.result.now rs.result.now ls.ensures.numbers rs.ensures.numbers ls.ensures.ascending rs.ensures.ascending ls.ensures.inside rs.ensures.inside ls.ensures.all rs.ensures.all c.loop-x.x c.loop-x.y c.loop-x.out c.nth_or-left_column.result c.nth_or-right_column.result c.cols-cols.result (c.cols-cols.ensures.value ∙ ap (λ (d : Extent). d.cols) c.shape.ensures.shape) c.nth_or-left_column.ensures c.nth_or-right_column.ensures c.loop-x.invariant c.if-left_column-right_column.true c.keeps_left.result c.keeps_left.ensures c.push_alone.new.out c.in_ok-push_alone.ensures.ok c.in_ok-push_alone.ensures.matrix

pub push_alone-requires-then-right_column-left_column-clause-out_matrix : goal.push_alone-requires-then-right_column-left_column-clause-out_matrix
push_alone-requires-then-right_column-left_column-clause-out_matrix g c =
    let s = g.S.Semiring.arithmetic in
    let laws = g.met.S.Semiring.is_semiring in
    let f = g.R.Rule.combined c.args.rule.now in
    let a = c.args.left.now in
    let b = c.args.right.now in
    let ls = c.column_numbers-left_columns in
    let rs = c.column_numbers-right_columns in
    let r = c.requires in
    (right_made s laws f (g.met.R.Rule.zeros c.args.rule.now) a b r.left r.right r.shape ls.result.now rs.result.now ls.ensures.numbers rs.ensures.numbers ls.ensures.ascending rs.ensures.ascending ls.ensures.inside rs.ensures.inside ls.ensures.all rs.ensures.all c.loop-x.x c.loop-x.y c.loop-x.out c.nth_or-left_column.result c.nth_or-right_column.result c.cols-cols.result (c.cols-cols.ensures.value ∙ ap (λ (d : Extent). d.cols) c.shape.ensures.shape) c.nth_or-left_column.ensures c.nth_or-right_column.ensures c.loop-x.invariant c.if-right_column-left_column.true).matrix

pub push_alone-requires-then-right_column-left_column-clause-shape : goal.push_alone-requires-then-right_column-left_column-clause-shape
push_alone-requires-then-right_column-left_column-clause-shape g c =
    let s = g.S.Semiring.arithmetic in
    let laws = g.met.S.Semiring.is_semiring in
    let f = g.R.Rule.combined c.args.rule.now in
    let a = c.args.left.now in
    let b = c.args.right.now in
    let ls = c.column_numbers-left_columns in
    let rs = c.column_numbers-right_columns in
    let r = c.requires in
    (right_made s laws f (g.met.R.Rule.zeros c.args.rule.now) a b r.left r.right r.shape ls.result.now rs.result.now ls.ensures.numbers rs.ensures.numbers ls.ensures.ascending rs.ensures.ascending ls.ensures.inside rs.ensures.inside ls.ensures.all rs.ensures.all c.loop-x.x c.loop-x.y c.loop-x.out c.nth_or-left_column.result c.nth_or-right_column.result c.cols-cols.result (c.cols-cols.ensures.value ∙ ap (λ (d : Extent). d.cols) c.shape.ensures.shape) c.nth_or-left_column.ensures c.nth_or-right_column.ensures c.loop-x.invariant c.if-right_column-left_column.true).shape ∙ sym r.shape

pub push_alone-requires-then-right_column-left_column-clause-before : goal.push_alone-requires-then-right_column-left_column-clause-before
push_alone-requires-then-right_column-left_column-clause-before g c =
    let s = g.S.Semiring.arithmetic in
    let laws = g.met.S.Semiring.is_semiring in
    let f = g.R.Rule.combined c.args.rule.now in
    let a = c.args.left.now in
    let b = c.args.right.now in
    let ls = c.column_numbers-left_columns in
    let rs = c.column_numbers-right_columns in
    let r = c.requires in
    (right_made s laws f (g.met.R.Rule.zeros c.args.rule.now) a b r.left r.right r.shape ls.result.now rs.result.now ls.ensures.numbers rs.ensures.numbers ls.ensures.ascending rs.ensures.ascending ls.ensures.inside rs.ensures.inside ls.ensures.all rs.ensures.all c.loop-x.x c.loop-x.y c.loop-x.out c.nth_or-left_column.result c.nth_or-right_column.result c.cols-cols.result (c.cols-cols.ensures.value ∙ ap (λ (d : Extent). d.cols) c.shape.ensures.shape) c.nth_or-left_column.ensures c.nth_or-right_column.ensures c.loop-x.invariant c.if-right_column-left_column.true).before

pub loop-x-preserved-then-right_column-left_column : goal.loop-x-preserved-then-right_column-left_column
loop-x-preserved-then-right_column-left_column g c =
    let s = g.S.Semiring.arithmetic in
    let laws = g.met.S.Semiring.is_semiring in
    let f = g.R.Rule.combined c.args.rule.now in
    let a = c.args.left.now in
    let b = c.args.right.now in
    let ls = c.column_numbers-left_columns in
    let rs = c.column_numbers-right_columns in
    let r = c.requires in
    right_step s laws f (g.met.R.Rule.zeros c.args.rule.now) a b r.left r.right r.shape ls.result.now rs.result.now ls.ensures.numbers rs.ensures.numbers ls.ensures.ascending rs.ensures.ascending ls.ensures.inside rs.ensures.inside ls.ensures.all rs.ensures.all c.loop-x.x c.loop-x.y c.loop-x.out c.nth_or-left_column.result c.nth_or-right_column.result c.cols-cols.result (c.cols-cols.ensures.value ∙ ap (λ (d : Extent). d.cols) c.shape.ensures.shape) c.nth_or-left_column.ensures c.nth_or-right_column.ensures c.loop-x.invariant c.if-right_column-left_column.true c.keeps_right.result c.keeps_right.ensures c.push_alone-then-right_column-left_column.new.out c.in_ok-push_alone-2.ensures.ok c.in_ok-push_alone-2.ensures.matrix

pub join_columns-requires-clause-left : goal.join_columns-requires-clause-left
join_columns-requires-clause-left g c =
    let s = g.S.Semiring.arithmetic in
    let laws = g.met.S.Semiring.is_semiring in
    let f = g.R.Rule.combined c.args.rule.now in
    let a = c.args.left.now in
    let b = c.args.right.now in
    let ls = c.column_numbers-left_columns in
    let rs = c.column_numbers-right_columns in
    let r = c.requires in
    let some : (c.loop-x.x < length ls.result.now) ⊎ (c.loop-x.y < length rs.result.now) =
    elim c.if-x-left_columns.branch [ then-x-left_columns w ↦ inl w.if-x-left_columns.true | else-x-left_columns+then-y-right_columns w ↦ inr w.if-y-right_columns.true ] in
    left_column s laws f (g.met.R.Rule.zeros c.args.rule.now) a b r.left r.right r.shape ls.result.now rs.result.now ls.ensures.numbers rs.ensures.numbers ls.ensures.ascending rs.ensures.ascending ls.ensures.inside rs.ensures.inside ls.ensures.all rs.ensures.all c.loop-x.x c.loop-x.y c.loop-x.out c.nth_or-left_column.result c.nth_or-right_column.result c.cols-cols.result (c.cols-cols.ensures.value ∙ ap (λ (d : Extent). d.cols) c.shape.ensures.shape) c.nth_or-left_column.ensures c.nth_or-right_column.ensures c.loop-x.invariant c.if-left_column-right_column.false c.if-right_column-left_column.false some c.nth_column.result.0.now c.nth_column.result.1.now c.nth_column-else-right_column-left_column.result.0.now c.nth_column-else-right_column-left_column.result.1.now c.nth_column.ensures.rows c.nth_column.ensures.values c.nth_column-else-right_column-left_column.ensures.rows c.nth_column-else-right_column-left_column.ensures.values

pub join_columns-requires-clause-right : goal.join_columns-requires-clause-right
join_columns-requires-clause-right g c =
    let s = g.S.Semiring.arithmetic in
    let laws = g.met.S.Semiring.is_semiring in
    let f = g.R.Rule.combined c.args.rule.now in
    let a = c.args.left.now in
    let b = c.args.right.now in
    let ls = c.column_numbers-left_columns in
    let rs = c.column_numbers-right_columns in
    let r = c.requires in
    let some : (c.loop-x.x < length ls.result.now) ⊎ (c.loop-x.y < length rs.result.now) =
    elim c.if-x-left_columns.branch [ then-x-left_columns w ↦ inl w.if-x-left_columns.true | else-x-left_columns+then-y-right_columns w ↦ inr w.if-y-right_columns.true ] in
    right_column s laws f (g.met.R.Rule.zeros c.args.rule.now) a b r.left r.right r.shape ls.result.now rs.result.now ls.ensures.numbers rs.ensures.numbers ls.ensures.ascending rs.ensures.ascending ls.ensures.inside rs.ensures.inside ls.ensures.all rs.ensures.all c.loop-x.x c.loop-x.y c.loop-x.out c.nth_or-left_column.result c.nth_or-right_column.result c.cols-cols.result (c.cols-cols.ensures.value ∙ ap (λ (d : Extent). d.cols) c.shape.ensures.shape) c.nth_or-left_column.ensures c.nth_or-right_column.ensures c.loop-x.invariant c.if-left_column-right_column.false c.if-right_column-left_column.false some c.nth_column.result.0.now c.nth_column.result.1.now c.nth_column-else-right_column-left_column.result.0.now c.nth_column-else-right_column-left_column.result.1.now c.nth_column.ensures.rows c.nth_column.ensures.values c.nth_column-else-right_column-left_column.ensures.rows c.nth_column-else-right_column-left_column.ensures.values

pub push_column-requires-clause-rows : goal.push_column-requires-clause-rows
push_column-requires-clause-rows g c =
    let s = g.S.Semiring.arithmetic in
    let laws = g.met.S.Semiring.is_semiring in
    let f = g.R.Rule.combined c.args.rule.now in
    let a = c.args.left.now in
    let b = c.args.right.now in
    let ls = c.column_numbers-left_columns in
    let rs = c.column_numbers-right_columns in
    let r = c.requires in
    let some : (c.loop-x.x < length ls.result.now) ⊎ (c.loop-x.y < length rs.result.now) =
    elim c.if-x-left_columns.branch [ then-x-left_columns w ↦ inl w.if-x-left_columns.true | else-x-left_columns+then-y-right_columns w ↦ inr w.if-y-right_columns.true ] in
    subst (λ m. All (λ i. i < m) c.deref.result.now) (sym (ap (λ (d : Extent). d.rows) (both_made s laws f (g.met.R.Rule.zeros c.args.rule.now) a b r.left r.right r.shape ls.result.now rs.result.now ls.ensures.numbers rs.ensures.numbers ls.ensures.ascending rs.ensures.ascending ls.ensures.inside rs.ensures.inside ls.ensures.all rs.ensures.all c.loop-x.x c.loop-x.y c.loop-x.out c.nth_or-left_column.result c.nth_or-right_column.result c.cols-cols.result (c.cols-cols.ensures.value ∙ ap (λ (d : Extent). d.cols) c.shape.ensures.shape) c.nth_or-left_column.ensures c.nth_or-right_column.ensures c.loop-x.invariant c.if-left_column-right_column.false c.if-right_column-left_column.false some).shape)) (subst (All (λ i. i < a.shape.rows)) (sym c.deref.ensures.value) (rows_inside_shape s laws f (g.met.R.Rule.zeros c.args.rule.now) a b r.left r.right r.shape ls.result.now rs.result.now ls.ensures.numbers rs.ensures.numbers ls.ensures.ascending rs.ensures.ascending ls.ensures.inside rs.ensures.inside ls.ensures.all rs.ensures.all c.loop-x.x c.loop-x.y c.loop-x.out c.nth_or-left_column.result c.nth_or-right_column.result c.cols-cols.result (c.cols-cols.ensures.value ∙ ap (λ (d : Extent). d.cols) c.shape.ensures.shape) c.nth_or-left_column.ensures c.nth_or-right_column.ensures c.loop-x.invariant c.if-left_column-right_column.false c.if-right_column-left_column.false some c.nth_column.result.0.now c.nth_column.result.1.now c.nth_column-else-right_column-left_column.result.0.now c.nth_column-else-right_column-left_column.result.1.now c.nth_column.ensures.rows c.nth_column.ensures.values c.nth_column-else-right_column-left_column.ensures.rows c.nth_column-else-right_column-left_column.ensures.values c.join_columns.new.kept_rows.items c.join_columns.new.kept_values.items c.in_ok-join_columns.ensures.column c.in_ok-join_columns.ensures.values))

pub push_column-requires-clause-column : goal.push_column-requires-clause-column
push_column-requires-clause-column g c =
    let s = g.S.Semiring.arithmetic in
    let laws = g.met.S.Semiring.is_semiring in
    let f = g.R.Rule.combined c.args.rule.now in
    let a = c.args.left.now in
    let b = c.args.right.now in
    let ls = c.column_numbers-left_columns in
    let rs = c.column_numbers-right_columns in
    let r = c.requires in
    let some : (c.loop-x.x < length ls.result.now) ⊎ (c.loop-x.y < length rs.result.now) =
    elim c.if-x-left_columns.branch [ then-x-left_columns w ↦ inl w.if-x-left_columns.true | else-x-left_columns+then-y-right_columns w ↦ inr w.if-y-right_columns.true ] in
    let shape = ap (λ (d : Extent). d.cols) (both_made s laws f (g.met.R.Rule.zeros c.args.rule.now) a b r.left r.right r.shape ls.result.now rs.result.now ls.ensures.numbers rs.ensures.numbers ls.ensures.ascending rs.ensures.ascending ls.ensures.inside rs.ensures.inside ls.ensures.all rs.ensures.all c.loop-x.x c.loop-x.y c.loop-x.out c.nth_or-left_column.result c.nth_or-right_column.result c.cols-cols.result (c.cols-cols.ensures.value ∙ ap (λ (d : Extent). d.cols) c.shape.ensures.shape) c.nth_or-left_column.ensures c.nth_or-right_column.ensures c.loop-x.invariant c.if-left_column-right_column.false c.if-right_column-left_column.false some).shape in
    let inside = column_inside_shape s laws f (g.met.R.Rule.zeros c.args.rule.now) a b r.left r.right r.shape ls.result.now rs.result.now ls.ensures.numbers rs.ensures.numbers ls.ensures.ascending rs.ensures.ascending ls.ensures.inside rs.ensures.inside ls.ensures.all rs.ensures.all c.loop-x.x c.loop-x.y c.loop-x.out c.nth_or-left_column.result c.nth_or-right_column.result c.cols-cols.result (c.cols-cols.ensures.value ∙ ap (λ (d : Extent). d.cols) c.shape.ensures.shape) c.nth_or-left_column.ensures c.nth_or-right_column.ensures c.loop-x.invariant c.if-left_column-right_column.false c.if-right_column-left_column.false some in
    omega arith

pub push_column-requires-clause-before : goal.push_column-requires-clause-before
push_column-requires-clause-before g c =
    let s = g.S.Semiring.arithmetic in
    let laws = g.met.S.Semiring.is_semiring in
    let f = g.R.Rule.combined c.args.rule.now in
    let a = c.args.left.now in
    let b = c.args.right.now in
    let ls = c.column_numbers-left_columns in
    let rs = c.column_numbers-right_columns in
    let r = c.requires in
    let some : (c.loop-x.x < length ls.result.now) ⊎ (c.loop-x.y < length rs.result.now) =
    elim c.if-x-left_columns.branch [ then-x-left_columns w ↦ inl w.if-x-left_columns.true | else-x-left_columns+then-y-right_columns w ↦ inr w.if-y-right_columns.true ] in
    (both_made s laws f (g.met.R.Rule.zeros c.args.rule.now) a b r.left r.right r.shape ls.result.now rs.result.now ls.ensures.numbers rs.ensures.numbers ls.ensures.ascending rs.ensures.ascending ls.ensures.inside rs.ensures.inside ls.ensures.all rs.ensures.all c.loop-x.x c.loop-x.y c.loop-x.out c.nth_or-left_column.result c.nth_or-right_column.result c.cols-cols.result (c.cols-cols.ensures.value ∙ ap (λ (d : Extent). d.cols) c.shape.ensures.shape) c.nth_or-left_column.ensures c.nth_or-right_column.ensures c.loop-x.invariant c.if-left_column-right_column.false c.if-right_column-left_column.false some).before

pub loop-x-preserved : goal.loop-x-preserved
loop-x-preserved g c =
    let s = g.S.Semiring.arithmetic in
    let laws = g.met.S.Semiring.is_semiring in
    let f = g.R.Rule.combined c.args.rule.now in
    let a = c.args.left.now in
    let b = c.args.right.now in
    let ls = c.column_numbers-left_columns in
    let rs = c.column_numbers-right_columns in
    let r = c.requires in
    let some : (c.loop-x.x < length ls.result.now) ⊎ (c.loop-x.y < length rs.result.now) =
    elim c.if-x-left_columns.branch [ then-x-left_columns w ↦ inl w.if-x-left_columns.true | else-x-left_columns+then-y-right_columns w ↦ inr w.if-y-right_columns.true ] in
    both_step s laws f (g.met.R.Rule.zeros c.args.rule.now) a b r.left r.right r.shape ls.result.now rs.result.now ls.ensures.numbers rs.ensures.numbers ls.ensures.ascending rs.ensures.ascending ls.ensures.inside rs.ensures.inside ls.ensures.all rs.ensures.all c.loop-x.x c.loop-x.y c.loop-x.out c.nth_or-left_column.result c.nth_or-right_column.result c.cols-cols.result (c.cols-cols.ensures.value ∙ ap (λ (d : Extent). d.cols) c.shape.ensures.shape) c.nth_or-left_column.ensures c.nth_or-right_column.ensures c.loop-x.invariant c.if-left_column-right_column.false c.if-right_column-left_column.false some c.nth_column.result.0.now c.nth_column.result.1.now c.nth_column-else-right_column-left_column.result.0.now c.nth_column-else-right_column-left_column.result.1.now c.nth_column.ensures.rows c.nth_column.ensures.values c.nth_column-else-right_column-left_column.ensures.rows c.nth_column-else-right_column-left_column.ensures.values c.join_columns.new.kept_rows.items c.join_columns.new.kept_values.items c.in_ok-join_columns.ensures.column c.in_ok-join_columns.ensures.values c.push_column.new.self (rw (c.deref.ensures.value, c.deref-else-right_column-left_column.ensures.value) at c.in_ok-push_column.ensures.ok) c.in_ok-push_column.ensures.matrix

pub returns : goal.returns
returns g c =
    let s = g.S.Semiring.arithmetic in
    let laws = g.met.S.Semiring.is_semiring in
    let f = g.R.Rule.combined c.args.rule.now in
    let a = c.args.left.now in
    let b = c.args.right.now in
    let ls = c.column_numbers-left_columns in
    let rs = c.column_numbers-right_columns in
    let r = c.requires in
    walk_end s laws f (g.met.R.Rule.zeros c.args.rule.now) a b r.left r.right r.shape ls.result.now rs.result.now ls.ensures.numbers rs.ensures.numbers ls.ensures.ascending rs.ensures.ascending ls.ensures.inside rs.ensures.inside ls.ensures.all rs.ensures.all c.loop-x.x c.loop-x.y c.loop-x.out c.if-x-left_columns.false c.if-y-right_columns.false c.loop-x.invariant
