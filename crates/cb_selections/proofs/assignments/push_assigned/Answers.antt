use Rattle.std.proofs.Common.{◌≡◌, ◌<◌, ◌+◌, ◌-◌, sym, ap, subst, ◌∙◌, arith}
use Rattle.std.specs.Prelude.{All}
use Rattle.std.proofs.lemmas.Result.{on_ok_weaker}
use Rattle.std.proofs.lemmas.List.Elements.{All-weaker}
use Rattle.cb_matrix.specs.Sparse.{Extent}
use Rattle.cb_dcsc.specs.Columns.{with_entries, moved_columns}
use Rattle.cb_dcsc.proofs.Lookup.{rows_inside}
use Rattle.cb_product.proofs.OwnColumn.{own_sparse}
use Rattle.cb_product.proofs.StoredColumn.{column_adds, column_inside}
use Rattle.cb_product.proofs.ColumnsMade.{IsMadeTo}
use Rattle.cb_selections.specs.KernelSteps.{IsFirstFrom, HasRowsReplaced}
use Rattle.cb_selections.proofs.AssignedPart.{value_for, beneath, column_replaced, up_to_next, goes_on, one_more, front_made, back_made}
use Rattle.cb_selections.proofs.assignments.push_assigned.Goals as goal

pub loop-column-init : goal.loop-column-init
loop-column-init g c =
    let s = g.S.Semiring.arithmetic in
    let a = c.args.block.now in
    let b = c.args.part.now in
    let corner = c.args.corner in
    let ls = c.column_numbers-columns in
    let rs = c.column_numbers-part_columns in
    let x = c.first_from-x in
    let next = c.next_column-column in
    let cols : c.cols.result ≡ b.shape.cols = c.cols.ensures.value ∙ ap (λ (d : Extent). d.cols) c.shape-inner.ensures.shape in
    let left : IsFirstFrom ls.result.now corner.1 x.result = record { within = x.ensures.within; below = x.ensures.below; from = x.ensures.from } in
    let right : IsFirstFrom rs.result.now (corner.1 - corner.1) 0 = record { within = omega arith; below = λ k l. absurd (omega arith); from = λ k l m. omega arith } in
    let front = front_made s corner b a c.args.out.now c.append_columns.new.self c.requires.out_matrix c.requires.empty c.in_ok-append_columns.ensures.ok c.in_ok-append_columns.ensures.matrix in
    up_to_next s corner b a ls.result.now rs.result.now x.result 0 (corner.1 + c.cols.result) next.result (ap (λ n. corner.1 + n) cols) next.ensures.left next.ensures.right next.ensures.greatest next.ensures.end
    ls.ensures.ascending rs.ensures.ascending ls.ensures.all rs.ensures.all corner.1 c.append_columns.new.self (omega arith) (omega arith) left right front

pub replace_rows-requires-clause-column : goal.replace_rows-requires-clause-column
replace_rows-requires-clause-column g c =
    own_sparse g.S.Semiring.arithmetic c.args.block.now c.shape-outer.ensures.matrix c.loop-column.column c.column_at.result.0.now c.column_at.result.1.now c.column_at.ensures.rows c.column_at.ensures.values

pub replace_rows-requires-clause-part_column : goal.replace_rows-requires-clause-part_column
replace_rows-requires-clause-part_column g c =
    own_sparse g.S.Semiring.arithmetic c.args.part.now c.shape-inner.ensures.matrix (c.loop-column.column - c.args.corner.1) c.column_at-in-loop-column.result.0.now c.column_at-in-loop-column.result.1.now
    c.column_at-in-loop-column.ensures.rows c.column_at-in-loop-column.ensures.values

pub replace_rows-requires-clause-inside : goal.replace_rows-requires-clause-inside
replace_rows-requires-clause-inside g c =
    let b = c.args.part.now in
    let corner = c.args.corner in
    let others = c.column_at-in-loop-column.result.0.now in
    let count : c.rows.result ≡ b.shape.rows = c.rows.ensures.value ∙ ap (λ (d : Extent). d.rows) c.shape-inner.ensures.shape in
    All-weaker (λ i. i < b.shape.rows) (λ i. i < corner.0 + c.rows.result - corner.0) (λ i l. omega arith) others
    (rows_inside g.S.Semiring.arithmetic b (c.loop-column.column - corner.1) others c.shape-inner.ensures.matrix c.column_at-in-loop-column.ensures.rows)

pub push_column-requires-clause-rows : goal.push_column-requires-clause-rows
push_column-requires-clause-rows g c =
    let s = g.S.Semiring.arithmetic in
    let a = c.args.block.now in
    let b = c.args.part.now in
    let corner = c.args.corner in
    let j = c.loop-column.column in
    let inv = c.loop-column.invariant in
    let own = c.column_at in
    let other = c.column_at-in-loop-column in
    let ks = c.replace_rows.new.kept_rows.items in
    let ws = c.replace_rows.new.kept_values.items in
    let count : c.rows.result ≡ b.shape.rows = c.rows.ensures.value ∙ ap (λ (d : Extent). d.rows) c.shape-inner.ensures.shape in
    let cols : c.cols.result ≡ b.shape.cols = c.cols.ensures.value ∙ ap (λ (d : Extent). d.cols) c.shape-inner.ensures.shape in
    let last : j < corner.1 + b.shape.cols = let t = c.loop-column-test.true in omega arith in
    let replaced : HasRowsReplaced s.zero (corner.0, corner.0 + b.shape.rows) own.result.0.now own.result.1.now other.result.0.now other.result.1.now ks ws =
    subst (λ n. HasRowsReplaced s.zero (corner.0, corner.0 + n) own.result.0.now own.result.1.now other.result.0.now other.result.1.now ks ws) count c.in_ok-replace_rows.ensures.values in
    let has = column_replaced s corner b a j own.result.0.now own.result.1.now other.result.0.now other.result.1.now ks ws inv.first last own.ensures.rows own.ensures.values other.ensures.rows other.ensures.values replaced in
    let inside = column_inside s j (λ i. value_for s corner b a i j) ks ws c.in_ok-replace_rows.ensures.column has a.shape.rows (λ i l. beneath s corner b a c.shape-outer.ensures.matrix c.requires.rows i j l) in
    subst (λ m. All (λ i. i < m) c.deref.result.now) (sym (ap (λ (d : Extent). d.rows) inv.made.shape)) (subst (All (λ i. i < a.shape.rows)) (sym c.deref.ensures.value) inside)

pub loop-column-smaller : goal.loop-column-smaller
loop-column-smaller g c =
    let s = g.S.Semiring.arithmetic in
    let a = c.args.block.now in
    let b = c.args.part.now in
    let corner = c.args.corner in
    let j = c.loop-column.column in
    let inv = c.loop-column.invariant in
    let ls = c.column_numbers-columns in
    let rs = c.column_numbers-part_columns in
    let next = c.next_column-column-in-loop-column in
    let cols : c.cols.result ≡ b.shape.cols = c.cols.ensures.value ∙ ap (λ (d : Extent). d.cols) c.shape-inner.ensures.shape in
    let test = c.loop-column-test.true in
    let first = inv.first in
    let moved : (j - corner.1) + 1 ≡ (j + 1) - corner.1 = omega arith in
    let right : IsFirstFrom rs.result.now ((j + 1) - corner.1) c.next_place-y.result = subst (λ n. IsFirstFrom rs.result.now n c.next_place-y.result) moved c.next_place-y.ensures in
    let on = goes_on s corner b a ls.result.now rs.result.now c.next_place-x.result c.next_place-y.result (corner.1 + c.cols.result) next.result (ap (λ n. corner.1 + n) cols) next.ensures.left next.ensures.right next.ensures.greatest next.ensures.end (j + 1) (omega arith) (omega arith) c.next_place-x.ensures right in
    omega arith

pub loop-column-preserved : goal.loop-column-preserved
loop-column-preserved g c =
    let s = g.S.Semiring.arithmetic in
    let a = c.args.block.now in
    let b = c.args.part.now in
    let corner = c.args.corner in
    let j = c.loop-column.column in
    let inv = c.loop-column.invariant in
    let own = c.column_at in
    let other = c.column_at-in-loop-column in
    let ks = c.replace_rows.new.kept_rows.items in
    let ws = c.replace_rows.new.kept_values.items in
    let ls = c.column_numbers-columns in
    let rs = c.column_numbers-part_columns in
    let next = c.next_column-column-in-loop-column in
    let count : c.rows.result ≡ b.shape.rows = c.rows.ensures.value ∙ ap (λ (d : Extent). d.rows) c.shape-inner.ensures.shape in
    let cols : c.cols.result ≡ b.shape.cols = c.cols.ensures.value ∙ ap (λ (d : Extent). d.cols) c.shape-inner.ensures.shape in
    let test = c.loop-column-test.true in
    let first = inv.first in
    let last : j < corner.1 + b.shape.cols = omega arith in
    let replaced : HasRowsReplaced s.zero (corner.0, corner.0 + b.shape.rows) own.result.0.now own.result.1.now other.result.0.now other.result.1.now ks ws =
    subst (λ n. HasRowsReplaced s.zero (corner.0, corner.0 + n) own.result.0.now own.result.1.now other.result.0.now other.result.1.now ks ws) count c.in_ok-replace_rows.ensures.values in
    let has = column_replaced s corner b a j own.result.0.now own.result.1.now other.result.0.now other.result.1.now ks ws first last own.ensures.rows own.ensures.values other.ensures.rows other.ensures.values replaced in
    let stored = rw (c.deref.ensures.value, c.deref-in-loop-column.ensures.value) at c.in_ok-push_column.ensures.ok in
    let adds = column_adds s j (λ i. value_for s corner b a i j) ks ws c.in_ok-replace_rows.ensures.column has c.loop-column.out c.push_column.new.self inv.made.before stored c.in_ok-push_column.ensures.matrix in
    let moved : (j - corner.1) + 1 ≡ (j + 1) - corner.1 = omega arith in
    let right : IsFirstFrom rs.result.now ((j + 1) - corner.1) c.next_place-y.result = subst (λ n. IsFirstFrom rs.result.now n c.next_place-y.result) moved c.next_place-y.ensures in
    up_to_next s corner b a ls.result.now rs.result.now c.next_place-x.result c.next_place-y.result (corner.1 + c.cols.result) next.result (ap (λ n. corner.1 + n) cols) next.ensures.left next.ensures.right next.ensures.greatest next.ensures.end
    ls.ensures.ascending rs.ensures.ascending ls.ensures.all rs.ensures.all (j + 1) c.push_column.new.self (omega arith) (omega arith) c.next_place-x.ensures right (one_more s corner b a c.loop-column.out c.push_column.new.self j adds inv.made)

pub returns : goal.returns
returns g c =
    let s = g.S.Semiring.arithmetic in
    let a = c.args.block.now in
    let b = c.args.part.now in
    let corner = c.args.corner in
    let inv = c.loop-column.invariant in
    let old = c.loop-column.out in
    let end = corner.1 + c.cols.result in
    let cols : c.cols.result ≡ b.shape.cols = c.cols.ensures.value ∙ ap (λ (d : Extent). d.cols) c.shape-inner.ensures.shape in
    let all : c.cols-2.result ≡ a.shape.cols = c.cols-2.ensures.value ∙ ap (λ (d : Extent). d.cols) c.shape-outer.ensures.shape in
    let test = c.loop-column-test.false in
    let last = inv.last in
    let ended : c.loop-column.column ≡ corner.1 + c.cols.result = omega arith in
    let fits = c.requires.cols in
    let made : IsMadeTo s a.shape (value_for s corner b a) (corner.1 + c.cols.result) old = subst (λ n. IsMadeTo s a.shape (value_for s corner b a) n old) ended inv.made in
    on_ok_weaker c.append_columns-2.result (λ h. back_made s g.met.S.Semiring.is_semiring corner b a old c.append_columns-2.new.self (corner.1 + c.cols.result) (ap (λ n. corner.1 + n) cols) (omega arith) made
    (h ∙ ap (λ n. with_entries old (moved_columns (corner.1 + c.cols.result, n) (0, corner.1 + c.cols.result) a.entries)) all) c.append_columns-2.ensures.matrix) c.append_columns-2.ensures.ok
