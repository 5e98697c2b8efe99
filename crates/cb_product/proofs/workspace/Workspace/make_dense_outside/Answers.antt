use Rattle.std.proofs.Common.{◌<◌, length, sym, subst, ap, ◌∙◌, arith}
use Rattle.std.specs.Prelude.{All, ◌==◌}
use Rattle.std.proofs.lemmas.Result.{on_ok_weaker}
use Rattle.cb_matrix.specs.Sparse.{Extent}
use Rattle.cb_dcsc.proofs.Lookup.{all_rows_inside, all_values}
use Rattle.cb_product.specs.Marks.{mark_of}
use Rattle.cb_product.proofs.MarkedRows.{dense_outside}
use Rattle.cb_product.proofs.DenseRowSums.{values_filled}
use Rattle.cb_product.proofs.TermSums.{lengths}
use Rattle.cb_product.proofs.workspace.Workspace.make_dense_outside.Goals as goal

pub add_terms_outside-requires-clause-lengths : goal.add_terms_outside-requires-clause-lengths
add_terms_outside-requires-clause-lengths g c =
    ap length c.values.ensures ∙ lengths g.S.Semiring.arithmetic g.met.S.Semiring.is_semiring c.args.left.now c.requires.left ∙ sym (ap length c.row_numbers.ensures)

pub add_terms_outside-requires-clause-values : goal.add_terms_outside-requires-clause-values
add_terms_outside-requires-clause-values g c = all_values g.S.Semiring.arithmetic c.args.left.now _ c.requires.left c.values.ensures

pub add_terms_outside-requires-clause-terms : goal.add_terms_outside-requires-clause-terms
add_terms_outside-requires-clause-terms g c = rw c.row_numbers.ensures c.requires.terms

pub add_terms_outside-requires-clause-inside : goal.add_terms_outside-requires-clause-inside
add_terms_outside-requires-clause-inside g c =
    let rows = c.in_ok-make_room.ensures.length ∙ c.rows-rows.ensures.value ∙ ap (λ (e : Extent). e.rows) c.shape.ensures.shape in
    subst (λ n. All (λ i. i < n) c.row_numbers.result.now) (sym rows) (all_rows_inside g.S.Semiring.arithmetic c.args.left.now _ c.requires.left c.row_numbers.ensures)

pub add_terms_outside-requires-clause-room : goal.add_terms_outside-requires-clause-room
add_terms_outside-requires-clause-room g c =
    let rows = c.in_ok-make_room.ensures.length ∙ c.rows-rows.ensures.value ∙ ap (λ (e : Extent). e.rows) c.shape.ensures.shape in
    let room = c.requires.room in
    omega arith

pub add_terms_outside-requires-clause-sums : goal.add_terms_outside-requires-clause-sums
add_terms_outside-requires-clause-sums g c = values_filled g.S.Semiring.arithmetic g.met.S.Semiring.is_semiring _ c.in_ok-make_room.ensures.zeros

pub returns-clause-zeros : goal.returns-clause-zeros
returns-clause-zeros g c = c.take.ensures.zeros

pub returns-clause-column : goal.returns-clause-column
returns-clause-column g c =
    let s = g.S.Semiring.arithmetic in
    let r = c.requires in
    let rows = c.in_ok-make_room.ensures.length ∙ c.rows-rows.ensures.value ∙ ap (λ (e : Extent). e.rows) c.shape.ensures.shape in
    let all = rw (c.row_numbers.ensures, c.values.ensures) at c.add_terms_outside.ensures.sums in
    on_ok_weaker c.take.result (λ h i. h i ∙ dense_outside s g.met.S.Semiring.is_semiring c.args.left.now r.left c.args.terms.now r.terms (λ k. mark_of c.args.excluded.now k == 1) c.make_room.new.self c.add_terms_outside.new.self c.in_ok-make_room.ensures.zeros rows c.add_terms_outside.ensures.length all i) c.take.ensures.column
