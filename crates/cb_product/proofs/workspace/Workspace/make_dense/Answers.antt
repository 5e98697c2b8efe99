use Rattle.std.proofs.Common.{◌<◌, length, sym, subst, ap, ◌∙◌}
use Rattle.std.specs.Prelude.{All}
use Rattle.std.proofs.lemmas.Result.{on_ok_weaker}
use Rattle.cb_matrix.specs.Sparse.{Extent}
use Rattle.cb_dcsc.proofs.Lookup.{all_rows_inside, all_values}
use Rattle.cb_product.proofs.DenseRowSums.{dense_sums}
use Rattle.cb_product.proofs.TermSums.{lengths}
use Rattle.cb_product.proofs.workspace.Workspace.make_dense.Goals as goal

pub add_terms-requires-clause-values : goal.add_terms-requires-clause-values
add_terms-requires-clause-values g c = all_values g.S.Semiring.arithmetic c.args.left.now _ c.requires.left c.values.ensures

pub add_terms-requires-clause-inside : goal.add_terms-requires-clause-inside
add_terms-requires-clause-inside g c =
    let rows = c.in_ok-make_room.ensures.length ∙ c.rows-rows.ensures.value ∙ ap (λ (e : Extent). e.rows) c.shape.ensures.shape in
    subst (λ n. All (λ i. i < n) c.row_numbers.result.now) (sym (c.add.ensures.length ∙ rows)) (all_rows_inside g.S.Semiring.arithmetic c.args.left.now _ c.requires.left c.row_numbers.ensures)

pub returns-clause-column : goal.returns-clause-column
returns-clause-column g c =
    let s = g.S.Semiring.arithmetic in
    let r = c.requires in
    let rows = c.in_ok-make_room.ensures.length ∙ c.rows-rows.ensures.value ∙ ap (λ (e : Extent). e.rows) c.shape.ensures.shape in
    let all = rw (c.row_numbers.ensures, c.values.ensures) at c.add_terms.ensures.sums in
    on_ok_weaker c.take.result (λ h i. h i ∙ dense_sums s g.met.S.Semiring.is_semiring c.args.left.now r.left c.args.own_rows.now c.args.own_values.now r.own c.args.terms.now r.terms c.make_room.new.self c.add.new.self c.add_terms.new.self c.in_ok-make_room.ensures.zeros rows c.add.ensures.length c.add_terms.ensures.length c.add.ensures.sums all i) c.take.ensures.column

pub add-requires-clause-lengths : goal.add-requires-clause-lengths
add-requires-clause-lengths g c = c.requires.own.same_length

pub add-requires-clause-values : goal.add-requires-clause-values
add-requires-clause-values g c = c.requires.own.are_values

pub add-requires-clause-order : goal.add-requires-clause-order
add-requires-clause-order g c = c.requires.own.ascending

pub add-requires-clause-inside : goal.add-requires-clause-inside
add-requires-clause-inside g c =
    let rows = c.in_ok-make_room.ensures.length ∙ c.rows-rows.ensures.value ∙ ap (λ (e : Extent). e.rows) c.shape.ensures.shape in
    subst (λ n. All (λ i. i < n) c.args.own_rows.now) (sym rows) c.requires.own.inside

pub add_terms-requires-clause-lengths : goal.add_terms-requires-clause-lengths
add_terms-requires-clause-lengths g c =
    ap length c.values.ensures ∙ lengths g.S.Semiring.arithmetic g.met.S.Semiring.is_semiring c.args.left.now c.requires.left ∙ sym (ap length c.row_numbers.ensures)

pub add_terms-requires-clause-terms : goal.add_terms-requires-clause-terms
add_terms-requires-clause-terms g c = rw c.row_numbers.ensures c.requires.terms

pub add_terms-requires-clause-sums : goal.add_terms-requires-clause-sums
add_terms-requires-clause-sums g c = c.add.ensures.values

pub returns-clause-zeros : goal.returns-clause-zeros
returns-clause-zeros g c = c.take.ensures.zeros
