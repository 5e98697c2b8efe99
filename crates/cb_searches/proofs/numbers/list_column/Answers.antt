use Rattle.std.proofs.Common.{◌<◌, ◌∙◌, length, sym, ap, arith}
use Rattle.std.specs.Prelude.{slice_index_or}
use Rattle.std.proofs.lemmas.List.{get_or_default}
use Rattle.cb_semirings.specs.Tables.{min_plus}
use Rattle.cb_matrix.specs.Sparse.{Sparse, at}
use Rattle.cb_searches.specs.Walks.{infinite}
use Rattle.cb_searches.proofs.NumberColumns.{first_none, number_kept, number_passed, listed_fits, listed_past, numbers_matrix, numbers_value}
use Rattle.cb_searches.proofs.numbers.list_column.Goals as goal
use Rattle.cb_searches.proofs.numbers.list_column.Goals.{then-value+in_ok-push, else-value}

pub loop-vertex-init : goal.loop-vertex-init
loop-vertex-init c = c.in_ok-entries.ensures.items ∙ sym (first_none (λ v. slice_index_or c.args.list.now v infinite))

pub loop-vertex-preserved : goal.loop-vertex-preserved
loop-vertex-preserved c =
    let list = c.args.list.now in
    let i = c.loop-vertex.vertex in
    let inside : i < length list = omega (arith, c.loop-vertex-test.true, c.rows-vertex-end.ensures.value, c.requires.length) in
    let value = get_or_default list i 0 infinite inside in
    elim c.if-value.branch [
      | then-value+in_ok-push w ↦ number_kept (λ v. slice_index_or list v infinite) i c.loop-vertex.entries.items c.if-value.entries.items c.loop-vertex.invariant (slice_index_or list i 0) value w.if-value.true (ap (λ v. v.items) w.entries-is ∙ w.in_ok-push.ensures.items)
      | else-value w ↦ number_passed (λ v. slice_index_or list v infinite) i c.loop-vertex.entries.items c.if-value.entries.items c.loop-vertex.invariant (sym value ∙ w.if-value.false) (ap (λ v. v.items) w.entries-is)
    ]

pub from_ordered-requires : goal.from_ordered-requires
from_ordered-requires c =
    let list = c.args.list.now in
    numbers_matrix c.args.shape c.requires.column (λ v. slice_index_or list v infinite) (listed_fits list (λ i. (c.type_inv.list i).fits)) (listed_past list c.args.shape.rows c.requires.length) c.loop-vertex.vertex
    (omega (arith, c.loop-vertex-test.false, c.rows-vertex-end.ensures.value)) (omega (arith, c.loop-vertex.auto.vertex-end, c.rows-vertex-end.ensures.value)) c.loop-vertex.entries.items c.loop-vertex.invariant

pub returns-clause-values : goal.returns-clause-values
returns-clause-values c v =
    let list = c.args.list.now in
    ap (λ (m : Sparse). at min_plus m v 0) c.from_ordered.ensures
    ∙ numbers_value c.args.shape c.requires.column (λ v. slice_index_or list v infinite) (listed_fits list (λ i. (c.type_inv.list i).fits)) (listed_past list c.args.shape.rows c.requires.length) c.loop-vertex.vertex
    (omega (arith, c.loop-vertex-test.false, c.rows-vertex-end.ensures.value)) (omega (arith, c.loop-vertex.auto.vertex-end, c.rows-vertex-end.ensures.value)) c.loop-vertex.entries.items c.loop-vertex.invariant v
