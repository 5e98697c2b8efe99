use Rattle.std.proofs.Common.{◌<◌, ℕ, ◌∙◌, length, sym, ap, arith}
use Rattle.std.specs.Prelude.{slice_index_or}
use Rattle.cb_semirings.specs.Tables.{min_plus}
use Rattle.cb_matrix.specs.Sparse.{Sparse, at}
use Rattle.cb_searches.specs.Numbers.{fallen}
use Rattle.cb_searches.proofs.NumberColumns.{first_none, number_kept, number_passed, numbers_matrix, numbers_value}
use Rattle.cb_searches.proofs.FallenNumbers.{fallen_fits, fallen_past, read_fallen, read_not}
use Rattle.cb_searches.proofs.relaxations.fallen_column.Goals as goal
use Rattle.cb_searches.proofs.relaxations.fallen_column.Goals.{then-value-before+in_ok-push, else-value-before}

pub loop-vertex-init : goal.loop-vertex-init
loop-vertex-init c = c.new-entries.ensures.items ∙ sym (first_none (fallen c.args.before.now c.args.now.now))

pub loop-vertex-preserved : goal.loop-vertex-preserved
loop-vertex-preserved c =
    let before = c.args.before.now in
    let now = c.args.now.now in
    let i = c.loop-vertex.vertex in
    let small = λ (i : ℕ). (c.type_inv.before i).fits in
    let inside : i < length now = omega (arith, c.loop-vertex-test.true, c.rows-vertex-end.ensures.value, c.requires.now) in
    let also : i < length before = omega (arith, c.loop-vertex-test.true, c.rows-vertex-end.ensures.value, c.requires.before) in
    elim c.if-value-before.branch [
      | then-value-before+in_ok-push w ↦ number_kept (fallen before now) i c.loop-vertex.entries.items c.if-value-before.entries.items c.loop-vertex.invariant (slice_index_or now i 0) (read_fallen before now i inside also w.if-value-before.true) (λ e. omega (arith, e, w.if-value-before.true, small i)) (ap (λ v. v.items) w.entries-is ∙ w.in_ok-push.ensures.items)
      | else-value-before w ↦ number_passed (fallen before now) i c.loop-vertex.entries.items c.if-value-before.entries.items c.loop-vertex.invariant (read_not before now i inside also w.if-value-before.false) (ap (λ v. v.items) w.entries-is)
    ]

pub from_ordered-requires : goal.from_ordered-requires
from_ordered-requires c =
    let before = c.args.before.now in
    let now = c.args.now.now in
    numbers_matrix c.args.shape c.requires.column (fallen before now) (fallen_fits before now (λ i. (c.type_inv.now i).fits)) (fallen_past before now c.args.shape.rows c.requires.before c.requires.now) c.loop-vertex.vertex
    (omega (arith, c.loop-vertex-test.false, c.rows-vertex-end.ensures.value)) (omega (arith, c.loop-vertex.auto.vertex-end, c.rows-vertex-end.ensures.value)) c.loop-vertex.entries.items c.loop-vertex.invariant

pub returns-clause-values : goal.returns-clause-values
returns-clause-values c v =
    let before = c.args.before.now in
    let now = c.args.now.now in
    ap (λ (m : Sparse). at min_plus m v 0) c.from_ordered.ensures
    ∙ numbers_value c.args.shape c.requires.column (fallen before now) (fallen_fits before now (λ i. (c.type_inv.now i).fits)) (fallen_past before now c.args.shape.rows c.requires.before c.requires.now) c.loop-vertex.vertex
    (omega (arith, c.loop-vertex-test.false, c.rows-vertex-end.ensures.value)) (omega (arith, c.loop-vertex.auto.vertex-end, c.rows-vertex-end.ensures.value)) c.loop-vertex.entries.items c.loop-vertex.invariant v
