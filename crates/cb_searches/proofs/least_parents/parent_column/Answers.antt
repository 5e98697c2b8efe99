use Rattle.std.proofs.Common.{◌≡◌, ◌<◌, ℕ, ◌∙◌, List, length, get_or, sym, refl, ap, subst, arith}
use Rattle.std.proofs.lemmas.List.{take_all}
use Rattle.std.proofs.lemmas.List.Elements.{All-weaker}
use Rattle.cb_semirings.specs.Tables.{min_plus}
use Rattle.cb_matrix.specs.declared.Entry.{Entry}
use Rattle.cb_matrix.specs.Sparse.{Sparse, Extent, IsMatrix, at, value_at}
use Rattle.cb_dcsc.specs.Columns.{in_column, rows_of}
use Rattle.cb_searches.specs.Walks.{infinite}
use Rattle.cb_searches.specs.Numbers.{number_at}
use Rattle.cb_searches.specs.Parents.{first_below, first_nearer}
use Rattle.cb_searches.proofs.LeastNearer.{nearer_fits, nearer_listed}
use Rattle.cb_searches.proofs.VertexColumns.{vertex_entries, vertex_kept, vertex_passed, vertex_matrix, vertex_value}
use Rattle.cb_searches.proofs.least_parents.parent_column.Goals as goal
use Rattle.cb_searches.proofs.least_parents.parent_column.Goals.{then-value+in_ok-push, else-value}

pub loop-n-preserved : goal.loop-n-preserved
loop-n-preserved c =
    let a = c.args.graph.now in
    let d = number_at c.args.known.now in
    let f = first_nearer a d in
    let vs = c.column_numbers-columns.result.now in
    let i = c.loop-n.n in
    let v = get_or vs i 0 in
    let inside : i < length vs = omega arith in
    let rows : c.nth_column.result.0.now ≡ rows_of (in_column v a.entries) = c.nth_column.ensures.rows ∙ ap (λ (cs : List ℕ). rows_of (in_column (get_or cs i 0) a.entries)) (sym c.column_numbers-columns.ensures.numbers) in
    let value : c.first_below-value.result ≡ f v = c.first_below-value.ensures ∙ (λ t. first_below d (c.number_of.ensures t) (rows t)) in
    elim c.if-value.branch [
      | then-value+in_ok-push w ↦ vertex_kept infinite f vs i inside c.loop-n.entries.items c.if-value.entries.items c.loop-n.invariant v c.first_below-value.result refl value w.if-value.true (ap (λ v. v.items) w.entries-is ∙ w.in_ok-push.ensures.items)
      | else-value w ↦ vertex_passed infinite f vs i inside c.loop-n.entries.items c.if-value.entries.items c.loop-n.invariant v c.first_below-value.result refl value w.if-value.false (ap (λ v. v.items) w.entries-is)
    ]

pub from_ordered-requires : goal.from_ordered-requires
from_ordered-requires c =
    let a = c.args.graph.now in
    let f = first_nearer a (number_at c.args.known.now) in
    let vs = c.column_numbers-columns.result.now in
    let shape = c.column_shape.result in
    let all : c.loop-n.entries.items ≡ vertex_entries infinite f vs = c.loop-n.invariant ∙ ap (vertex_entries infinite f) (take_all c.loop-n.n vs (omega arith)) in
    let side : c.shape-shape.result.rows ≡ a.shape.rows = ap (λ (e : Extent). e.rows) c.shape-shape.ensures.shape in
    let rows : shape.rows ≡ a.shape.rows = ap (λ (e : Extent). e.rows) c.column_shape.ensures ∙ side in
    let fits : a.shape.rows < infinite = omega (arith, side, c.rows.ensures.value, c.rows.ensures.limit) in
    subst (λ (es : List Entry). IsMatrix min_plus (record { shape = shape; entries = es })) (sym all)
    (vertex_matrix min_plus shape f vs (ap (λ (e : Extent). e.cols) c.column_shape.ensures) (λ v. let h = nearer_fits a c.shape-shape.ensures.matrix fits (number_at c.args.known.now) v in omega arith) c.column_numbers-columns.ensures.ascending
    (All-weaker (λ v. v < a.shape.cols) (λ v. v < shape.rows) (λ v l. omega (arith, l, rows, c.requires)) vs c.column_numbers-columns.ensures.inside))

pub returns-clause-values : goal.returns-clause-values
returns-clause-values c v =
    let a = c.args.graph.now in
    let d = number_at c.args.known.now in
    let f = first_nearer a d in
    let vs = c.column_numbers-columns.result.now in
    let all : c.loop-n.entries.items ≡ vertex_entries infinite f vs = c.loop-n.invariant ∙ ap (vertex_entries infinite f) (take_all c.loop-n.n vs (omega arith)) in
    ap (λ (m : Sparse). at min_plus m v 0) c.from_ordered.ensures ∙ ap (λ (es : List Entry). value_at infinite es v 0) all
    ∙ vertex_value infinite f vs v (nearer_listed d (d v) v vs a.entries c.column_numbers-columns.ensures.all)
