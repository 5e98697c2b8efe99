use Rattle.std.proofs.Common.{◌≡◌, ◌<◌, ◌++◌, length, map, slice_index, sym, ap, ◌∙◌, subst, arith}
use Rattle.cb_semirings.specs.Tables.{min_plus}
use Rattle.cb_matrix.specs.Sparse.{Sparse, Extent, IsMatrix}
use Rattle.cb_searches.specs.Walks.{AreDistances}
use Rattle.cb_searches.specs.SeveralSources.{columns_shape, column_at, in_column_of}
use Rattle.cb_searches.proofs.ColumnsBesides.{column_more}
use Rattle.cb_searches.proofs.several_sources.columns_from.Goals as goal

pub loop-n-preserved : goal.loop-n-preserved
loop-n-preserved c = λ a is.
    let n = c.loop-n.n in
    let m : Sparse = c.in_ok-column.column in
    let extent : Extent = c.shape_of-shape.result in
    let held : Sparse = record { shape = c.column.inside.shape; entries = c.column.inside.entries.items } in
    let invariant = c.column.invariant in
    let held_matrix : IsMatrix min_plus held = record { ascending = invariant.ascending; inside = invariant.inside; values = invariant.values; not_zero = invariant.not_zero } in
    let matrix : IsMatrix min_plus m = subst (IsMatrix min_plus) c.column.view_is held_matrix in
    let width : extent.cols ≡ length c.args.sources.now = ap (λ (x : Extent). x.cols) c.shape_of-shape.ensures in
    let t = c.loop-n-test.true in
    let u = c.loop-n.auto.n-end in
    let l : n < extent.cols = omega (arith, width, t, u) in
    let edge_cols : c.cols.result ≡ a.shape.rows = c.cols.ensures.value ∙ ap (λ (x : Extent). x.cols) c.shape.ensures.shape ∙ ap (λ (x : Sparse). x.shape.cols) is.turned in
    let rows : extent.rows ≡ a.shape.rows = ap (λ (x : Extent). x.rows) c.shape_of-shape.ensures ∙ edge_cols in
    let new_is : c.append.new.entries.items ≡ c.loop-n.entries.items ++ map (in_column_of n) m.entries = c.in_ok-append.ensures ∙ ap (λ es. c.loop-n.entries.items ++ map (in_column_of n) es) c.entries.ensures in
    let far : AreDistances a (slice_index c.args.sources.now n) m = c.in_ok-column.ensures a is in
    let shape : m.shape ≡ record { rows = extent.rows; cols = 1 } = far.shape ∙ ap (λ k. record { rows = k; cols = 1 }) (sym rows) in
    column_more extent (λ j x. AreDistances a (slice_index c.args.sources.now j) x) n c.loop-n.entries.items c.append.new.entries.items m l shape new_is matrix far (c.loop-n.invariant a is)

pub from_ordered-requires : goal.from_ordered-requires
from_ordered-requires c =
    let g = c.requires.graph in
    let h = c.loop-n.invariant g.0 g.1 in
    record { ascending = h.ascending; inside = h.inside; values = h.values; not_zero = h.not_zero }

pub returns : goal.returns
returns c = λ a is.
    let h = c.loop-n.invariant a is in
    let sources = c.args.sources.now in
    let extent : Extent = c.shape_of-shape.result in
    let t = c.loop-n-test.false in
    let u = c.loop-n.auto.n-end in
    let edge_cols : c.cols.result ≡ a.shape.rows = c.cols.ensures.value ∙ ap (λ (x : Extent). x.cols) c.shape.ensures.shape ∙ ap (λ (x : Sparse). x.shape.cols) is.turned in
    let same_rows : extent.rows ≡ a.shape.rows = ap (λ (x : Extent). x.rows) c.shape_of-shape.ensures ∙ edge_cols in
    let same_cols : extent.cols ≡ length sources = ap (λ (x : Extent). x.cols) c.shape_of-shape.ensures in
    let shape : extent ≡ columns_shape a sources = λ i. record { rows = same_rows i; cols = same_cols i } in
    let made : c.from_ordered.result ≡ record { shape = extent; entries = c.loop-n.entries.items } = c.from_ordered.ensures in
    record {
      shape = ap (λ (x : Sparse). x.shape) made ∙ shape;
      columns = λ j l. subst (λ x. AreDistances a (slice_index sources j) (column_at x j)) (sym made) (h.done j (omega (arith, t, u, l)));
    }
