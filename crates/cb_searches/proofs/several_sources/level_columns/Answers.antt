use Rattle.std.proofs.Common.{◌≡◌, ◌<◌, ◌++◌, length, map, slice_index, sym, ap, ◌∙◌, subst, arith}
use Rattle.cb_matrix.specs.Sparse.{Sparse, Extent}
use Rattle.cb_searches.specs.Walks.{AreLevels}
use Rattle.cb_searches.specs.SeveralSources.{columns_shape, column_at, in_column_of}
use Rattle.cb_searches.proofs.ColumnsBesides.{column_more}
use Rattle.cb_searches.proofs.several_sources.level_columns.Goals as goal

pub loop-n-preserved : goal.loop-n-preserved
loop-n-preserved c =
    let a = c.args.graph.now in
    let n = c.loop-n.n in
    let m : Sparse = c.in_ok-column.column in
    let extent : Extent = c.shape_of-shape.result in
    let width : extent.cols ≡ length c.args.sources.now = ap (λ (x : Extent). x.cols) c.shape_of-shape.ensures in
    let t = c.loop-n-test.true in
    let u = c.loop-n.auto.n-end in
    let l : n < extent.cols = omega (arith, width, t, u) in
    let rows : extent.rows ≡ a.shape.rows = ap (λ (x : Extent). x.rows) c.shape_of-shape.ensures ∙ c.rows.ensures.value ∙ ap (λ (x : Extent). x.rows) c.shape.ensures.shape in
    let new_is : c.append.new.entries.items ≡ c.loop-n.entries.items ++ map (in_column_of n) m.entries = c.in_ok-append.ensures ∙ ap (λ es. c.loop-n.entries.items ++ map (in_column_of n) es) c.entries.ensures in
    let far : AreLevels a (slice_index c.args.sources.now n) m = c.in_ok-column.ensures.levels in
    let shape : m.shape ≡ record { rows = extent.rows; cols = 1 } = far.shape ∙ ap (λ k. record { rows = k; cols = 1 }) (sym rows) in
    column_more extent (λ j x. AreLevels a (slice_index c.args.sources.now j) x) n c.loop-n.entries.items c.append.new.entries.items m l shape new_is c.in_ok-column.ensures.matrix far c.loop-n.invariant

pub from_ordered-requires : goal.from_ordered-requires
from_ordered-requires c =
    let h = c.loop-n.invariant in
    record { ascending = h.ascending; inside = h.inside; values = h.values; not_zero = h.not_zero }

pub returns : goal.returns
returns c =
    let a = c.args.graph.now in
    let h = c.loop-n.invariant in
    let sources = c.args.sources.now in
    let extent : Extent = c.shape_of-shape.result in
    let t = c.loop-n-test.false in
    let u = c.loop-n.auto.n-end in
    let same_rows : extent.rows ≡ a.shape.rows = ap (λ (x : Extent). x.rows) c.shape_of-shape.ensures ∙ c.rows.ensures.value ∙ ap (λ (x : Extent). x.rows) c.shape.ensures.shape in
    let same_cols : extent.cols ≡ length sources = ap (λ (x : Extent). x.cols) c.shape_of-shape.ensures in
    let shape : extent ≡ columns_shape a sources = λ i. record { rows = same_rows i; cols = same_cols i } in
    let made : c.from_ordered.result ≡ record { shape = extent; entries = c.loop-n.entries.items } = c.from_ordered.ensures in
    record {
      shape = ap (λ (x : Sparse). x.shape) made ∙ shape;
      columns = λ j l. subst (λ x. AreLevels a (slice_index sources j) (column_at x j)) (sym made) (h.done j (omega (arith, t, u, l)));
    }
