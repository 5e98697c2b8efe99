use Rattle.std.proofs.Common.{◌≡◌, ◌∙◌, ap, sym}
use Rattle.cb_matrix.specs.Sparse.{Extent}
use Rattle.cb_searches.specs.Numbers.{number_at}
use Rattle.cb_searches.specs.Walks.{column_shape}
use Rattle.cb_graphs.proofs.Joined.{components_are}
use Rattle.cb_graphs.proofs.connected.components.Goals as goal

pub flatten-requires-clause-trees : goal.flatten-requires-clause-trees
flatten-requires-clause-trees c =
    let a = c.args.graph.now in
    (a, c.in_ok-parents.ensures.trees, sym (ap (λ (e : Extent). e.rows) c.column_shape-shape.ensures ∙ ap (λ (e : Extent). e.rows) c.shape.ensures.shape))

pub returns-clause-components : goal.returns-clause-components
returns-clause-components c =
    let a = c.args.graph.now in
    let first = number_at c.in_ok-parents.parents in
    let p = number_at c.flatten.new.parents in
    let done = c.in_ok-flatten.ensures in
    let shape : c.in_ok-column.column.shape ≡ column_shape a = c.in_ok-column.ensures.shape ∙ c.column_shape-shape.ensures ∙ ap (λ (e : Extent). record { rows = e.rows; cols = 1 }) c.shape.ensures.shape in
    components_are a c.shape.ensures.matrix c.requires.square first p c.in_ok-parents.ensures.spanning done.shorter.trees (done.trees a c.in_ok-parents.ensures.trees).trees done.flat c.in_ok-column.column shape c.in_ok-column.ensures.values
