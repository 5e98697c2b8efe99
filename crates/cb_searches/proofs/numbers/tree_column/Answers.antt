use Rattle.std.proofs.Common.{◌∙◌, ap}
use Rattle.std.specs.Map.Iter.{deref_pair}
use Rattle.std.proofs.lemmas.Map.Iter.{rest_all}
use Rattle.cb_semirings.specs.Tables.{min_plus}
use Rattle.cb_matrix.specs.Sparse.{Sparse, at}
use Rattle.cb_searches.proofs.NumberColumns.{all_listed, column_matrix, column_value}
use Rattle.cb_searches.proofs.numbers.tree_column.Goals as goal

pub from_ordered-requires : goal.from_ordered-requires
from_ordered-requires c =
    column_matrix c.args.shape c.requires.column c.args.tree.now c.len.ensures.ordered c.requires.numbers c.loop-vertex.entries.items
    (all_listed c.args.tree.now c.loop-vertex.entries.items c.loop-vertex.vertex-iterator c.loop-vertex.invariant (rest_all deref_pair _ _ _ c.in-None.is c.next.ensures.steps))

pub returns-clause-values : goal.returns-clause-values
returns-clause-values c v =
    ap (λ (m : Sparse). at min_plus m v 0) c.from_ordered.ensures
    ∙ column_value c.args.shape c.requires.column c.args.tree.now c.len.ensures.ordered c.requires.numbers c.loop-vertex.entries.items
    (all_listed c.args.tree.now c.loop-vertex.entries.items c.loop-vertex.vertex-iterator c.loop-vertex.invariant (rest_all deref_pair _ _ _ c.in-None.is c.next.ensures.steps)) v
