use Rattle.std.proofs.lemmas.Result.{IfOk-weaker}
use Rattle.cb_matrix.specs.Operations.{transposed}
use Rattle.cb_matrix.specs.Sparse.{Sparse}
use Rattle.cb_semirings.specs.Tables.{min_plus}
use Rattle.cb_searches.specs.Searches.{HasEdges}
use Rattle.std.proofs.Common.{◌≡◌}
use Rattle.cb_searches.proofs.one_block.weighted_edges.Goals as goal

pub returns : goal.returns
returns c =
    IfOk-weaker c.transpose.result (λ (edges : Sparse). edges ≡ transposed min_plus c.args.graph.now) (λ edges. HasEdges edges c.args.graph.now)
    (λ edges h. record { matrix = c.shape-shape.ensures.matrix; square = c.requires; turned = h }) c.transpose.ensures
