use Rattle.std.proofs.Common.{subst}
use Rattle.cb_matrix.specs.Sparse.{Extent}
use Rattle.cb_operations.specs.Graphs.{HasSource}
use Rattle.cb_rank_operations.proofs.walks.levels.Goals as goal

pub returns-clause-ok : goal.returns-clause-ok
returns-clause-ok g c =
    let has = subst (λ (d : Extent). HasSource d c.args.source) c.shape.ensures.shape c.in_ok-check_graph.ensures.ok in
    c.in_ok-weighted.ensures.levels c.args.source c.in_ok-nearest.field-0 has c.in_ok-nearest.ensures.ok
