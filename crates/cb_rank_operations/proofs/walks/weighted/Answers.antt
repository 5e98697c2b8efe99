use Rattle.std.proofs.Common.{◌≡◌, ◌<◌, ℕ, ap, subst, ◌∙◌, arith}
use Rattle.std.proofs.lemmas.Result.{IfOk-weaker}
use Rattle.cb_matrix.specs.Sparse.{Sparse, Extent}
use Rattle.cb_layout.specs.Distributed.{Distributed}
use Rattle.cb_searches.specs.Walks.{infinite, AreLevels, AreDistances}
use Rattle.cb_operations.specs.Graphs.{HasSource}
use Rattle.cb_searches.proofs.UnitWeights.{levels_are, weights_stored}
use Rattle.cb_rank_operations.proofs.walks.weighted.Goals as goal

pub recast-requires : goal.recast-requires
recast-requires c = record { values = weights_stored c.args.graph.matrix c.shape.ensures.matrix }

pub returns-clause-levels : goal.returns-clause-levels
returns-clause-levels c =
    let a = c.args.graph.matrix in
    let rows : c.rows.result ≡ a.shape.rows = c.rows.ensures.value ∙ ap (λ (e : Extent). e.rows) c.shape.ensures.shape in
    let fits : a.shape.rows < infinite = omega (arith, c.rows.ensures.limit) in
    IfOk-weaker c.recast.result (λ m. m ≡ c.args.graph)
    (λ m. (source : ℕ) (column : Sparse) → HasSource a.shape source → AreDistances m.matrix source column → AreLevels a source column)
    (λ m same source column has h. levels_are a c.shape.ensures.matrix has.square fits source has.vertex column (subst (λ (m : Distributed). AreDistances m.matrix source column) same h)) c.recast.ensures
