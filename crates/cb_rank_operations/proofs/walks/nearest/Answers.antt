use Rattle.std.proofs.Common.{rules, ◌≡◌, ℕ, sym, ap, arith, subst}
use Rattle.cb_semirings.specs.Tables.{min_plus}
use Rattle.cb_matrix.specs.Sparse.{Sparse, Extent, IsMatrix}
use Rattle.cb_matrix.specs.Operations.{transposed}
use Rattle.cb_grid.specs.Parts.{Square}
use Rattle.cb_layout.specs.Distributed.{Distributed}
use Rattle.cb_plan_vectors.specs.SpreadVectors.{MultipliesVectors}
use Rattle.cb_plan_slots.specs.Answers.{over_grid}
use Rattle.cb_searches.specs.Searches.{HasEdges}
use Rattle.cb_rank_operations.specs.declared.operation_faults.OperationFault.TheVariants.{Failed}
use Rattle.cb_rank_operations.specs.Searched.{IsWalkLoss}
use Rattle.cb_rank_operations.proofs.WalkLosses.{transpose_loss}
use Rattle.cb_rank_operations.proofs.walks.nearest.Goals as goal

-- the edges of a graph, as the transposed matrix over a grid
edges_over : (a : Sparse) (side : ℕ) (turned : Distributed) → IsMatrix min_plus a → a.shape.rows ≡ a.shape.cols → turned ≡ over_grid side (transposed min_plus a) → HasEdges turned.matrix a
edges_over a side turned matrix square is = record { matrix = matrix; square = square; turned = ap (λ (m : Distributed). m.matrix) is }

pub begin-requires : goal.begin-requires
begin-requires g c = omega (arith, ap (λ (e : Extent). e.rows) c.shape-shape.ensures.shape, c.requires.vertex)

pub search_by_ranks-requires-clause-side : goal.search_by_ranks-requires-clause-side
search_by_ranks-requires-clause-side g c κs lives = ap (λ (m : Distributed). m.side) c.in_ok-turned.ensures.ok

pub search_by_ranks-requires-clause-plan : goal.search_by_ranks-requires-clause-plan
search_by_ranks-requires-clause-plan g c κs lives =
    subst (λ (d : Extent). MultipliesVectors c.grid-grid.result.side d c.in_ok-plan.plan) c.shape.ensures.shape c.in_ok-plan.ensures

pub search_by_ranks-requires-clause-search : goal.search_by_ranks-requires-clause-search
search_by_ranks-requires-clause-search g c κs lives =
    let a = c.args.graph.matrix in (
      a,
      c.args.source,
      edges_over a c.grid-grid.result.side c.in_ok-turned.turned c.shape-shape.ensures.matrix c.requires.square c.in_ok-turned.ensures.ok,
      c.in_ok-begun.ensures a c.shape-shape.ensures.matrix (sym c.shape-shape.ensures.shape) c.requires.square,
    )

pub column-requires : goal.column-requires
column-requires g c =
    let a = c.args.graph.matrix in
    let edges = edges_over a c.grid-grid.result.side c.in_ok-turned.turned c.shape-shape.ensures.matrix c.requires.square c.in_ok-turned.ensures.ok in
    let whole = c.in_ok-ended.ensures.ended a c.args.source edges (c.in_ok-begun.ensures a c.shape-shape.ensures.matrix (sym c.shape-shape.ensures.shape) c.requires.square) in
    record { search = (a, c.args.source, whole.0, whole.1.0) }

pub returns-clause-ok : goal.returns-clause-ok
returns-clause-ok g c =
    let a = c.args.graph.matrix in
    let edges = edges_over a c.grid-grid.result.side c.in_ok-turned.turned c.shape-shape.ensures.matrix c.requires.square c.in_ok-turned.ensures.ok in
    let whole = c.in_ok-ended.ensures.ended a c.args.source edges (c.in_ok-begun.ensures a c.shape-shape.ensures.matrix (sym c.shape-shape.ensures.shape) c.requires.square) in
    c.in_ok-column.ensures a c.args.source whole.0 whole.1.0 whole.1.1

pub returns-in_err-turned-clause-lost : goal.returns-in_err-turned-clause-lost
returns-in_err-turned-clause-lost g c =
    let fault = c.in_err-turned.field-0.0 in
    let lost = transpose_loss c.args.engine c.grid-grid.result.side c.args.graph.matrix c.args.source fault c.in_err-turned.ensures.lost in
    let there = subst (λ n. IsWalkLoss c.args.engine n c.args.graph.matrix c.args.source (Failed fault)) (ap (λ (g : Square). g.side) c.grid-grid.ensures) lost in
    search (rules, there)

pub returns-in_err-ended-clause-lost : goal.returns-in_err-ended-clause-lost
returns-in_err-ended-clause-lost g c =
    let a = c.args.graph.matrix in
    let fault = c.in_err-ended.field-0.0 in
    let edges = edges_over a c.grid-grid.result.side c.in_ok-turned.turned c.shape-shape.ensures.matrix c.requires.square c.in_ok-turned.ensures.ok in
    let lost = c.in_err-ended.ensures.lost a c.args.source edges (c.in_ok-begun.ensures a c.shape-shape.ensures.matrix (sym c.shape-shape.ensures.shape) c.requires.square) in
    let there = subst (λ n. IsWalkLoss c.args.engine n a c.args.source (Failed fault)) (ap (λ (g : Square). g.side) c.grid-grid.ensures) lost in
    search (rules, there)
