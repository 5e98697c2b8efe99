use Rattle.std.proofs.Common.{rules, ◌≡◌, ◌∙◌, inl, inr, sym, ap, arith, subst, refl}
use Rattle.cb_matrix.specs.Sparse.{Sparse, Extent}
use Rattle.cb_layout.specs.Distributed.{Distributed}
use Rattle.cb_plan_vectors.specs.SpreadVectors.{MultipliesVectors}
use Rattle.cb_searches.specs.Searches.{HasEdges, HasEnded}
use Rattle.cb_rank_operations.specs.declared.operation_faults.OperationFault.TheVariants.{Failed}
use Rattle.cb_rank_operations.specs.Searched.{IsWalkLoss, OfEachSearch}
use Rattle.cb_rank_operations.proofs.WalkLosses.{round_loss}
use Rattle.cb_rank_operations.proofs.walks.search_on.Goals as goal
use Rattle.cb_rank_operations.proofs.walks.search_on.Goals.{else-loop-round-test, then-loop-round-test+then-is_empty}

-- the edges are those of the same graphs, under another name
edges_of : (d e : Distributed) (a : Sparse) → d ≡ e → HasEdges e.matrix a → HasEdges d.matrix a
edges_of d e a same edges = subst (λ (m : Distributed). HasEdges m.matrix a) (sym same) edges

pub loop-round-init : goal.loop-round-init
loop-round-init g c = record { search = (λ a source edges begun. begun); turned = refl }

pub search_round-requires-clause-side : goal.search_round-requires-clause-side
search_round-requires-clause-side g c κs lives = ap (λ (m : Distributed). m.side) c.loop-round.invariant.turned ∙ c.requires.side

pub search_round-requires-clause-plan : goal.search_round-requires-clause-plan
search_round-requires-clause-plan g c κs lives =
    subst (λ (m : Distributed). MultipliesVectors c.args.grid.now.side m.matrix.shape c.args.plan.now) (sym c.loop-round.invariant.turned) c.requires.plan

pub search_round-requires-clause-search : goal.search_round-requires-clause-search
search_round-requires-clause-search g c κs lives =
    let a = c.requires.search.0 in
    let source = c.requires.search.1 in
    let edges = c.requires.search.2 in
    (a, source, c.loop-round._round, edges_of c.loop-round.turned c.args.edges a c.loop-round.invariant.turned edges, c.loop-round.invariant.search a source edges c.requires.search.3)

pub loop-round-preserved : goal.loop-round-preserved
loop-round-preserved g c = record {
  search = (λ a source edges begun. c.in_ok-matrix.ensures.next a source c.loop-round._round (c.loop-round.invariant.search a source edges begun) (edges_of c.loop-round.turned c.args.edges a c.loop-round.invariant.turned edges));
  turned = c.in_ok-matrix.ensures.same ∙ c.loop-round.invariant.turned;
}

pub returns-clause-ended : goal.returns-clause-ended
returns-clause-ended g c = λ a source edges begun.
    let rows : c.rows-round-end.result ≡ a.shape.rows = c.rows-round-end.ensures.value ∙ ap (λ (e : Extent). e.rows) c.shape-shape.ensures.shape ∙ ap (λ (m : Sparse). m.shape.rows) edges.turned ∙ sym edges.square in
    let ended : HasEnded a c.loop-round._round c.loop-round.search = elim c.loop-round-test.branch as (λ _. HasEnded a c.loop-round._round c.loop-round.search) [
      | else-loop-round-test w ↦ inr (omega (arith, w.loop-round-test.false))
      | then-loop-round-test+then-is_empty w ↦ inl (ap (λ (m : Sparse). m.entries) (sym w.fell-fell.ensures) ∙ w.is_empty.ensures.0 w.if-is_empty.true)
    ] in
    (c.loop-round._round, (c.loop-round.invariant.search a source edges begun, ended))

pub returns-in_err-matrix-clause-lost : goal.returns-in_err-matrix-clause-lost
returns-in_err-matrix-clause-lost g c =
    let fault = c.in_err-matrix.field-0.0 in
    let q = c.args.grid.now.side in
    let turned = c.loop-round.turned in
    let multiplies : MultipliesVectors q turned.matrix.shape c.args.plan.now = subst (λ (m : Distributed). MultipliesVectors q m.matrix.shape c.args.plan.now) (sym c.loop-round.invariant.turned) c.requires.plan in
    let lost : OfEachSearch c.args.edges.matrix c.args.begun (λ a source. IsWalkLoss c.args.engine q a source (Failed fault)) =
    λ a source edges begun. round_loss c.args.engine q a source c.loop-round._round c.loop-round.search (c.loop-round.invariant.search a source edges begun) turned.matrix c.loop-round.search.fell
    (ap (λ (m : Distributed). m.matrix) c.loop-round.invariant.turned ∙ edges.turned) refl c.args.plan.now multiplies fault c.in_err-matrix.ensures.lost in
    search (rules, lost)
