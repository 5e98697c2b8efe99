use Rattle.std.proofs.Common.{rules, ◌≡◌, ◌∙◌, sym, ap, subst}
use Rattle.cb_semirings.specs.Tables.{min_plus}
use Rattle.cb_matrix.specs.Sparse.{Sparse}
use Rattle.cb_matrix.specs.Values.{product}
use Rattle.cb_matrix.specs.Operations.{transposed}
use Rattle.cb_plan_operations.specs.VectorPlans.{column}
use Rattle.cb_rank_operations.specs.VectorOrders.{IsOrderedProductLoss}
use Rattle.cb_rank_operations.proofs.walks.search_round.Goals as goal

-- what a round reaches from the numbers that fell, by the transposed matrix
reached_by : (a edges x fell reached : Sparse) → edges ≡ transposed min_plus a → x ≡ fell → reached ≡ product min_plus edges x → reached ≡ product min_plus (transposed min_plus a) fell
reached_by a edges x fell reached t e r = r ∙ (λ k. product min_plus (t k) (e k))

pub multiply_vector_by-requires-clause-vector : goal.multiply_vector_by-requires-clause-vector
multiply_vector_by-requires-clause-vector g c κs lives =
    ap (λ (m : Sparse). m.shape) c.fell-fell.ensures ∙ c.requires.search.4.shape ∙ ap (λ (m : Sparse). column m.shape.cols) (sym c.requires.search.3.turned)

pub advance-requires : goal.advance-requires
advance-requires g c =
    let a = c.requires.search.0 in
    record {
      round = (
        a,
        c.requires.search.1,
        c.requires.search.2,
        c.requires.search.4,
        reached_by a c.args.edges.matrix c.fell-fell.result.now c.args.search.fell c.in_ok-reached.reached.product c.requires.search.3.turned c.fell-fell.ensures c.in_ok-reached.ensures.product,
      );
    }

pub returns-clause-next : goal.returns-clause-next
returns-clause-next g c = λ a source k search edges.
    c.in_ok-next.ensures a source k search (reached_by a c.args.edges.matrix c.fell-fell.result.now c.args.search.fell c.in_ok-reached.reached.product edges.turned c.fell-fell.ensures c.in_ok-reached.ensures.product)

pub returns-in_err-reached-clause-lost : goal.returns-in_err-reached-clause-lost
returns-in_err-reached-clause-lost g c =
    let fault = c.in_err-reached.field-0.0 in
    let lost = subst (λ (x : Sparse). IsOrderedProductLoss min_plus c.args.engine c.args.grid.now.side c.args.plan.now c.args.edges.matrix x fault) c.fell-fell.ensures c.in_err-reached.ensures.lost in
    search (rules, lost)
