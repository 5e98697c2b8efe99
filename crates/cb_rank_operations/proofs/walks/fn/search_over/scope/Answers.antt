use Rattle.std.proofs.Common.{rules, ◌*◌, subst}
use Rattle.cb_rank_engines.specs.declared.engines.Engine.TheVariants.{Threads}
use Rattle.cb_rank_engines.specs.EngineRuns.{IsEngineFault}
use Rattle.cb_rank_operations.specs.declared.operation_faults.OperationFault.TheVariants.{Failed}
use Rattle.cb_rank_operations.specs.Searched.{IsWalkLoss, OfEachSearch}
use Rattle.cb_rank_operations.proofs.WalkLosses.{no_walk_loss}
use Rattle.cb_rank_operations.proofs.walks.fn.search_over.scope.Goals as goal

pub returns-in_err-hired : goal.returns-in_err-hired
returns-in_err-hired g c =
    let e = c.in_err-hired.field-0.0 in
    let q = c.captures.grid.now.side in
    let engine = Threads c.captures.letters in
    let fault : IsEngineFault engine (q * q) e = subst (λ ranks. IsEngineFault engine ranks e) c.requires.count (c.in_err-hired.ensures.fault c.captures.letters) in
    let lost : OfEachSearch c.captures.edges.matrix c.captures.begun (λ a source. IsWalkLoss engine q a source (Failed e)) =
    λ a source edges begun. no_walk_loss engine q a source e c.in_err-hired.ensures.whole in
    record { ended = search rules; fault = search (rules, fault); lost = search (rules, lost) }
