use Rattle.std.proofs.Common.{rules, ◌≡◌, Some, [], ◌∷◌, ◌++◌, sym, ap, ◌∙◌}
use Rattle.rtrb.specs.Ring.{sent}
use Rattle.cb_rank_runs.specs.Crews.{Member}
use Rattle.cb_rank_crews.specs.Rings.{last_item}
use Rattle.cb_rank_crews.proofs.LastItems.{last_item-push}
use Rattle.cb_rank_crews.proofs.workers.Idle.give.Goals as goal

pub invariant_of-result : goal.invariant_of-result
invariant_of-result g c =
    let member : Member = (c.args.rank, c.args.desk) in
    let put : sent c.slots_beside.new.producer ≡ sent c.args.self.worker.errands ++ member ∷ [] = search rules in
    record {
      own = c.rank-number.ensures ∙ ap (λ (m : Member). m.1.me) (sym c.of-given.ensures);
      last = ap last_item put ∙ last_item-push (sent c.args.self.worker.errands) member ∙ ap Some (sym c.of-given.ensures);
    }
