use Rattle.std.proofs.Common.{sym, ◌∙◌}
use Rattle.cb_rank_world.proofs.NoDeadlock.{none_remains, all_done_by}
use Rattle.cb_rank_world.proofs.LaneNeeds.{zero_test}
use Rattle.cb_rank_world.proofs.world.World.all_done.Goals as goal

pub returns-clause-done : goal.returns-clause-done
returns-clause-done g c =
    let value = c.remaining.ensures in
    let zero = zero_test c.remaining.result in
    (λ t. all_done_by c.args.self.now (sym value ∙ zero.0 t), λ d. zero.1 (value ∙ none_remains c.args.self.now d))
