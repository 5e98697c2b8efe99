use Rattle.std.proofs.Common.{refl}
use Rattle.cb_plan.proofs.Cells.{blank_state}
use Rattle.cb_plan.proofs.check_states.CheckState.new.Goals as goal

pub returns : goal.returns
returns c = blank_state _ c.args.ranks refl c.in_ok-new.ensures c.in_ok-new-2.ensures
