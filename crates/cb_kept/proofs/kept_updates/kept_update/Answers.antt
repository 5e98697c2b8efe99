use Rattle.cb_kept.specs.KeptAnswers.{numbered_faults}
use Rattle.cb_kept.proofs.kept_updates.kept_update.Goals as goal

pub returns-in-Some-mask : goal.returns-in-Some-mask
unfolding numbered_faults
returns-in-Some-mask c = rw (c.in-Some.is, c.in-Some-mask.is) c.kept_call.ensures

pub returns-in-None : goal.returns-in-None
unfolding numbered_faults
returns-in-None c = rw (c.in-Some.is, c.in-None.is) c.kept_call-in-None.ensures
