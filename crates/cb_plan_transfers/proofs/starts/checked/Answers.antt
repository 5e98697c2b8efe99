use Rattle.std.proofs.Common.{ℕ, ◌<◌, sym, subst}
use Rattle.std.specs.Prelude.{All}
use Rattle.cb_plan.specs.declared.acts.Start.{Start}
use Rattle.cb_plan_transfers.proofs.starts.checked.Goals as goal

pub check-requires-clause-exist : goal.check-requires-clause-exist
check-requires-clause-exist c =
    subst (λ (n : ℕ). All (λ (s : Start). (s.rank < n) × (s.slot < 256)) c.args.starts.now) (sym c.requires.ranks) c.requires.exist
