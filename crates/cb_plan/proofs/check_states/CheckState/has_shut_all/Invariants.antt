use Rattle.std.proofs.Common.{◌≡◌, ◌-◌}
use Rattle.std.specs.Prelude.{◌==◌, ◌||◌}
use Rattle.std.specs.List.{range_with_len}
use Rattle.cb_plan.specs.Checks.{all_hold, lanes_in}
use Rattle.cb_plan.proofs.check_states.CheckState.has_shut_all.Given as goal

abbrev pub invariant-loop-to : goal.invariant-loop-to
invariant-loop-to l =
    all_hold (λ t. (l.from == t) || lanes_in l.self.shut l.from t) (range_with_len l.to (l.self.ranks - l.to)) ≡ all_hold (λ t. (l.from == t) || lanes_in l.self.shut l.from t) (range_with_len 0 l.self.ranks)
