use Rattle.std.proofs.Common.{◌≡◌, ◌-◌}
use Rattle.std.specs.Prelude.{◌==◌, ◌||◌}
use Rattle.std.specs.List.{range_with_len}
use Rattle.cb_plan.specs.Checks.{all_hold, lanes_in}
use Rattle.cb_plan.proofs.check_states.CheckState.is_all_shut.Given as goal

abbrev pub invariant-loop-from : goal.invariant-loop-from
invariant-loop-from l =
    all_hold (λ s. all_hold (λ t. (s == t) || lanes_in l.self.shut s t) (range_with_len 0 l.self.ranks)) (range_with_len l.from (l.self.ranks - l.from)) ≡ all_hold (λ s. all_hold (λ t. (s == t) || lanes_in l.self.shut s t) (range_with_len 0 l.self.ranks)) (range_with_len 0 l.self.ranks)
