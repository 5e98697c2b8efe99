use Rattle.std.proofs.Common.{◌≡◌, true, false, ℕ, Bool, ◌∙◌, sym, ap, arith}
use Rattle.std.specs.Prelude.{◌==◌, ◌||◌}
use Rattle.std.specs.List.{range_with_len}
use Rattle.std.proofs.lemmas.Bool.Decides.{nat_tests}
use Rattle.cb_plan.specs.Checks.{CheckState, lanes_in, all_hold}
use Rattle.cb_plan.proofs.AllOfRange.{next_holds, one_fails}
use Rattle.cb_plan.proofs.check_states.CheckState.is_all_shut.Goals as goal

pub returns-then-not-has_shut_all : goal.returns-then-not-has_shut_all
returns-then-not-has_shut_all c =
    let f : ℕ → Bool = λ s. all_hold (λ t. (s == t) || lanes_in c.args.self.now.shut s t) (range_with_len 0 c.args.self.now.ranks) in
    let t : c.has_shut_all.result ≡ false = grind (arith, nat_tests) in
    one_fails f c.loop-from.from _ _ (omega (arith, ap (λ (o : CheckState). o.ranks) c.self.view_is)) (sym c.has_shut_all.ensures ∙ t) c.loop-from.invariant

pub loop-from-preserved : goal.loop-from-preserved
loop-from-preserved c =
    let f : ℕ → Bool = λ s. all_hold (λ t. (s == t) || lanes_in c.args.self.now.shut s t) (range_with_len 0 c.args.self.now.ranks) in
    let t : c.has_shut_all.result ≡ true = grind (arith, nat_tests) in
    next_holds f c.loop-from.from _ _ (omega (arith, ap (λ (o : CheckState). o.ranks) c.self.view_is)) (sym c.has_shut_all.ensures ∙ t) c.loop-from.invariant
