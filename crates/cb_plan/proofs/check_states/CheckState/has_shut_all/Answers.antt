use Rattle.std.proofs.Common.{◌≡◌, true, ℕ, Bool, ◌∙◌, sym, ap, arith}
use Rattle.std.specs.Prelude.{◌==◌, ◌||◌}
use Rattle.std.proofs.lemmas.Bool.Decides.{nat_tests}
use Rattle.cb_plan.specs.Checks.{CheckState, lanes_in}
use Rattle.cb_plan.proofs.AllOfRange.{next_holds}
use Rattle.cb_plan.proofs.check_states.CheckState.has_shut_all.Goals as goal

pub loop-to-preserved : goal.loop-to-preserved
loop-to-preserved c =
    let f : ℕ → Bool = λ t. (c.args.from == t) || lanes_in c.args.self.now.shut c.args.from t in
    let t : c.is_shut.result ≡ true = grind (arith, nat_tests) in
    next_holds f c.loop-to.to _ _ (omega (arith, ap (λ (o : CheckState). o.ranks) c.self.view_is)) (sym c.is_shut.ensures ∙ t) c.loop-to.invariant
