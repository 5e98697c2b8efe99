use Rattle.std.proofs.Common.{◌≡◌, true, false, sym, append-nil, arith}
use Rattle.std.specs.Prelude.{◌==◌}
use Rattle.std.proofs.lemmas.Bool.Decides.{nat_tests}
use Rattle.cb_plan.specs.Closings.{shut_lane}
use Rattle.cb_plan.proofs.Ranges.{extended}
use Rattle.cb_plan.proofs.plans.shut_each.Goals as goal
use Rattle.cb_plan.proofs.plans.shut_each.Goals.{then-from-to+in_ok-push, else-from-to}

pub loop-to-preserved : goal.loop-to-preserved
loop-to-preserved c =
    let from = c.args.from in
    let to = c.loop-to.to in
    elim c.if-from-to.branch [
      | then-from-to+in_ok-push w ↦
          let apart : (from == to) ≡ false = grind (arith, nat_tests) in
          extended (shut_lane from) to _ _ _ c.loop-to.invariant (rw (w.acts-is, apart) w.in_ok-push.ensures.items)
      | else-from-to w ↦
          let own : (from == to) ≡ true = grind (arith, nat_tests) in
          extended (shut_lane from) to _ _ _ c.loop-to.invariant (rw (w.acts-is, own) (sym (append-nil c.loop-to.acts.items)))
    ]
