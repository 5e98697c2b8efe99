use Rattle.std.proofs.Common.{◌≡◌, ◌≢◌, true, false, sym, arith}
use Rattle.std.specs.Prelude.{◌==◌}
use Rattle.std.proofs.lemmas.Bool.Decides.{nat_tests}
use Rattle.cb_plan.specs.Checks.{lanes_in}
use Rattle.cb_plan.proofs.ClosingSteps.{at_first, at_last, at_next, is_fault}
use Rattle.cb_plan.proofs.check_states.CheckState.fault_at_closing.Goals as goal

pub loop-from-init : goal.loop-from-init
loop-from-init c = at_first _ _ _ _ (rw c.ranks-ranks.ensures c.requires)

pub returns-then-is_shut : goal.returns-then-is_shut
returns-then-is_shut c =
    let from = c.loop-from.from in
    let to = c.loop-to.to in
    let ne : from ≢ to = c.if-from-to.false in
    let apart : (from == to) ≡ false = grind (arith, nat_tests) in
    let closed : true ≡ lanes_in c.args.self.now.shut from to = rw apart at c.if-is_shut.ensures in
    let h = is_fault _ _ _ _ from to _ (omega arith) c.loop-to.invariant (omega arith) ne (sym closed) in
    rw c.ranks-ranks.ensures at h

pub loop-to-preserved : goal.loop-to-preserved
loop-to-preserved c =
    let from = c.loop-from.from in
    let to = c.loop-to.to in
    let ne : from ≢ to = c.if-from-to.false in
    let apart : (from == to) ≡ false = grind (arith, nat_tests) in
    let open_lane : false ≡ lanes_in c.args.self.now.shut from to = rw apart at c.if-is_shut.ensures in
    at_next _ _ _ _ from to _ (omega arith) c.loop-to.invariant (omega arith) ne (sym open_lane)

pub returns : goal.returns
returns c =
    let h = at_last _ _ _ _ c.loop-from.from _ (omega arith) c.loop-from.invariant in
    rw c.ranks-ranks.ensures at h
