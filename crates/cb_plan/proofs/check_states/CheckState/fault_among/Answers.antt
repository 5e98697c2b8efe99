use Rattle.std.proofs.Common.{◌≡◌, ◌+◌, ◌∙◌, ◌++◌, [], length-append, refl, ap, sym, arith}
use Rattle.cb_plan.specs.Checks.{fault_from, slots_in, lanes_in}
use Rattle.cb_plan.specs.Closings.{closings, shut_acts}
use Rattle.cb_plan.proofs.CheckSteps.{found, next, past_stored}
use Rattle.cb_plan.proofs.StoredActs.{is_inside, same_element}
use Rattle.cb_plan.proofs.check_states.CheckState.fault_among.Goals as goal

pub returns-in-Some : goal.returns-in-Some
returns-in-Some c =
    let acts = c.args.acts.now in
    let rest = closings c.args.self.now.ranks c.args.closes in
    let i = c.loop-act.act-index in
    found (acts ++ rest) i c.loop-act.number c.args.self.now.ranks c.act-item.result c.loop-act.self c.in-Some.kind _ c.loop-act.invariant.0 c.loop-act.invariant.1 (is_inside acts rest i (omega arith)) (same_element acts rest i c.act-item.result (omega arith) c.act-item.is) (sym c.fault_of.ensures ∙ c.in-Some.is) c.loop-act.invariant.2

pub overflow_add-number : goal.overflow_add-number
overflow_add-number c = omega (arith, length-append c.args.acts.now (closings c.args.self.now.ranks c.args.closes))

pub loop-act-preserved : goal.loop-act-preserved
loop-act-preserved c =
    let acts = c.args.acts.now in
    let rest = closings c.args.self.now.ranks c.args.closes in
    let i = c.loop-act.act-index in (
      c.pass.ensures.ranks ∙ c.loop-act.invariant.0,
      ap (λ n. n + 1) c.loop-act.invariant.1,
      next (acts ++ rest) i c.args.self.now.ranks c.act-item.result c.loop-act.self c.pass.new.self _ c.loop-act.invariant.0 (is_inside acts rest i (omega arith)) (same_element acts rest i c.act-item.result (omega arith) c.act-item.is) (sym c.fault_of.ensures ∙ c.in_default.is) c.pass.ensures c.loop-act.invariant.2,
    )

pub fault_at_closing-requires : goal.fault_at_closing-requires
fault_at_closing-requires c =
    let few = rw c.if-closes.true at c.requires in
    let e = length-append c.args.acts.now (shut_acts c.args.self.now.ranks) in
    rw c.loop-act.invariant.0 (omega arith)

pub returns-then-closes : goal.returns-then-closes
returns-then-closes c =
    let o = c.loop-act.self in
    let rest = closings c.args.self.now.ranks c.args.closes in
    let is : shut_acts o.ranks ≡ rest = ap shut_acts c.loop-act.invariant.0 ∙ rw c.if-closes.true refl in
    c.fault_at_closing.ensures
    ∙ ap (fault_from o.ranks c.loop-act.number (slots_in o.slots) (lanes_in o.shut)) is
    ∙ past_stored c.args.acts.now rest c.loop-act.act-index c.loop-act.number c.args.self.now.ranks o _ c.loop-act.invariant.0 c.loop-act.invariant.1 (omega arith) (omega arith) c.loop-act.invariant.2

pub returns-else-closes : goal.returns-else-closes
returns-else-closes c =
    let o = c.loop-act.self in
    let rest = closings c.args.self.now.ranks c.args.closes in
    let is : [] ≡ rest = rw c.if-closes.false refl in
    c.fault_at_end.ensures
    ∙ ap (fault_from o.ranks c.loop-act.number (slots_in o.slots) (lanes_in o.shut)) is
    ∙ past_stored c.args.acts.now rest c.loop-act.act-index c.loop-act.number c.args.self.now.ranks o _ c.loop-act.invariant.0 c.loop-act.invariant.1 (omega arith) (omega arith) c.loop-act.invariant.2
