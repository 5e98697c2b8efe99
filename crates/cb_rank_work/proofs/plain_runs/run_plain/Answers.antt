use Rattle.std.proofs.Common.{arith}
use Rattle.cb_plan.specs.Closings.{closings}
use Rattle.cb_plan.proofs.StoredActs.{is_inside, same_element}
use Rattle.cb_rank_work.proofs.RunSteps.{next_is_sound, next_runs, has_run}
use Rattle.cb_rank_work.proofs.plain_runs.run_plain.Goals as goal

pub run_act-requires-clause-sound : goal.run_act-requires-clause-sound
run_act-requires-clause-sound g c =
    let e = c.stored.ensures.acts in
    let stored = c.stored.result.0.now in
    let rest = closings c.args.plan.now.ranks c.stored.result.1 in
    let i = c.loop-act.act-index in
    next_is_sound g.S.Semiring.arithmetic c.args.plan.now.ranks c.args.plan.now.acts i c.args.stores.items c.loop-act.stores.items c.loop-act.invariant c.act-item.result (rw e (is_inside stored rest i (omega arith))) (rw e (same_element stored rest i c.act-item.result (omega arith) c.act-item.is))

pub loop-act-preserved : goal.loop-act-preserved
loop-act-preserved g c =
    let e = c.stored.ensures.acts in
    let stored = c.stored.result.0.now in
    let rest = closings c.args.plan.now.ranks c.stored.result.1 in
    let i = c.loop-act.act-index in
    next_runs g.S.Semiring.arithmetic c.args.plan.now.ranks c.args.plan.now.acts i c.args.stores.items c.loop-act.stores.items c.loop-act.invariant c.act-item.result (rw e (is_inside stored rest i (omega arith))) (rw e (same_element stored rest i c.act-item.result (omega arith) c.act-item.is)) c.run_act.new.stores.items c.in_ok-run_act.ensures.table c.in_ok-run_act.ensures.none_lost c.in_ok-run_act.ensures.act

pub returns-clause-meaning : goal.returns-clause-meaning
returns-clause-meaning g c =
    has_run g.S.Semiring.arithmetic c.args.plan.now.ranks c.args.plan.now.acts c.stored.result.0.now c.stored.result.1 c.loop-act.act-index c.args.stores.items c.loop-act.stores.items c.stored.ensures.acts (omega arith) (omega arith) c.loop-act.invariant
