-- One event more is run; and what a run makes of the letters.
use Rattle.std.proofs.Common.{◌≤◌, length, take, get_or, sym, subst, arith}
use Rattle.std.proofs.lemmas.List.{take_all}
use Rattle.std.proofs.lemmas.Option.{slice_get-get_or}
use Rattle.cb_rank.proofs.LanesByHalves.{take-next}
use Rattle.cb_rank_world.specs.declared.events.Event.{Event}
use Rattle.cb_rank_world.specs.declared.events.Event.TheVariants.{Step}
use Rattle.cb_rank_world.specs.WorldSteps.{RunsBy}
use Rattle.cb_rank_world.specs.Worlds.{IsWorld}
use Rattle.cb_rank_world.proofs.LaneNeeds.{run_keeps}
use Rattle.cb_rank_world.proofs.LaneCalls.{run_calls, all_taken_once, all_for_addressee, all_in_posting_order, none_after_close, all_given_out}
use Rattle.cb_rank_world.proofs.Changes.{runs_more}
use Rattle.cb_rank_world.proofs.world.World.run.Goals as goal

pub loop-event-preserved : goal.loop-event-preserved
loop-event-preserved g c =
    let event : Event = get_or c.args.events.now c.loop-event.event-index (Step 0) in
    let next = take-next c.args.events.now c.loop-event.event-index event (slice_get-get_or c.args.events.now c.loop-event.event-index (Step 0) c.loop-event-test.true) in
    let more = runs_more g.S.Semiring.arithmetic (take c.loop-event.event-index c.args.events.now) event c.step.result c.args.self.now c.loop-event.self c.step.new.self c.loop-event.invariant c.step.ensures.step in
    subst (λ es. RunsBy g.S.Semiring.arithmetic es c.args.self.now c.step.new.self) (sym next) more

pub returns-clause-keeps : goal.returns-clause-keeps
returns-clause-keeps g c = run_keeps g.S.Semiring.arithmetic _ _ _ c.loop-event.invariant

pub returns-clause-calls : goal.returns-clause-calls
returns-clause-calls g c =
    let sound : IsWorld g.S.Semiring.arithmetic c.args.self.now = rw (← c.self.view_is) c.self.invariant.0 in
    let past : length c.args.events.now ≤ c.loop-event.event-index = let ends = c.loop-event-test.false in omega arith in
    let runs : RunsBy g.S.Semiring.arithmetic c.args.events.now c.args.self.now c.loop-event.self = subst (λ es. RunsBy g.S.Semiring.arithmetic es c.args.self.now c.loop-event.self) (take_all c.loop-event.event-index c.args.events.now past) c.loop-event.invariant in
    run_calls g.S.Semiring.arithmetic c.args.events.now c.args.self.now c.loop-event.self sound runs

pub returns-clause-once : goal.returns-clause-once
returns-clause-once g c =
    let sound : IsWorld g.S.Semiring.arithmetic c.args.self.now = rw (← c.self.view_is) c.self.invariant.0 in
    λ calls made. all_taken_once g.S.Semiring.arithmetic c.args.events.now calls c.args.self.now _ sound made

pub returns-clause-addressee : goal.returns-clause-addressee
returns-clause-addressee g c =
    let sound : IsWorld g.S.Semiring.arithmetic c.args.self.now = rw (← c.self.view_is) c.self.invariant.0 in
    λ calls made. all_for_addressee g.S.Semiring.arithmetic c.args.events.now calls c.args.self.now _ sound made

pub returns-clause-order : goal.returns-clause-order
returns-clause-order g c =
    let sound : IsWorld g.S.Semiring.arithmetic c.args.self.now = rw (← c.self.view_is) c.self.invariant.0 in
    λ calls made. all_in_posting_order g.S.Semiring.arithmetic c.args.events.now calls c.args.self.now _ sound made

pub returns-clause-closed : goal.returns-clause-closed
returns-clause-closed g c =
    let sound : IsWorld g.S.Semiring.arithmetic c.args.self.now = rw (← c.self.view_is) c.self.invariant.0 in
    λ calls made. none_after_close g.S.Semiring.arithmetic c.args.events.now calls c.args.self.now _ sound made

pub returns-clause-drained : goal.returns-clause-drained
returns-clause-drained g c =
    let sound : IsWorld g.S.Semiring.arithmetic c.args.self.now = rw (← c.self.view_is) c.self.invariant.0 in
    λ calls made. all_given_out g.S.Semiring.arithmetic c.args.events.now calls c.args.self.now _ sound made
