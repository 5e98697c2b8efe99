-- A step of a rank through its ends is a step of the world, and no stray comes.
use Rattle.std.proofs.Common.{refl, sym, ◌∙◌}
use Rattle.std.proofs.Math.ListN.{length-set}
use Rattle.cb_rank_world.proofs.LaneNeeds.{rank_at, came_as, falls}
use Rattle.cb_rank_world.proofs.OneStep.{step_is, starved_is}
use Rattle.cb_rank_world.proofs.OwnEnds.{ports_of}
use Rattle.cb_rank_world.proofs.world.World.advance.Goals as goal

pub step-requires : goal.step-requires
step-requires g c =
    let at = rank_at _ _ c.args.r c.index_mut.result.now _ _ c.self.invariant.0 c.if-r-len.false c.len.ensures c.self.inside.ranks.ok.0 c.index_mut.ensures.value in
    rw (at.read, c.turn_to.ensures) (ports_of _ _ c.args.r c.self.invariant.0 at.inside)

pub unreachable-requires : goal.unreachable-requires
unreachable-requires g c =
    let at = rank_at _ _ c.args.r c.index_mut.result.now _ _ c.self.invariant.0 c.if-r-len.false c.len.ensures c.self.inside.ranks.ok.0 c.index_mut.ensures.value in
    let came = step_is _ _ c.args.r c.index_mut.result.now c.step.new.self c.step.result c.turn_to.new.self c.step.new.ports c.self.invariant.0 at.inside at.read c.turn_to.ensures c.step.ensures.posts c.step.ensures.takes c.step.ensures.works in
    let both = sym came.answer_is ∙ c.in-Err.is in
    cc

pub invariant_of-self : goal.invariant_of-self
invariant_of-self g c =
    let at = rank_at _ _ c.args.r c.index_mut.result.now _ _ c.self.invariant.0 c.if-r-len.false c.len.ensures c.self.inside.ranks.ok.0 c.index_mut.ensures.value in
    let came = step_is _ _ c.args.r c.index_mut.result.now c.step.new.self c.step.result c.turn_to.new.self c.step.new.ports c.self.invariant.0 at.inside at.read c.turn_to.ensures c.step.ensures.posts c.step.ensures.takes c.step.ensures.works in
    let same = length-set c.self.inside.ranks.items c.args.r c.step.new.self in
    (came.sound, rw same c.self.invariant.1, rw same c.self.invariant.2)

pub returns-clause-half : goal.returns-clause-half
returns-clause-half g c =
    let at = rank_at _ _ c.args.r c.index_mut.result.now _ _ c.self.invariant.0 c.if-r-len.false c.len.ensures c.self.inside.ranks.ok.0 c.index_mut.ensures.value in
    let came = step_is _ _ c.args.r c.index_mut.result.now c.step.new.self c.step.result c.turn_to.new.self c.step.new.ports c.self.invariant.0 at.inside at.read c.turn_to.ensures c.step.ensures.posts c.step.ensures.takes c.step.ensures.works in
    rw (← c.self.view_is) (came_as _ _ c.args.r c.step.result _ c.in-Ok.moved came c.in-Ok.is)

pub returns-clause-starved : goal.returns-clause-starved
returns-clause-starved g c =
    let at = rank_at _ _ c.args.r c.index_mut.result.now _ _ c.self.invariant.0 c.if-r-len.false c.len.ensures c.self.inside.ranks.ok.0 c.index_mut.ensures.value in
    let came = step_is _ _ c.args.r c.index_mut.result.now c.step.new.self c.step.result c.turn_to.new.self c.step.new.ports c.self.invariant.0 at.inside at.read c.turn_to.ensures c.step.ensures.posts c.step.ensures.takes c.step.ensures.works in
    let steps = came_as _ _ c.args.r c.step.result _ c.in-Ok.moved came c.in-Ok.is in
    rw (← c.self.view_is) (λ refused. starved_is _ _ c.args.r c.index_mut.result.now c.step.new.self c.step.result c.step.new.ports.boxes c.in-Ok.moved c.self.invariant.0 at.inside at.read c.in-Ok.is steps (c.step.ensures.starved refused))

pub returns-clause-falls : goal.returns-clause-falls
returns-clause-falls g c =
    let at = rank_at _ _ c.args.r c.index_mut.result.now _ _ c.self.invariant.0 c.if-r-len.false c.len.ensures c.self.inside.ranks.ok.0 c.index_mut.ensures.value in
    let came = step_is _ _ c.args.r c.index_mut.result.now c.step.new.self c.step.result c.turn_to.new.self c.step.new.ports c.self.invariant.0 at.inside at.read c.turn_to.ensures c.step.ensures.posts c.step.ensures.takes c.step.ensures.works in
    let steps = came_as _ _ c.args.r c.step.result _ c.in-Ok.moved came c.in-Ok.is in
    rw (← c.self.view_is) (falls g.S.Semiring.arithmetic _ _ c.args.r _ c.in-Ok.moved c.self.invariant.0 refl steps)

pub returns-clause-world : goal.returns-clause-world
returns-clause-world g c =
    let at = rank_at _ _ c.args.r c.index_mut.result.now _ _ c.self.invariant.0 c.if-r-len.false c.len.ensures c.self.inside.ranks.ok.0 c.index_mut.ensures.value in
    let came = step_is _ _ c.args.r c.index_mut.result.now c.step.new.self c.step.result c.turn_to.new.self c.step.new.ports c.self.invariant.0 at.inside at.read c.turn_to.ensures c.step.ensures.posts c.step.ensures.takes c.step.ensures.works in
    came.sound
