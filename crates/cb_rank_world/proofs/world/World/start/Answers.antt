-- The world is new, and a new world agrees with its plan.
use Rattle.std.proofs.Common.{◌≡◌, ◌≤◌, length, vec_capacity, ap, subst, arith, vec_items}
use Rattle.cb_rank_world.specs.Starting.{AreNewBoxes}
use Rattle.cb_rank_world.specs.Worlds.{WorldView}
use Rattle.cb_rank_world.proofs.FirstState.{begins}
use Rattle.cb_rank_world.proofs.NewRanks.{new_world}
use Rattle.cb_rank_world.proofs.world.World.start.Goals as goal

pub invariant_of-result : goal.invariant_of-result
invariant_of-result g c =
    let w : WorldView = record { plan = c.of.result.value; first = c.of-first.result.value.items; capacity = c.get.result; ranks = c.in_ok-ranks.ranks.items; boxes = c.in-Ok.ends.boxes } in
    let boxes = subst (λ n. AreNewBoxes n c.args.capacity c.in-Ok.ends.boxes) c.ranks.ensures.ranks c.in-Ok.ensures in
    let new = new_world c.args.plan.now c.args.stores.items c.args.capacity w c.of.ensures (ap vec_items c.of-first.ensures) c.get.ensures.value c.requires c.in_ok-ranks.ensures.ranks boxes in
    let few = c.ranks.type_inv in
    let same = c.ranks.ensures.ranks in
    let world = begins _ c.args.plan.now c.args.stores.items c.args.capacity w c.ranks.ensures.checked c.requires (omega arith) (omega arith) new in
    let size : length c.in_ok-ranks.ranks.items ≡ c.args.plan.now.ranks = new.sizes.0 in
    let taken = c.in-Ok-with_capacity.ensures.capacity in
    let room : length c.in_ok-ranks.ranks.items ≤ vec_capacity c.in-Ok-with_capacity.counts = omega (arith, size, taken) in
    (world, c.in_ok-ranks.ensures.empty, (c.in-Ok-with_capacity.ensures.items, room))

pub returns-clause-new : goal.returns-clause-new
returns-clause-new g c =
    let w : WorldView = record { plan = c.of.result.value; first = c.of-first.result.value.items; capacity = c.get.result; ranks = c.in_ok-ranks.ranks.items; boxes = c.in-Ok.ends.boxes } in
    let boxes = subst (λ n. AreNewBoxes n c.args.capacity c.in-Ok.ends.boxes) c.ranks.ensures.ranks c.in-Ok.ensures in
    let new = new_world c.args.plan.now c.args.stores.items c.args.capacity w c.of.ensures (ap vec_items c.of-first.ensures) c.get.ensures.value c.requires c.in_ok-ranks.ensures.ranks boxes in
    new

pub returns-clause-world : goal.returns-clause-world
returns-clause-world g c =
    let w : WorldView = record { plan = c.of.result.value; first = c.of-first.result.value.items; capacity = c.get.result; ranks = c.in_ok-ranks.ranks.items; boxes = c.in-Ok.ends.boxes } in
    let boxes = subst (λ n. AreNewBoxes n c.args.capacity c.in-Ok.ends.boxes) c.ranks.ensures.ranks c.in-Ok.ensures in
    let new = new_world c.args.plan.now c.args.stores.items c.args.capacity w c.of.ensures (ap vec_items c.of-first.ensures) c.get.ensures.value c.requires c.in_ok-ranks.ensures.ranks boxes in
    let few = c.ranks.type_inv in
    let same = c.ranks.ensures.ranks in
    let world = begins _ c.args.plan.now c.args.stores.items c.args.capacity w c.ranks.ensures.checked c.requires (omega arith) (omega arith) new in
    world
