-- The other rank of a lane exists, and is another; and the lane tells whether the half can be done.
use Rattle.std.proofs.Common.{sym}
use Rattle.cb_rank_world.specs.Worlds.{no_rank}
use Rattle.cb_rank_world.proofs.LaneNeeds.{at_post, at_shut, at_take, at_end}
use Rattle.cb_rank_world.proofs.world.World.can_act.Goals as goal

pub has_room-requires-clause-to : goal.has_room-requires-clause-to
has_room-requires-clause-to g c =
    let look = rw c.deref.ensures.value at c.in-Some.ensures.lookup in
    (at_post _ _ c.self.invariant.0 c.args.r c.in-Some.rank.now look.3.0 (look.3.1 no_rank) c.in-Post.to (sym c.in-Post.ensures.value)).0.other

pub has_room-requires-clause-apart : goal.has_room-requires-clause-apart
has_room-requires-clause-apart g c =
    let look = rw c.deref.ensures.value at c.in-Some.ensures.lookup in
    (at_post _ _ c.self.invariant.0 c.args.r c.in-Some.rank.now look.3.0 (look.3.1 no_rank) c.in-Post.to (sym c.in-Post.ensures.value)).0.apart

pub has_letter-requires-clause-from : goal.has_letter-requires-clause-from
has_letter-requires-clause-from g c =
    let look = rw c.deref.ensures.value at c.in-Some.ensures.lookup in
    (at_take _ _ c.self.invariant.0 c.args.r c.in-Some.rank.now look.3.0 (look.3.1 no_rank) c.in-Take.from (sym c.in-Take.ensures.value)).0.other

pub has_letter-requires-clause-apart : goal.has_letter-requires-clause-apart
has_letter-requires-clause-apart g c =
    let look = rw c.deref.ensures.value at c.in-Some.ensures.lookup in
    (at_take _ _ c.self.invariant.0 c.args.r c.in-Some.rank.now look.3.0 (look.3.1 no_rank) c.in-Take.from (sym c.in-Take.ensures.value)).0.back

pub has_room-requires-in-Shut-clause-to : goal.has_room-requires-in-Shut-clause-to
has_room-requires-in-Shut-clause-to g c =
    let look = rw c.deref.ensures.value at c.in-Some.ensures.lookup in
    (at_shut _ _ c.self.invariant.0 c.args.r c.in-Some.rank.now look.3.0 (look.3.1 no_rank) c.in-Shut.to (sym c.in-Shut.ensures.value)).0.other

pub has_room-requires-in-Shut-clause-apart : goal.has_room-requires-in-Shut-clause-apart
has_room-requires-in-Shut-clause-apart g c =
    let look = rw c.deref.ensures.value at c.in-Some.ensures.lookup in
    (at_shut _ _ c.self.invariant.0 c.args.r c.in-Some.rank.now look.3.0 (look.3.1 no_rank) c.in-Shut.to (sym c.in-Shut.ensures.value)).0.apart

pub has_letter-requires-in-End-clause-from : goal.has_letter-requires-in-End-clause-from
has_letter-requires-in-End-clause-from g c =
    let look = rw c.deref.ensures.value at c.in-Some.ensures.lookup in
    (at_end _ _ c.self.invariant.0 c.args.r c.in-Some.rank.now look.3.0 (look.3.1 no_rank) c.in-End.from (sym c.in-End.ensures.value)).0.other

pub has_letter-requires-in-End-clause-apart : goal.has_letter-requires-in-End-clause-apart
has_letter-requires-in-End-clause-apart g c =
    let look = rw c.deref.ensures.value at c.in-Some.ensures.lookup in
    (at_end _ _ c.self.invariant.0 c.args.r c.in-Some.rank.now look.3.0 (look.3.1 no_rank) c.in-End.from (sym c.in-End.ensures.value)).0.back

pub returns-in-Post : goal.returns-in-Post
returns-in-Post g c =
    let look = rw c.deref.ensures.value at c.in-Some.ensures.lookup in
    let acts = (at_post _ _ c.self.invariant.0 c.args.r c.in-Some.rank.now look.3.0 (look.3.1 no_rank) c.in-Post.to (sym c.in-Post.ensures.value)).1 in
    let room = c.has_room.ensures in
    rw (← c.self.view_is) (λ h. acts.0 (room.0 h), λ h. room.1 (acts.1 h))

pub returns-in-Shut : goal.returns-in-Shut
returns-in-Shut g c =
    let look = rw c.deref.ensures.value at c.in-Some.ensures.lookup in
    let acts = (at_shut _ _ c.self.invariant.0 c.args.r c.in-Some.rank.now look.3.0 (look.3.1 no_rank) c.in-Shut.to (sym c.in-Shut.ensures.value)).1 in
    let room = c.has_room-in-Shut.ensures in
    rw (← c.self.view_is) (λ h. acts.0 (room.0 h), λ h. room.1 (acts.1 h))
