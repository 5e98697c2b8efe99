use Rattle.std.proofs.Common.{rules, ◌≡◌, ◌∷◌, length, refl, vec_len, vec_capacity}
use Rattle.cb_rank_runs.specs.Crews.{Member, desks_of, stores_of, counts_of}
use Rattle.cb_rank_runs.proofs.CrewSoFar.{none_taken, images_taken, all_taken, room_left}
use Rattle.cb_rank_runs.proofs.finished.Remains.take_from.Goals as goal

pub loop-rank-init : goal.loop-rank-init
loop-rank-init g c =
    let all = c.into_iter-rank-iterator.ensures.into_iter_gives.0 in
    record {
      stores = none_taken (λ (m : Member). m.0.slots) c.args.self.stores.items c.into_iter-rank-iterator.result.rest.items c.args.crew.items c.requires.none.0 all;
      refusals = none_taken (λ (m : Member). m.0.refusals) c.args.self.refusals.items c.into_iter-rank-iterator.result.rest.items c.args.crew.items c.requires.none.1 all;
      desks = none_taken (λ (m : Member). m.1) c.args.self.desks.items c.into_iter-rank-iterator.result.rest.items c.args.crew.items c.requires.none.2 all;
      stores_room = search rules;
      refusals_room = search rules;
      desks_room = search rules;
    }

pub loop-rank-preserved : goal.loop-rank-preserved
loop-rank-preserved g c =
    let member : Member = (c.in-Some.rank, c.in-Some.desk) in
    let next : c.loop-rank.rank-iterator.rest.items ≡ member ∷ c.next.new.self.rest.items = c.in-Some.ensures.steps.0 in
    record {
      stores = images_taken (λ (m : Member). m.0.slots) c.loop-rank.stores.items c.push_reserved-in-loop-rank.new.self.items c.into_store.result member c.next.new.self.rest.items c.loop-rank.rank-iterator.rest.items (stores_of c.args.crew.items) c.push_reserved-in-loop-rank.ensures.items c.into_store.ensures next c.loop-rank.invariant.stores;
      refusals = images_taken (λ (m : Member). m.0.refusals) c.loop-rank.refusals.items c.push_reserved.new.self.items c.refusals.result member c.next.new.self.rest.items c.loop-rank.rank-iterator.rest.items (counts_of c.args.crew.items) c.push_reserved.ensures.items c.refusals.ensures next c.loop-rank.invariant.refusals;
      desks = images_taken (λ (m : Member). m.1) c.loop-rank.desks.items c.push_reserved-in-loop-rank-2.new.self.items c.in-Some.desk member c.next.new.self.rest.items c.loop-rank.rank-iterator.rest.items (desks_of c.args.crew.items) c.push_reserved-in-loop-rank-2.ensures.items refl next c.loop-rank.invariant.desks;
      stores_room = room_left (vec_len c.loop-rank.stores) (vec_len c.push_reserved-in-loop-rank.new.self) (vec_capacity c.loop-rank.stores) (vec_capacity c.push_reserved-in-loop-rank.new.self) member c.loop-rank.rank-iterator.rest.items c.next.new.self.rest.items c.push_reserved-in-loop-rank.ensures.len c.push_reserved-in-loop-rank.ensures.capacity next c.loop-rank.invariant.stores_room;
      refusals_room = room_left (vec_len c.loop-rank.refusals) (vec_len c.push_reserved.new.self) (vec_capacity c.loop-rank.refusals) (vec_capacity c.push_reserved.new.self) member c.loop-rank.rank-iterator.rest.items c.next.new.self.rest.items c.push_reserved.ensures.len c.push_reserved.ensures.capacity next c.loop-rank.invariant.refusals_room;
      desks_room = room_left (vec_len c.loop-rank.desks) (vec_len c.push_reserved-in-loop-rank-2.new.self) (vec_capacity c.loop-rank.desks) (vec_capacity c.push_reserved-in-loop-rank-2.new.self) member c.loop-rank.rank-iterator.rest.items c.next.new.self.rest.items c.push_reserved-in-loop-rank-2.ensures.len c.push_reserved-in-loop-rank-2.ensures.capacity next c.loop-rank.invariant.desks_room;
    }

pub returns-clause-stores : goal.returns-clause-stores
returns-clause-stores g c =
    let none : length c.loop-rank.rank-iterator.rest.items ≡ 0 = search rules in
    all_taken (λ (m : Member). m.0.slots) c.loop-rank.stores.items c.loop-rank.rank-iterator.rest.items (stores_of c.args.crew.items) none c.loop-rank.invariant.stores

pub returns-clause-refusals : goal.returns-clause-refusals
returns-clause-refusals g c =
    let none : length c.loop-rank.rank-iterator.rest.items ≡ 0 = search rules in
    all_taken (λ (m : Member). m.0.refusals) c.loop-rank.refusals.items c.loop-rank.rank-iterator.rest.items (counts_of c.args.crew.items) none c.loop-rank.invariant.refusals

pub returns-clause-desks : goal.returns-clause-desks
returns-clause-desks g c =
    let none : length c.loop-rank.rank-iterator.rest.items ≡ 0 = search rules in
    all_taken (λ (m : Member). m.1) c.loop-rank.desks.items c.loop-rank.rank-iterator.rest.items (desks_of c.args.crew.items) none c.loop-rank.invariant.desks
