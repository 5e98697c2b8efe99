use Rattle.std.proofs.Common.{rules, ◌≡◌, ◌<◌, [], ◌∷◌, length, refl, sym, ◌∙◌, ap, subst, length-append, vec_len, vec_capacity}
use Rattle.std.specs.Prelude.{drop, get_or}
use Rattle.cb_rank.specs.Ranks.{FitsAt, new_rank}
use Rattle.cb_rank.proofs.RankAfterHalf.{fits_at}
use Rattle.cb_rank_runs.specs.Crews.{Member, desks_of}
use Rattle.cb_rank_runs.proofs.CrewSoFar.{drop_head, started_more, images_go_on, count_left, room_left, same_left, nothing_left}
use Rattle.cb_rank_runs.proofs.crew.pair_up.Goals as goal

pub start-requires-clause-fits : goal.start-requires-clause-fits
start-requires-clause-fits g c =
    let p = c.args.plan.now in
    let first = c.args.stores.items in
    let before = length c.loop-store.crew.items in
    let next : c.loop-store.store-iterator.a.rest.items ≡ c.in-Some.store ∷ c.next.new.self.a.rest.items = search rules in
    let head = drop_head first before c.in-Some.store [] c.next.new.self.a.rest.items (c.loop-store.invariant.stores ∙ next) in
    let number : c.len-number.result ≡ before = search rules in
    let below : c.len-number.result < p.ranks = search rules in
    subst (λ st. FitsAt p.starts c.len-number.result st) head.0
    (subst (λ n. FitsAt p.starts c.len-number.result (get_or first n [])) number (fits_at p.ranks p.starts first c.len-number.result c.requires.fits below))

pub loop-store-preserved : goal.loop-store-preserved
loop-store-preserved g c =
    let p = c.args.plan.now in
    let first = c.args.stores.items in
    let crew = c.loop-store.crew.items in
    let next : c.loop-store.store-iterator.a.rest.items ≡ c.in-Some.store ∷ c.next.new.self.a.rest.items = search rules in
    let head = drop_head first (length crew) c.in-Some.store [] c.next.new.self.a.rest.items (c.loop-store.invariant.stores ∙ next) in
    let number : c.len-number.result ≡ length crew = search rules in
    let new = c.in-Ok.ensures.new ∙ ap (λ n. new_rank p n c.in-Some.store) number ∙ ap (λ st. new_rank p (length crew) st) (sym head.0) in
    let other : c.loop-store.store-iterator.b.rest.items ≡ c.in-Some.desk ∷ c.next.new.self.b.rest.items = search rules in
    record {
      desks = images_go_on (λ (m : Member). m.1) crew _ (c.in-Ok.rank, c.in-Some.desk) c.in-Some.desk c.next.new.self.b.rest.items _ _ c.push_reserved.ensures.items refl other c.loop-store.invariant.desks;
      stores = ap (λ n. drop n first) (ap length c.push_reserved.ensures.items ∙ length-append crew ((c.in-Ok.rank, c.in-Some.desk) ∷ [])) ∙ head.1;
      ranks = rw c.push_reserved.ensures.items (started_more p first crew (c.in-Ok.rank, c.in-Some.desk) c.loop-store.invariant.ranks new);
      same = same_left c.in-Some.store c.in-Some.desk c.loop-store.store-iterator.a.rest.items c.next.new.self.a.rest.items c.loop-store.store-iterator.b.rest.items c.next.new.self.b.rest.items next other c.loop-store.invariant.same;
      count = count_left (vec_len c.loop-store.crew) (vec_len c.push_reserved.new.self) (length c.args.desks.items) c.in-Some.store c.loop-store.store-iterator.a.rest.items c.next.new.self.a.rest.items c.push_reserved.ensures.len next c.loop-store.invariant.count;
      room = room_left (vec_len c.loop-store.crew) (vec_len c.push_reserved.new.self) (vec_capacity c.loop-store.crew) (vec_capacity c.push_reserved.new.self) c.in-Some.store c.loop-store.store-iterator.a.rest.items c.next.new.self.a.rest.items c.push_reserved.ensures.len c.push_reserved.ensures.capacity next c.loop-store.invariant.room;
    }

pub returns-clause-desks : goal.returns-clause-desks
returns-clause-desks g c =
    let none : length c.loop-store.store-iterator.b.rest.items ≡ 0 = search rules in
    nothing_left (desks_of c.loop-store.crew.items) c.loop-store.store-iterator.b.rest.items c.args.desks.items none c.loop-store.invariant.desks
