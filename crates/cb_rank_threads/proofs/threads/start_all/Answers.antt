use Rattle.std.proofs.Common.{rules, length, ◌≡◌, ◌++◌, ◌∷◌, sym, ap, ◌∙◌, subst, map, vec_len, vec_capacity}
use Rattle.std.proofs.lemmas.List.{length-map}
use Rattle.cb_rank_runs.specs.Crews.{Member, AreNew}
use Rattle.cb_rank_runs.specs.NamedRanks.{IsOneOf}
use Rattle.cb_rank_threads.specs.Started.{started, started_recorder}
use Rattle.cb_rank_runs.proofs.NamedRanks.{member_is_one}
use Rattle.cb_rank_threads.proofs.RanksInFaults.{member_is_next}
use Rattle.cb_rank_runs.proofs.CrewSoFar.{images_go_on, count_left, same_left, room_stays, nothing_left}
use Rattle.cb_rank_threads.proofs.threads.start_all.Goals as goal

pub loop-rank-preserved : goal.loop-rank-preserved
loop-rank-preserved g c =
    let member : Member = (c.in-Some.rank, c.in-Some.desk) in
    let next : c.loop-rank.rank-iterator.a.rest.items ≡ member ∷ c.next.new.self.a.rest.items = search rules in
    let other : c.loop-rank.rank-iterator.b.rest.items ≡ c.in-Some.recorder ∷ c.next.new.self.b.rest.items = search rules in
    record {
      all = images_go_on (started {S = g.row.S.Denot} {T = g.row.T.Denot}) c.loop-rank.threads.items c.push_reserved.new.self.items c.in-Ok.thread member c.next.new.self.a.rest.items c.loop-rank.rank-iterator.a.rest.items c.args.crew.items c.push_reserved.ensures.items c.in-Ok.ensures.started.0 next c.loop-rank.invariant.all;
      recorders = images_go_on (started_recorder {S = g.row.S.Denot} {T = g.row.T.Denot}) c.loop-rank.threads.items c.push_reserved.new.self.items c.in-Ok.thread c.in-Some.recorder c.next.new.self.b.rest.items c.loop-rank.rank-iterator.b.rest.items c.args.recorders.items c.push_reserved.ensures.items c.in-Ok.ensures.started.1 other c.loop-rank.invariant.recorders;
      same = same_left member c.in-Some.recorder c.loop-rank.rank-iterator.a.rest.items c.next.new.self.a.rest.items c.loop-rank.rank-iterator.b.rest.items c.next.new.self.b.rest.items next other c.loop-rank.invariant.same;
      new = (subst AreNew next c.loop-rank.invariant.new).1;
      few = count_left (vec_len c.loop-rank.threads) (vec_len c.push_reserved.new.self) (vec_len c.args.crew) member c.loop-rank.rank-iterator.a.rest.items c.next.new.self.a.rest.items c.push_reserved.ensures.len next c.loop-rank.invariant.few;
      room = room_stays (vec_len c.args.crew) (vec_capacity c.loop-rank.threads) (vec_capacity c.push_reserved.new.self) c.push_reserved.ensures.capacity c.loop-rank.invariant.room;
    }

pub returns-in-Err-clause-missing : goal.returns-in-Err-clause-missing
returns-in-Err-clause-missing g c =
    let before = map (started {S = g.row.S.Denot} {T = g.row.T.Denot}) c.loop-rank.threads.items in
    let rest = c.next.new.self.a.rest.items in
    let next : c.loop-rank.rank-iterator.a.rest.items ≡ (c.in-Some.rank, c.in-Some.desk) ∷ rest = search rules in
    let all : before ++ (c.in-Some.rank, c.in-Some.desk) ∷ rest ≡ c.args.crew.items = ap (λ ms. before ++ ms) (sym next) ∙ c.loop-rank.invariant.all in
    rw c.in-Err.ensures.none (subst (λ ms. IsOneOf ms c.in-Some.desk.me) all (member_is_one before (c.in-Some.rank, c.in-Some.desk) rest))

pub returns-in-Err-clause-next : goal.returns-in-Err-clause-next
returns-in-Err-clause-next g c =
    let before = map (started {S = g.row.S.Denot} {T = g.row.T.Denot}) c.loop-rank.threads.items in
    let rest = c.next.new.self.a.rest.items in
    let next : c.loop-rank.rank-iterator.a.rest.items ≡ (c.in-Some.rank, c.in-Some.desk) ∷ rest = search rules in
    let all : before ++ (c.in-Some.rank, c.in-Some.desk) ∷ rest ≡ c.args.crew.items = ap (λ ms. before ++ ms) (sym next) ∙ c.loop-rank.invariant.all in
    let count = length-map c.loop-rank.threads.items (started {S = g.row.S.Denot} {T = g.row.T.Denot}) in
    rw c.in-Err.ensures.none (member_is_next before (c.in-Some.rank, c.in-Some.desk) rest c.args.crew.items (length c.loop-rank.threads.items) count all)

pub returns-in-Err-clause-first : goal.returns-in-Err-clause-first
returns-in-Err-clause-first g c = (c.loop-rank.rank-iterator.a.rest.items, c.loop-rank.invariant.all)

pub returns-clause-first : goal.returns-clause-first
returns-clause-first g c = (c.loop-rank.rank-iterator.a.rest.items, c.loop-rank.invariant.all)

pub returns-clause-all : goal.returns-clause-all
returns-clause-all g c =
    let others : length c.loop-rank.rank-iterator.b.rest.items ≡ 0 = search rules in
    let none : length c.loop-rank.rank-iterator.a.rest.items ≡ 0 = c.loop-rank.invariant.same ∙ others in
    nothing_left (map (started {S = g.row.S.Denot} {T = g.row.T.Denot}) c.loop-rank.threads.items) c.loop-rank.rank-iterator.a.rest.items c.args.crew.items none c.loop-rank.invariant.all

pub returns-clause-recorders : goal.returns-clause-recorders
returns-clause-recorders g c =
    let none : length c.loop-rank.rank-iterator.b.rest.items ≡ 0 = search rules in
    nothing_left (map (started_recorder {S = g.row.S.Denot} {T = g.row.T.Denot}) c.loop-rank.threads.items) c.loop-rank.rank-iterator.b.rest.items c.args.recorders.items none c.loop-rank.invariant.recorders
