use Rattle.std.proofs.Common.{rules, ◌≡◌, length, map, sym, subst, vec_len, vec_capacity}
use Rattle.cb_rank_runs.specs.Crews.{Ran}
use Rattle.cb_rank_runs.specs.NamedRanks.{IsFirstGone}
use Rattle.cb_rank_threads.specs.Started.{started, started_recorder}
use Rattle.cb_rank_runs.proofs.CrewSoFar.{room_left}
use Rattle.cb_rank_runs.proofs.LeavingsSoFar.{HasJoined, first_gone}
use Rattle.cb_rank_threads.proofs.ThreadJoins.{joined_more, joined_all, lost_one, first_lost}
use Rattle.cb_rank_threads.proofs.ToldThreads.{Tell, told_more, told_all}
use Rattle.cb_rank_threads.proofs.threads.join_all.Goals as goal

pub loop-running-preserved-in-Ok : goal.loop-running-preserved-in-Ok
loop-running-preserved-in-Ok g c = record {
  ran = joined_more (started {S = g.row.S.Denot} {T = g.row.T.Denot}) (Ran g.S.Semiring.arithmetic) c.loop-running.gone c.args.threads.items c.loop-running.members.items c.push_reserved.new.self.items c.loop-running.running-iterator.rest.items c.next.new.self.rest.items c.in-Some.running c.in-Ok.member c.in-Some.ensures.steps.0 c.push_reserved.ensures.items c.in-Ok.ensures.ran c.loop-running.invariant.ran;
  told = told_more g.T.Recorder.tells (started {S = g.row.S.Denot} {T = g.row.T.Denot}) (started_recorder {S = g.row.S.Denot} {T = g.row.T.Denot}) _ _ _ _ _ _ c.in-Some.running c.in-Ok.recorder c.in-Some.ensures.steps.0 c.push_reserved-in-Ok.ensures.items c.in-Ok.ensures.told c.loop-running.invariant.told;
  gone = c.loop-running.invariant.gone;
  members_room = room_left (vec_len c.loop-running.members) (vec_len c.push_reserved.new.self) (vec_capacity c.loop-running.members) (vec_capacity c.push_reserved.new.self) c.in-Some.running c.loop-running.running-iterator.rest.items c.next.new.self.rest.items c.push_reserved.ensures.len c.push_reserved.ensures.capacity c.in-Some.ensures.steps.0 c.loop-running.invariant.members_room;
  recorders_room = room_left (vec_len c.loop-running.recorders) (vec_len c.push_reserved-in-Ok.new.self) (vec_capacity c.loop-running.recorders) (vec_capacity c.push_reserved-in-Ok.new.self) c.in-Some.running c.loop-running.running-iterator.rest.items c.next.new.self.rest.items c.push_reserved-in-Ok.ensures.len c.push_reserved-in-Ok.ensures.capacity c.in-Some.ensures.steps.0 c.loop-running.invariant.recorders_room;
}

pub loop-running-preserved : goal.loop-running-preserved
loop-running-preserved g c =
    let f = started {S = g.row.S.Denot} {T = g.row.T.Denot} in
    let told = started_recorder {S = g.row.S.Denot} {T = g.row.T.Denot} in
    let s = g.S.Semiring.arithmetic in
    let all = c.args.threads.items in
    let rest = c.next.new.self.rest.items in
    let before = c.loop-running.running-iterator.rest.items in
    let members = c.loop-running.members.items in
    record {
      ran = lost_one c.loop-running.gone c.or-gone.result c.in-Err.alone (HasJoined f (Ran s) all rest members) c.or-gone.ensures;
      told = lost_one c.loop-running.gone c.or-gone.result c.in-Err.alone (Tell g.T.Recorder.tells f told all rest c.loop-running.recorders.items) c.or-gone.ensures;
      gone = first_lost c.loop-running.gone c.or-gone.result c.in-Err.alone (HasJoined f (Ran s) all before members) (λ alone. IsFirstGone s (map f all) alone.rank) c.or-gone.ensures c.loop-running.invariant.gone c.loop-running.invariant.ran
          (λ joined. subst (IsFirstGone s (map f all)) (sym c.in-Err.ensures.gone) (first_gone f s all before rest c.in-Some.running members c.in-Some.ensures.steps.0 joined));
      members_room = search rules;
      recorders_room = search rules;
    }

pub returns-in-None-gone-clause-ran : goal.returns-in-None-gone-clause-ran
returns-in-None-gone-clause-ran g c =
    let none : length c.loop-running.running-iterator.rest.items ≡ 0 = search rules in
    joined_all (started {S = g.row.S.Denot} {T = g.row.T.Denot}) (Ran g.S.Semiring.arithmetic) c.loop-running.gone c.args.threads.items c.loop-running.members.items c.loop-running.running-iterator.rest.items c.in-None-gone.is none c.loop-running.invariant.ran

pub returns-in-None-gone-clause-told : goal.returns-in-None-gone-clause-told
returns-in-None-gone-clause-told g c =
    let none : length c.loop-running.running-iterator.rest.items ≡ 0 = search rules in
    told_all g.T.Recorder.tells (started {S = g.row.S.Denot} {T = g.row.T.Denot}) (started_recorder {S = g.row.S.Denot} {T = g.row.T.Denot}) c.loop-running.gone c.args.threads.items c.loop-running.recorders.items c.loop-running.running-iterator.rest.items c.in-None-gone.is none c.loop-running.invariant.told
