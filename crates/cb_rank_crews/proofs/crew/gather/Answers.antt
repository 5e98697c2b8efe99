use Rattle.std.proofs.Common.{rules, ◌≡◌, length, map, sym, subst}
use Rattle.std.proofs.lemmas.List.{length-map}
use Rattle.std.proofs.lemmas.List.Elements.{length_all_zip}
use Rattle.cb_rank_runs.specs.Crews.{Ran}
use Rattle.cb_rank_runs.specs.NamedRanks.{IsFirstGone}
use Rattle.cb_rank_runs.proofs.LeavingsSoFar.{one_joined, all_joined, first_gone}
use Rattle.cb_rank_crews.specs.Backs.{was_given}
use Rattle.cb_rank_crews.proofs.crew.gather.Goals as goal

pub loop-one-preserved : goal.loop-one-preserved
loop-one-preserved g c = record {
  ran = one_joined was_given (Ran g.S.Semiring.arithmetic) c.args.back.items c.loop-one.members.items _ c.loop-one.one-iterator.rest.items _ c.in-Some.one c.in-Ok.member c.in-Some.ensures.steps.0 c.push_reserved-in-Ok.ensures.items c.in-Ok.ensures.ran c.loop-one.invariant.ran;
  same = search rules;
  idle_room = search rules;
  members_room = search rules;
}

pub returns-in-Err-clause-gone : goal.returns-in-Err-clause-gone
returns-in-Err-clause-gone g c =
    subst (IsFirstGone g.S.Semiring.arithmetic (map was_given c.args.back.items)) (sym c.in-Err.ensures.gone)
    (first_gone was_given g.S.Semiring.arithmetic c.args.back.items c.loop-one.one-iterator.rest.items c.next.new.self.rest.items c.in-Some.one c.loop-one.members.items c.in-Some.ensures.steps.0 c.loop-one.invariant.ran)

pub returns-clause-ran : goal.returns-clause-ran
returns-clause-ran g c =
    let none : length c.loop-one.one-iterator.rest.items ≡ 0 = search rules in
    all_joined was_given (Ran g.S.Semiring.arithmetic) c.args.back.items c.loop-one.members.items c.loop-one.one-iterator.rest.items none c.loop-one.invariant.ran

pub returns-clause-size : goal.returns-clause-size
returns-clause-size g c =
    let none : length c.loop-one.one-iterator.rest.items ≡ 0 = search rules in
    let count = length-map c.args.back.items was_given in
    let each = length_all_zip (Ran g.S.Semiring.arithmetic) _ _ (all_joined was_given (Ran g.S.Semiring.arithmetic) c.args.back.items c.loop-one.members.items c.loop-one.one-iterator.rest.items none c.loop-one.invariant.ran) in
    search rules
