use Rattle.std.proofs.Common.{rules, ◌≡◌, sym, subst, ◌∙◌, arith}
use Rattle.cb_rank.specs.declared.wants.Want.TheVariants as want_is
use Rattle.cb_rank.proofs.WantedHalf.{wants_nothing}
use Rattle.cb_rank_runs.specs.UnderWay.{DoesNext, TellsNext}
use Rattle.cb_rank_runs.proofs.HalfOverDesk.{fewer_left}
use Rattle.cb_rank_runs.proofs.RunSoFar.{begins, goes_on, ends}
use Rattle.cb_rank_runs.proofs.RecorderEvents.{begins_told, goes_on_told, ends_told, works_on_told}
use Rattle.cb_rank_runs.proofs.runs.run_recorded.Goals as goal

pub loop-desk-init : goal.loop-desk-init
loop-desk-init g c = record { ran = begins _ _ _ c.requires; told = begins_told _ _ _ _ c.requires }

pub loop-desk-preserved : goal.loop-desk-preserved
loop-desk-preserved g c =
    let same : c.does_all.new.rank ≡ c.loop-desk.rank = c.does_all.ensures.none c.if-does_all.false in
    let next = subst (λ x. DoesNext g.S.Semiring.arithmetic x c.loop-desk.desk c.do_half.new.rank c.do_half.new.desk) same c.in_ok-do_half.ensures.next in
    let told = subst (λ x. TellsNext g.T.Recorder.tells x c.loop-desk.desk c.loop-desk.recorder c.do_half.new.recorder) same c.in_ok-do_half.ensures.told in
    record {
      ran = goes_on _ _ _ _ _ _ _ c.loop-desk.invariant.ran next;
      told = goes_on_told _ _ _ _ _ _ _ _ _ _ _ c.loop-desk.invariant.ran c.loop-desk.invariant.told next told;
    }

pub loop-desk-preserved-then-does_all : goal.loop-desk-preserved-then-does_all
loop-desk-preserved-then-does_all g c =
    let works = c.does_all.ensures.done c.if-does_all.true in
    let ran = c.loop-desk.invariant.ran in
    let told = c.loop-desk.invariant.told in
    let both =
    works_on_told g.T.Recorder.tells g.S.Semiring.arithmetic c.args.recorder c.args.rank c.args.desk c.loop-desk.recorder c.loop-desk.desk works.0 c.loop-desk.rank c.does_all.new.rank c.want.ensures.rank works.2 ran told in
    record { ran = both.0; told = both.1 }

pub loop-desk-smaller-then-does_all : goal.loop-desk-smaller-then-does_all
loop-desk-smaller-then-does_all g c =
    let works = c.does_all.ensures.done c.if-does_all.true in
    let two = works.1 in
    fewer_left g.S.Semiring.arithmetic works.0 c.loop-desk.rank c.does_all.new.rank (omega arith) works.2

pub returns-clause-runs : goal.returns-clause-runs
returns-clause-runs g c =
    let nothing : c.want.result ≡ want_is.Done = search rules in
    ends _ _ _ _ _ c.loop-desk.invariant.ran c.want.ensures.rank (wants_nothing _ (sym c.want.ensures.value ∙ nothing))

pub returns-clause-told : goal.returns-clause-told
returns-clause-told g c =
    let nothing : c.want.result ≡ want_is.Done = search rules in
    ends_told g.T.Recorder.tells c.args.recorder c.args.rank c.loop-desk.recorder c.loop-desk.rank c.loop-desk.desk c.loop-desk.invariant.told (wants_nothing _ (sym c.want.ensures.value ∙ nothing))
