use Rattle.std.proofs.Common.{map}
use Rattle.cb_rank_runs.proofs.OtherRanks.{err_is}
use Rattle.cb_rank_runs.specs.NamedRanks.{IsFirstGone}
use Rattle.cb_rank_crews.specs.Backs.{IsNext, was_given}
use Rattle.cb_rank_crews.specs.Crews.{given}
use Rattle.cb_rank_crews.proofs.Backs.{gone_among, gone_is_next}
use Rattle.cb_rank_crews.proofs.crew.run_all.Goals as goal

pub returns-in_err-done-clause-gone : goal.returns-in_err-done-clause-gone
returns-in_err-done-clause-gone g c =
    let s = g.S.Semiring.arithmetic in
    let before = map (given {S = g.row.S.Denot} {J = g.row.J.Denot} {A = g.S.Semiring} {N = g.J.Naming}) c.give_all-busy.result.0.items in
    err_is (IsFirstGone s c.args.crew.items) c.in_err-done.field-0.0 c.from_residual.result c.from_residual.ensures.1
    (gone_among s c.give_all-busy.result.1 c.args.crew.items before (map was_given c.wait_all.result.items) c.in_err-done.field-0.0 c.wait_all.ensures c.give_all-busy.ensures.all c.give_all-busy.ensures.lost c.in_err-done.ensures.gone)

pub returns-in-Some-clause-gone : goal.returns-in-Some-clause-gone
returns-in-Some-clause-gone g c =
    let s = g.S.Semiring.arithmetic in
    let before = map (given {S = g.row.S.Denot} {J = g.row.J.Denot} {A = g.S.Semiring} {N = g.J.Naming}) c.give_all-busy.result.0.items in
    let next : IsNext c.args.crew.items before c.in-Some.number = rw c.in-Some.is at c.give_all-busy.ensures.lost in
    gone_is_next s c.args.crew.items before (map was_given c.wait_all.result.items) c.in_ok-done.done.1.items c.in-Some.number c.wait_all.ensures next c.in_ok-done.ensures.ran
