use Rattle.std.proofs.Common.{rules, ◌≡◌, ◌++◌, ◌∷◌, length, map, sym, ap, ◌∙◌}
use Rattle.cb_rank_runs.specs.Crews.{Member}
use Rattle.cb_rank_runs.proofs.CrewSoFar.{nothing_left}
use Rattle.cb_rank_crews.specs.Crews.{given}
use Rattle.cb_rank_crews.proofs.crew.give_all.Goals as goal

pub returns-in-Err-clause-lost : goal.returns-in-Err-clause-lost
returns-in-Err-clause-lost g c =
    let before = map (given {S = g.row.S.Denot} {J = g.row.J.Denot} {A = g.S.Semiring} {N = g.J.Naming}) c.loop-rank.busy.items in
    let member : Member = (c.in-Some.rank, c.in-Some.desk) in
    let rest = c.next.new.self.a.rest.items in
    let next : c.loop-rank.rank-iterator.a.rest.items ≡ member ∷ rest = search rules in
    record {
      rank = member;
      after = rest;
      all = ap (λ ms. before ++ ms) (sym next) ∙ c.loop-rank.invariant.all;
      me = sym c.in-Err.ensures.lost;
    }

pub returns-clause-all : goal.returns-clause-all
returns-clause-all g c =
    let others : length c.loop-rank.rank-iterator.b.rest.items ≡ 0 = search rules in
    nothing_left (map (given {S = g.row.S.Denot} {J = g.row.J.Denot} {A = g.S.Semiring} {N = g.J.Naming}) c.loop-rank.busy.items) c.loop-rank.rank-iterator.a.rest.items c.args.crew.items (c.loop-rank.invariant.same ∙ others) c.loop-rank.invariant.all
