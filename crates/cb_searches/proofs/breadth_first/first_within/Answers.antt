use Rattle.std.proofs.Common.{ℕ, ◌<◌, List, length, take, get_or, sym, subst, arith}
use Rattle.std.specs.Prelude.{All}
use Rattle.std.proofs.lemmas.List.{get_or_default, take_more}
use Rattle.std.proofs.lemmas.List.Elements.{All-get_or, All-push}
use Rattle.cb_searches.specs.Walks.{infinite}
use Rattle.cb_searches.specs.Numbers.{listed_at}
use Rattle.cb_searches.proofs.breadth_first.first_within.Goals as goal

pub loop-n-preserved : goal.loop-n-preserved
loop-n-preserved c =
    let list = c.args.list.now in
    let us = c.args.vertices.now in
    let n = c.loop-n.n in
    let inside : n < length us = omega arith in
    let place : get_or us n 0 < length list = All-get_or (λ v. v < length list) us n 0 inside c.requires in
    let far : c.args.most < listed_at list (get_or us n 0) = omega (arith, get_or_default list (get_or us n 0) 0 infinite place, c.if-list-vertices.false) in
    subst (λ (vs : List ℕ). All (λ v. c.args.most < listed_at list v) vs) (sym (take_more us n 0 inside)) (All-push (λ v. c.args.most < listed_at list v) (take n us) (get_or us n 0) c.loop-n.invariant far)
