use Rattle.std.proofs.Common.{ℕ, ◌<◌, List, [], ◌∷◌, length, take, get_or, sym, subst, arith}
use Rattle.std.proofs.lemmas.List.{take_all, take_more}
use Rattle.std.proofs.lemmas.List.Elements.{All-get_or}
use Rattle.cb_searches.specs.Numbers.{number_at}
use Rattle.cb_searches.specs.BreadthFirst.{HaveClaimed}
use Rattle.cb_searches.proofs.SearchRounds.{claimed_none, claimed_more}
use Rattle.cb_searches.proofs.breadth_first.claim_all.Goals as goal

pub loop-vertex-init : goal.loop-vertex-init
loop-vertex-init c = record {
  numbers = λ n are all. are;
  claimed = claimed_none c.args.number (number_at c.args.known.now) c.args.queue.now.items;
}

pub claim-requires-clause-vertex : goal.claim-requires-clause-vertex
claim-requires-clause-vertex c =
    let g = c.requires.vertices in
    (g.0, c.loop-vertex.invariant.numbers g.0 g.1 g.2, All-get_or (λ v. v < g.0) c.args.vertices.now c.loop-vertex.vertex-index 0 (omega arith) g.2)

pub loop-vertex-preserved : goal.loop-vertex-preserved
loop-vertex-preserved c =
    let vs = c.args.vertices.now in
    let i = c.loop-vertex.vertex-index in
    let inside : i < length vs = omega arith in
    let before = c.loop-vertex.invariant in
    let done = c.in_ok-claim.ensures in
    let d = number_at c.args.known.now in
    let q = c.args.queue.now.items in
    let e = number_at c.claim.new.known in
    let r = c.claim.new.queue.items in
    record {
      numbers = λ n are all. done.numbers n (before.numbers n are all) (All-get_or (λ v. v < n) vs i 0 inside all);
      claimed = subst (λ (us : List ℕ). HaveClaimed c.args.number d q us e r) (sym (take_more vs i 0 inside))
          (claimed_more c.args.number c.requires.number d q (take i vs) (number_at c.loop-vertex.known) c.loop-vertex.queue.items before.claimed (get_or vs i 0 ∷ []) e r done.claimed);
    }

pub returns-clause-claimed : goal.returns-clause-claimed
returns-clause-claimed c =
    subst (λ (us : List ℕ). HaveClaimed c.args.number (number_at c.args.known.now) c.args.queue.now.items us (number_at c.loop-vertex.known) c.loop-vertex.queue.items)
    (take_all c.loop-vertex.vertex-index c.args.vertices.now (omega arith)) c.loop-vertex.invariant.claimed
