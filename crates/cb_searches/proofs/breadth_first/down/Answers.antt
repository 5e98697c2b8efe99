use Rattle.std.proofs.Common.{◌≡◌, ◌≢◌, ◌+◌, ◌<◌, ◌≤◌, ◌∙◌, ℕ, ⊎_elim, length, get_or, subst, sym, ap, arith}
use Rattle.std.proofs.lemmas.Bool.{cases_lt}
use Rattle.std.proofs.lemmas.Grind.{get_or_default_zero}
use Rattle.std.proofs.lemmas.List.Elements.{All-contains}
use Rattle.cb_semirings.specs.Tables.{or_and}
use Rattle.cb_matrix.specs.Sparse.{Sparse, at}
use Rattle.cb_dcsc.specs.Columns.{in_column, rows_of}
use Rattle.cb_searches.specs.Walks.{infinite}
use Rattle.cb_searches.specs.Numbers.{number_at, AreNumbers}
use Rattle.cb_searches.specs.BreadthFirst.{HaveClaimed}
use Rattle.cb_searches.proofs.SearchRounds.{claimed_keeps, round_begun, round_more, reaching_next, pushed_all, target_listed, targets_next, targets_inside}
use Rattle.cb_searches.proofs.breadth_first.down.Goals as goal

pub loop-n-init : goal.loop-n-init
loop-n-init c =
    let g = c.requires.reaching in
    let rows : g.0.shape.rows ≡ c.args.turned.now.shape.rows = g.2.square ∙ sym (ap (λ (m : Sparse). m.shape.rows) g.2.is) in
    record {
      numbers = subst (λ (n : ℕ). AreNumbers n c.args.known.now) rows g.3.numbers;
      round = λ a source turned is. round_begun a c.args.rounds (number_at c.args.known.now) c.args.queue.now.items;
      followed = λ a turned i l m. absurd (omega (arith, l, m));
    }

pub claim_all-requires-clause-vertices : goal.claim_all-requires-clause-vertices
claim_all-requires-clause-vertices c =
    let g = c.requires.reaching in
    let t = c.args.turned.now in
    (t.shape.rows, c.loop-n.invariant.numbers, targets_inside t g.0 g.2 c.index-vertex.result.now c.edges_of.result.0.now c.edges_of.ensures.rows)

pub loop-n-preserved : goal.loop-n-preserved
loop-n-preserved c =
    let t = c.args.turned.now in
    let k = c.args.rounds in
    let n = c.loop-n.n in
    let q = c.args.queue.now.items in
    let old = number_at c.args.known.now in
    let before = c.loop-n.invariant in
    let g = c.requires.reaching in
    let first = (before.round g.0 g.1 g.2 g.3).claimed in
    let inside : n < length q = omega arith in
    let few : k + 1 < infinite = omega (arith, c.ranges.rounds.fits) in
    let d = number_at c.loop-n.known in
    let r = c.loop-n.queue.items in
    let e = number_at c.claim_all.new.known in
    let s = c.claim_all.new.queue.items in
    let u = c.index-vertex.result.now in
    let here : n < length r = omega (arith, inside, first.longer) in
    let same : u ≡ get_or q n 0 = c.index-vertex.ensures ∙ get_or_default_zero r n u here ∙ first.kept n inside in
    let rows = c.edges_of.result.0.now in
    let is : rows ≡ rows_of (in_column u t.entries) = c.edges_of.ensures.rows in
    let done = c.in_ok-claim_all.ensures in
    let claimed : HaveClaimed (k + 1) d r rows e s = subst (λ (m : ℕ). HaveClaimed (m + 1) d r rows e s) c.from.ensures done.claimed in
    record {
      numbers = done.numbers t.shape.rows before.numbers (targets_inside t g.0 g.2 u rows is);
      round = λ a source turned reaching.
          round_more a k few old q d r (before.round a source turned reaching) rows e s claimed
          (targets_next t a turned u rows is k old (let near : old (get_or q n 0) ≤ k = reaching.near n inside in omega (arith, ap old same, near)));
      followed = λ a turned i l m v edge. ⊎_elim
          (λ (below : i < n). λ z. before.followed a turned i l below v edge (sym (claimed_keeps (k + 1) d r rows e s claimed v (before.followed a turned i l below v edge)) ∙ z))
          (λ (last : n ≤ i). let here : i ≡ n = omega (arith, m, last) in
          All-contains (λ w. e w ≢ infinite) rows v claimed.all
          (target_listed t a turned u rows is v (λ z. edge (ap (λ (w : ℕ). at or_and a w v) (ap (λ (j : ℕ). get_or q j 0) here ∙ sym same) ∙ z))))
          (cases_lt i n);
    }

pub returns : goal.returns
returns c a source turned is =
    let k = c.args.rounds in
    let q = c.args.queue.now.items in
    let old = number_at c.args.known.now in
    let e = number_at c.loop-n.known in
    let s = c.loop-n.queue.items in
    let few : k + 1 < infinite = omega (arith, c.ranges.rounds.fits) in
    let round = c.loop-n.invariant.round a source turned is in
    let rows : a.shape.rows ≡ c.args.turned.now.shape.rows = turned.square ∙ sym (ap (λ (m : Sparse). m.shape.rows) turned.is) in
    reaching_next a source k c.args.known.now q c.args.start is few c.loop-n.known s (subst (λ (n : ℕ). AreNumbers n c.loop-n.known) (sym rows) c.loop-n.invariant.numbers) round
    (pushed_all a source k c.args.known.now q c.args.start is e (λ v some z. some (sym (claimed_keeps (k + 1) old q round.vertices e s round.claimed v some) ∙ z))
    (λ i l m v edge. c.loop-n.invariant.followed a turned i l (omega (arith, m)) v edge) (omega (arith, few)))
