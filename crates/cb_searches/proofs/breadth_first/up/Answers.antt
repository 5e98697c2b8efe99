use Rattle.std.proofs.Common.{◌≡◌, ◌≢◌, ℕ, ◌+◌, ◌<◌, ◌∙◌, cond, List, [], ◌∷◌, ◌++◌, length, take, get_or, sym, ap, subst, arith}
use Rattle.std.specs.Prelude.{All, Contains, ◌==◌}
use Rattle.std.proofs.lemmas.List.{get_or_default, take_more, take_all}
use Rattle.std.proofs.lemmas.List.Elements.{All-get_or, All-weaker, Contains-get_or}
use Rattle.cb_semirings.specs.Tables.{or_and}
use Rattle.cb_matrix.specs.Sparse.{at}
use Rattle.cb_dcsc.specs.Columns.{in_column, rows_of}
use Rattle.cb_dcsc.proofs.Lookup.{rows_inside}
use Rattle.cb_searches.specs.Walks.{infinite}
use Rattle.cb_searches.specs.Numbers.{listed_at}
use Rattle.cb_searches.proofs.UpRounds.{IsRoundSoFar, number_set, next_set, next_passed, next_far, round_done}
use Rattle.cb_searches.proofs.ColumnEdges.{row_edge, edge_listed}
use Rattle.cb_searches.proofs.breadth_first.up.Goals as goal
use Rattle.cb_searches.proofs.breadth_first.up.Goals.{then-list-vertex+then-place-rows, then-list-vertex+else-place-rows, else-list-vertex}

pub first_within-place-requires : goal.first_within-place-requires
first_within-place-requires c =
    let a = c.args.graph.now in
    let v = get_or c.column_numbers-columns.result.now c.loop-n.n 0 in
    let rows : c.nth_column.result.0.now ≡ rows_of (in_column v a.entries) = c.nth_column.ensures.rows ∙ ap (λ (cs : List ℕ). rows_of (in_column (get_or cs c.loop-n.n 0) a.entries)) (sym c.column_numbers-columns.ensures.numbers) in
    All-weaker (λ u. u < a.shape.rows) (λ u. u < length c.loop-n.list) (λ u l. omega (arith, l, c.loop-n.invariant.length, c.requires.length)) c.nth_column.result.0.now
    (rows_inside or_and a v c.nth_column.result.0.now c.shape-shape.ensures.matrix rows)

pub loop-n-preserved : goal.loop-n-preserved
loop-n-preserved c =
    let a = c.args.graph.now in
    let is = c.shape-shape.ensures.matrix in
    let k = c.args.rounds in
    let old = listed_at c.args.list.now in
    let list = c.loop-n.list in
    let now = listed_at c.if-list-vertex.list in
    let vs = c.column_numbers-columns.result.now in
    let n = c.loop-n.n in
    let inside : n < length vs = omega arith in
    let v = get_or vs n 0 in
    let column : v < a.shape.cols = All-get_or (λ v. v < a.shape.cols) vs n 0 inside c.column_numbers-columns.ensures.inside in
    let place : v < length list = omega (arith, column, c.requires, c.loop-n.invariant.length) in
    let read : get_or list v 0 ≡ listed_at list v = get_or_default list v 0 infinite place in
    let few : k + 1 < infinite = omega (arith, c.ranges.rounds.fits) in
    let long = c.if-list-vertex.auto.list ∙ c.loop-n.invariant.length in
    let more = λ (h : IsRoundSoFar a k old now (take n vs ++ v ∷ [])). subst (IsRoundSoFar a k old now) (sym (take_more vs n 0 inside)) h in
    let same = λ (e : c.if-list-vertex.list ≡ list) (h : IsRoundSoFar a k old (listed_at list) (take n vs ++ v ∷ [])). subst (λ (xs : List ℕ). IsRoundSoFar a k old (listed_at xs) (take n vs ++ v ∷ [])) (sym e) h in
    elim c.if-list-vertex.branch [
      | then-list-vertex+then-place-rows w ↦
          let rows : w.nth_column.result.0.now ≡ rows_of (in_column v a.entries) = w.nth_column.ensures.rows ∙ ap (λ (cs : List ℕ). rows_of (in_column (get_or cs n 0) a.entries)) (sym c.column_numbers-columns.ensures.numbers) in
          let i = w.first_within-place.result in
          let u = get_or w.nth_column.result.0.now i 0 in
          let edge : at or_and a u v ≢ 0 = row_edge a is u v (subst (λ (us : List ℕ). Contains us u) rows (Contains-get_or w.nth_column.result.0.now i 0 w.if-place-rows.true)) in
          let values : (x : ℕ) → now x ≡ cond (x == v) (k + 1) (listed_at list x) = λ x.
          ap (λ (xs : List ℕ). listed_at xs x) w.list-is ∙ number_set list v (w.from.result + 1) place x ∙ ap (λ (m : ℕ). cond (x == v) (m + 1) (listed_at list x)) w.from.ensures in
          record {
            length = long;
            few = omega (arith, w.reached-is, c.loop-n.invariant.few);
            none = λ e. absurd (omega (arith, e, w.reached-is));
            so_far = more (next_set a k old few (listed_at list) (take n vs) c.loop-n.invariant.so_far v u now (sym read ∙ w.if-list-vertex.true) edge (w.first_within-place.ensures.found w.if-place-rows.true) values);
          }
      | then-list-vertex+else-place-rows w ↦
          let rows : w.nth_column.result.0.now ≡ rows_of (in_column v a.entries) = w.nth_column.ensures.rows ∙ ap (λ (cs : List ℕ). rows_of (in_column (get_or cs n 0) a.entries)) (sym c.column_numbers-columns.ensures.numbers) in
          let far : All (λ u. k < listed_at list u) (rows_of (in_column v a.entries)) =
          subst (λ (us : List ℕ). All (λ u. k < listed_at list u) us) (take_all w.first_within-place.result w.nth_column.result.0.now (omega (arith, w.if-place-rows.false)) ∙ rows) w.first_within-place.ensures.none in
          record {
            length = long;
            few = omega (arith, w.reached-is, c.loop-n.invariant.few);
            none = λ e. w.list-is ∙ c.loop-n.invariant.none (sym w.reached-is ∙ e);
            so_far = more (same w.list-is (next_far a k old few (listed_at list) (take n vs) c.loop-n.invariant.so_far v is far));
          }
      | else-list-vertex w ↦ record {
        length = long;
        few = omega (arith, w.reached-is, c.loop-n.invariant.few);
        none = λ e. w.list-is ∙ c.loop-n.invariant.none (sym w.reached-is ∙ e);
        so_far = more (same w.list-is (next_passed a k old few (listed_at list) (take n vs) c.loop-n.invariant.so_far v (λ e. w.if-list-vertex.false (read ∙ e))));
      }
    ]

pub returns-clause-round : goal.returns-clause-round
returns-clause-round c source is =
    let a = c.args.graph.now in
    let k = c.args.rounds in
    let old = listed_at c.args.list.now in
    let new = listed_at c.loop-n.list in
    let vs = c.column_numbers-columns.result.now in
    let all : IsRoundSoFar a k old new vs = subst (IsRoundSoFar a k old new) (take_all c.loop-n.n vs (omega arith)) c.loop-n.invariant.so_far in
    round_done a k old (omega (arith, c.ranges.rounds.fits)) new vs all (edge_listed a c.shape-shape.ensures.matrix vs c.column_numbers-columns.ensures.all) source is
