use Rattle.std.proofs.Common.{◌≡◌, ℕ, ◌+◌, ◌<◌, ◌≤◌, ◌∙◌, cond, List, [], ◌∷◌, ◌++◌, length, take, get_or, set, sym, ap, subst, arith}
use Rattle.std.specs.Prelude.{◌==◌}
use Rattle.std.proofs.lemmas.List.{get_or_default, get_or-map, length-map, take_more, take_all}
use Rattle.std.proofs.lemmas.List.Elements.{All-get_or}
use Rattle.cb_semirings.specs.Tables.{or_and}
use Rattle.cb_matrix.specs.declared.Entry.{Entry}
use Rattle.cb_matrix.specs.Sparse.{IsInside}
use Rattle.cb_dcsc.proofs.Lookup.{all_rows_inside}
use Rattle.cb_searches.specs.Walks.{infinite}
use Rattle.cb_searches.specs.Numbers.{listed_at}
use Rattle.cb_searches.proofs.UpRounds.{IsRoundThrough, number_set, entry_edge, entry_set, entry_passed, entry_far, entries_done}
use Rattle.cb_searches.proofs.breadth_first.up_by_entries.Goals as goal
use Rattle.cb_searches.proofs.breadth_first.up_by_entries.Goals.{then-list-rows+then-list-vertex, then-list-rows+else-list-vertex, else-list-rows}

pub bounds-list-rows : goal.bounds-list-rows
bounds-list-rows c =
    let a = c.args.graph.now in
    let rows = c.row_numbers-rows.result.now in
    let n = c.loop-n.n in
    let l : get_or rows n 0 < a.shape.rows = All-get_or (λ i. i < a.shape.rows) rows n 0 (omega arith) (all_rows_inside or_and a rows c.shape-shape.ensures.matrix c.row_numbers-rows.ensures) in
    omega (arith, l, c.requires.length, c.loop-n.invariant.length)

pub loop-n-preserved : goal.loop-n-preserved
loop-n-preserved c =
    let a = c.args.graph.now in
    let es = a.entries in
    let is = c.shape-shape.ensures.matrix in
    let k = c.args.rounds in
    let old = listed_at c.args.list.now in
    let list = c.loop-n.list in
    let now = listed_at c.if-list-rows.list in
    let rows = c.row_numbers-rows.result.now in
    let n = c.loop-n.n in
    let inside : n < length es = omega (arith, ap (λ (rs : List ℕ). length rs) c.row_numbers-rows.ensures, length-map es (λ (e : Entry). e.row)) in
    let few : k + 1 < infinite = omega (arith, c.ranges.rounds.fits) in
    let wide : length list ≡ a.shape.rows = c.loop-n.invariant.length ∙ c.requires.length in
    let row = λ (d : Entry). ap (λ (rs : List ℕ). get_or rs n 0) c.row_numbers-rows.ensures ∙ get_or-map (λ (e : Entry). e.row) es n d 0 inside in
    let within = λ (d : Entry). All-get_or (IsInside a.shape) es n d inside is.inside in
    let read = λ (d : Entry). (let l = (within d).0 in get_or_default list (get_or es n d).row 0 infinite (omega (arith, l, wide))) in
    let more = λ (d : Entry) (h : IsRoundThrough a k old now (take n es ++ get_or es n d ∷ [])). subst (IsRoundThrough a k old now) (sym (take_more es n d inside)) h in
    let same = λ (d : Entry) (e : c.if-list-rows.list ≡ list) (h : IsRoundThrough a k old (listed_at list) (take n es ++ get_or es n d ∷ [])). subst (λ (xs : List ℕ). IsRoundThrough a k old (listed_at xs) (take n es ++ get_or es n d ∷ [])) (sym e) h in
    elim c.if-list-rows.branch [
      | then-list-rows+then-list-vertex w ↦
          let d = w.entry_at-vertex.result in
          let e = get_or es n d in
          let v = e.column in
          let vertex : d.column ≡ v = ap (λ (f : Entry). f.column) w.entry_at-vertex.ensures in
          let place : v < length list = (let l = (within d).1 in omega (arith, l, wide, c.requires.square)) in
          let blank : listed_at list v ≡ infinite = sym (get_or_default list v 0 infinite place) ∙ ap (λ (u : ℕ). get_or list u 0) (sym vertex) ∙ w.if-list-vertex.true in
          let near : listed_at list e.row ≤ k = omega (arith, read d, ap (λ (u : ℕ). get_or list u 0) (row d), w.if-list-rows.true) in
          let values : (x : ℕ) → now x ≡ cond (x == v) (k + 1) (listed_at list x) = λ x.
          ap (λ (xs : List ℕ). listed_at xs x) w.list-is ∙ ap (λ (u : ℕ). listed_at (set list u (w.from-then-list-vertex.result + 1)) x) vertex
          ∙ number_set list v (w.from-then-list-vertex.result + 1) place x ∙ ap (λ (m : ℕ). cond (x == v) (m + 1) (listed_at list x)) w.from-then-list-vertex.ensures in
          record {
            length = c.if-list-rows.auto.list ∙ c.loop-n.invariant.length;
            few = omega (arith, w.reached-is, c.loop-n.invariant.few);
            none = λ e. absurd (omega (arith, e, w.reached-is));
            so_far = more d (entry_set a k old few (listed_at list) (take n es) c.loop-n.invariant.so_far e now blank (entry_edge a is n d inside) near values);
          }
      | then-list-rows+else-list-vertex w ↦
          let d = w.entry_at-vertex.result in
          let e = get_or es n d in
          let vertex : d.column ≡ e.column = ap (λ (f : Entry). f.column) w.entry_at-vertex.ensures in
          let place : e.column < length list = (let l = (within d).1 in omega (arith, l, wide, c.requires.square)) in
          record {
            length = c.if-list-rows.auto.list ∙ c.loop-n.invariant.length;
            few = omega (arith, w.reached-is, c.loop-n.invariant.few);
            none = λ z. w.list-is ∙ c.loop-n.invariant.none (sym w.reached-is ∙ z);
            so_far = more d (same d w.list-is (entry_passed a k old few (listed_at list) (take n es) c.loop-n.invariant.so_far e
                (λ z. w.if-list-vertex.false (ap (λ (u : ℕ). get_or list u 0) vertex ∙ get_or_default list e.column 0 infinite place ∙ z))));
          }
      | else-list-rows w ↦
          let d : Entry = record { row = 0; column = 0; value = 0 } in
          record {
            length = c.if-list-rows.auto.list ∙ c.loop-n.invariant.length;
            few = omega (arith, w.reached-is, c.loop-n.invariant.few);
            none = λ z. w.list-is ∙ c.loop-n.invariant.none (sym w.reached-is ∙ z);
            so_far = more d (same d w.list-is (entry_far a k old few (listed_at list) (take n es) c.loop-n.invariant.so_far (get_or es n d)
                (omega (arith, read d, ap (λ (u : ℕ). get_or list u 0) (row d), w.if-list-rows.false))));
          }
    ]

pub returns-clause-round : goal.returns-clause-round
returns-clause-round c source is =
    let a = c.args.graph.now in
    let k = c.args.rounds in
    let es = a.entries in
    let whole : take c.loop-n.n es ≡ es = take_all c.loop-n.n es (omega (arith, ap (λ (rs : List ℕ). length rs) c.row_numbers-rows.ensures, length-map es (λ (e : Entry). e.row))) in
    entries_done a k (listed_at c.args.list.now) (omega (arith, c.ranges.rounds.fits)) (listed_at c.loop-n.list) (take c.loop-n.n es) c.loop-n.invariant.so_far whole c.shape-shape.ensures.matrix source is
