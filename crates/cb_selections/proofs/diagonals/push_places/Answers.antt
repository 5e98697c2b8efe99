use Rattle.std.proofs.Common.{◌≢◌, ◌<◌, length, get_or, refl, sym, subst, arith}
use Rattle.std.proofs.lemmas.List.Elements.{All-get_or}
use Rattle.cb_matrix.specs.Sparse.{Extent}
use Rattle.cb_dcsc.proofs.Lookup.{rows_inside}
use Rattle.cb_product.proofs.OwnColumn.{own_sparse}
use Rattle.cb_product.proofs.ColumnsMade.{walk_none, walk_more, walk_all, before_column}
use Rattle.cb_selections.proofs.DiagonalPlaces.{on_diagonal, place_absent, place_adds}
use Rattle.cb_selections.proofs.diagonals.push_places.Goals as goal

abbrev square : Extent → Extent
square x = record { rows = x.rows; cols = x.rows }

pub loop-n-init : goal.loop-n-init
loop-n-init g c =
    let s = g.S.Semiring.arithmetic in
    let a = c.args.column.now in
    let is = c.requires.matrix in
    let rows = c.column.result.0.now in
    let values = c.column.result.1.now in
    let e = c.column.ensures in
    walk_none s (square a.shape) (on_diagonal s a is rows values e.rows e.values) rows e.ascending (rows_inside s a 0 rows is e.rows) (place_absent s a is rows values e.rows e.values) c.args.out.now c.requires.out_matrix c.requires.empty

pub push-requires-clause-inside : goal.push-requires-clause-inside
push-requires-clause-inside g c =
    let a = c.args.column.now in
    let rows = c.column.result.0.now in
    let n = c.loop-n.n in
    let low : get_or rows n 0 < a.shape.rows = All-get_or (λ i. i < a.shape.rows) rows n 0 c.loop-n-test.true (rows_inside g.S.Semiring.arithmetic a 0 rows c.requires.matrix c.column.ensures.rows) in
    (subst (λ (x : Extent). get_or rows n 0 < x.rows) (sym c.loop-n.invariant.shape) low, subst (λ (x : Extent). get_or rows n 0 < x.cols) (sym c.loop-n.invariant.shape) low)

pub push-requires-clause-not_zero : goal.push-requires-clause-not_zero
push-requires-clause-not_zero g c =
    let s = g.S.Semiring.arithmetic in
    let values = c.column.result.1.now in
    let own = own_sparse s c.args.column.now c.requires.matrix 0 c.column.result.0.now values c.column.ensures.rows c.column.ensures.values in
    let long = own.same_length in
    let t = c.loop-n-test.true in
    let l : c.loop-n.n < length values = omega arith in
    All-get_or (λ v. v ≢ s.zero) values c.loop-n.n 0 l own.not_zero

pub loop-n-preserved : goal.loop-n-preserved
loop-n-preserved g c =
    let s = g.S.Semiring.arithmetic in
    let a = c.args.column.now in
    let is = c.requires.matrix in
    let rows = c.column.result.0.now in
    let values = c.column.result.1.now in
    let e = c.column.ensures in
    let n = c.loop-n.n in
    let l = c.loop-n-test.true in
    let before = before_column s (square a.shape) (on_diagonal s a is rows values e.rows e.values) rows n c.loop-n.out l c.loop-n.invariant in
    let adds = place_adds s a is rows values e.rows e.values n l c.loop-n.out c.push.new.self before c.in_ok-push.ensures.ok c.in_ok-push.ensures.matrix in
    walk_more s (square a.shape) (on_diagonal s a is rows values e.rows e.values) rows e.ascending (rows_inside s a 0 rows is e.rows) (place_absent s a is rows values e.rows e.values) c.loop-n.out c.push.new.self n (λ i. on_diagonal s a is rows values e.rows e.values i (get_or rows n 0)) l adds (λ i. refl) c.loop-n.invariant

pub returns : goal.returns
returns g c =
    let s = g.S.Semiring.arithmetic in
    let a = c.args.column.now in
    let is = c.requires.matrix in
    let rows = c.column.result.0.now in
    let values = c.column.result.1.now in
    let e = c.column.ensures in
    walk_all s (square a.shape) (on_diagonal s a is rows values e.rows e.values) rows e.ascending (rows_inside s a 0 rows is e.rows) (place_absent s a is rows values e.rows e.values) g.met.S.Semiring.is_semiring c.loop-n.out c.loop-n.n (let f = c.loop-n-test.false in omega arith) c.loop-n.invariant
