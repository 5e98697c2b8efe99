use Rattle.std.proofs.Common.{◌≡◌, ℕ, ◌<◌, ◌≤◌, refl, sym, subst, ap, ◌∙◌, get_or}
use Rattle.std.specs.Prelude.{All}
use Rattle.std.proofs.lemmas.List.Elements.{All-weaker}
use Rattle.cb_matrix.specs.Sparse.{Extent, at}
use Rattle.cb_product.specs.SeveralProducts.{MakeShape, plus_products}
use Rattle.cb_product.specs.Sources.{HasTerms, HasTermsOf, sum_with_all}
use Rattle.cb_product.proofs.ColumnsMade.{before_column}
use Rattle.cb_product.proofs.ProductColumns.{own_column}
use Rattle.cb_product.proofs.RowValues.{absent_above}
use Rattle.cb_product.proofs.SeveralProducts.{all_rows, own_entries, plus_start, plus_more, plus_all, plus_at, sum_here, sums_at, terms_all_past}
use Rattle.cb_product.proofs.StoredColumn.{column_inside, column_adds}
use Rattle.cb_product.proofs.several.make_all_columns.Goals as goal

pub loop-column-init : goal.loop-column-init
loop-column-init g c =
    let s = g.S.Semiring.arithmetic in
    let r = c.requires in
    record {
      sources = r.sources;
      pairs = refl;
      so_far = plus_start s g.met.S.Semiring.is_semiring c.args.accumulator.now c.args.sources.now c.shape.ensures.matrix r.sources r.shapes c.args.columns.now r.ascending r.within _ r.matrix r.empty;
      zeros = c.in_ok-work.ensures;
    }

pub make_all-requires-clause-sources : goal.make_all-requires-clause-sources
make_all-requires-clause-sources g c = c.in_ok-products.ensures.sources

pub make_all-requires-clause-terms : goal.make_all-requires-clause-terms
make_all-requires-clause-terms g c =
    let s = g.S.Semiring.arithmetic in
    All-weaker (HasTermsOf s _) (HasTerms s) (λ x h. h.terms) c.gather_all.new.sources c.in_ok-products.ensures.terms

pub make_all-requires-clause-rows : goal.make_all-requires-clause-rows
make_all-requires-clause-rows g c =
    let rows = sym (c.rows-rows.ensures.value ∙ ap (λ (e : Extent). e.rows) c.shape.ensures.shape) in
    let pairs = c.in_ok-products.ensures.pairs ∙ c.loop-column.invariant.pairs in
    all_rows c.args.accumulator.now.shape c.gather_all.new.sources c.rows-rows.result rows (subst (All (MakeShape c.args.accumulator.now.shape)) (sym pairs) c.requires.shapes)

pub make_all-requires-clause-own : goal.make_all-requires-clause-own
make_all-requires-clause-own g c =
    let rows = sym (c.rows-rows.ensures.value ∙ ap (λ (e : Extent). e.rows) c.shape.ensures.shape) in
    own_entries g.S.Semiring.arithmetic c.args.accumulator.now c.shape.ensures.matrix _ _ rows _ _ c.of_next.ensures.rows c.of_next.ensures.values

pub make_all-requires-clause-zeros : goal.make_all-requires-clause-zeros
make_all-requires-clause-zeros g c = c.loop-column.invariant.zeros

pub push_column-requires-clause-rows : goal.push_column-requires-clause-rows
push_column-requires-clause-rows g c =
    let s = g.S.Semiring.arithmetic in
    let laws = g.met.S.Semiring.is_semiring in
    let acc = c.args.accumulator.now in
    let xs = c.gather_all.new.sources in
    let rows = sym (c.rows-rows.ensures.value ∙ ap (λ (e : Extent). e.rows) c.shape.ensures.shape) in
    let out_rows = ap (λ (e : Extent). e.rows) c.loop-column.invariant.so_far.shape in
    let pairs = c.in_ok-products.ensures.pairs ∙ c.loop-column.invariant.pairs in
    let same = all_rows acc.shape xs acc.shape.rows refl (subst (All (MakeShape acc.shape)) (sym pairs) c.requires.shapes) in
    let terms = All-weaker (HasTermsOf s _) (HasTerms s) (λ x h. h.terms) xs c.in_ok-products.ensures.terms in
    let own = own_entries s acc c.shape.ensures.matrix _ _ refl _ _ c.of_next.ensures.rows c.of_next.ensures.values in
    let past = λ (i : ℕ) (l : acc.shape.rows ≤ i). terms_all_past s laws acc.shape.rows xs c.in_ok-products.ensures.sources terms same i l _ (absent_above s.zero acc.shape.rows c.of_next.result.0.now c.of_next.result.1.now i own.inside l) in
    subst (λ n. All (λ i. i < n) c.entries.result.0.now) (sym out_rows) (rw c.entries.ensures.rows (column_inside s 0 _ _ _ c.entries.ensures.column c.in_ok-make_all.ensures.column acc.shape.rows past))

pub push_column-requires-clause-before : goal.push_column-requires-clause-before
push_column-requires-clause-before g c =
    before_column g.S.Semiring.arithmetic _ _ c.args.columns.now c.loop-column.column-index c.loop-column.out c.loop-column-test.true c.loop-column.invariant.so_far

pub loop-column-preserved : goal.loop-column-preserved
loop-column-preserved g c =
    let s = g.S.Semiring.arithmetic in
    let laws = g.met.S.Semiring.is_semiring in
    let r = c.requires in
    let acc = c.args.accumulator.now in
    let old = c.args.sources.now in
    let xs = c.gather_all.new.sources in
    let n = c.loop-column.column-index in
    let j = get_or c.args.columns.now n 0 in
    let inv = c.loop-column.invariant in
    let pairs = c.in_ok-products.ensures.pairs ∙ inv.pairs in
    let fit = subst (All (MakeShape acc.shape)) (sym pairs) r.shapes in
    let here = r.within n 0 c.loop-column-test.true in
    let own = own_column s acc j _ _ c.of_next.ensures.rows c.of_next.ensures.values in
    let is : (i : ℕ) → sum_with_all s xs c.of_next.result.0.now c.of_next.result.1.now i ≡ sums_at s acc old c.args.columns.now i j = λ i.
    plus_at s laws acc xs c.shape.ensures.matrix c.in_ok-products.ensures.sources fit i j here c.in_ok-products.ensures.terms _ (own i)
    ∙ ap (λ ps. at s (plus_products s acc ps) i j) pairs
    ∙ sum_here s laws acc old c.shape.ensures.matrix r.sources r.shapes c.args.columns.now r.ascending r.within n i c.loop-column-test.true in
    let before = before_column s _ _ c.args.columns.now n c.loop-column.out c.loop-column-test.true inv.so_far in
    let stored = rw (c.entries.ensures.rows, c.entries.ensures.values) at c.in_ok-push_column.ensures.ok in
    let adds = column_adds s _ _ _ _ c.entries.ensures.column c.in_ok-make_all.ensures.column c.loop-column.out _ before stored c.in_ok-push_column.ensures.matrix in
    record {
      sources = c.in_ok-products.ensures.sources;
      pairs = pairs;
      so_far = plus_more s laws acc old c.shape.ensures.matrix r.sources r.shapes c.args.columns.now r.ascending r.within c.loop-column.out _ n _ c.loop-column-test.true adds is inv.so_far;
      zeros = c.in_ok-make_all.ensures.zeros;
    }

pub returns : goal.returns
returns g c =
    let s = g.S.Semiring.arithmetic in
    let r = c.requires in
    plus_all s g.met.S.Semiring.is_semiring c.args.accumulator.now c.args.sources.now c.shape.ensures.matrix r.sources r.shapes c.args.columns.now r.ascending r.within c.loop-column.out c.loop-column.column-index c.loop-column-test.false c.loop-column.invariant.so_far
