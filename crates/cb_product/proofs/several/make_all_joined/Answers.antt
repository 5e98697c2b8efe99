use Rattle.std.proofs.Common.{◌≡◌, ℕ, ◌<◌, ◌≤◌, length, refl, sym, subst, ap, ◌∙◌, arith}
use Rattle.std.specs.Prelude.{All}
use Rattle.std.proofs.lemmas.Bool.{eqb-true}
use Rattle.cb_matrix.proofs.Totals.{add_zero}
use Rattle.cb_dcsc.specs.Columns.{row_value, rows_of, values_of}
use Rattle.cb_product.specs.SparseColumn.{value_in}
use Rattle.cb_product.specs.Sources.{IsSource, HasTerms, column_terms}
use Rattle.cb_product.specs.Terms.{terms_at}
use Rattle.cb_product.proofs.DenseRowSums.{sum_past}
use Rattle.cb_product.proofs.RowValues.{row_value-value, row_value-none, absent_above}
use Rattle.cb_product.proofs.SeveralProducts.{item_has, rows_have, terms_step, terms_end}
use Rattle.cb_product.proofs.StoredColumn.{column_inside}
use Rattle.cb_product.proofs.TermSums.{matrix_values, terms_value-value, terms_value-end}
use Rattle.cb_product.proofs.several.make_all_joined.Goals as goal

pub loop-source-init : goal.loop-source-init
loop-source-init g c =
    let s = g.S.Semiring.arithmetic in
    let laws = g.met.S.Semiring.is_semiring in
    let own = c.requires.own in
    let is_own = λ (i : ℕ). row_value-value s laws c.args.own_rows.now c.args.own_values.now i own.are_values in
    let starts : (i : ℕ) → value_in s.zero c.append.new.self i ≡ row_value s.zero c.args.own_rows.now c.args.own_values.now i = λ i.
    c.in_ok-append.ensures i
    ∙ ap (λ t. s.add t (row_value s.zero c.args.own_rows.now c.args.own_values.now i)) (row_value-none s.zero c.clear.new.self.rows c.clear.new.self.values i c.clear.ensures)
    ∙ laws.zero_add _ (is_own i) in
    record {
      zeros = c.requires.zeros;
      values = λ i. rw (starts i) (is_own i);
      past = λ i l. starts i ∙ absent_above s.zero c.args.rows c.args.own_rows.now c.args.own_values.now i own.inside l;
      so_far = λ i. rw (starts i) refl;
    }

pub loop-source-preserved-then-is_empty : goal.loop-source-preserved-then-is_empty
loop-source-preserved-then-is_empty g c =
    let s = g.S.Semiring.arithmetic in
    let laws = g.met.S.Semiring.is_semiring in
    let inv = c.loop-source.invariant in
    let x = c.source-item.result in
    let source = item_has (IsSource s) c.args.sources.now c.loop-source.source-index x c.loop-source-test.true c.source-item.is c.requires.sources in
    let none = eqb-true _ 0 (sym c.is_empty.ensures ∙ c.if-is_empty.true) in
    let empty : length c.terms-terms.result.now ≤ 0 = omega (arith, none) in
    let nothing = λ (i : ℕ). terms_value-end s laws (rows_of x.left.now.entries) (values_of x.left.now.entries) (matrix_values s laws x.left.now source.left) i 0 (column_terms x) (rw c.terms-terms.ensures at empty) in
    record {
      zeros = inv.zeros;
      values = inv.values;
      past = inv.past;
      so_far = λ i.
          let v = value_in s.zero c.loop-source.work.made i in
          terms_step s laws c.args.rows c.args.sources.now c.loop-source.source-index x i v v c.loop-source-test.true c.source-item.is (sym (ap (s.add v) (nothing i) ∙ add_zero s laws v (inv.values i)))
          ∙ inv.so_far i;
    }

pub make-requires-clause-own : goal.make-requires-clause-own
make-requires-clause-own g c =
    let s = g.S.Semiring.arithmetic in
    let x = c.source-item.result in
    let half = rw c.swap.ensures.y_after at c.entries.ensures.column in
    let rows = rows_have c.args.rows c.args.sources.now c.loop-source.source-index x c.loop-source-test.true c.source-item.is c.requires.rows in
    let inside = column_inside s 0 (value_in s.zero c.loop-source.work.made) _ _ half (λ i. refl) c.args.rows c.loop-source.invariant.past in
    rw (c.entries.ensures.rows, c.entries.ensures.values, c.swap.ensures.y_after) (record {
      same_length = half.same_length;
      ascending = half.ascending;
      inside = subst (λ n. All (λ i. i < n) c.loop-source.work.made.rows) (sym rows) inside;
      are_values = half.are_values;
    })

pub loop-source-preserved : goal.loop-source-preserved
loop-source-preserved g c =
    let s = g.S.Semiring.arithmetic in
    let laws = g.met.S.Semiring.is_semiring in
    let inv = c.loop-source.invariant in
    let x = c.source-item.result in
    let a = x.left.now in
    let source = item_has (IsSource s) c.args.sources.now c.loop-source.source-index x c.loop-source-test.true c.source-item.is c.requires.sources in
    let terms = item_has (HasTerms s) c.args.sources.now c.loop-source.source-index x c.loop-source-test.true c.source-item.is c.requires.terms in
    let rows = rows_have c.args.rows c.args.sources.now c.loop-source.source-index x c.loop-source-test.true c.source-item.is c.requires.rows in
    let half = rw c.swap.ensures.y_after at c.entries.ensures.column in
    let inside = column_inside s 0 (value_in s.zero c.loop-source.work.made) _ _ half (λ i. refl) c.args.rows inv.past in
    let column : (i : ℕ) → value_in s.zero c.make.new.self.made i ≡ s.add (value_in s.zero c.loop-source.work.made i) (terms_at s a i (column_terms x)) =
    rw (c.entries.ensures.rows, c.entries.ensures.values, c.swap.ensures.y_after, c.terms-terms.ensures) at c.in_ok-make.ensures.column in
    record {
      zeros = c.in_ok-make.ensures.zeros;
      values = λ i. rw (column i) (laws.add_value _ _ (inv.values i) (terms_value-value s laws (rows_of a.entries) (values_of a.entries) (matrix_values s laws a source.left) i (column_terms x) terms));
      past = λ i l.
          column i
          ∙ sum_past s laws a source.left c.loop-source.work.made.rows c.loop-source.work.made.values
          (record { same_length = half.same_length; ascending = half.ascending; inside = subst (λ n. All (λ i. i < n) c.loop-source.work.made.rows) (sym rows) inside; are_values = half.are_values })
          (column_terms x) terms i (omega arith);
      so_far = λ i.
          terms_step s laws c.args.rows c.args.sources.now c.loop-source.source-index x i (value_in s.zero c.loop-source.work.made i) (value_in s.zero c.make.new.self.made i) c.loop-source-test.true c.source-item.is (column i)
          ∙ inv.so_far i;
    }

pub returns-clause-column : goal.returns-clause-column
returns-clause-column g c =
    let s = g.S.Semiring.arithmetic in
    let laws = g.met.S.Semiring.is_semiring in
    λ i. sym (terms_end s laws c.args.rows c.args.sources.now c.loop-source.source-index i _ c.loop-source-test.false) ∙ c.loop-source.invariant.so_far i
