use Rattle.std.proofs.Common.{◌≡◌, ℕ, ◌<◌, ◌≤◌, length, get_or, sym, subst, ap, ◌∙◌, ⊎_elim, arith}
use Rattle.std.specs.Prelude.{All}
use Rattle.std.proofs.lemmas.Bool.{cases_lt}
use Rattle.std.proofs.lemmas.List.{get_or_past}
use Rattle.std.proofs.lemmas.List.Elements.{All-get_or}
use Rattle.std.proofs.lemmas.Result.{on_ok_weaker}
use Rattle.cb_dcsc.specs.Columns.{row_value}
use Rattle.cb_dcsc.proofs.Lookup.{all_rows_inside, all_values}
use Rattle.cb_product.specs.Sources.{IsSource, plus_terms, sum_with_all}
use Rattle.cb_product.proofs.RowValues.{row_value-value, absent_above}
use Rattle.cb_product.proofs.SeveralProducts.{item_has, rows_have, terms_step, terms_end, terms_all_past}
use Rattle.cb_product.proofs.workspace.Workspace.make_all_dense.Goals as goal

pub loop-source-init : goal.loop-source-init
loop-source-init g c =
    let s = g.S.Semiring.arithmetic in
    let laws = g.met.S.Semiring.is_semiring in
    let own = c.requires.own in
    record {
      length = c.add.ensures.length ∙ c.in_ok-make_room.ensures.length;
      values = c.add.ensures.values;
      so_far = λ i l.
          let room = c.in_ok-make_room.ensures.length in
          let m : i < length c.make_room.new.self = omega arith in
          ap (plus_terms s i c.args.sources.now)
          (c.add.ensures.sums i m
          ∙ ap (λ t. s.add t (row_value s.zero c.args.own_rows.now c.args.own_values.now i)) (All-get_or (λ x. x ≡ s.zero) c.make_room.new.self i s.zero m c.in_ok-make_room.ensures.zeros)
          ∙ laws.zero_add _ (row_value-value s laws c.args.own_rows.now c.args.own_values.now i own.are_values));
    }

pub add_terms-requires-clause-values : goal.add_terms-requires-clause-values
add_terms-requires-clause-values g c =
    let s = g.S.Semiring.arithmetic in
    let x = c.source-item.result in
    let source = item_has (IsSource s) c.args.sources.now c.loop-source.source-index x c.loop-source-test.true c.source-item.is c.requires.sources in
    all_values s x.left.now _ source.left c.values-values.ensures

pub add_terms-requires-clause-inside : goal.add_terms-requires-clause-inside
add_terms-requires-clause-inside g c =
    let s = g.S.Semiring.arithmetic in
    let x = c.source-item.result in
    let source = item_has (IsSource s) c.args.sources.now c.loop-source.source-index x c.loop-source-test.true c.source-item.is c.requires.sources in
    let rows = rows_have c.args.rows c.args.sources.now c.loop-source.source-index x c.loop-source-test.true c.source-item.is c.requires.rows in
    subst (λ n. All (λ i. i < n) c.row_numbers-rows.result.now) (rows ∙ sym c.loop-source.invariant.length) (all_rows_inside s x.left.now _ source.left c.row_numbers-rows.ensures)

pub loop-source-preserved : goal.loop-source-preserved
loop-source-preserved g c =
    let s = g.S.Semiring.arithmetic in
    let laws = g.met.S.Semiring.is_semiring in
    let x = c.source-item.result in
    let inv = c.loop-source.invariant in
    let step = rw (c.row_numbers-rows.ensures, c.values-values.ensures, c.terms.ensures) at c.add_terms.ensures.sums in
    record {
      length = c.add_terms.ensures.length ∙ inv.length;
      values = c.add_terms.ensures.values;
      so_far = λ i l.
          let long = inv.length in
          let m : i < length c.loop-source.self.sums = omega arith in
          terms_step s laws c.args.rows c.args.sources.now c.loop-source.source-index x i (get_or c.loop-source.self.sums i s.zero) (get_or c.add_terms.new.self i s.zero) c.loop-source-test.true c.source-item.is (step i m)
          ∙ inv.so_far i l;
    }

pub returns-clause-column : goal.returns-clause-column
returns-clause-column g c =
    let s = g.S.Semiring.arithmetic in
    let laws = g.met.S.Semiring.is_semiring in
    let inv = c.loop-source.invariant in
    let own = c.requires.own in
    let sums : (i : ℕ) → get_or c.loop-source.self.sums i s.zero ≡ sum_with_all s c.args.sources.now c.args.own_rows.now c.args.own_values.now i = λ i.
    let long = inv.length in
    ⊎_elim
    (λ (l : i < c.args.rows). sym (terms_end s laws c.args.rows c.args.sources.now c.loop-source.source-index i _ c.loop-source-test.false) ∙ inv.so_far i l)
    (λ (l : c.args.rows ≤ i).
    get_or_past c.loop-source.self.sums i s.zero (omega arith)
    ∙ sym (terms_all_past s laws c.args.rows c.args.sources.now c.requires.sources c.requires.terms c.requires.rows i l _ (absent_above s.zero c.args.rows c.args.own_rows.now c.args.own_values.now i own.inside l)))
    (cases_lt i c.args.rows) in
    on_ok_weaker c.take.result (λ h i. h i ∙ sums i) c.take.ensures.column
