use Rattle.std.proofs.Common.{◌≡◌, ◌<◌, ◌+◌, ◌∙◌, rules, true, false, get_or, length, sym, arith}
use Rattle.std.proofs.lemmas.List.Elements.{All-nil, All-weaker}
use Rattle.cb_product.specs.InColumns.{is_among}
use Rattle.cb_product.specs.Outside.{ArePassed}
use Rattle.cb_product.proofs.RowValues.{one_value-value, nth_product}
use Rattle.cb_product.proofs.ColumnSoFar.{so_far_start, so_far_more, so_far_as, so_far_all}
use Rattle.cb_product.proofs.Outside.{left_outside-value, left_outside-end, left_outside-kept, left_outside-skipped}
use Rattle.cb_product.proofs.columns.Column.fill_outside.Goals as goal
use Rattle.cb_product.proofs.columns.Column.fill_outside.Goals.{then-not-is_next+in_ok-keep, else-not-is_next}

pub loop-n-init : goal.loop-n-init
loop-n-init g c =
    let s = g.S.Semiring.arithmetic in
    let r = c.requires in
    record {
      so_far = so_far_start s g.met.S.Semiring.is_semiring _ _ c.clear.ensures (λ i. left_outside-value s g.met.S.Semiring.is_semiring c.args.rows.now c.args.values.now c.args.scale r.lengths r.values r.scale (is_among c.args.excluded.now) 0 i);
      before = λ l. rw c.clear.ensures (All-nil (λ i. i < get_or c.args.rows.now 0 0));
      passed = λ l k m. absurd (omega arith);
    }

pub returns : goal.returns
returns g c =
    let s = g.S.Semiring.arithmetic in
    let r = c.requires in
    so_far_all s g.met.S.Semiring.is_semiring _ _ _ c.loop-n.invariant.so_far (λ i. left_outside-end s g.met.S.Semiring.is_semiring c.args.rows.now c.args.values.now c.args.scale r.lengths r.values r.scale (is_among c.args.excluded.now) c.loop-n.n i c.loop-n-test.false)

pub loop-n-preserved : goal.loop-n-preserved
loop-n-preserved g c =
    let s = g.S.Semiring.arithmetic in
    let laws = g.met.S.Semiring.is_semiring in
    let r = c.requires in
    let rows = c.args.rows.now in
    let values = c.args.values.now in
    let k = c.args.scale in
    let p = is_among c.args.excluded.now in
    let n = c.loop-n.n in
    let l = c.loop-n-test.true in
    let inv = c.loop-n.invariant in
    let later : n + 1 < length rows → ArePassed c.args.excluded.now c.is_next.new.next (get_or rows (n + 1) 0) = λ m j b. let first = c.is_next.ensures.passed j b in let up = r.order n (n + 1) 0 (omega arith) m in omega arith in
    elim c.if-not-is_next.branch [
      | then-not-is_next+in_ok-keep w ↦
          let free : is_among c.args.excluded.now (get_or rows n 0) ≡ false = sym c.is_next.ensures.among ∙ search rules in
          let step = rw w.scaled.ensures at w.in_ok-keep.ensures.sum in
          rw w.self-is (record {
            so_far = so_far_more s laws _ _ _ _ _ _ inv.so_far (λ i. left_outside-kept s laws rows values k r.lengths r.values r.scale p r.order n l free i)
                (λ i. one_value-value s laws _ i (nth_product s laws rows values k r.lengths r.values r.scale n l))
                (λ i. left_outside-value s laws rows values k r.lengths r.values r.scale p (n + 1) i) step;
            before = λ m. w.in_ok-keep.ensures.rows (get_or rows (n + 1) 0) (r.order n (n + 1) 0 (omega arith) m);
            passed = later;
          })
      | else-not-is_next w ↦
          let taken : is_among c.args.excluded.now (get_or rows n 0) ≡ true = sym c.is_next.ensures.among ∙ search rules in
          rw w.self-is (record {
            so_far = so_far_as s laws _ _ _ _ inv.so_far (λ i. left_outside-skipped s laws rows values k r.lengths r.values r.scale p r.order n l taken i);
            before = λ m. let up = r.order n (n + 1) 0 (omega arith) m in All-weaker (λ i. i < get_or rows n 0) (λ i. i < get_or rows (n + 1) 0) (λ i b. omega arith) _ (inv.before l);
            passed = later;
          })
    ]
