use Rattle.std.proofs.Common.{◌<◌, heap_items, sym, ap, ◌∙◌, refl, arith}
use Rattle.std.proofs.lemmas.List.Elements.{All-nil}
use Rattle.std.proofs.lemmas.Result.{on_ok_weaker}
use Rattle.cb_product.specs.SparseColumn.{one_value}
use Rattle.cb_product.specs.Heads.{heads_value}
use Rattle.cb_product.specs.Terms.{terms_value}
use Rattle.cb_product.proofs.RowValues.{row_value-none, one_value-value}
use Rattle.cb_product.proofs.ColumnSoFar.{so_far_start, so_far_as, so_far_more, so_far_all}
use Rattle.cb_product.proofs.HeapStep.{heads_value-value, nothing_left, same_row}
use Rattle.cb_product.proofs.TermSums.{terms_value-value}
use Rattle.cb_product.proofs.heads.merge.Goals as goal

pub returns-in_default : goal.returns-in_default
returns-in_default g c =
    let s = g.S.Semiring.arithmetic in
    let r = c.requires in
    λ i. row_value-none s.zero _ _ i c.clear.ensures ∙ sym (nothing_left s g.met.S.Semiring.is_semiring c.args.rows.now c.args.values.now r.lengths r.values _ c.in_default.ensures.none i) ∙ c.in_ok-heads.ensures.sums c.args.values.now r.lengths r.values i

pub loop-later-init : goal.loop-later-init
loop-later-init g c =
    let s = g.S.Semiring.arithmetic in
    let laws = g.met.S.Semiring.is_semiring in
    let r = c.requires in
    let gives = c.in-Some.ensures.gives in
    record {
      so_far = so_far_as s laws _ _ _ _ (so_far_start s laws _ _ c.clear.ensures (λ i. terms_value-value s laws c.args.rows.now c.args.values.now r.values i c.args.terms.now r.terms))
          (λ i. sym (c.in_ok-heads.ensures.sums c.args.values.now r.lengths r.values i) ∙ gives.sums i);
      before = rw c.clear.ensures (All-nil (λ i. i < c.in-Some.row));
      value = gives.value;
      heads = gives.heads;
      order = c.in-Some.ensures.order;
      heads_after = c.in-Some.ensures.least;
    }

pub loop-later-preserved-then-later-row : goal.loop-later-preserved-then-later-row
loop-later-preserved-then-later-row g c =
    let s = g.S.Semiring.arithmetic in
    let laws = g.met.S.Semiring.is_semiring in
    let r = c.requires in
    let inv = c.loop-later.invariant in
    let gives = c.in-Some-next.ensures.gives in
    let steps = rw c.if-later-row.true at gives.sums in
    let least = rw c.if-later-row.true at c.in-Some-next.ensures.least in
    rw c.add-sum.ensures (record {
      so_far = so_far_as s laws _ _ _ _ inv.so_far (λ i. ap (s.add (one_value s.zero (c.loop-later.row, c.loop-later.sum) i)) (steps i) ∙ same_row s laws c.args.rows.now c.args.values.now r.lengths r.values c.loop-later.row c.loop-later.sum c.in-Some-next.value i _ inv.value gives.value gives.heads);
      before = inv.before;
      value = laws.add_value _ _ inv.value gives.value;
      heads = gives.heads;
      order = c.in-Some-next.ensures.order;
      heads_after = least;
    })

pub loop-later-preserved : goal.loop-later-preserved
loop-later-preserved g c =
    let s = g.S.Semiring.arithmetic in
    let laws = g.met.S.Semiring.is_semiring in
    let r = c.requires in
    let inv = c.loop-later.invariant in
    let gives = c.in-Some-next.ensures.gives in
    let at_least = gives.least c.loop-later.row inv.heads_after in
    let other = c.if-later-row.false in
    record {
      so_far = so_far_as s laws _ _ _ _ (so_far_more s laws _ _ _ _ (λ i. one_value s.zero (c.loop-later.row, c.loop-later.sum) i) _ inv.so_far (λ i. refl) (λ i. one_value-value s laws _ i inv.value) (λ i. heads_value-value s laws c.args.rows.now c.args.values.now r.lengths r.values i _ inv.heads) c.in_ok-keep.ensures.sum) gives.sums;
      before = c.in_ok-keep.ensures.rows c.in-Some-next.later (let l : c.loop-later.row < c.in-Some-next.later = omega arith in l);
      value = gives.value;
      heads = gives.heads;
      order = c.in-Some-next.ensures.order;
      heads_after = c.in-Some-next.ensures.least;
    }

pub returns : goal.returns
returns g c =
    let s = g.S.Semiring.arithmetic in
    let laws = g.met.S.Semiring.is_semiring in
    let r = c.requires in
    let inv = c.loop-later.invariant in
    on_ok_weaker c.keep-2.result
    (λ h. so_far_all s laws (λ i. terms_value s c.args.rows.now c.args.values.now i c.args.terms.now) _ (λ i. heads_value s c.args.rows.now c.args.values.now i (heap_items c.loop-later.heads))
    (so_far_more s laws _ _ _ _ (λ i. one_value s.zero (c.loop-later.row, c.loop-later.sum) i) _ inv.so_far (λ i. refl) (λ i. one_value-value s laws _ i inv.value) (λ i. heads_value-value s laws c.args.rows.now c.args.values.now r.lengths r.values i _ inv.heads) h)
    (nothing_left s laws c.args.rows.now c.args.values.now r.lengths r.values _ c.in_default-next.ensures.none))
    c.keep-2.ensures.sum
