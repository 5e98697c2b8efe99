use Rattle.std.proofs.Common.{◌∙◌, sym, refl}
use Rattle.cb_masked.proofs.KeptSums.{kept_start, kept_zero, kept_more, kept_all, sum_value}
use Rattle.cb_masked.proofs.stored_sums.keep_nonzero.Goals as goal
use Rattle.cb_masked.proofs.stored_sums.keep_nonzero.Goals.{then-sums-n+in_ok-push+in_ok-push-2, else-sums-n}

pub loop-n-init : goal.loop-n-init
loop-n-init g c =
    let r = c.requires in
    kept_start g.S.Semiring.arithmetic g.met.S.Semiring.is_semiring c.args.rows.now c.args.sums.now r.lengths r.values _ _ c.clear.ensures.items c.clear-2.ensures.items

pub loop-n-preserved : goal.loop-n-preserved
loop-n-preserved g c =
    let s = g.S.Semiring.arithmetic in
    let laws = g.met.S.Semiring.is_semiring in
    let r = c.requires in
    let rows = c.args.rows.now in
    let sums = c.args.sums.now in
    let n = c.loop-n.n in
    let l = c.loop-n-test.true in
    let inv = c.loop-n.invariant in
    let value = sum_value s laws rows sums r.lengths r.values n l in
    elim c.if-sums-n.branch [
      | then-sums-n+in_ok-push+in_ok-push-2 w ↦
          rw (w.kept_rows-is, w.values-is, w.in_ok-push.ensures.items, w.in_ok-push-2.ensures.items)
          (kept_more s laws rows sums r.lengths r.values r.order n l _ _ inv _ refl value (λ e. w.if-sums-n.true (e ∙ sym c.zero.ensures)))
      | else-sums-n w ↦
          rw (w.kept_rows-is, w.values-is) (kept_zero s laws rows sums r.lengths r.values r.order n l _ _ inv _ refl value (w.if-sums-n.false ∙ c.zero.ensures))
    ]

pub returns-clause-values : goal.returns-clause-values
returns-clause-values g c =
    let r = c.requires in
    kept_all g.S.Semiring.arithmetic g.met.S.Semiring.is_semiring c.args.rows.now c.args.sums.now r.lengths r.values c.loop-n.n _ _ c.loop-n-test.false c.loop-n.invariant
