use Rattle.std.proofs.Common.{◌≡◌, ℕ, get_or, refl, ap, arith}
use Rattle.cb_dcsc.specs.Columns.{row_value}
use Rattle.cb_masked.proofs.AddedSums.{nth_sum, sums_with, row_more}
use Rattle.cb_masked.proofs.sums.add_found.Goals as goal

pub loop-n-init : goal.loop-n-init
loop-n-init g c = record { are = c.requires.sums; so_far = record { added = λ k b l. absurd (omega arith); others = λ k b. refl } }

pub add-requires-clause-left_is_value : goal.add-requires-clause-left_is_value
add-requires-clause-left_is_value g c = nth_sum g.S.Semiring.arithmetic g.met.S.Semiring.is_semiring c.args.rows.now c.loop-n.sums c.loop-n.n 0 c.loop-n.invariant.are c.loop-n-test.true

pub loop-n-preserved : goal.loop-n-preserved
loop-n-preserved g c =
    let s = g.S.Semiring.arithmetic in
    let laws = g.met.S.Semiring.is_semiring in
    let rows = c.args.rows.now in
    let inv = c.loop-n.invariant in
    let l = c.loop-n-test.true in
    let n = c.loop-n.n in
    let f : ℕ → ℕ = λ i. s.mul (row_value s.zero c.args.column_rows.now c.args.values.now i) c.args.factor in
    let is_v = laws.mul_value _ _ c.value_at-value.ensures.is_value c.requires.factor in
    let v_is : s.mul c.value_at-value.result c.args.factor ≡ f (get_or rows n 0) = ap (λ x. s.mul x c.args.factor) c.value_at-value.ensures.value in
    rw (c.add.ensures, c.mul.ensures) (record {
      are = sums_with s laws rows c.loop-n.sums n _ inv.are (laws.add_value _ _ (nth_sum s laws rows c.loop-n.sums n 0 inv.are l) is_v);
      so_far = row_more s laws rows f n _ c.args.sums.now c.loop-n.sums l inv.are v_is inv.so_far;
    })

pub returns-clause-sums : goal.returns-clause-sums
returns-clause-sums g c =
    let inv = c.loop-n.invariant in
    λ k l. inv.so_far.added k (omega (arith, c.loop-n-test.false)) l
