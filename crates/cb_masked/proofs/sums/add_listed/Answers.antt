use Rattle.std.proofs.Common.{Some, get_or, refl}
use Rattle.cb_dcsc.specs.Columns.{row_value}
use Rattle.cb_product.proofs.RowValues.{nth_product}
use Rattle.cb_masked.proofs.AddedSums.{entry_more, entries_end}
use Rattle.cb_masked.proofs.sums.add_listed.Goals as goal

pub loop-n-init : goal.loop-n-init
loop-n-init g c = record { are = c.requires.sums; sums = λ k l. refl }

pub add_at-requires-clause-value : goal.add_at-requires-clause-value
add_at-requires-clause-value g c =
    let r = c.requires in
    rw c.mul.ensures (nth_product g.S.Semiring.arithmetic g.met.S.Semiring.is_semiring c.args.column_rows.now c.args.values.now (Some c.args.factor) r.lengths r.values r.factor c.loop-n.n c.loop-n-test.true)

pub loop-n-preserved : goal.loop-n-preserved
loop-n-preserved g c =
    let s = g.S.Semiring.arithmetic in
    let laws = g.met.S.Semiring.is_semiring in
    let r = c.requires in
    let inv = c.loop-n.invariant in
    let adds = rw c.mul.ensures at c.add_at.ensures.sums in
    record {
      are = c.add_at.ensures.are;
      sums = entry_more s laws c.args.rows.now c.args.column_rows.now c.args.values.now c.args.factor r.lengths r.values r.factor r.order c.loop-n.n _ _ (λ k. s.add (get_or c.args.sums.now k s.zero) (s.mul (row_value s.zero c.args.column_rows.now c.args.values.now (get_or c.args.rows.now k 0)) c.args.factor)) c.loop-n-test.true inv.are adds inv.sums;
    }

pub returns-clause-sums : goal.returns-clause-sums
returns-clause-sums g c =
    let s = g.S.Semiring.arithmetic in
    let laws = g.met.S.Semiring.is_semiring in
    let r = c.requires in
    let inv = c.loop-n.invariant in
    entries_end s laws c.args.rows.now c.args.column_rows.now c.args.values.now c.args.factor r.lengths r.values r.factor c.loop-n.n c.loop-n.sums (λ k. s.add (get_or c.args.sums.now k s.zero) (s.mul (row_value s.zero c.args.column_rows.now c.args.values.now (get_or c.args.rows.now k 0)) c.args.factor)) c.loop-n-test.false inv.are inv.sums
