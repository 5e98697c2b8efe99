use Rattle.std.proofs.Common.{cond, arith}
use Rattle.cb_product.proofs.MarkedRows.{set_start, set_more, set_all}
use Rattle.cb_product.proofs.marks.set_marks.Goals as goal

pub loop-n-init : goal.loop-n-init
loop-n-init c = set_start c.args.rows.now (cond c.args.marked 1 0) c.args.words.now

pub set_mark-requires : goal.set_mark-requires
set_mark-requires c =
    let inside = c.requires c.loop-n.n 0 c.loop-n-test.true in
    let long = c.loop-n.invariant.long in
    omega arith

pub loop-n-preserved : goal.loop-n-preserved
loop-n-preserved c =
    let set = c.set_mark.ensures in
    set_more c.args.rows.now (cond c.args.marked 1 0) c.loop-n.n c.args.words.now c.loop-n.words _ c.loop-n-test.true set.length set.here set.others c.loop-n.invariant

pub returns-clause-marks : goal.returns-clause-marks
returns-clause-marks c = set_all c.args.rows.now (cond c.args.marked 1 0) c.loop-n.n c.args.words.now c.loop-n.words c.loop-n-test.false c.loop-n.invariant
