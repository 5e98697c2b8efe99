use Rattle.std.proofs.Common.{arith}
use Rattle.cb_reshape.proofs.Exchanged.{exchange_more}
use Rattle.cb_reshape.proofs.exchange.Goals as goal

pub loop-entry-preserved : goal.loop-entry-preserved
loop-entry-preserved c = exchange_more c.args.entries.now c.loop-entry.entries c.loop-entry.entry-index _ c.loop-entry.invariant (let t = c.loop-entry-test.true in let a = c.loop-entry.auto.entries in omega arith)
