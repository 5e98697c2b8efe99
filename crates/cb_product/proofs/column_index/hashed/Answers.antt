use Rattle.std.proofs.Common.{arith}
use Rattle.cb_product.proofs.column_index.hashed.Goals as goal

pub loop-column-init : goal.loop-column-init
loop-column-init c = λ k d l. absurd (omega arith)

pub returns : goal.returns
returns c = λ k d l. c.loop-column.invariant k d (let f = c.loop-column-test.false in omega arith)
