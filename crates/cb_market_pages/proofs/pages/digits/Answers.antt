use Rattle.std.proofs.Common.{arith}
use Rattle.std.proofs.lemmas.Fmt.{length-decimal-le}
use Rattle.cb_market_pages.proofs.Digits.{four_more}
use Rattle.cb_market_pages.proofs.pages.digits.Goals as goal

pub overflow_add-count : goal.overflow_add-count
overflow_add-count c =
    let e = length-decimal-le 20 c.args.number (omega arith) (omega arith) (omega arith) in
    let i = c.loop-left.invariant in
    omega arith

pub overflow_add-result : goal.overflow_add-result
overflow_add-result c =
    let e = length-decimal-le 20 c.args.number (omega arith) (omega arith) (omega arith) in
    let i = c.loop-left.invariant in
    let s = c.short_digits.ensures in
    omega arith

pub loop-left-preserved : goal.loop-left-preserved
loop-left-preserved c =
    let e = four_more c.loop-left.left (omega arith) (omega arith) in
    let i = c.loop-left.invariant in
    omega arith

pub returns-clause-limit : goal.returns-clause-limit
returns-clause-limit c =
    let e = length-decimal-le 20 c.args.number (omega arith) (omega arith) (omega arith) in
    let i = c.loop-left.invariant in
    let s = c.short_digits.ensures in
    omega arith
