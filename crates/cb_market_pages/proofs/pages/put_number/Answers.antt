use Rattle.std.proofs.Common.{arith, ◌≡◌, ◌+◌, refl}
use Rattle.std.specs.Prelude.{decimal}
use Rattle.cb_market_pages.proofs.WrittenBytes.{number_put}
use Rattle.cb_market_pages.proofs.pages.put_number.Goals as goal

pub returns-clause-written : goal.returns-clause-written
returns-clause-written c =
    let bytes = c.args.buffer.now in
    let new = c.write_digits.new.buf in
    let digits = decimal c.args.number in
    let at = c.args.at in
    let w = c.write_digits.ensures in
    let d = c.digits.ensures.value in
    let start : c.write_digits.result ≡ at = omega arith in
    number_put bytes new _ digits _ at (at + c.digits.result) _ c.args.after (omega arith) (omega arith) refl (omega arith) (rw start at w.written) (rw start at w.before) refl
