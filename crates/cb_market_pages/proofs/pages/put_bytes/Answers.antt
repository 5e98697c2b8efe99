use Rattle.std.proofs.Common.{arith, ◌+◌, length, refl}
use Rattle.cb_market_pages.proofs.WrittenBytes.{bytes_put}
use Rattle.cb_market_pages.proofs.pages.put_bytes.Goals as goal

pub returns-clause-written : goal.returns-clause-written
returns-clause-written c =
    let count = length c.args.bytes.now in
    bytes_put c.args.buffer.now c.copy_from_slice.new.self c.args.bytes.now _ c.args.at _ (c.args.at + count) _ c.args.after c.copy_from_slice.ensures.after (omega arith) refl refl c.requires refl
