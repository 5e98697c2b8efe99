use Rattle.std.proofs.Common.{arith, refl, w8, cond, ltb}
use Rattle.std.proofs.lemmas.Simd.{length-chunk, chunk-fits}
use lib.Lanes.{chunk}
use Rattle.cb_market_lines.proofs.ShortNumbers.{nondigits_are}
use Rattle.cb_market_lines.proofs.short_numbers.nondigits.Goals as goal

pub returns : goal.returns
returns c = nondigits_are (λ a b. cond (ltb a b) 255 0) _ (chunk 0 32 c.args.text.now) (length-chunk 0 32 c.args.text.now (omega arith)) (chunk-fits w8 0 32 c.args.text.now c.type_inv.text) refl
