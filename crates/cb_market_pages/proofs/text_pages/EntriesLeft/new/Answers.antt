use Rattle.std.proofs.Common.{[], ◌++◌, refl, ap}
use Rattle.cb_market_pages.proofs.SegmentRests.{shifted_done}
use Rattle.cb_market_pages.proofs.text_pages.EntriesLeft.new.Goals as goal

pub returns : goal.returns
returns g c = ap (λ es. es ++ c.args.segments) (shifted_done 0 0 [] [] refl)
