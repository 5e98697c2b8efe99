use Rattle.std.proofs.Common.{refl}
use Rattle.cb_market_pages.specs.Text.{text_of}
use Rattle.cb_market_pages.proofs.text_pages.TextPages.of_panels.Goals as goal

pub returns : goal.returns
unfolding text_of
returns g c = rw (c.of_matrix.ensures, c.shape.ensures.shape, c.len.ensures, c.new.ensures, c.segments.ensures) refl
