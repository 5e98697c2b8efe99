use Rattle.cb_layout.proofs.RemainingEntries.{all_left}
use Rattle.cb_layout.proofs.traversal.GridSegments.new.Goals as goal

pub returns : goal.returns
returns g c = all_left g.S.Semiring.arithmetic g.met.S.Semiring.is_semiring c.args.grid.side c.args.shape c.args.blocks.now c.requires c.start.result c.start.ensures.front c.start.ensures.start c.start.ensures.column
