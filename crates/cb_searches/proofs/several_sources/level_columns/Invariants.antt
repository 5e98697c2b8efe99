use Rattle.std.specs.Prelude.{slice_index}
use Rattle.cb_searches.specs.Walks.{AreLevels}
use Rattle.cb_searches.proofs.ColumnsBesides.{HasColumns}
use Rattle.cb_searches.proofs.several_sources.level_columns.Given as goal

-- the columns of the first sources have their levels
abbrev pub invariant-loop-n : goal.invariant-loop-n
invariant-loop-n l = HasColumns l.shape (λ j m. AreLevels l.graph (slice_index l.sources j) m) l.n l.entries.items
